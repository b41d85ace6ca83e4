use Rattle.std.proofs.Common.{◌+◌, ◌-◌, length, refl}
use Rattle.rbc_allocation.proofs.Held.{frees_at}
use Rattle.rbc_allocation.proofs.sections.free_last.Goals as goal

pub returns-in-Some-clause-book : goal.returns-in-Some-clause-book
returns-in-Some-clause-book c =
    frees_at c.args.nid_engine c.args.hand.now (length c.args.hand.now.holds - 1)
    (c.args.hand.now.first + (length c.args.hand.now.holds - 1)) c.in-Some.token c.cut_back.result c.args.book.now
    c.end_token.new.book refl
    c.cut_back.ensures.token c.in-Some.is c.requires.held c.end_token.ensures.book
