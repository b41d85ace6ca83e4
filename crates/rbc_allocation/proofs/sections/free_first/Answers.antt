use Rattle.std.proofs.Common.{◌∙◌, arith}
use Rattle.std.proofs.lemmas.Bool.{cond-false}
use Rattle.rbc_allocation.proofs.Held.{frees_at, told_at}
use Rattle.rbc_allocation.proofs.sections.free_first.Goals as goal
use Rattle.rbc_allocation.specs.Sections.{hand_rest}

pub returns-in-Some-clause-hand : goal.returns-in-Some-clause-hand
returns-in-Some-clause-hand c =
    c.cut_front.ensures.hand ∙ cond-false _ c.args.hand.now (hand_rest 1 c.args.hand.now) c.requires.some

pub returns-in-Some-clause-book : goal.returns-in-Some-clause-book
returns-in-Some-clause-book c =
    frees_at c.args.nid_engine c.args.hand.now 0 c.args.hand.now.first c.in-Some.token c.cut_front.result
    c.args.book.now c.end_token.new.book (omega arith)
    c.cut_front.ensures.token c.in-Some.is c.requires.held c.end_token.ensures.book

pub returns-in-Some-clause-told : goal.returns-in-Some-clause-told
returns-in-Some-clause-told c =
    told_at c.args.nid_engine c.args.hand.now 0 c.args.hand.now.first c.in-Some.token c.cut_front.result c.args.book.now
    c.end_token.result (omega arith)
    c.cut_front.ensures.token c.in-Some.is c.requires.held c.end_token.ensures.told
