use Rattle.std.proofs.Common.{subst, sym}
use Rattle.rbc_allocation.proofs.Held.{held_rest, run_rest}
use Rattle.rbc_allocation.proofs.sections.clear.Goals as goal
use Rattle.rbc_allocation.specs.Sections.{IsHeldBy}
use Rattle.rbc_book.specs.Book.{is_own}

pub returns-clause-run : goal.returns-clause-run
returns-clause-run c = run_rest c.args.count c.args.hand.now c.free_front-marks.new.hand c.free_front-marks.ensures.hand

pub returns-clause-held : goal.returns-clause-held
returns-clause-held c =
    subst (λ h. IsHeldBy c.args.nid_engine h c.free_front-marks.new.book) (sym c.free_front-marks.ensures.hand)
    (held_rest c.args.nid_engine (is_own c.args.book.now)
    (is_own c.free_front-marks.new.book) c.free_front-marks.ensures.book.homes c.args.count c.args.hand.now
    c.requires.held)
