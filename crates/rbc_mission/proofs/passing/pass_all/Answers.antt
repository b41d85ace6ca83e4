use Rattle.std.proofs.Common.{arith, subst, sym}
use Rattle.rbc_allocation.proofs.Freed.{front_left}
use Rattle.rbc_allocation.proofs.Held.{held_rest}
use Rattle.rbc_allocation.specs.Sections.{IsHeldBy}
use Rattle.rbc_book.specs.Book.{is_own}
use Rattle.rbc_mission.proofs.Passes.{more_passed, none_passed}
use Rattle.rbc_mission.proofs.passing.pass_all.Goals as goal

pub loop-init : goal.loop-init
loop-init c = none_passed c.args.nid_engine c.args.hand.now c.args.book.now

pub pass_first-requires-clause-held : goal.pass_first-requires-clause-held
pass_first-requires-clause-held c =
    subst (λ h. IsHeldBy c.args.nid_engine h c.loop.book) (sym c.loop.invariant.hand)
    (held_rest c.args.nid_engine (is_own c.args.book.now)
    (is_own c.loop.book) c.loop.invariant.book.homes c.loop.counter c.args.hand.now c.requires.held)

pub pass_first-requires-clause-some : goal.pass_first-requires-clause-some
pass_first-requires-clause-some c =
    front_left c.loop.counter c.args.hand.now c.loop.hand c.loop.invariant.hand
    (omega (arith, c.loop-test.true, c.len-end.ensures))

pub loop-preserved : goal.loop-preserved
loop-preserved c =
    more_passed c.args.nid_engine c.loop.counter c.args.hand.now c.loop.hand c.pass_first.new.hand c.args.book.now
    c.loop.book c.pass_first.new.book c.loop.invariant c.pass_first.ensures.hand c.pass_first.ensures.book
