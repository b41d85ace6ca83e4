use Rattle.std.proofs.Common.{◌-◌, arith, length, subst, sym}
use Rattle.rbc_allocation.proofs.Freed.{back_left, freed_back_more, freed_back_none}
use Rattle.rbc_allocation.proofs.Held.{held_front}
use Rattle.rbc_allocation.proofs.sections.free_back.Goals as goal
use Rattle.rbc_allocation.specs.Sections.{IsHeldBy}
use Rattle.rbc_book.specs.Book.{is_own}

pub loop-init : goal.loop-init
loop-init c = freed_back_none c.args.nid_engine c.args.hand.now c.args.book.now

pub free_last-requires-clause-held : goal.free_last-requires-clause-held
free_last-requires-clause-held c =
    subst (λ h. IsHeldBy c.args.nid_engine h c.loop.book) (sym c.loop.invariant.hand)
    (held_front c.args.nid_engine (is_own c.args.book.now) (is_own c.loop.book) c.loop.invariant.book.homes
    (length c.args.hand.now.holds - c.loop.counter) c.args.hand.now c.requires.held)

pub free_last-requires-clause-some : goal.free_last-requires-clause-some
free_last-requires-clause-some c =
    back_left c.loop.counter c.args.hand.now c.loop.hand c.loop.invariant.hand
    (omega (arith, c.requires.some, c.loop-test.true))

pub loop-preserved : goal.loop-preserved
loop-preserved c =
    freed_back_more c.args.nid_engine c.loop.counter c.args.hand.now c.loop.hand c.free_last.new.hand c.args.book.now
    c.loop.book c.free_last.new.book (omega (arith, c.requires.some, c.loop-test.true))
    c.loop.invariant c.free_last.ensures.hand c.free_last.ensures.book
