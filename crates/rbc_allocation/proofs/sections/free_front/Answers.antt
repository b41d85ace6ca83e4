use Rattle.std.proofs.Common.{◌∙◌, ap, arith, eqb, false, refl, subst, sym, true}
use Rattle.rbc_allocation.proofs.Freed.{freed_front_more, freed_front_none, front_left, wished_as_before}
use Rattle.rbc_allocation.proofs.Held.{held_rest}
use Rattle.rbc_allocation.proofs.Marks.{mark_fits, marked-none, marks_more}
use Rattle.rbc_allocation.proofs.sections.free_front.Goals as goal
use Rattle.rbc_allocation.proofs.sections.free_front.Goals.{else-is_told, then-is_told}
use Rattle.rbc_allocation.specs.Sections.{IsHeldBy}
use Rattle.rbc_book.specs.Book.{is_own}

pub loop-init : goal.loop-init
loop-init c = record {
  freed = freed_front_none c.args.nid_engine c.args.hand.now c.args.book.now;
  marks = marked-none c.args.hand.now.first 0;
  fits = omega arith;
}

pub free_first-is_told-requires-clause-held : goal.free_first-is_told-requires-clause-held
free_first-is_told-requires-clause-held c =
    subst (λ h. IsHeldBy c.args.nid_engine h c.loop.book) (sym c.loop.invariant.freed.hand)
    (held_rest c.args.nid_engine (is_own c.args.book.now)
    (is_own c.loop.book) c.loop.invariant.freed.book.homes c.loop.counter c.args.hand.now c.requires.held)

pub free_first-is_told-requires-clause-some : goal.free_first-is_told-requires-clause-some
free_first-is_told-requires-clause-some c =
    front_left c.loop.counter c.args.hand.now c.loop.hand c.loop.invariant.freed.hand
    (omega (arith, c.requires.some, c.loop-test.true))

pub loop-preserved : goal.loop-preserved
loop-preserved c =
    let t = c.args.nid_engine in
    let first = c.args.hand.now.first in
    let k = c.loop.counter in
    let freed =
    freed_front_more t k c.args.hand.now c.loop.hand c.free_first-is_told.new.hand c.args.book.now c.loop.book
    c.free_first-is_told.new.book c.loop.invariant.freed c.free_first-is_told.ensures.hand
    c.free_first-is_told.ensures.book in
    let before =
    sym (wished_as_before t k c.loop.hand.first c.args.hand.now c.loop.hand c.args.book.now c.loop.book
    c.loop.invariant.freed refl) ∙ sym c.free_first-is_told.ensures.told in
    elim c.if-is_told.branch [
      | then-is_told w ↦ record {
        freed = freed;
        marks =
            marks_more t first k c.loop.marks c.if-is_told.mark c.args.book.now true (omega (arith, w.mark-is))
            (ap (λ m. eqb m 1) w.mark-is) (before ∙ w.if-is_told.true) c.loop.invariant.marks;
        fits = mark_fits k c.loop.marks c.if-is_told.mark (omega (arith, w.mark-is)) c.loop.invariant.fits;
      }
      | else-is_told w ↦ record {
        freed = freed;
        marks =
            marks_more t first k c.loop.marks c.if-is_told.mark c.args.book.now false (omega (arith, w.mark-is))
            (ap (λ m. eqb m 1) w.mark-is) (before ∙ w.if-is_told.false) c.loop.invariant.marks;
        fits = mark_fits k c.loop.marks c.if-is_told.mark (omega (arith, w.mark-is)) c.loop.invariant.fits;
      }
    ]
