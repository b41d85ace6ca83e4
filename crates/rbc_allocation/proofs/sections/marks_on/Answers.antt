use Rattle.std.proofs.Common.{◌∙◌, ap, arith, eqb, false, sym, true}
use Rattle.rbc_allocation.proofs.Marks.{mark_fits, marks_begun, marks_further}
use Rattle.rbc_allocation.proofs.sections.marks_on.Goals as goal
use Rattle.rbc_allocation.proofs.sections.marks_on.Goals.{else-is_wished, then-is_wished}

pub loop-k-init : goal.loop-k-init
loop-k-init c = record {
  begun = omega arith;
  marks = marks_begun c.args.nid_engine c.args.first c.args.from c.args.old c.args.book.now;
  fits = c.requires.fits;
}

pub loop-k-preserved : goal.loop-k-preserved
loop-k-preserved c =
    elim c.if-is_wished.branch [
      | then-is_wished w ↦ record {
        begun = omega (arith, c.loop-k.invariant.begun);
        marks =
            marks_further c.args.nid_engine c.args.first c.args.from c.loop-k.k c.args.old c.loop-k.marks
            c.if-is_wished.mark c.args.book.now true c.loop-k.invariant.begun (omega (arith, w.mark-is))
            (ap (λ m. eqb m 1) w.mark-is) (sym c.is_wished.ensures ∙ w.if-is_wished.true) c.loop-k.invariant.marks;
        fits =
            mark_fits c.loop-k.k c.loop-k.marks c.if-is_wished.mark (omega (arith, w.mark-is)) c.loop-k.invariant.fits;
      }
      | else-is_wished w ↦ record {
        begun = omega (arith, c.loop-k.invariant.begun);
        marks =
            marks_further c.args.nid_engine c.args.first c.args.from c.loop-k.k c.args.old c.loop-k.marks
            c.if-is_wished.mark c.args.book.now false c.loop-k.invariant.begun (omega (arith, w.mark-is))
            (ap (λ m. eqb m 1) w.mark-is) (sym c.is_wished.ensures ∙ w.if-is_wished.false) c.loop-k.invariant.marks;
        fits =
            mark_fits c.loop-k.k c.loop-k.marks c.if-is_wished.mark (omega (arith, w.mark-is)) c.loop-k.invariant.fits;
      }
    ]
