use Rattle.std.proofs.Common.{◌∙◌, ap, arith, eqb, false, sym, true}
use Rattle.rbc_allocation.proofs.Marks.{mark_fits, marked-none, marks_more}
use Rattle.rbc_allocation.proofs.sections.wished.Goals as goal
use Rattle.rbc_allocation.proofs.sections.wished.Goals.{else-is_wished, then-is_wished}

pub loop-k-init : goal.loop-k-init
loop-k-init c = record {
  marks = marked-none c.args.sections.first 0;
  fits = omega arith;
}

pub loop-k-preserved : goal.loop-k-preserved
loop-k-preserved c =
    elim c.if-is_wished.branch [
      | then-is_wished w ↦ record {
        marks =
            marks_more c.args.nid_engine c.args.sections.first c.loop-k.k c.loop-k.marks c.if-is_wished.mark
            c.args.book.now true (omega (arith, w.mark-is))
            (ap (λ m. eqb m 1) w.mark-is) (sym c.is_wished.ensures ∙ w.if-is_wished.true) c.loop-k.invariant.marks;
        fits =
            mark_fits c.loop-k.k c.loop-k.marks c.if-is_wished.mark (omega (arith, w.mark-is)) c.loop-k.invariant.fits;
      }
      | else-is_wished w ↦ record {
        marks =
            marks_more c.args.nid_engine c.args.sections.first c.loop-k.k c.loop-k.marks c.if-is_wished.mark
            c.args.book.now false (omega (arith, w.mark-is))
            (ap (λ m. eqb m 1) w.mark-is) (sym c.is_wished.ensures ∙ w.if-is_wished.false) c.loop-k.invariant.marks;
        fits =
            mark_fits c.loop-k.k c.loop-k.marks c.if-is_wished.mark (omega (arith, w.mark-is)) c.loop-k.invariant.fits;
      }
    ]
