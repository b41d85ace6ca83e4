use Rattle.std.proofs.Common.{◌∙◌, arith, refl}
use Rattle.rbc_allocation.proofs.Marks.{mark_fits, no_mark}
use Rattle.rbc_allocation.proofs.sections.no_marks_on.Goals as goal

pub loop-k-init : goal.loop-k-init
loop-k-init c = record { begun = omega arith; marks = refl; fits = c.requires.fits }

pub loop-k-preserved : goal.loop-k-preserved
loop-k-preserved c = record {
  begun = omega (arith, c.loop-k.invariant.begun);
  marks = no_mark c.args.first c.loop-k.k c.loop-k.marks ∙ c.loop-k.invariant.marks;
  fits = let more = mark_fits c.loop-k.k c.loop-k.marks 0 (omega arith) c.loop-k.invariant.fits in omega (arith, more);
}
