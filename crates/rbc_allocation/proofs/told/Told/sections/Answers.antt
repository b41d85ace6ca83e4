use Rattle.std.proofs.Common.{◌∙◌, ap, arith, eqb, rules}
use Rattle.std.proofs.lemmas.Bool.{ne_eqb}
use Rattle.arrayvec.specs.ArrayVec.{array_vec_len}
use Rattle.rbc_allocation.proofs.Marks.{marked-same, marked-start, marked-told}
use Rattle.rbc_allocation.proofs.told.Told.sections.Goals as goal
use Rattle.rbc_allocation.proofs.told.Told.sections.Goals.{else-marks-count-eq1, then-marks-count-eq1}

pub loop-k-init : goal.loop-k-init
loop-k-init c = record {
  items = c.new-sections.ensures ∙ marked-start c.self.inside.first c.self.inside.count c.self.inside.marks;
  count = search rules;
}

pub loop-k-preserved : goal.loop-k-preserved
loop-k-preserved c =
    let s = c.self.inside in
    elim c.if-marks-count-eq1.branch [
      | then-marks-count-eq1 w ↦ record {
        items =
            marked-told s.first s.count c.loop-k.k s.marks c.loop-k.sections.items c.if-marks-count-eq1.sections.items
            c.loop-k-test.true (ap (λ m. eqb m 1) w.if-marks-count-eq1.true) c.loop-k.invariant.items
            (ap (λ v. v.items) w.sections-is ∙ w.push.ensures.items);
        count = omega (arith, ap array_vec_len w.sections-is, w.push.ensures.len, c.loop-k.invariant.count);
      }
      | else-marks-count-eq1 w ↦ record {
        items =
            marked-same s.first s.count c.loop-k.k s.marks c.loop-k.sections.items c.if-marks-count-eq1.sections.items
            c.loop-k-test.true (ne_eqb _ _ w.if-marks-count-eq1.false) c.loop-k.invariant.items
            (ap (λ v. v.items) w.sections-is);
        count = omega (arith, ap array_vec_len w.sections-is, c.loop-k.invariant.count);
      }
    ]
