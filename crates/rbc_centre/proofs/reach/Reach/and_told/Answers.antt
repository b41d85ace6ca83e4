use Rattle.std.proofs.Common.{◌∙◌, ap, arith, inl, inr, subst, sym, ℕ}
use Rattle.std.proofs.lemmas.Bool.Decides.{eqb_tells}
use Rattle.rbc_centre.proofs.reach.Reach.and_told.Goals as goal
use Rattle.rbc_centre.proofs.reach.Reach.and_told.Goals.{else-has, then-has}
use Rattle.rbc_centre.specs.Reached.{IsOutside}
use Rattle.rbc_handover.specs.Expectations.{is_told}

pub loop-to-preserved : goal.loop-to-preserved
loop-to-preserved c = elim c.if-has.branch [
  | then-has w ↦ rw w.reach-is (record {
    keeps = λ d outside. c.loop-to.invariant.keeps d (w.and-reach.ensures.keeps d outside);
    told = λ d low outside. elim (eqb_tells d c.loop-to.to) [
      | inl e ↦ absurd (w.and-reach.ensures.centre (subst (λ (n : ℕ). IsOutside w.and-reach.result n) (e.1) outside))
      | inr e ↦ let apart = e.1 in
          c.loop-to.invariant.told d (omega (arith, apart, low)) (w.and-reach.ensures.keeps d outside)
    ];
  })
  | else-has w ↦ rw w.reach-is (record {
    keeps = c.loop-to.invariant.keeps;
    told = λ d low outside. elim (eqb_tells d c.loop-to.to) [
      | inl e ↦ ap (is_told c.args.told) (e.1) ∙ sym c.has.ensures ∙ w.if-has.false
      | inr e ↦ let apart = e.1 in c.loop-to.invariant.told d (omega (arith, apart, low)) outside
    ];
  })
]
