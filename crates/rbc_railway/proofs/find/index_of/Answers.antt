use Rattle.std.proofs.Common.{◌∙◌, ◌≡◌, ap, arith, inl, inr, slice_get, Some, subst}
use Rattle.std.proofs.lemmas.Bool.Decides.{eqb_tells}
use Rattle.std.proofs.lemmas.Option.{get_or_from_slice_get}
use Rattle.rbc_railway.specs.History.{name_of}
use Rattle.rbc_railway.proofs.find.index_of.Goals as goal

pub loop-i-preserved : goal.loop-i-preserved
loop-i-preserved c j x low at named = elim (eqb_tells j c.loop-i.i) [
  | inl e ↦
      let is : c.nid_engine.result ≡ c.args.nid_engine = c.nid_engine.ensures
      ∙ ap name_of (get_or_from_slice_get c.args.trains.now c.loop-i.i x _ (subst (λ n. slice_get c.args.trains.now
      n ≡ Some x) (e.1) at))
      ∙ named in
      c.if-nid_engine.false is
  | inr e ↦ let apart = e.1 in c.loop-i.invariant j x (omega (arith, low, apart)) at named
]
