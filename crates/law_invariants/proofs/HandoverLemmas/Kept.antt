-- An orderly act keeps the agreement of pairs of centres on handovers, and so does a frame that is taken in order.
use Rattle.std.proofs.Common.{[], ⊎_elim, ◌+◌, ◌<◌, ◌∙◌, ◌≡◌, ◌≢◌, ◌≤◌, ◌⊎◌, ap, arith, Bool, inl, inr, List, Option}
use Rattle.std.proofs.Common.{refl, Some, subst, subst₂, suc, sym, true, zero, ℕ}
use Rattle.std.proofs.lemmas.Bool.{cases_eq, cases_lt}
use Rattle.law_base.proofs.CountingLemmas.Chain.{chain_acted, chain_acted_other, chain_took, chain_took_other}
use Rattle.law_base.proofs.CountingLemmas.Network.{way_acted, way_acted_none, way_acted_other, way_took_other}
use Rattle.law_base.proofs.CountingLemmas.Sums.{cases_link, put_other, put_same}
use Rattle.law_base.specs.Counting.Chain.{Chain}
use Rattle.law_base.specs.Counting.Network.{acted, IsCounted, TakesHead, took, way}
use Rattle.law_base.specs.Counting.Sums.{one_if}
use Rattle.law_invariants.proofs.FlowLemmas.Kept.{count_append}
use Rattle.law_invariants.specs.Flow.Flow.{Flow}
use Rattle.law_invariants.specs.Flow.Pairs.{after, announces, before, count_if, follows, handing_to, IsPaired}
use Rattle.law_invariants.specs.Flow.Pairs.{takes_over, yields}
use Rattle.law_invariants.specs.Handover.Orderly.{Allowance, IsOrderlyWith, IsTaking, number_announced, number_expected}
use Rattle.law_invariants.specs.Handover.Orderly.{waiting}
use Rattle.rbc_spec.specs.Centre.{Centre}
use Rattle.rbc_spec.specs.Frame.{Body}

-- ## An act

module _ (u : Flow) (counted : IsCounted u) (c : ℕ) (y : Centre) (frames : ℕ → List Body) (allow : Allowance)
    (is : IsOrderlyWith allow (u.at c) y frames)
    -- an allowed Yield is of an announced handover that is taken over
    (may : (d t h : ℕ) → allow d t h ≡ true → (before u c d t h ≡ 0) × (h ≤ (u.at c).announced)) where
  abbrev new : Flow
  new = acted u c y frames

  -- of the centre that hands over: it announces n more
  record Sends (i j t h : ℕ) : Type 0 where
    pub n : ℕ
    pub announced : count_if (announces t h) (way new i j) ≡ count_if (announces t h) (way u i j) + n
    pub yielded : (count_if (yields t h) (way new i j) ≡ count_if (yields t h) (way u i j))
        ⊎ ((before u i j t h ≡ 0) × (h ≤ (u.at i).announced))
    pub anew : (n ≡ 0) ⊎ (((u.at i).announced < h) × (h ≤ (new.at i).announced) × (n ≤ 1))

  sends : (i j t h : ℕ) → Sends i j t h
  sends i j t h = ⊎_elim
      (λ (here : i ≡ c). subst (λ x. Sends x j t h) (sym here) at_c)
      (λ (other : i ≢ c). record {
        n = 0;
        announced = omega (arith, ap (count_if (announces t h)) (way_acted_other u c y frames i j other));
        yielded = inl (ap (count_if (yields t h)) (way_acted_other u c y frames i j other));
        anew = inl refl;
      })
      (cases_eq i c)
    where
      at_c : Sends c j t h
      at_c = record {
        n = count_if (announces t h) (frames j);
        announced = ap (count_if (announces t h)) (way_acted u c y frames counted j)
            ∙ count_append (announces t h) (way u c j) (frames j);
        yielded = ⊎_elim
            (λ (none : count_if (yields t h) (frames j) ≡ 0).
            inl (omega (
              arith,
              none,
              ap (count_if (yields t h)) (way_acted u c y frames counted j),
              count_append (yields t h) (way u c j) (frames j),
            )))
            (λ (so : allow j t h ≡ true). inr (may j t h so))
            (is.yielded j t h);
        anew = ⊎_elim
            (λ (none : count_if (announces t h) (frames j) ≡ 0). inl none)
            (λ (some : ((u.at c).announced < h) × (h ≤ y.announced) × (count_if (announces t h) (frames j) ≤ 1)).
            inr (some.0, omega (arith, some.1, ap (λ (z : Centre). z.announced) (put_same u.at c y)), some.2))
            (is.anew j t h);
      }

  -- the centre that takes over replies so n times more
  record Takes (i j t h : ℕ) : Type 0 where
    pub n : ℕ
    pub waits : waiting h ((new.at j).expects i t) + n ≤ waiting h ((u.at j).expects i t)
    pub takes : count_if (takes_over t h) (way new j i) ≡ count_if (takes_over t h) (way u j i) + n

  takes : (i j t h : ℕ) → Takes i j t h
  takes i j t h = ⊎_elim
      (λ (here : j ≡ c). subst (λ x. Takes i x t h) (sym here) at_c)
      (λ (other : j ≢ c). record {
        n = 0;
        waits = omega (arith, ap (λ (z : Centre). waiting h (z.expects i t)) (put_other u.at c y j other));
        takes = omega (arith, ap (count_if (takes_over t h)) (way_acted_other u c y frames j i other));
      })
      (cases_eq j c)
    where
      at_c : Takes i c t h
      at_c = record {
        n = count_if (takes_over t h) (frames i);
        waits = omega (arith, is.takes i t h, ap (λ (z : Centre). waiting h (z.expects i t)) (put_same u.at c y));
        takes = ap (count_if (takes_over t h)) (way_acted u c y frames counted i)
            ∙ count_append (takes_over t h) (way u c i) (frames i);
      }

  more_announced : (i : ℕ) → (u.at i).announced ≤ (new.at i).announced
  more_announced i = ⊎_elim
      (λ (here : i ≡ c). subst (λ x. (u.at x).announced ≤ (new.at x).announced) (sym here)
      (omega (arith, is.announced, ap (λ (z : Centre). z.announced) (put_same u.at c y))))
      (λ (other : i ≢ c). omega (arith, ap (λ (z : Centre). z.announced) (put_other u.at c y i other)))
      (cases_eq i c)

  expected_same : (i j t : ℕ) → number_expected ((new.at j).expects i t) ≡ number_expected ((u.at j).expects i t)
  expected_same i j t = ⊎_elim
      (λ (here : j ≡ c). subst (λ x. number_expected ((new.at x).expects i t)
      ≡ number_expected ((u.at x).expects i t)) (sym here)
      (ap (λ (z : Centre). number_expected (z.expects i t)) (put_same u.at c y) ∙ is.expected i t))
      (λ (other : j ≢ c). ap (λ (z : Centre). number_expected (z.expects i t)) (put_other u.at c y j other))
      (cases_eq j c)

  chain_goes : (i j t : ℕ) (start : Option ℕ)
      → Chain (follows t) (way u i j) start (number_announced (handing_to j ((u.at i).mission t)))
      → Chain (follows t) (way new i j) start (number_announced (handing_to j ((new.at i).mission t)))
  chain_goes i j t start chain = ⊎_elim
      (λ (here : i ≡ c).
      subst (λ x. Chain (follows t) (way u x j) start (number_announced (handing_to j ((u.at x).mission t)))
      → Chain (follows t) (way new x j) start (number_announced (handing_to j ((new.at x).mission t)))) (sym here)
      (λ led. subst (Chain (follows t) (way new c j) start)
      (ap (λ (z : Centre). number_announced (handing_to j (z.mission t))) (sym (put_same u.at c y)))
      (chain_acted (follows t) u c y frames j start _ _ counted led (is.leads j t))) chain)
      (λ (other : i ≢ c). subst (Chain (follows t) (way new i j) start)
      (ap (λ (z : Centre). number_announced (handing_to j (z.mission t))) (sym (put_other u.at c y i other)))
      (chain_acted_other (follows t) u c y frames i j start _ other chain))
      (cases_eq i c)

  -- a waiting handover becomes one that is taken over, and that becomes a yielded one
  pub orderly_pairs : (i j t : ℕ) → IsPaired u i j t → IsPaired new i j t
  orderly_pairs i j t p = record {
    chain = subst (λ s. Chain (follows t) (way new i j) s (number_announced (handing_to j ((new.at i).mission t))))
        (sym (expected_same i j t)) (chain_goes i j t _ p.chain);
    fresh = λ h above. ⊎_elim
        (λ (none : (sends i j t h).n ≡ 0). ⊎_elim
        (λ (same : count_if (yields t h) (way new i j) ≡ count_if (yields t h) (way u i j)).
        omega (
          arith,
          none,
          (sends i j t h).announced,
          same,
          (takes i j t h).waits,
          (takes i j t h).takes,
          p.fresh h (omega (arith, above, more_announced i)),
        ))
        (λ (was : (before u i j t h ≡ 0) × (h ≤ (u.at i).announced)).
        absurd (let no : ⊥ = omega (arith, above, was.1, more_announced i) in no))
        (sends i j t h).yielded)
        (λ (some : ((u.at i).announced < h) × (h ≤ (new.at i).announced) × ((sends i j t h).n ≤ 1)).
        absurd (let no : ⊥ = omega (arith, above, some.1) in no))
        (sends i j t h).anew;
    once = λ h. ⊎_elim
        (λ (none : (sends i j t h).n ≡ 0).
        omega (arith, none, (sends i j t h).announced, (takes i j t h).waits, p.once h))
        (λ (some : ((u.at i).announced < h) × (h ≤ (new.at i).announced) × ((sends i j t h).n ≤ 1)).
        omega (arith, (sends i j t h).announced, (takes i j t h).waits, some.2, p.fresh h some.0))
        (sends i j t h).anew;
    apart = λ h. ⊎_elim
        (λ (none : (sends i j t h).n ≡ 0). ⊎_elim
        (λ (not_before : before u i j t h ≡ 0).
        inl (omega (arith, none, not_before, (sends i j t h).announced, (takes i j t h).waits)))
        (λ (not_after : after u i j t h ≡ 0). by_taking h none not_after (takes i j t h).n refl)
        (p.apart h))
        (λ (some : ((u.at i).announced < h) × (h ≤ (new.at i).announced) × ((sends i j t h).n ≤ 1)).
        ⊎_elim
        (λ (same : count_if (yields t h) (way new i j) ≡ count_if (yields t h) (way u i j)).
        inr (omega (arith, same, (takes i j t h).waits, (takes i j t h).takes, p.fresh h some.0)))
        (λ (was : (before u i j t h ≡ 0) × (h ≤ (u.at i).announced)).
        absurd (let no : ⊥ = omega (arith, some.0, was.1) in no))
        (sends i j t h).yielded)
        (sends i j t h).anew;
  }
    where
      by_taking : (h : ℕ) → (sends i j t h).n ≡ 0 → after u i j t h ≡ 0 → (x : ℕ) → (takes i j t h).n ≡ x
          → (before new i j t h ≡ 0) ⊎ (after new i j t h ≡ 0)
      by_taking h none not_after zero still = ⊎_elim
          (λ (same : count_if (yields t h) (way new i j) ≡ count_if (yields t h) (way u i j)).
          inr (omega (arith, still, not_after, same, (takes i j t h).takes)))
          (λ (was : (before u i j t h ≡ 0) × (h ≤ (u.at i).announced)).
          inl (omega (arith, none, was.0, (sends i j t h).announced, (takes i j t h).waits)))
          (sends i j t h).yielded
      by_taking h none not_after (suc x) more =
          inl (omega (arith, more, none, (sends i j t h).announced, (takes i j t h).waits, p.once h))

-- ## The next frame of a link

module _ (w : Flow) (a c : ℕ) (f : Body) (head : TakesHead w a c f) (y : Centre) (is : IsTaking a f (w.at c) y) where
  abbrev now : Flow
  now = acted (took w a c) c y (λ d. [])

  way_now : (i j : ℕ) → way now i j ≡ way (took w a c) i j
  way_now i j = way_acted_none (took w a c) c y i j

  count_here : (test : Body → Bool) → count_if test (way w a c) ≡ one_if (test f) + count_if test (way now a c)
  count_here test = omega (arith, ap (count_if test) head.head, ap (count_if test) (way_now a c))

  count_other : (test : Body → Bool) (i j : ℕ) → (i ≡ a → j ≢ c)
      → count_if test (way now i j) ≡ count_if test (way w i j)
  count_other test i j other = ap (count_if test) (way_now i j) ∙ ap (count_if test) (way_took_other w a c i j other)

  count_less : (test : Body → Bool) (i j : ℕ) → count_if test (way now i j) ≤ count_if test (way w i j)
  count_less test i j = ⊎_elim
      (λ (here : (i ≡ a) × (j ≡ c)). subst₂ (λ x z. count_if test (way now x z) ≤ count_if test (way w x z))
      (sym here.0) (sym here.1) (omega (arith, count_here test)))
      (λ (other : i ≡ a → j ≢ c). omega (arith, count_other test i j other))
      (cases_link i j a c)

  -- the expectation of centre j from i, if the frame is not between them
  expects_other : (i j t : ℕ) → (i ≡ a → j ≢ c) → (now.at j).expects i t ≡ (w.at j).expects i t
  expects_other i j t other = ⊎_elim
      (λ (here : j ≡ c). subst (λ x. (now.at x).expects i t ≡ (w.at x).expects i t) (sym here)
      (ap (λ (z : Centre). z.expects i t) (put_same w.at c y) ∙ is.expected i t (λ from. other from here)))
      (λ (apart : j ≢ c). ap (λ (z : Centre). z.expects i t) (put_other w.at c y j apart))
      (cases_eq j c)

  handing_other : (i j t : ℕ) → (j ≡ a → i ≢ c) → handing_to j ((now.at i).mission t)
      ≡ handing_to j ((w.at i).mission t)
  handing_other i j t other = ⊎_elim
      (λ (here : i ≡ c). subst (λ x. handing_to j ((now.at x).mission t) ≡ handing_to j ((w.at x).mission t)) (sym here)
      (ap (λ (z : Centre). handing_to j (z.mission t)) (put_same w.at c y) ∙ is.handing j t (λ from. other from here)))
      (λ (apart : i ≢ c). ap (λ (z : Centre). handing_to j (z.mission t)) (put_other w.at c y i apart))
      (cases_eq i c)

  number_same : (i j t : ℕ) → number_announced (handing_to j ((now.at i).mission t))
      ≡ number_announced (handing_to j ((w.at i).mission t))
  number_same i j t = ⊎_elim
      (λ (here : (j ≡ a) × (i ≡ c)). subst₂ (λ x z. number_announced (handing_to z ((now.at x).mission t))
      ≡ number_announced (handing_to z ((w.at x).mission t))) (sym here.1) (sym here.0)
      (ap (λ (z : Centre). number_announced (handing_to a (z.mission t))) (put_same w.at c y) ∙ is.number t))
      (λ (other : j ≡ a → i ≢ c). ap number_announced (handing_other i j t other))
      (cases_link j i a c)

  chain_now : (i j t : ℕ) (end : Option ℕ) → Chain (follows t) (way w i j) (number_expected ((w.at j).expects i t)) end
      → Chain (follows t) (way now i j) (number_expected ((now.at j).expects i t)) end
  chain_now i j t end chain = subst (λ fs. Chain (follows t) fs (number_expected ((now.at j).expects i t)) end)
      (sym (way_now i j)) (⊎_elim
      (λ (here : (i ≡ a) × (j ≡ c)).
      subst₂ (λ x z. Chain (follows t) (way w x z) (number_expected ((w.at z).expects x t)) end
      → Chain (follows t) (way (took w a c) x z) (number_expected ((now.at z).expects x t)) end)
      (sym here.0) (sym here.1)
      (λ led. let next = chain_took (follows t) w a c f _ end head led in
      subst (λ m. Chain (follows t) (way (took w a c) a c) m end)
      (same next.0 (number_expected (y.expects a t)) (sym next.1 ∙ is.leads t)
      ∙ ap (λ (z : Centre). number_expected (z.expects a t)) (sym (put_same w.at c y))) next.2) chain)
      (λ (other : i ≡ a → j ≢ c). subst (λ m. Chain (follows t) (way (took w a c) i j) m end)
      (ap number_expected (sym (expects_other i j t other)))
      (chain_took_other (follows t) w a c i j _ end other chain))
      (cases_link i j a c))
    where
      same : (x z : Option ℕ) → Some x ≡ Some z → x ≡ z
      same x z e = cc

  before_less : (i j t h : ℕ) → before now i j t h ≤ before w i j t h
  before_less i j t h = ⊎_elim
      (λ (here : (i ≡ a) × (j ≡ c)). subst₂ (λ x z. before now x z t h ≤ before w x z t h) (sym here.0) (sym here.1)
      (omega (
        arith,
        count_here (announces t h),
        is.waits t h,
        ap (λ (z : Centre). waiting h (z.expects a t)) (put_same w.at c y),
      )))
      (λ (other : i ≡ a → j ≢ c).
      omega (arith, count_other (announces t h) i j other, ap (waiting h) (expects_other i j t other)))
      (cases_link i j a c)

  after_less : (i j t h : ℕ) → after now i j t h ≤ after w i j t h
  after_less i j t h = ⊎_elim
      (λ (here : (j ≡ a) × (i ≡ c)). subst₂ (λ x z. after now x z t h ≤ after w x z t h) (sym here.1) (sym here.0)
      (omega (arith, count_here (takes_over t h), count_less (yields t h) c a)))
      (λ (other : j ≡ a → i ≢ c). omega (arith, count_other (takes_over t h) j i other, count_less (yields t h) i j))
      (cases_link j i a c)

  announced_same : (i : ℕ) → (now.at i).announced ≡ (w.at i).announced
  announced_same i = ⊎_elim
      (λ (here : i ≡ c). subst (λ x. (now.at x).announced ≡ (w.at x).announced) (sym here)
      (ap (λ (z : Centre). z.announced) (put_same w.at c y) ∙ is.announced))
      (λ (other : i ≢ c). ap (λ (z : Centre). z.announced) (put_other w.at c y i other))
      (cases_eq i c)

  -- the handover that the frame takes over was announced, and waits no longer
  pub taken_over : (t h : ℕ) → takes_over t h f ≡ true → IsPaired w c a t → (before now c a t h ≡ 0)
      × (h ≤ (now.at c).announced)
  taken_over t h so p =
      let some : 1 ≤ after w c a t h = omega (arith, count_here (takes_over t h), ap one_if so) in (
        ⊎_elim (λ (none : before w c a t h ≡ 0). omega (arith, before_less c a t h, none))
            (λ (none : after w c a t h ≡ 0). absurd (let no : ⊥ = omega (arith, some, none) in no)) (p.apart h),
        ⊎_elim (λ (above : (w.at c).announced < h). absurd (let no : ⊥ = omega (arith, some, p.fresh h above) in no))
            (λ (low : h ≤ (w.at c).announced). omega (arith, low, announced_same c)) (cases_lt (w.at c).announced h),
      )

  pub taking_pairs : (i j t : ℕ) → IsPaired w i j t → IsPaired now i j t
  taking_pairs i j t p = record {
    chain = subst (Chain (follows t) (way now i j) (number_expected ((now.at j).expects i t))) (sym (number_same i j t))
        (chain_now i j t _ p.chain);
    fresh = λ h above.
        omega (arith, before_less i j t h, after_less i j t h, p.fresh h (omega (arith, above, announced_same i)));
    once = λ h. omega (arith, before_less i j t h, p.once h);
    apart = λ h. ⊎_elim
        (λ (none : before w i j t h ≡ 0). inl (omega (arith, before_less i j t h, none)))
        (λ (none : after w i j t h ≡ 0). inr (omega (arith, after_less i j t h, none)))
        (p.apart h);
  }
