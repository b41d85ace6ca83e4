-- The invariants that an act of a centre keeps. It keeps all if it is fair, leaves sound parts, and keeps the agreement
-- of pairs of centres on handovers.
use Rattle.std.proofs.Common.{[], ⊎_elim, ◌&&◌, ◌++◌, ◌+◌, ◌<◌, ◌==◌, ◌∙◌, ◌∷◌, ◌≡◌, ◌≢◌, ◌⊎◌, All, ap, arith, Bool}
use Rattle.std.proofs.Common.{false, inl, inr, List, None, not, Option, option_map, refl, Some, subst, subst₂, sym}
use Rattle.std.proofs.Common.{true, ℕ}
use Rattle.std.proofs.lemmas.Bool.{cases_eq, ltb-true}
use Rattle.std.proofs.lemmas.List.Elements.{All-head, All-tail, All-weaker}
use Rattle.law_base.proofs.CountingLemmas.Chain.{chain_acted, chain_acted_other, chain_still, chain_took}
use Rattle.law_base.proofs.CountingLemmas.Chain.{chain_took_other}
use Rattle.law_base.proofs.CountingLemmas.Network.{counted_acted, counted_took, each_acted, each_took, way_acted}
use Rattle.law_base.proofs.CountingLemmas.Network.{way_acted_other, way_took_other}
use Rattle.law_base.proofs.CountingLemmas.Resource.{placed_sound, placed_sound_took}
use Rattle.law_base.proofs.CountingLemmas.Sums.{cases_link, put_keeps, put_other, put_same}
use Rattle.law_base.specs.Counting.Chain.{Chain}
use Rattle.law_base.specs.Counting.Network.{acted, IsCounted, TakesHead, took, way}
use Rattle.law_base.specs.Counting.Sums.{one_if, put}
use Rattle.law_invariants.specs.Flow.Counts.{rights, tokens}
use Rattle.law_invariants.specs.Flow.Flow.{centre_count, Flow}
use Rattle.law_invariants.specs.Flow.Keeping.{came_with, IsApart, IsFairAct, IsNeutral, LeavesSound, nothing_came}
use Rattle.law_invariants.specs.Flow.Pairs.{after, announces, before, count_if, follows, handing_to, IsPaired}
use Rattle.law_invariants.specs.Flow.Pairs.{takes_over, yields}
use Rattle.law_invariants.specs.Flow.Sound.{IsBodySound, IsCentreSound, IsFlowSound}
use Rattle.rbc_spec.specs.Centre.{Centre, Expectation}
use Rattle.rbc_spec.specs.Frame.{Body}
use Rattle.rbc_spec.specs.Line.{is_centre, Line}
use Rattle.rbc_spec.specs.Maps.{has}

pub count_append : (test : Body → Bool) (fs gs : List Body)
    → count_if test (fs ++ gs) ≡ count_if test fs + count_if test gs
count_append test [] gs = omega arith
count_append test (f ∷ fs) gs = omega (arith, count_append test fs gs)

pub count_none : (test : Body → Bool) (fs : List Body) → All (λ f. test f ≡ false) fs → count_if test fs ≡ 0
count_none test [] all = refl
count_none test (f ∷ fs) all =
    omega (
      arith,
      ap one_if (All-head (λ g. test g ≡ false) f fs all),
      count_none test fs (All-tail (λ g. test g ≡ false) f fs all),
    )

-- ## Handovers that an act has no part in

module _ (u : Flow) (counted : IsCounted u) (c : ℕ) (y : Centre) (frames : ℕ → List Body)
    (sends : (d : ℕ) → All IsNeutral (frames d)) (apart : IsApart (u.at c) y) where
  abbrev new : Flow
  new = acted u c y frames

  count_new : (test : Body → Bool) → ((g : Body) → IsNeutral g → test g ≡ false) → (i j : ℕ)
      → count_if test (way new i j) ≡ count_if test (way u i j)
  count_new test none i j = ⊎_elim
      (λ (here : i ≡ c). subst (λ x. count_if test (way new x j) ≡ count_if test (way u x j)) (sym here)
      (omega (
        arith,
        ap (count_if test) (way_acted u c y frames counted j),
        count_append test (way u c j) (frames j),
        count_none test (frames j) (All-weaker IsNeutral (λ g. test g ≡ false) none (frames j) (sends j)),
      )))
      (λ (other : i ≢ c). ap (count_if test) (way_acted_other u c y frames i j other))
      (cases_eq i c)

  expects_same : (i j t : ℕ) → (new.at j).expects i t ≡ (u.at j).expects i t
  expects_same i j t = put_keeps (λ x (z : Centre). z.expects i t) u.at c y (apart.expects i t) j

  handing_same : (i j t : ℕ) → handing_to j ((new.at i).mission t) ≡ handing_to j ((u.at i).mission t)
  handing_same i j t = put_keeps (λ x (z : Centre). handing_to j (z.mission t)) u.at c y (apart.handing j t) i

  before_same : (i j t h : ℕ) → before new i j t h ≡ before u i j t h
  before_same i j t h = omega (
    arith,
    count_new (announces t h) (λ g is. is.announces t h) i j,
    ap (λ (o : Option Expectation). one_if (has (λ e. (e.number == h) && not e.is_taking) o)) (expects_same i j t),
  )

  after_same : (i j t h : ℕ) → after new i j t h ≡ after u i j t h
  after_same i j t h = omega (
    arith,
    count_new (takes_over t h) (λ g is. is.takes_over t h) j i,
    count_new (yields t h) (λ g is. is.yields t h) i j,
  )

  chain_goes : (i j t : ℕ) (start end : Option ℕ) → Chain (follows t) (way u i j) start end
      → Chain (follows t) (way new i j) start end
  chain_goes i j t start end chain = ⊎_elim
      (λ (here : i ≡ c). subst (λ x. Chain (follows t) (way u x j) start end
      → Chain (follows t) (way new x j) start end) (sym here)
      (λ led. chain_acted (follows t) u c y frames j start end end counted led
      (chain_still (follows t) (frames j) end
      (All-weaker IsNeutral (λ g. follows t g end ≡ Some end) (λ g is. is.follows t end) (frames j) (sends j))))
      chain)
      (λ (other : i ≢ c). chain_acted_other (follows t) u c y frames i j start end other chain)
      (cases_eq i c)

  pub pairs_acted : (i j t : ℕ) → IsPaired u i j t → IsPaired new i j t
  pairs_acted i j t p = record {
    chain = subst₂ (Chain (follows t) (way new i j)) (ap (option_map (λ e. e.number)) (sym (expects_same i j t)))
        (ap (option_map (λ h. h.number)) (sym (handing_same i j t)))
        (chain_goes i j t _ _ p.chain);
    fresh = λ h above.
        omega (
          arith,
          before_same i j t h,
          after_same i j t h,
          p.fresh h (omega (arith, above, put_keeps (λ x (z : Centre). z.announced) u.at c y apart.announced i)),
        );
    once = λ h. omega (arith, before_same i j t h, p.once h);
    apart = λ h. ⊎_elim (λ (none : before u i j t h ≡ 0). inl (before_same i j t h ∙ none))
        (λ (none : after u i j t h ≡ 0). inr (after_same i j t h ∙ none)) (p.apart h);
  }

-- a frame that has no part in one, taken off its link
module _ (w : Flow) (a c : ℕ) (f : Body) (takes : TakesHead w a c f) (neutral : IsNeutral f) where
  count_took : (test : Body → Bool) → test f ≡ false → (i j : ℕ)
      → count_if test (way (took w a c) i j) ≡ count_if test (way w i j)
  count_took test none i j = ⊎_elim
      (λ (here : (i ≡ a) × (j ≡ c)). subst₂ (λ x z. count_if test (way (took w a c) x z) ≡ count_if test (way w x z))
      (sym here.0) (sym here.1)
      (omega (arith, ap (count_if test) takes.head, ap one_if none)))
      (λ (other : i ≡ a → j ≢ c). ap (count_if test) (way_took_other w a c i j other))
      (cases_link i j a c)

  before_took : (i j t h : ℕ) → before (took w a c) i j t h ≡ before w i j t h
  before_took i j t h = omega (arith, count_took (announces t h) (neutral.announces t h) i j)

  after_took : (i j t h : ℕ) → after (took w a c) i j t h ≡ after w i j t h
  after_took i j t h =
      omega (
        arith,
        count_took (takes_over t h) (neutral.takes_over t h) j i,
        count_took (yields t h) (neutral.yields t h) i j,
      )

  chain_after : (i j t : ℕ) (start end : Option ℕ) → Chain (follows t) (way w i j) start end
      → Chain (follows t) (way (took w a c) i j) start end
  chain_after i j t start end chain = ⊎_elim
      (λ (here : (i ≡ a) × (j ≡ c)). subst₂ (λ x z. Chain (follows t) (way w x z) start end
      → Chain (follows t) (way (took w a c) x z) start end) (sym here.0) (sym here.1)
      (λ led. let next = chain_took (follows t) w a c f start end takes led in
      subst (λ m. Chain (follows t) (way (took w a c) a c) m end)
      (same next.0 start (sym next.1 ∙ neutral.follows t start)) next.2) chain)
      (λ (other : i ≡ a → j ≢ c). chain_took_other (follows t) w a c i j start end other chain)
      (cases_link i j a c)
    where
      same : (x z : Option ℕ) → Some x ≡ Some z → x ≡ z
      same x z e = cc

  pub pairs_took : (i j t : ℕ) → IsPaired w i j t → IsPaired (took w a c) i j t
  pairs_took i j t p = record {
    chain = chain_after i j t _ _ p.chain;
    fresh = λ h above. omega (arith, before_took i j t h, after_took i j t h, p.fresh h above);
    once = λ h. omega (arith, before_took i j t h, p.once h);
    apart = λ h. ⊎_elim (λ (none : before w i j t h ≡ 0). inl (before_took i j t h ∙ none))
        (λ (none : after w i j t h ≡ 0). inr (after_took i j t h ∙ none)) (p.apart h);
  }

-- ## Acts of a centre of the line

module _ (line : Line) (w : Flow) (sound : IsFlowSound line w) (c : ℕ) (to : is_centre line c ≡ true) (y : Centre)
    (frames : ℕ → List Body) (leaves : LeavesSound line c y frames) where
  below : c < centre_count line
  below = ltb-true c (centre_count line) to

  centres_after : (d : ℕ) → is_centre line d ≡ true → IsCentreSound line d (put w.at c y d)
  centres_after d at = ⊎_elim
      (λ (here : d ≡ c). subst (λ x. IsCentreSound line x (put w.at c y x)) (sym here)
      (subst (IsCentreSound line c) (sym (put_same w.at c y)) leaves.centre))
      (λ (other : d ≢ c). subst (IsCentreSound line d) (sym (put_other w.at c y d other)) (sound.centres d at))
      (cases_eq d c)

  no_mission_after : (d t : ℕ) → is_centre line d ≡ false → (put w.at c y d).mission t ≡ None
  no_mission_after d t out_of =
      ap (λ (z : Centre). z.mission t) (put_other w.at c y d (λ here. let wrong : true ≡ false = sym to
      ∙ ap (is_centre line) (sym here) ∙ out_of in cc)) ∙ sound.no_mission d t out_of

  no_sent_after : (i j : ℕ) → (is_centre line i ≡ false) ⊎ (is_centre line j ≡ false)
      → put w.sent c (λ d. w.sent c d ++ frames d) i j ≡ []
  no_sent_after i j out_of = ⊎_elim
      (λ (here : i ≡ c). subst (λ x. put w.sent c (λ d. w.sent c d ++ frames d) x j ≡ []) (sym here)
      (ap (λ row. row j) (put_same w.sent c (λ d. w.sent c d ++ frames d))
      ∙ ⊎_elim
      (λ (no : is_centre line i ≡ false). absurd (let wrong : true ≡ false = sym to
      ∙ ap (is_centre line) (sym here) ∙ no in cc))
      (λ (no : is_centre line j ≡ false). ap (λ fs. fs ++ frames j) (sound.no_sent c j (inr no))
      ∙ leaves.inside j no) out_of))
      (λ (other : i ≢ c). ap (λ row. row j) (put_other w.sent c (λ d. w.sent c d ++ frames d) i other)
      ∙ sound.no_sent i j out_of)
      (cases_eq i c)

  -- by itself
  pub acted_sound : IsFairAct line c (w.at c) nothing_came y frames
      → ((a b t : ℕ) → is_centre line a ≡ true → is_centre line b ≡ true → IsPaired (acted w c y frames) a b t)
      → IsFlowSound line (acted w c y frames)
  acted_sound fair pairs = record {
    counted = counted_acted w c y frames sound.counted;
    centres = centres_after;
    no_mission = no_mission_after;
    no_sent = no_sent_after;
    rights = λ t. placed_sound (rights line t) (centre_count line) w c y frames sound.counted below
        (fair.rights t) (sound.rights t);
    tokens = λ t s. placed_sound (tokens line t s) (centre_count line) w c y frames sound.counted below
        (fair.tokens t s) (sound.tokens t s);
    bodies = each_acted (IsBodySound line) w c y frames sound.counted leaves.bodies sound.bodies;
    pairs = pairs;
  }

  -- at the head of a link
  pub delivered_sound : (a : ℕ) (f : Body) → TakesHead w a c f → is_centre line a ≡ true
      → IsFairAct line c (w.at c) (came_with a c f) y frames
      → ((i j t : ℕ) → is_centre line i ≡ true → is_centre line j ≡ true
      → IsPaired (acted (took w a c) c y frames) i j t)
      → IsFlowSound line (acted (took w a c) c y frames)
  delivered_sound a f takes from fair pairs = record {
    counted = counted_acted (took w a c) c y frames (counted_took w a c f takes sound.counted);
    centres = centres_after;
    no_mission = no_mission_after;
    no_sent = no_sent_after;
    rights = λ t. placed_sound_took (rights line t) (centre_count line) w a c f y frames sound.counted
        (ltb-true a (centre_count line) from) below takes (fair.rights t) (sound.rights t);
    tokens = λ t s. placed_sound_took (tokens line t s) (centre_count line) w a c f y frames sound.counted
        (ltb-true a (centre_count line) from) below takes (fair.tokens t s) (sound.tokens t s);
    bodies = each_acted (IsBodySound line) (took w a c) c y frames (counted_took w a c f takes sound.counted)
        leaves.bodies (each_took (IsBodySound line) w a c f takes sound.bodies);
    pairs = pairs;
  }

  -- without a part in a handover
  pub delivered_neutral : (a : ℕ) (f : Body) → TakesHead w a c f → is_centre line a ≡ true
      → IsFairAct line c (w.at c) (came_with a c f) y frames
      → IsNeutral f → ((d : ℕ) → All IsNeutral (frames d)) → IsApart (w.at c) y
      → IsFlowSound line (acted (took w a c) c y frames)
  delivered_neutral a f takes from fair neutral sends apart = delivered_sound a f takes from fair
      (λ i j t at there. pairs_acted (took w a c) (counted_took w a c f takes sound.counted) c y frames sends apart i j
      t (pairs_took w a c f takes neutral i j t (sound.pairs i j t at there)))

  pub acted_neutral : IsFairAct line c (w.at c) nothing_came y frames → ((d : ℕ) → All IsNeutral (frames d))
      → IsApart (w.at c) y → IsFlowSound line (acted w c y frames)
  acted_neutral fair sends apart =
      acted_sound fair (λ i j t at there. pairs_acted w sound.counted c y frames sends apart i j t
      (sound.pairs i j t at there))
