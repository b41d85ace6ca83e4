-- Acts of the centre that hands a train over: an announcement, its cancellation and a Yield are orderly.
use Rattle.std.proofs.Common.{⊎_elim, ◌&&◌, ◌+◌, ◌==◌, ◌∙◌, ◌≡◌, ◌≢◌, ◌⊎◌, ap, arith, Bool, false, if◌then◌else◌, inl}
use Rattle.std.proofs.Common.{inr, is_none, None, Option, option_map, refl, Some, sym, true, ℕ}
use Rattle.std.proofs.lemmas.Bool.{cases_eq, ne_eqb}
use Rattle.std.specs.Option.{option_map_or}
use Rattle.law_base.proofs.CountingLemmas.Sums.{put_other, put_same}
use Rattle.law_base.proofs.WalkLemmas.Causes.{hand_to}
use Rattle.law_invariants.proofs.HandoverLemmas.Orderly.{IsSent}
use Rattle.law_invariants.specs.Flow.Pairs.{follows, handing_to, is_number}
use Rattle.law_invariants.specs.Handover.Orderly.{Allowance, none_allowed, number_announced}
use Rattle.rbc_spec.proofs.Lists.{itself}
use Rattle.rbc_spec.specs.Centre.{Centre, Handing, Mission}
use Rattle.rbc_spec.specs.Frame.{Announce, Body, Cancel, Yield, YieldedPlace}
use Rattle.rbc_spec.specs.Maps.{put}
use Rattle.rbc_spec.specs.SectionRuns.{SectionRun}

-- the handover that a mission announced, seen by each centre
pub handed : (m : Mission) (h : Handing) → m.handing ≡ Some h → handing_to h.to (Some m) ≡ Some h
handed m h stands = ap (λ (o : Option Handing). option_map_or (λ x. if x.to == h.to then Some x else None) o None)
    stands ∙ ap (λ b. if b then Some h else None) (itself h.to)

pub handed_other : (e : ℕ) (m : Mission) (h : Handing) → m.handing ≡ Some h → e ≢ h.to → handing_to e (Some m) ≡ None
handed_other e m h stands other =
    ap (λ (o : Option Handing). option_map_or (λ x. if x.to == e then Some x else None) o None) stands
    ∙ ap (λ b. if b then Some h else None) (ne_eqb h.to e (λ same. other (sym same)))

pub none_handed : (e : ℕ) (m : Mission) → m.handing ≡ None → handing_to e (Some m) ≡ None
none_handed e m none = ap (λ (o : Option Handing). option_map_or (λ x. if x.to == e then Some x else None) o None) none

-- ## An announcement

module _ (t d track : ℕ) (m : Mission) (k y : Centre) (at : k.mission t ≡ Some m) (none : m.handing ≡ None)
    (mission : y.mission ≡ put k.mission t (option_map (hand_to d (k.announced + 1)) (k.mission t)))
    (announced : y.announced ≡ k.announced + 1) (expects : y.expects ≡ k.expects) where
  abbrev number : ℕ
  number = k.announced + 1

  abbrev body : Body
  body = Announce number t track

  now : y.mission t ≡ Some (hand_to d number m)
  now = ap (λ (f : ℕ → Option Mission). f t) mission
      ∙ put_same k.mission t (option_map (hand_to d number) (k.mission t)) ∙ ap (option_map (hand_to d number)) at

  to_none : (e : ℕ) → handing_to e (k.mission t) ≡ None
  to_none e = ap (handing_to e) at ∙ none_handed e m none

  to_d : handing_to d (y.mission t) ≡ Some (record { number = number; to = d })
  to_d = ap (handing_to d) now ∙ handed (hand_to d number m) (record { number = number; to = d }) refl

  pub announce_sent : IsSent none_allowed d t body k y
  announce_sent = record {
    follows_other = λ u n other. ap (λ b. if b then (if is_none n then Some (Some number) else None) else Some n)
        (ne_eqb t u (λ same. other (sym same)));
    announces_other = λ u h other. ap (λ b. b && (number == h)) (ne_eqb t u (λ same. other (sym same)));
    yields_other = λ u h other. refl;
    takes_none = λ u h. refl;
    other_train = λ u other. ap (λ (f : ℕ → Option Mission). f u) mission
        ∙ put_other k.mission t (option_map (hand_to d number) (k.mission t)) u other;
    other_centre = λ e other. ap (handing_to e) now
        ∙ handed_other e (hand_to d number m) (record { number = number; to = d }) refl other ∙ sym (to_none e);
    leads = ap (λ o. follows t body (number_announced o)) (to_none d)
        ∙ ap (λ b. if b then Some (Some number) else Some None) (itself t)
        ∙ ap (λ o. Some (number_announced o)) (sym to_d);
    yielded = λ h. inl refl;
    announced = omega (arith, announced);
    anew = λ h. ⊎_elim
        (λ (same : number ≡ h). inr (omega (arith, same), omega (arith, same, announced)))
        (λ (other : number ≢ h). inl (ap (λ b. b && (number == h)) (itself t) ∙ ne_eqb number h other))
        (cases_eq number h);
    expects = expects;
  }

-- ## Its end

-- a frame by which a handover ends: the sender has none of the train then
module _ (t : ℕ) (m : Mission) (h : Handing) (k y : Centre) (at : k.mission t ≡ Some m) (stands : m.handing ≡ Some h)
    (other : (u : ℕ) → u ≢ t → y.mission u ≡ k.mission u) (ended : (e : ℕ) → handing_to e (y.mission t) ≡ None)
    (announced : y.announced ≡ k.announced) (expects : y.expects ≡ k.expects) where
  to_h : handing_to h.to (k.mission t) ≡ Some h
  to_h = ap (handing_to h.to) at ∙ handed m h stands

  ends : (if t == t then (if h.number == h.number then Some None else None) else Some (Some h.number))
      ≡ Some (number_announced (handing_to h.to (y.mission t)))
  ends = ap (λ b. if b then (if h.number == h.number then Some None else None) else Some (Some h.number)) (itself t)
      ∙ ap (λ b. if b then Some None else None) (itself h.number)
      ∙ ap (λ o. Some (number_announced o)) (sym (ended h.to))

  pub cancel_sent : IsSent none_allowed h.to t (Cancel h.number t) k y
  cancel_sent = record {
    follows_other = λ u n apart. ap (λ b. if b then (if is_number h.number n then Some None else None) else Some n)
        (ne_eqb t u (λ same. apart (sym same)));
    announces_other = λ u x apart. refl;
    yields_other = λ u x apart. refl;
    takes_none = λ u x. refl;
    other_train = other;
    other_centre = λ e apart. ended e ∙ sym (ap (handing_to e) at ∙ handed_other e m h stands apart);
    leads = ap (λ o. follows t (Cancel h.number t) (number_announced o)) to_h ∙ ends;
    yielded = λ x. inl refl;
    announced = omega (arith, announced);
    anew = λ x. inl refl;
    expects = expects;
  }

  pub yield_sent : (heard : ℕ) (has_data is_ended : Bool) (place : YieldedPlace) (hand : SectionRun) (allow : Allowance)
      → ((x : ℕ) → ((t == t) && (h.number == x)) ≡ true → allow h.to t x ≡ true)
      → IsSent allow h.to t (Yield h.number t heard has_data is_ended place hand) k y
  yield_sent heard has_data is_ended place hand allow may = record {
    follows_other = λ u n apart. ap (λ b. if b then (if is_number h.number n then Some None else None) else Some n)
        (ne_eqb t u (λ same. apart (sym same)));
    announces_other = λ u x apart. refl;
    yields_other = λ u x apart. ap (λ b. b && (h.number == x)) (ne_eqb t u (λ same. apart (sym same)));
    takes_none = λ u x. refl;
    other_train = other;
    other_centre = λ e apart. ended e ∙ sym (ap (handing_to e) at ∙ handed_other e m h stands apart);
    leads = ap (λ o. follows t (Yield h.number t heard has_data is_ended place hand) (number_announced o)) to_h ∙ ends;
    yielded = λ x. by_test x ((t == t) && (h.number == x)) refl;
    announced = omega (arith, announced);
    anew = λ x. inl refl;
    expects = expects;
  }
    where
      by_test : (x : ℕ) (b : Bool) → ((t == t) && (h.number == x)) ≡ b → (b ≡ false) ⊎ (allow h.to t x ≡ true)
      by_test x true is = inr (may x is)
      by_test x false is = inl refl
