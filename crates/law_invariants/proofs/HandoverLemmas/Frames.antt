-- The effect of the next frame of a link.
use Rattle.std.proofs.Common.{⊎_elim, ◌&&◌, ◌*◌, ◌+◌, ◌==◌, ◌∙◌, ◌≡◌, ◌≢◌, ◌≤◌, ap, arith, Bool, false, if◌then◌else◌}
use Rattle.std.proofs.Common.{is_none, length, List, max, nat_le, nat_lt, None, not, Option, refl, Some, subst, sym}
use Rattle.std.proofs.Common.{true, ℕ}
use Rattle.std.proofs.lemmas.Bool.{and_parts, cases_eq, ne_eqb}
use Rattle.std.proofs.Math.Bool.{and-true}
use Rattle.std.specs.List.{find, range_with_len}
use Rattle.std.specs.Option.{option_map_or}
use Rattle.law_base.proofs.CountingLemmas.Sums.{put_other, put_same}
use Rattle.law_base.proofs.WalkLemmas.FrameAnswers.{of_taking, received_taking}
use Rattle.law_base.proofs.WalkLemmas.Frames.{frame_expects, frame_may, frame_yields}
use Rattle.law_base.specs.Counting.Sums.{one_if}
use Rattle.law_invariants.proofs.HandoverLemmas.Moves.{answered, closed, goes_propose_if, none_yields, over_allowed}
use Rattle.law_invariants.proofs.HandoverLemmas.Orderly.{Goes, goes_or, goes_rest, GoesWith, loosened}
use Rattle.law_invariants.proofs.HandoverLemmas.Taking.{expect_taking}
use Rattle.law_invariants.specs.Flow.Pairs.{follows, handing_to, is_number}
use Rattle.law_invariants.specs.Handover.Orderly.{allowed_by, IsOrderly, IsTakenWith, IsTaking, none_allowed}
use Rattle.law_invariants.specs.Handover.Orderly.{number_expected, waiting}
use Rattle.rbc_spec.proofs.Lists.{itself, none_is}
use Rattle.rbc_spec.specs.Acts.{◌>>◌, Act, become, booked, propose_if_so, Reply, rest, set_mission}
use Rattle.rbc_spec.specs.Centre.{Centre, Expectation, is_out_for, Mission, Taken}
use Rattle.rbc_spec.specs.Frame.{Announce, Body, Cancel, carried_place, TakingOver, Yield, YieldedPlace}
use Rattle.rbc_spec.specs.Line.{is_home, Line, section_of_group}
use Rattle.rbc_spec.specs.Links.{announced, cancelled, expect, is_train, is_under, may_arrive, may_take, of_train}
use Rattle.rbc_spec.specs.Links.{received, take_mission, yielded}
use Rattle.rbc_spec.specs.Maps.{has, put}
use Rattle.rbc_spec.specs.Place.{group_start, Place}
use Rattle.rbc_spec.specs.SectionRuns.{all_of, no_run, SectionRun}
use Rattle.rbc_spec.specs.Sections.{is_on, is_on_track}

module _ (line : Line) (c : ℕ) where
  -- ## A frame that is taken

  abbrev pub Comes : ℕ → Body → Centre → Reply → Type 0
  Comes a f k q = IsTakenWith a f k q.state q.frames

  -- a frame that does not change an expectation here leaves the centre as it is
  pub passed : (a : ℕ) (f : Body) (k : Centre) → ((t : ℕ) (n : Option ℕ) → follows t f n ≡ Some n) → IsTaking a f k k
  passed a f k none = record {
    leads = λ t. none t (number_expected (k.expects a t));
    expected = λ i t apart. refl;
    waits = λ t h. omega arith;
    announced = refl;
    number = λ t. refl;
    handing = λ b t apart. refl;
  }

  -- with any effect after that
  pub passes : {new : Centre} {frames : ℕ → List Body} (a : ℕ) (f : Body) (k : Centre)
      → ((t : ℕ) (n : Option ℕ) → follows t f n ≡ Some n) → IsOrderly k new frames → IsTakenWith a f k new frames
  passes {new} {frames} a f k none goes =
      record { y = k; taking = passed a f k none; after = loosened (allowed_by a f) k new frames goes }

  -- a frame that is not about an expectation here
  goes_frame : (a : ℕ) (f : Body) → frame_expects f ≡ false → frame_yields a f ≡ None → (k : Centre)
      → Goes k (received line c a f k)
  goes_frame a f still none k = of_taking line c a k f (GoesWith none_allowed)
      (closed line c (frame_may a f) still k none_allowed (none_yields line c (frame_may a f) still k none))
      (answered line c (frame_may a f) still k none_allowed a f) (received line c a f k) (received_taking line c a k f)

  -- the state that a frame of a handover has to find at its receiver
  abbrev pub Fits : ℕ → Body → Centre → Type 0
  Fits a (Announce number t track) k = (is_train line t ≡ true) × (nat_lt track (length line.tracks) ≡ true)
      × (is_none (k.expects a t) ≡ true)
  Fits a (Cancel number t) k = (is_train line t ≡ true) × (is_under number (k.expects a t) ≡ true)
  Fits a (Yield number t heard has_data is_ended carried hand) k = (is_train line t ≡ true)
      × ((place : Place) × (carried_place carried ≡ Some place) × (may_take line c k a number t place hand ≡ true))
  Fits a body k = Unit {0}

  -- an act if a train is of the line and a test holds
  done : (t : ℕ) (b : Bool) (act : Act) (k : Centre) → is_train line t ≡ true → b ≡ true
      → of_train line t (if b then act else rest) k ≡ act k
  done t b act k known so = ap (λ z. (if z then (if b then act else rest) else rest) k) known
      ∙ ap (λ z. (if z then act else rest) k) so

  comes_announced : (a number t track : ℕ) (k : Centre) → Fits a (Announce number t track) k
      → Comes a (Announce number t track) k (received line c a (Announce number t track) k)
  comes_announced a number t track k fits = subst (Comes a (Announce number t track) k)
      (sym (done t (nat_lt track (length line.tracks)) (announced a number t) k fits.0 fits.1
      ∙ ap (λ z. if z then expect a t (Some new) k else rest k) fits.2))
      (record {
        y = y;
        taking = expect_taking a t (Announce number t track) (Some new) k y refl refl (λ b u. refl) other
            leads waits;
        after = loosened (allowed_by a (Announce number t track)) y _ _ (goes_rest y);
      })
    where
      new : Expectation
      new = record { number = number; is_taking = false }

      y : Centre
      y = (expect a t (Some new) k).state

      other : (u : ℕ) (n : Option ℕ) → u ≢ t → follows u (Announce number t track) n ≡ Some n
      other u n apart = ap (λ b. if b then (if is_none n then Some (Some number) else None) else Some n)
          (ne_eqb t u (λ same. apart (sym same)))

      leads : follows t (Announce number t track) (number_expected (k.expects a t)) ≡ Some (Some number)
      leads = ap (λ o. follows t (Announce number t track) (number_expected o)) (none_is (k.expects a t) fits.2)
          ∙ ap (λ b. if b then Some (Some number) else Some None) (itself t)

      waits : (h : ℕ) → one_if ((number == h) && not false) ≤ waiting h (k.expects a t)
          + one_if ((t == t) && (number == h))
      waits h = omega (arith, ap one_if (and-true (number == h)), ap (λ b. one_if (b && (number == h))) (itself t))

  -- an expectation under a number is ended by a frame under that number
  ends : (h t : ℕ) (e : Option Expectation) → is_under h e ≡ true
      → (if t == t then (if is_number h (number_expected e) then Some None else None) else Some (number_expected e))
      ≡ Some None
  ends h t None is = cc
  ends h t (Some e) is = ap (λ b. if b then (if e.number == h then Some None else None) else Some (Some e.number))
      (itself t) ∙ ap (λ b. if b then Some None else None) is

  comes_cancelled : (a number t : ℕ) (k : Centre) → Fits a (Cancel number t) k
      → Comes a (Cancel number t) k (received line c a (Cancel number t) k)
  comes_cancelled a number t k fits = subst (Comes a (Cancel number t) k)
      (sym (ap (λ z. (if z then cancelled a number t else rest) k) fits.0
      ∙ ap (λ z. if z then expect a t None k else rest k) fits.1))
      (record {
        y = (expect a t None k).state;
        taking = expect_taking a t (Cancel number t) None k (expect a t None k).state refl refl (λ b u. refl)
            (λ u n apart. ap (λ b. if b then (if is_number number n then Some None else None) else Some n)
            (ne_eqb t u (λ same. apart (sym same))))
            (ends number t (k.expects a t) fits.1) (λ h. omega arith);
        after = loosened (allowed_by a (Cancel number t)) _ _ _ (goes_rest (expect a t None k).state);
      })

  comes_taking_over : (a number t : ℕ) (k : Centre)
      → Comes a (TakingOver number t) k (received line c a (TakingOver number t) k)
  comes_taking_over a number t k = let f : Body = TakingOver number t in let may = frame_may a f in record {
    y = k;
    taking = passed a f k (λ u n. refl);
    after = of_taking line c a k f (GoesWith (allowed_by a f))
        (closed line c may refl k (allowed_by a f) (over_allowed a number t))
        (answered line c may refl k (allowed_by a f) a f)
        (received line c a f k) (received_taking line c a k f);
  }

  comes_yielded : (a number t heard : ℕ) (has_data is_ended : Bool) (carried : YieldedPlace) (hand : SectionRun)
      (k : Centre) → Fits a (Yield number t heard has_data is_ended carried hand) k
      → Comes a (Yield number t heard has_data is_ended carried hand) k
      (received line c a (Yield number t heard has_data is_ended carried hand) k)
  unfolding ◌>>◌
  comes_yielded a number t heard has_data is_ended carried hand k fits = subst (Comes a f k)
      (sym (ap (λ z. (if z then option_map_or (yielded line c a number t hand heard has_data is_ended)
      (carried_place carried) rest else rest) k) fits.0
      ∙ ap (λ o. option_map_or (yielded line c a number t hand heard has_data is_ended) o rest k) fits.1.1
      ∙ ap (λ z. if z then take_mission line c a t heard m k else rest k) fits.1.2))
      (record {
        y = y;
        taking = expect_taking a t f None k y refl refl same_handing
            (λ u n apart. ap (λ b. if b then (if is_number number n then Some None else None) else Some n)
            (ne_eqb t u (λ same. apart (sym same))))
            (ends number t (k.expects a t) (under (k.expects a t) here.0)) (λ h. omega arith);
        after = loosened (allowed_by a f) y _ _
            (goes_or (find (λ s. is_home line c s && y.wish s) (range_with_len m.hand.first m.hand.count))
            (λ s. propose_if_so line t s y) y (rest y) (λ s found. goes_propose_if line t s y)
            (λ nothing. goes_rest y));
      })
    where
      f : Body
      f = Yield number t heard has_data is_ended carried hand

      place : Place
      place = fits.1.0

      m : Mission
      m = record {
        place = place;
        hand = hand;
        pool = no_run;
        has_data = has_data;
        is_ended = is_ended;
        proposal = None;
        handing = None;
      }

      takes : Act
      takes = (booked (is_out_for t) (Taken t) m.hand >> set_mission t (Some m))
          >> (become (λ j. record j { heard = put j.heard t (Some (option_map_or (max heard) (j.heard t) heard)) })
          >> expect a t None)

      y : Centre
      y = (takes k).state

      here : (has (λ e. (e.number == number) && e.is_taking) (k.expects a t) ≡ true)
          × ((is_none (k.mission t) && not (k.has_right t)) ≡ true)
      here = and_parts (has (λ e. (e.number == number) && e.is_taking) (k.expects a t))
          (is_none (k.mission t) && not (k.has_right t))
          (and_parts (has (λ e. (e.number == number) && e.is_taking) (k.expects a t)
          && (is_none (k.mission t) && not (k.has_right t)))
          ((is_on_track line place.track hand && has (is_on line place.track) (section_of_group line place.group))
          && (nat_le (10 * group_start line place) place.front
          && all_of (may_arrive line c k t place.track) hand)) fits.1.2).0

      under : (e : Option Expectation) → has (λ x. (x.number == number) && x.is_taking) e ≡ true
          → is_under number e ≡ true
      under None is = cc
      under (Some e) is = (and_parts (e.number == number) e.is_taking is).0

      same_handing : (b u : ℕ) → handing_to b (put k.mission t (Some m) u) ≡ handing_to b (k.mission u)
      same_handing b u = ⊎_elim
          (λ (same : u ≡ t). subst (λ v. handing_to b (put k.mission t (Some m) v)
          ≡ handing_to b (k.mission v)) (sym same)
          (ap (handing_to b) (put_same k.mission t (Some m))
          ∙ sym (ap (handing_to b)
          (none_is (k.mission t) (and_parts (is_none (k.mission t)) (not (k.has_right t)) here.1).0))))
          (λ (other : u ≢ t). ap (handing_to b) (put_other k.mission t (Some m) u other))
          (cases_eq u t)

  pub goes_received : (a : ℕ) (f : Body) (k : Centre) → Fits a f k → Comes a f k (received line c a f k)
  goes_received a (Announce number t track) k fits = comes_announced a number t track k fits
  goes_received a (Cancel number t) k fits = comes_cancelled a number t k fits
  goes_received a (TakingOver number t) k fits = comes_taking_over a number t k
  goes_received a (Yield number t heard has_data is_ended carried hand) k fits =
      comes_yielded a number t heard has_data is_ended carried hand k fits
  goes_received a f k fits = passes a f k (λ u n. refl) (goes_frame a f refl refl k)
