-- Each step of a centre keeps the agreement of any two centres on a handover.
use Rattle.std.proofs.Common.{[], ◌==◌, ◌∙◌, ◌≡◌, ◌≢◌, ◌≤◌, ap, Bool, eqb-true, false, if◌then◌else◌, is_none, List}
use Rattle.std.proofs.Common.{None, Option, refl, Some, subst, sym, true, ℕ}
use Rattle.std.proofs.lemmas.Bool.{and_parts, ltb-true}
use Rattle.std.specs.Option.{option_map_or}
use Rattle.law_base.proofs.CountingLemmas.Chain.{chain_took}
use Rattle.law_base.proofs.CountingLemmas.Network.{counted_acted, counted_took, each_head}
use Rattle.law_base.proofs.CountingLemmas.Sums.{put_same}
use Rattle.law_base.proofs.WalkLemmas.Causes.{setting}
use Rattle.law_base.proofs.WalkLemmas.Steps.{heard_walks, may_do, set_walks, unset_walks}
use Rattle.law_base.specs.Counting.Network.{acted, IsCounted, TakesHead, took}
use Rattle.law_invariants.proofs.FlowLemmas.Shown.{acted_twice}
use Rattle.law_invariants.proofs.FlowLemmas.Taken as taken
use Rattle.law_invariants.proofs.HandoverLemmas.Frames.{Fits, goes_received}
use Rattle.law_invariants.proofs.HandoverLemmas.Kept.{orderly_pairs, taken_over, taking_pairs}
use Rattle.law_invariants.proofs.HandoverLemmas.Moves.{of_moves}
use Rattle.law_invariants.proofs.HandoverLemmas.Orderly.{Goes, goes_rest}
use Rattle.law_invariants.specs.Flow.Flow.{centre_count, Flow}
use Rattle.law_invariants.specs.Flow.Pairs.{before, follows, is_number, IsPaired, takes_over}
use Rattle.law_invariants.specs.Flow.Sound.{ArePaired, IsBodySound, IsFlowSound}
use Rattle.law_invariants.specs.Handover.Orderly.{allowed_by, IsOrderly, IsOrderlyWith, IsTakenWith, none_allowed}
use Rattle.law_invariants.specs.Handover.Orderly.{number_expected}
use Rattle.law_invariants.specs.Handover.Steps.{IsByItself, left_by, sent_by}
use Rattle.rbc_spec.proofs.Lists.{itself}
use Rattle.rbc_spec.specs.Acts.{◌>>◌, become, hear, rest}
use Rattle.rbc_spec.specs.Centre.{Centre, Expectation}
use Rattle.rbc_spec.specs.Frame.{Announce, AskRight, Body, Cancel, Frame, Yield}
use Rattle.rbc_spec.specs.Line.{is_centre, IsLine, Line}
use Rattle.rbc_spec.specs.Links.{is_under}
use Rattle.rbc_spec.specs.Maps.{put}
use Rattle.rbc_spec.specs.Message.{TrainMessage}
use Rattle.rbc_spec.specs.Outcome as outcome
use Rattle.rbc_spec.specs.Outcome.{Early, Next, NoLink, Old, Reason}
use Rattle.rbc_spec.specs.Step as step
use Rattle.rbc_spec.specs.Step.{Deliver, Effect, effect, Event, hear_and_answer, link_answer, Set, set, stamp_of}
use Rattle.rbc_spec.specs.Step.{state_after, taken_by, ticked, Train, Unset, unset}

module _ (line : Line) (c : ℕ) where
  -- ## By itself

  goes_message : (m : TrainMessage) (k : Centre) (o : Option Reason)
      → Goes k (option_map_or {U = Effect} (λ why. record { reply = rest k; link = None; silence = Some why }) o
      (record { reply = hear_and_answer line c m k; link = None; silence = None })).reply
  goes_message m k (Some why) = goes_rest k
  goes_message m k None = of_moves line c (may_do m m.body) refl (hear m k).state refl k (hear_and_answer line c m k)
      (heard_walks line c m k)

  goes_frame : (d : ℕ) (f : Frame) (k : Centre) (answer : outcome.Taken) → answer ≢ Next
      → Goes k (taken_by line c d f answer k)
  goes_frame d f k Next other = absurd (other refl)
  goes_frame d f k Old other = goes_rest k
  goes_frame d f k Early other = goes_rest k
  goes_frame d f k NoLink other = goes_rest k

  goes_event : (event : Event) (k : Centre) → IsByItself line c k event → Goes k (effect line c k event).reply
  goes_event (Train m) k by_itself = goes_message m k (step.silence line c k m)
  goes_event (Set s) k by_itself = of_moves line c setting refl k refl k (set line c s k)
      (set_walks line c setting k refl s k)
  goes_event (Unset s) k by_itself = of_moves line c setting refl k refl k (unset line c s k)
      (unset_walks line c setting k refl s k)
  goes_event (Deliver d f) k by_itself = goes_frame d f k (link_answer line c k d f) by_itself

  same_itself : (event : Event) (stamp : ℕ) (k : Centre) → IsByItself line c k event
      → IsByItself line c (ticked stamp k) event
  same_itself (Train m) stamp k is = is
  same_itself (Set s) stamp k is = is
  same_itself (Unset s) stamp k is = is
  same_itself (Deliver d f) stamp k is = is

  pub step_orderly : (event : Event) (k : Centre) → IsByItself line c k event
      → IsOrderly k (left_by line c k event) (sent_by line c k event)
  step_orderly event k by_itself = let is =
      goes_event event (ticked (stamp_of k event) k) (same_itself event (stamp_of k event) k by_itself) in
      record {
        leads = is.leads;
        expected = is.expected;
        announced = is.announced;
        yielded = is.yielded;
        anew = is.anew;
        takes = is.takes;
      }

  -- ## At the head of a link

  comes_next : (a : ℕ) (f : Frame) (k : Centre)
      → Fits line c a f.body (become (λ j. record j { taken = put j.taken a f.number }) k).state
      → IsTakenWith a f.body k (taken_by line c a f Next k).state (taken_by line c a f Next k).frames
  unfolding ◌>>◌
  comes_next a f k fits = let comes =
      goes_received line c a f.body (become (λ i. record i { taken = put i.taken a f.number }) k).state fits in record {
        y = comes.y;
        taking = record {
          leads = comes.taking.leads;
          expected = comes.taking.expected;
          waits = comes.taking.waits;
          announced = comes.taking.announced;
          number = comes.taking.number;
          handing = comes.taking.handing;
        };
        after = comes.after;
      }

-- ## A frame that fits

under_expected : (h : ℕ) (e : Option Expectation) (mid : Option ℕ)
    → (if is_number h (number_expected e) then Some None else None) ≡ Some mid → is_under h e ≡ true
under_expected h None mid is = cc
under_expected h (Some e) mid is = by_test (e.number == h) is
  where
    by_test : (b : Bool) → (if b then Some None else None) ≡ Some mid → b ≡ true
    by_test true is = refl
    by_test false is = cc

none_expected : (h : ℕ) (e : Option Expectation) (mid : Option ℕ)
    → (if is_none (number_expected e) then Some (Some h) else None) ≡ Some mid → is_none e ≡ true
none_expected h None mid is = refl
none_expected h (Some e) mid is = cc

module _ (line : Line) (ok : IsLine line) (w : Flow) (sound : IsFlowSound line w) (a c : ℕ)
    (from : is_centre line a ≡ true) (to : is_centre line c ≡ true) where
  pub fits_head : (f : Body) → TakesHead w a c f → Fits line c a f (w.at c)
  fits_head (Announce h t track) head =
      let next = chain_took (follows t) w a c (Announce h t track) _ _ head (sound.pairs a c t from to).chain in
      let known = each_head (IsBodySound line) w a c (Announce h t track) head sound.bodies in (
        known.0,
        known.1,
        none_expected h ((w.at c).expects a t) next.0
            (sym (ap (λ b. if b then (if is_none (number_expected ((w.at c).expects a t)) then Some (Some h) else None)
            else Some (number_expected ((w.at c).expects a t))) (itself t)) ∙ next.1),
      )
  fits_head (Cancel h t) head =
      let next = chain_took (follows t) w a c (Cancel h t) _ _ head (sound.pairs a c t from to).chain in
      let known = each_head (IsBodySound line) w a c (Cancel h t) head sound.bodies in (
        known,
        under_expected h ((w.at c).expects a t) next.0
            (sym (ap (λ b. if b then (if is_number h (number_expected ((w.at c).expects a t)) then Some None else None)
            else Some (number_expected ((w.at c).expects a t))) (itself t)) ∙ next.1),
      )
  fits_head (Yield h t heard has_data is_ended carried hand) head =
      let small = ltb-true a (centre_count line) from in
      let below = ltb-true c (centre_count line) to in (
        (each_head (IsBodySound line) w a c (Yield h t heard has_data is_ended carried hand) head sound.bodies).known,
        (
          taken.place line w sound a c h t heard has_data is_ended carried hand from to small below head,
          taken.is_carried line w sound a c h t heard has_data is_ended carried hand from to small below head,
          taken.is_taken line w sound a c h t heard has_data is_ended carried hand from to small below head,
        ),
      )
  fits_head f head = record {}

  pub step_taken : (f : Frame) → TakesHead w a c f.body → link_answer line c (w.at c) a f ≡ Next
      → IsTakenWith a f.body (w.at c) (left_by line c (w.at c) (Deliver a f)) (sent_by line c (w.at c) (Deliver a f))
  step_taken f head next = by_answer (link_answer line c (w.at c) a f) next
    where
      k : Centre
      k = ticked (stamp_of (w.at c) (Deliver a f)) (w.at c)

      as_before : (g : Body) → Fits line c a g (w.at c)
          → Fits line c a g (become (λ j. record j { taken = put j.taken a f.number }) k).state
      as_before (AskRight t) fits = fits
      as_before g fits = fits

      by_answer : (answer : outcome.Taken) → answer ≡ Next
          → IsTakenWith a f.body (w.at c)
          (state_after (stamp_of (w.at c) (Deliver a f)) (w.at c)
          (record { reply = taken_by line c a f answer k; link = Some answer; silence = None }))
          (taken_by line c a f answer k).frames
      by_answer Next is = let comes = comes_next line c a f k (as_before f.body (fits_head f.body head)) in
          let orderly = comes.after in record {
            y = comes.y;
            taking = record {
              leads = comes.taking.leads;
              expected = comes.taking.expected;
              waits = comes.taking.waits;
              announced = comes.taking.announced;
              number = comes.taking.number;
              handing = comes.taking.handing;
            };
            after = record {
              leads = orderly.leads;
              expected = orderly.expected;
              announced = orderly.announced;
              yielded = orderly.yielded;
              anew = orderly.anew;
              takes = orderly.takes;
            };
          }
      by_answer Old is = cc
      by_answer Early is = cc
      by_answer NoLink is = cc

pub none_is_allowed : false ≡ true → ⊥
none_is_allowed is = cc

-- ## The agreement that is kept

module _ (w : Flow) (counted : IsCounted w) (a c : ℕ) (f : Body) (head : TakesHead w a c f) (new : Centre)
    (frames : ℕ → List Body) (is : IsTakenWith a f (w.at c) new frames) where
  abbrev between : Flow
  between = acted (took w a c) c is.y (λ d. [])

  counted_between : IsCounted between
  counted_between = counted_acted (took w a c) c is.y (λ d. []) (counted_took w a c f head counted)

  after : IsOrderlyWith (allowed_by a f) (between.at c) new frames
  after = subst (λ z. IsOrderlyWith (allowed_by a f) z new frames) (sym (put_same w.at c is.y)) is.after

  -- only the handover that the frame takes over may be yielded
  may_be : ((t : ℕ) → IsPaired w c a t) → (d t h : ℕ) → allowed_by a f d t h ≡ true → (before between c d t h ≡ 0)
      × (h ≤ (between.at c).announced)
  may_be pairs d t h so =
      let both = and_parts (d == a) (takes_over t h f) so in
      subst (λ x. (before between c x t h ≡ 0) × (h ≤ (between.at c).announced)) (sym (eqb-true d a both.0))
      (taken_over w a c f head is.y is.taking t h both.1 (pairs t))

  pub taken_pairs : ((u : ℕ) → IsPaired w c a u) → (i j t : ℕ) → IsPaired w i j t
      → IsPaired (acted (took w a c) c new frames) i j t
  taken_pairs pairs i j t p = subst (λ u. IsPaired u i j t) (acted_twice (took w a c) c is.y new (λ d. []) frames)
      (orderly_pairs between counted_between c new frames (allowed_by a f) after (may_be pairs) i j t
      (taking_pairs w a c f head is.y is.taking i j t p))

-- ## Steps

module _ (line : Line) (w : Flow) (c : ℕ) (event : Event) (counted : IsCounted w)
    (by_itself : IsByItself line c (w.at c) event) where
  pub paired_by_itself : ArePaired line w
      → ArePaired line (acted w c (left_by line c (w.at c) event) (sent_by line c (w.at c) event))
  paired_by_itself pairs i j t from to = orderly_pairs w counted c (left_by line c (w.at c) event)
      (sent_by line c (w.at c) event) none_allowed (step_orderly line c event (w.at c) by_itself)
      (λ d u h is. absurd (none_is_allowed is)) i j t (pairs i j t from to)

module _ (line : Line) (ok : IsLine line) (w : Flow) (sound : IsFlowSound line w) (a c : ℕ)
    (from : is_centre line a ≡ true) (to : is_centre line c ≡ true)
    (f : Frame) (head : TakesHead w a c f.body) (next : link_answer line c (w.at c) a f ≡ Next) where
  is_taken : IsTakenWith a f.body (w.at c) (left_by line c (w.at c) (Deliver a f))
      (sent_by line c (w.at c) (Deliver a f))
  is_taken = step_taken line ok w sound a c from to f head next

  pub paired_at_head : ArePaired line (acted (took w a c) c (left_by line c (w.at c) (Deliver a f))
      (sent_by line c (w.at c) (Deliver a f)))
  paired_at_head i j t at there = taken_pairs w sound.counted a c f.body head (left_by line c (w.at c) (Deliver a f))
      (sent_by line c (w.at c) (Deliver a f)) is_taken (λ u. sound.pairs c a u to from) i j t
      (sound.pairs i j t at there)
