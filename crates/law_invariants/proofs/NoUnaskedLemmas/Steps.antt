-- Each step of a centre keeps requests proper, by itself and at the head of a link.
use Rattle.std.proofs.Common.{◌≡◌, ◌≢◌, List, ltb-true, None, Option, refl, Some, true, ℕ}
use Rattle.std.specs.Option.{option_map_or}
use Rattle.law_base.proofs.CountingLemmas.Network.{counted_took, each_acted, each_took}
use Rattle.law_base.proofs.CountingLemmas.Resource.{placed_sound, placed_sound_took}
use Rattle.law_base.proofs.WalkLemmas.Causes.{setting}
use Rattle.law_base.proofs.WalkLemmas.FrameAnswers.{received_taking}
use Rattle.law_base.proofs.WalkLemmas.Steps.{heard_train, heard_walks, may_do, set_walks, unset_walks}
use Rattle.law_base.specs.Counting.Network.{acted, IsCounted, TakesHead, took}
use Rattle.law_base.specs.Counting.Resource.{IsFair}
use Rattle.law_invariants.proofs.NoUnaskedLemmas.Asking.{Comes, comes_with, Goes, goes_rest, IsAsking, IsOfLine}
use Rattle.law_invariants.proofs.NoUnaskedLemmas.Asking.{none_comes, of_line}
use Rattle.law_invariants.proofs.NoUnaskedLemmas.Moves.{comes_taken, of_moves}
use Rattle.law_invariants.specs.Flow.Flow.{centre_count, Flow}
use Rattle.law_invariants.specs.Handover.Steps.{IsByItself, left_by, sent_by}
use Rattle.law_invariants.specs.NoUnasked.Asked.{IsAsked, IsBodyAsked, OfRight, OfRoute, Question, questions}
use Rattle.rbc_spec.specs.Acts.{◌>>◌, become, hear, rest}
use Rattle.rbc_spec.specs.Centre.{Centre}
use Rattle.rbc_spec.specs.Frame.{Body, Frame}
use Rattle.rbc_spec.specs.Line.{is_centre, IsLine, Line}
use Rattle.rbc_spec.specs.Links.{received}
use Rattle.rbc_spec.specs.Maps.{put}
use Rattle.rbc_spec.specs.Message.{TrainMessage}
use Rattle.rbc_spec.specs.Outcome as outcome
use Rattle.rbc_spec.specs.Outcome.{Early, Next, NoLink, Old, Reason}
use Rattle.rbc_spec.specs.Step as step
use Rattle.rbc_spec.specs.Step.{Deliver, Effect, effect, Event, hear_and_answer, link_answer, Set, set, stamp_of}
use Rattle.rbc_spec.specs.Step.{state_after, taken_by, ticked, Train, Unset, unset}

-- a word of the interlocking is of no train
pub of_no_train : (line : Line) → IsOfLine line setting
of_no_train line t its = cc

module _ (line : Line) (ok : IsLine line) (c : ℕ) where
  -- ## By itself

  goes_message : (m : TrainMessage) (k : Centre) (o : Option Reason) → step.silence line c k m ≡ o
      → Goes line c k (option_map_or {U = Effect} (λ why. record { reply = rest k; link = None; silence = Some why }) o
      (record { reply = hear_and_answer line c m k; link = None; silence = None })).reply
  goes_message m k (Some why) is = goes_rest line c k
  goes_message m k None is = of_moves line ok c (may_do m m.body)
      (of_line line (may_do m m.body) m.nid_engine refl (heard_train line c k m is)) (hear m k).state k
      (hear_and_answer line c m k) (heard_walks line c m k)

  goes_frame : (d : ℕ) (f : Frame) (k : Centre) (answer : outcome.Taken) → answer ≢ Next
      → Goes line c k (taken_by line c d f answer k)
  goes_frame d f k Next other = absurd (other refl)
  goes_frame d f k Old other = goes_rest line c k
  goes_frame d f k Early other = goes_rest line c k
  goes_frame d f k NoLink other = goes_rest line c k

  goes_event : (event : Event) (k : Centre) → IsByItself line c k event → Goes line c k (effect line c k event).reply
  goes_event (Train m) k by_itself = goes_message m k (step.silence line c k m) refl
  goes_event (Set s) k by_itself = of_moves line ok c setting (of_no_train line) k k (set line c s k)
      (set_walks line c setting k refl s k)
  goes_event (Unset s) k by_itself = of_moves line ok c setting (of_no_train line) k k (unset line c s k)
      (unset_walks line c setting k refl s k)
  goes_event (Deliver d f) k by_itself = goes_frame d f k (link_answer line c k d f) by_itself

  same_itself : (event : Event) (stamp : ℕ) (k : Centre) → IsByItself line c k event
      → IsByItself line c (ticked stamp k) event
  same_itself (Train m) stamp k is = is
  same_itself (Set s) stamp k is = is
  same_itself (Unset s) stamp k is = is
  same_itself (Deliver d f) stamp k is = is

  -- whether requests are proper does not depend on the clock and on the frames sent before
  of_step : (came : Question → ℕ → ℕ) (k : Centre) (stamp : ℕ) (e : Effect) → Comes line c came (ticked stamp k) e.reply
      → IsAsking line c came k (state_after stamp k e) e.reply.frames
  of_step came k stamp e is = record { fair = by_question; bodies = is.bodies }
    where
      by_question : (x : Question) (d : ℕ)
          → IsFair (questions x d) (centre_count line) c k (came x d) (state_after stamp k e) e.reply.frames
      by_question (OfRight t) d = record { law = (is.fair (OfRight t) d).law }
      by_question (OfRoute t first) d = record { law = (is.fair (OfRoute t first) d).law }

  pub step_asking : (event : Event) (k : Centre) → IsByItself line c k event
      → IsAsking line c none_comes k (left_by line c k event) (sent_by line c k event)
  step_asking event k by_itself = of_step none_comes k (stamp_of k event)
      (effect line c (ticked (stamp_of k event) k) event)
      (goes_event event (ticked (stamp_of k event) k) (same_itself event (stamp_of k event) k by_itself))

  -- ## At the head of a link

  comes_next : (a : ℕ) (f : Frame) (k : Centre) → IsBodyAsked line a c f.body
      → Comes line c (comes_with a c f.body) k (taken_by line c a f Next k)
  unfolding ◌>>◌
  comes_next a f k is =
      counted (comes_taken line ok c a f.body j (received line c a f.body j) is (received_taking line c a j f.body))
    where
      j : Centre
      j = (become (λ i. record i { taken = put i.taken a f.number }) k).state

      counted : Comes line c (comes_with a c f.body) j (received line c a f.body j)
          → Comes line c (comes_with a c f.body) k
          (taken_by line c a f Next k)
      counted comes = record { fair = by_question; bodies = comes.bodies }
        where
          by_question : (x : Question) (d : ℕ)
              → IsFair (questions x d) (centre_count line) c k (comes_with a c f.body x d)
              (taken_by line c a f Next k).state
              (taken_by line c a f Next k).frames
          by_question (OfRight t) d = record { law = (comes.fair (OfRight t) d).law }
          by_question (OfRoute t first) d = record { law = (comes.fair (OfRoute t first) d).law }

  pub taken_asking : (a : ℕ) (f : Frame) (k : Centre) → link_answer line c k a f ≡ Next → IsBodyAsked line a c f.body
      → IsAsking line c (comes_with a c f.body) k (left_by line c k (Deliver a f)) (sent_by line c k (Deliver a f))
  taken_asking a f k next is = of_step (comes_with a c f.body) k (stamp_of k (Deliver a f))
      (effect line c (ticked (stamp_of k (Deliver a f)) k) (Deliver a f))
      (by_answer (link_answer line c k a f) next)
    where
      by_answer : (answer : outcome.Taken) → answer ≡ Next
          → Comes line c (comes_with a c f.body) (ticked (stamp_of k (Deliver a f)) k)
          (taken_by line c a f answer (ticked (stamp_of k (Deliver a f)) k))
      by_answer Next at = comes_next a f (ticked (stamp_of k (Deliver a f)) k) is
      by_answer Old at = cc
      by_answer Early at = cc
      by_answer NoLink at = cc

-- ## The invariants that are kept

module _ (line : Line) (u : Flow) (counted : IsCounted u) (c : ℕ) (y : Centre) (frames : ℕ → List Body) where
  pub asked_acted : is_centre line c ≡ true → IsAsking line c none_comes (u.at c) y frames → IsAsked line u
      → IsAsked line (acted u c y frames)
  asked_acted to is old = record {
    questions = λ x d. placed_sound (questions x d) (centre_count line) u c y frames counted
        (ltb-true c (centre_count line) to) (is.fair x d) (old.questions x d);
    bodies = each_acted (IsBodyAsked line) u c y frames counted is.bodies old.bodies;
  }

module _ (line : Line) (u : Flow) (counted : IsCounted u) (a c : ℕ) (f : Body) (head : TakesHead u a c f) (y : Centre)
    (frames : ℕ → List Body) where
  pub asked_taken : is_centre line a ≡ true → is_centre line c ≡ true
      → IsAsking line c (comes_with a c f) (u.at c) y frames → IsAsked line u → IsAsked line
      (acted (took u a c) c y frames)
  asked_taken from to is old = record {
    questions = λ x d. placed_sound_took (questions x d) (centre_count line) u a c f y frames counted
        (ltb-true a (centre_count line) from) (ltb-true c (centre_count line) to) head
        (is.fair x d) (old.questions x d);
    bodies = each_acted (IsBodyAsked line) (took u a c) c y frames (counted_took u a c f head counted) is.bodies
        (each_took (IsBodyAsked line) u a c f head old.bodies);
  }
