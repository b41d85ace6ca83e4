-- Each step of a world keeps each pending question.
use Rattle.std.proofs.Common.{◌+◌, ◌∙◌, ◌≡◌, ◌≢◌, ap, arith, List, Ok, refl, Some, subst, sym, true, ℕ}
use Rattle.law_base.proofs.CountingLemmas.Network.{each_head, each_start}
use Rattle.law_base.proofs.CountingLemmas.Resource.{within_start}
use Rattle.law_base.specs.Counting.Network.{acted, TakesHead, took}
use Rattle.law_invariants.proofs.FlowLemmas.OnePlace.{none_way}
use Rattle.law_invariants.proofs.FlowLemmas.Steps.{at_head, by_itself, is_next, next_sent}
use Rattle.law_invariants.proofs.FlowLemmas.Takes.{deliver_taken, set_keeps, train_keeps, unset_keeps}
use Rattle.law_invariants.proofs.HandoverLemmas.Worlds.{linked_next, sent_between}
use Rattle.law_invariants.proofs.NoUnaskedLemmas.Steps.{asked_acted, asked_taken, step_asking, taken_asking}
use Rattle.law_invariants.specs.Flow.Flow.{centre_count, Flow, flow_of, in_world}
use Rattle.law_invariants.specs.Flow.Numbers.{IsNumbered, taken_after}
use Rattle.law_invariants.specs.Flow.Sound.{IsFlowSound}
use Rattle.law_invariants.specs.Handover.Steps.{IsByItself, left_by, sent_by}
use Rattle.law_invariants.specs.Handover.Worlds.{IsWorldSound}
use Rattle.law_invariants.specs.NoCopy.Steps.{done}
use Rattle.law_invariants.specs.NoUnasked.Asked.{IsAsked, IsBodyAsked, questions}
use Rattle.rbc_spec.proofs.Worlds.{Brings, delivers, of_event, says, sets, unsets}
use Rattle.rbc_spec.specs.Centre.{beginning}
use Rattle.rbc_spec.specs.Frame.{Frame}
use Rattle.rbc_spec.specs.Line.{is_centre, is_linked, IsLine, Line}
use Rattle.rbc_spec.specs.Maps.{put}
use Rattle.rbc_spec.specs.Outcome as outcome
use Rattle.rbc_spec.specs.Outcome.{Early, Next, NoLink, Old}
use Rattle.rbc_spec.specs.Step as centre
use Rattle.rbc_spec.specs.Step.{Deliver, link_answer, stamp_of, taken, ticked}
use Rattle.rbc_spec.specs.World.{Answer, Event, frame_sent, new_world, World, world_step}

-- # A step of a world is an act of a centre by itself, or at the head of a link. An invariant of both is one of each
-- step.

-- the flow after an event that takes no frame off a link, and after one that takes the next of the link from a
abbrev pub by_itself_flow : Line → Flow → ℕ → centre.Event → Flow
by_itself_flow line u c event = acted u c (left_by line c (u.at c) event) (sent_by line c (u.at c) event)

abbrev pub at_head_flow : Line → Flow → ℕ → ℕ → Frame → Flow
at_head_flow line u a c f = acted (took u a c) c (left_by line c (u.at c) (centre.Deliver a f))
    (sent_by line c (u.at c) (centre.Deliver a f))

module _ (line : Line) (w : World) (sound : IsFlowSound line (flow_of w)) (numbered : IsNumbered w)
    (P : Flow → Type 0) (old : P (flow_of w))
    (alone : (c : ℕ) → is_centre line c ≡ true → (event : centre.Event) → IsByItself line c (w.at c) event
    → P (by_itself_flow line (flow_of w) c event))
    (heads : (a c : ℕ) → is_centre line a ≡ true → is_centre line c ≡ true → (f : Frame)
    → TakesHead (flow_of w) a c f.body → link_answer line c (w.at c) a f ≡ Next
    → P (at_head_flow line (flow_of w) a c f)) where
  abbrev After : ℕ → centre.Event → List ℕ → Type 0
  After c event trains = P (flow_of (in_world w c (left_by line c (w.at c) event) trains))

  after_itself : (c : ℕ) → is_centre line c ≡ true → (event : centre.Event) (trains : List ℕ)
      → IsByItself line c (w.at c) event
      → (done line c (w.at c) event).reply.state.taken ≡ (w.at c).taken → After c event trains
  after_itself c to event trains is still =
      subst P (sym (by_itself w c (stamp_of (w.at c) event) (w.at c) (done line c (w.at c) event) trains (λ d. refl)
      (λ a. ap (λ (f : ℕ → ℕ). f a) still))) (alone c to event is)

  after_head : (a c : ℕ) → is_centre line a ≡ true → is_centre line c ≡ true → (f : Frame)
      → TakesHead (flow_of w) a c f.body → link_answer line c (w.at c) a f ≡ Next → (trains : List ℕ)
      → After c (centre.Deliver a f) trains
  after_head a c from to f head next trains =
      subst P (sym (at_head w c (stamp_of (w.at c) (centre.Deliver a f)) (w.at c)
      (done line c (w.at c) (centre.Deliver a f)) trains (λ d. refl) a one_more)) (heads a c from to f head next)
    where
      number_is : f.number ≡ (w.at c).taken a + 1
      number_is = is_next ((w.at c).taken a) f.number
          (linked_next (is_linked line c a) ((w.at c).taken a) f.number next).1

      one_more : (x : ℕ) → (done line c (w.at c) (centre.Deliver a f)).reply.state.taken x
          ≡ put (w.at c).taken a ((w.at c).taken a + 1) x
      one_more x = ap (λ (g : ℕ → ℕ). g x) (deliver_taken line c a (stamp_of (w.at c) (centre.Deliver a f)) f (w.at c))
          ∙ ap (λ answer. taken_after a f answer (w.at c) x) next
          ∙ ap (λ n. put (w.at c).taken a n x) number_is

  no_more : (a c : ℕ) (f : Frame) (o : outcome.Taken) → o ≢ Next → taken_after a f o (w.at c) ≡ (w.at c).taken
  no_more a c f Next apart = absurd (apart refl)
  no_more a c f Old apart = refl
  no_more a c f Early apart = refl
  no_more a c f NoLink apart = refl

  after_other : (a c : ℕ) → is_centre line c ≡ true → (f : Frame) → link_answer line c (w.at c) a f ≢ Next
      → (trains : List ℕ) → After c (centre.Deliver a f) trains
  after_other a c to f other trains = after_itself c to (centre.Deliver a f) trains other
      (deliver_taken line c a (stamp_of (w.at c) (centre.Deliver a f)) f (w.at c)
      ∙ no_more a c f (link_answer line c (w.at c) a f) other)

  -- ## An event

  frame_keeps : (a b number : ℕ) (f : Frame) → frame_sent w a b number ≡ Some f → (answer : outcome.Taken)
      → link_answer line b (w.at b) a f ≡ answer → After b (centre.Deliver a f) w.trains
  frame_keeps a b number f sent answer is = by_answer answer is
    where
      between : (is_centre line a ≡ true) × (is_centre line b ≡ true)
      between = sent_between line w sound a b number f sent

      other : (o : outcome.Taken) → o ≢ Next → link_answer line b (w.at b) a f ≡ o
          → After b (centre.Deliver a f) w.trains
      other o apart at = after_other a b between.1 f (λ next. apart (sym at ∙ next)) w.trains

      by_answer : (o : outcome.Taken) → link_answer line b (w.at b) a f ≡ o → After b (centre.Deliver a f) w.trains
      by_answer Next at = after_head a b between.0 between.1 f
          (next_sent w numbered a b number f sent (linked_next (is_linked line b a) ((w.at b).taken a) f.number at).1)
          at w.trains
      by_answer Old at = other Old (λ e. cc) at
      by_answer Early at = other Early (λ e. cc) at
      by_answer NoLink at = other NoLink (λ e. cc) at

  step_keeps : (event : Event) (c : ℕ) (own : centre.Event) (trains : List ℕ)
      → Brings line w event c own trains → After c own trains
  step_keeps _ c _ trains (says _ m to) =
      after_itself c to (centre.Train m) trains (record {})
      (train_keeps line c m (ticked (stamp_of (w.at c) (centre.Train m)) (w.at c)))
  step_keeps _ c _ trains (sets _ s to) =
      after_itself c to (centre.Set s) trains (record {})
      ((set_keeps line c s).each (ticked (stamp_of (w.at c) (centre.Set s)) (w.at c)))
  step_keeps _ c _ trains (unsets _ s to) =
      after_itself c to (centre.Unset s) trains (record {})
      ((unset_keeps line c s).each (ticked (stamp_of (w.at c) (centre.Unset s)) (w.at c)))
  step_keeps _ _ _ trains (delivers a b number f sent) =
      frame_keeps a b number f sent (link_answer line b (w.at b) a f) refl

  pub world_step_keeps : (event : Event) (answer : Answer) (new : World)
      → world_step line w event ≡ Ok (answer, new) → P (flow_of new)
  world_step_keeps = of_event line w (λ e a x. P (flow_of x)) (λ e a idle. old)
      (λ e c own trains brings none. step_keeps e c own trains brings)

-- # Each step of a world keeps requests proper.

pub begins_asked : (line : Line) → IsAsked line (flow_of (new_world line))
unfolding new_world beginning
begins_asked line = record {
  questions = λ x d. within_start (questions x d) (centre_count line) (flow_of (new_world line)) (none_way line)
      (λ c small. omega arith);
  bodies = each_start (IsBodyAsked line) (flow_of (new_world line)) (none_way line);
}

pub step_keeps_asked : (line : Line) → IsLine line → (w : World) → IsWorldSound line w → IsAsked line (flow_of w)
    → (event : Event) (answer : Answer) (new : World) → world_step line w event ≡ Ok (answer, new)
    → IsAsked line (flow_of new)
step_keeps_asked line ok w sound old = world_step_keeps line w sound.flow sound.numbered (IsAsked line) old
    (λ c to event alone. asked_acted line (flow_of w) sound.flow.counted c (left_by line c (w.at c) event)
    (sent_by line c (w.at c) event) to (step_asking line ok c event (w.at c) alone) old)
    (λ a c from to f head next. asked_taken line (flow_of w) sound.flow.counted a c f.body head
    (left_by line c (w.at c) (Deliver a f)) (sent_by line c (w.at c) (Deliver a f)) from to
    (taken_asking line ok c a f (w.at c) next (each_head (IsBodyAsked line) (flow_of w) a c f.body head old.bodies))
    old)
