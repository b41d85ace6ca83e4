-- Each step of a world keeps all of it sound.
use Rattle.std.proofs.Common.{[], ◌+◌, ◌-◌, ◌==◌, ◌∙◌, ◌∷◌, ◌≡◌, ◌≢◌, ap, Bool, false, if◌then◌else◌, inl, inr, List}
use Rattle.std.proofs.Common.{map, None, Ok, Option, refl, slice_get, Some, subst, sym, true, ℕ}
use Rattle.law_base.proofs.CountingLemmas.Network.{each_head}
use Rattle.law_base.specs.Counting.Network.{acted, TakesHead, took}
use Rattle.law_base.specs.Counting.Resource.{IsFair, Resource}
use Rattle.law_invariants.proofs.FlowLemmas.Kept.{acted_sound, delivered_sound}
use Rattle.law_invariants.proofs.FlowLemmas.OnePlace.{line_begins, line_begins_numbered}
use Rattle.law_invariants.proofs.FlowLemmas.Steps.{aside_sound, at_head, by_itself, is_next, next_sent}
use Rattle.law_invariants.proofs.FlowLemmas.Steps.{world_step_numbered}
use Rattle.law_invariants.proofs.FlowLemmas.Takes.{deliver_taken, set_keeps, train_keeps, unset_keeps}
use Rattle.law_invariants.proofs.HandoverLemmas.Steps.{paired_at_head, paired_by_itself}
use Rattle.law_invariants.proofs.NoCopyLemmas.Steps.{step_is_fair}
use Rattle.law_invariants.proofs.SoundLemmas.Events.{stays_sound}
use Rattle.law_invariants.proofs.SoundLemmas.Worlds.{sound_hand}
use Rattle.law_invariants.specs.Flow.Counts.{rights, tokens}
use Rattle.law_invariants.specs.Flow.Flow.{centre_count, Flow, flow_of, in_world}
use Rattle.law_invariants.specs.Flow.Keeping.{came_with, IsFairAct, nothing_came}
use Rattle.law_invariants.specs.Flow.Numbers.{taken_after}
use Rattle.law_invariants.specs.Flow.Sound.{IsBodySound, IsFlowSound}
use Rattle.law_invariants.specs.Handover.Steps.{IsByItself, left_by, sent_by}
use Rattle.law_invariants.specs.Handover.Worlds.{IsWorldSound}
use Rattle.law_invariants.specs.NoCopy.Steps.{came_by, came_to, done}
use Rattle.law_invariants.specs.Sound.Stays.{IsInRange}
use Rattle.rbc_spec.proofs.Worlds.{Brings, delivers, keeps_run, of_event, says, sets, unsets}
use Rattle.rbc_spec.specs.Centre.{beginning, Centre}
use Rattle.rbc_spec.specs.Frame.{Body, Frame}
use Rattle.rbc_spec.specs.Line.{is_centre, is_linked, IsLine, Line}
use Rattle.rbc_spec.specs.Maps.{put}
use Rattle.rbc_spec.specs.Outcome as outcome
use Rattle.rbc_spec.specs.Outcome.{Early, Next, NoLink, Old}
use Rattle.rbc_spec.specs.Step as centre
use Rattle.rbc_spec.specs.Step.{Effect, link_answer, offered, stamp_of, state_after, taken, taken_by, ticked}
use Rattle.rbc_spec.specs.World.{Answer, Event, frame_sent, new_world, World, world_run, world_step}

-- ## Frames that were sent

-- only a link calls a frame the next
pub linked_next : (b : Bool) (count n : ℕ) → (if b then offered count n else NoLink) ≡ Next
    → (b ≡ true) × (offered count n ≡ Next)
linked_next true count n is = (refl, is)
linked_next false count n is = cc

-- the centres of a frame that was sent are of the line
pub sent_between : (line : Line) (w : World) → IsFlowSound line (flow_of w) → (a b number : ℕ) (f : Frame)
    → frame_sent w a b number ≡ Some f → (is_centre line a ≡ true) × (is_centre line b ≡ true)
sent_between line w sound a b number f is = (
  by_centre a (is_centre line a) refl (λ no. sound.no_sent a b (inl no)),
  by_centre b (is_centre line b) refl (λ no. sound.no_sent a b (inr no)),
)
  where
    nothing : (fs : List Frame) → map (λ (g : Frame). g.body) fs ≡ []
        → (if number == 0 then None else slice_get fs (number - 1)) ≡ Some f → ⊥
    nothing [] none at = by_number (number == 0) at
      where
        by_number : (z : Bool) → ◌≡◌ {A = Option Frame} (if z then None else None) (Some f) → ⊥
        by_number true e = cc
        by_number false e = cc
    nothing (g ∷ fs) none at = cc

    by_centre : (c : ℕ) (z : Bool) → is_centre line c ≡ z → (is_centre line c ≡ false → (flow_of w).sent a b ≡ [])
        → is_centre line c ≡ true
    by_centre c true here none = here
    by_centre c false away none = absurd (nothing ((w.at a).sent b) (none away) is)

module _ (line : Line) (ok : IsLine line) (w : World) (old : IsWorldSound line w) where
  -- the flow after a step is sound
  abbrev After : ℕ → centre.Event → List ℕ → Type 0
  After c event trains = IsFlowSound line (flow_of (in_world w c (left_by line c (w.at c) event) trains))

  -- ## A step by itself

  module _ (c : ℕ) (to : is_centre line c ≡ true) (event : centre.Event) (trains : List ℕ)
      (alone : IsByItself line c (w.at c) event) (range : IsInRange event)
      (none : (r : Resource Centre Body) → came_to line c (w.at c) event r ≡ 0)
      (still : (done line c (w.at c) event).reply.state.taken ≡ (w.at c).taken) where
    fair : IsFairAct line c (w.at c) nothing_came (left_by line c (w.at c) event) (sent_by line c (w.at c) event)
    fair = let is = step_is_fair line c (w.at c) event ok (old.flow.centres c to) in record {
      rights = λ t. subst (λ n. IsFair (rights line t) (centre_count line) c (w.at c) n (left_by line c (w.at c) event)
          (sent_by line c (w.at c) event)) (none (rights line t)) (is.rights t);
      tokens = λ t s. subst (λ n. IsFair (tokens line t s) (centre_count line) c (w.at c) n
          (left_by line c (w.at c) event) (sent_by line c (w.at c) event)) (none (tokens line t s)) (is.tokens t s);
    }

    same : flow_of (in_world w c (left_by line c (w.at c) event) trains)
        ≡ acted (flow_of w) c (left_by line c (w.at c) event) (sent_by line c (w.at c) event)
    same = by_itself w c (stamp_of (w.at c) event) (w.at c) (done line c (w.at c) event) trains (λ d. refl)
        (λ a. ap (λ (f : ℕ → ℕ). f a) still)

    after_itself : After c event trains
    after_itself = subst (IsFlowSound line) (sym same)
        (acted_sound line (flow_of w) old.flow c to (left_by line c (w.at c) event) (sent_by line c (w.at c) event)
        (stays_sound line ok c (w.at c) event range (old.flow.centres c to)) fair
        (paired_by_itself line (flow_of w) c event old.flow.counted alone old.flow.pairs))

  -- ## A step at the head of a link

  module _ (a c : ℕ) (from : is_centre line a ≡ true) (to : is_centre line c ≡ true) (f : Frame)
      (head : TakesHead (flow_of w) a c f.body) (next : link_answer line c (w.at c) a f ≡ Next) where
    abbrev event : centre.Event
    event = centre.Deliver a f

    fair_head : IsFairAct line c (w.at c) (came_with a c f.body) (left_by line c (w.at c) event)
        (sent_by line c (w.at c) event)
    fair_head = let is = step_is_fair line c (w.at c) event ok (old.flow.centres c to) in record {
      rights = λ t. subst (λ n. IsFair (rights line t) (centre_count line) c (w.at c) n (left_by line c (w.at c) event)
          (sent_by line c (w.at c) event)) (came (rights line t)) (is.rights t);
      tokens = λ t s. subst (λ n. IsFair (tokens line t s) (centre_count line) c (w.at c) n
          (left_by line c (w.at c) event) (sent_by line c (w.at c) event)) (came (tokens line t s)) (is.tokens t s);
    }
      where
        came : (r : Resource Centre Body) → came_to line c (w.at c) event r ≡ r.inside a c f.body
        came r = ap (λ answer. came_by c a f answer r) next

    number_is : f.number ≡ (w.at c).taken a + 1
    number_is = is_next ((w.at c).taken a) f.number
        (linked_next (is_linked line c a) ((w.at c).taken a) f.number next).1

    one_more : (x : ℕ) → (done line c (w.at c) event).reply.state.taken x
        ≡ put (w.at c).taken a ((w.at c).taken a + 1) x
    one_more x = ap (λ (g : ℕ → ℕ). g x) (deliver_taken line c a (stamp_of (w.at c) event) f (w.at c))
        ∙ ap (λ answer. taken_after a f answer (w.at c) x) next
        ∙ ap (λ n. put (w.at c).taken a n x) number_is

    after_head : (trains : List ℕ) → After c event trains
    after_head trains = subst (IsFlowSound line) (sym same_head)
        (delivered_sound line (flow_of w) old.flow c to (left_by line c (w.at c) event) (sent_by line c (w.at c) event)
        (stays_sound line ok c (w.at c) event
        (sound_hand line a c f.body (each_head (IsBodySound line) (flow_of w) a c f.body head old.flow.bodies))
        (old.flow.centres c to))
        a f.body head from fair_head (paired_at_head line ok (flow_of w) old.flow a c from to f head next))
      where
        same_head : flow_of (in_world w c (left_by line c (w.at c) event) trains)
            ≡ acted (took (flow_of w) a c) c (left_by line c (w.at c) event) (sent_by line c (w.at c) event)
        same_head = at_head w c (stamp_of (w.at c) event) (w.at c) (done line c (w.at c) event)
            trains (λ d. refl) a one_more

  -- ## A frame that is not the next

  module _ (a c : ℕ) (to : is_centre line c ≡ true) (f : Frame) (answer : outcome.Taken) (other : answer ≢ Next)
      (is : link_answer line c (w.at c) a f ≡ answer) where
    not_next : link_answer line c (w.at c) a f ≢ Next
    not_next next = other (sym is ∙ next)

    no_more : (o : outcome.Taken) → o ≢ Next → taken_after a f o (w.at c) ≡ (w.at c).taken
    no_more Next apart = absurd (apart refl)
    no_more Old apart = refl
    no_more Early apart = refl
    no_more NoLink apart = refl

    -- the flow after a frame that is answered so
    abbrev answered_so : outcome.Taken → Flow
    answered_so o = let e : Effect =
        record {
          reply = taken_by line c a f o (ticked (stamp_of (w.at c) (centre.Deliver a f)) (w.at c));
          link = Some o;
          silence = None;
        } in
        acted (flow_of w) c (state_after (stamp_of (w.at c) (centre.Deliver a f)) (w.at c) e) e.reply.frames

    so_sound : (o : outcome.Taken) → o ≢ Next → IsFlowSound line (answered_so o)
    so_sound Next apart = absurd (apart refl)
    so_sound Old apart = aside_sound line (flow_of w) old.flow c to _
        (record {
          book = refl;
          wish = refl;
          mission = refl;
          wait = refl;
          has_right = refl;
          expects = refl;
          announced = refl;
          asks = λ t first is. is;
          heard = λ t h. h;
        })
    so_sound Early apart = aside_sound line (flow_of w) old.flow c to _
        (record {
          book = refl;
          wish = refl;
          mission = refl;
          wait = refl;
          has_right = refl;
          expects = refl;
          announced = refl;
          asks = λ t first is. is;
          heard = λ t h. h;
        })
    so_sound NoLink apart = aside_sound line (flow_of w) old.flow c to _
        (record {
          book = refl;
          wish = refl;
          mission = refl;
          wait = refl;
          has_right = refl;
          expects = refl;
          announced = refl;
          asks = λ t first is. is;
          heard = λ t h. h;
        })

    after_other : (trains : List ℕ) → After c (centre.Deliver a f) trains
    after_other trains = subst (IsFlowSound line) (sym same_other) (so_sound (link_answer line c (w.at c) a f) not_next)
      where
        same_other : flow_of (in_world w c (left_by line c (w.at c) (centre.Deliver a f)) trains)
            ≡ acted (flow_of w) c (left_by line c (w.at c) (centre.Deliver a f))
            (sent_by line c (w.at c) (centre.Deliver a f))
        same_other = by_itself w c (stamp_of (w.at c) (centre.Deliver a f)) (w.at c)
            (done line c (w.at c) (centre.Deliver a f)) trains (λ d. refl)
            (λ x. ap (λ (g : ℕ → ℕ). g x) (deliver_taken line c a (stamp_of (w.at c) (centre.Deliver a f)) f (w.at c)
            ∙ no_more (link_answer line c (w.at c) a f) not_next))

  -- ## An event

  frame_sound : (a b number : ℕ) (f : Frame) → frame_sent w a b number ≡ Some f → (answer : outcome.Taken)
      → link_answer line b (w.at b) a f ≡ answer → After b (centre.Deliver a f) w.trains
  frame_sound a b number f sent Next is = let between = sent_between line w old.flow a b number f sent in
      after_head a b between.0 between.1 f
      (next_sent w old.numbered a b number f sent
      (linked_next (is_linked line b a) ((w.at b).taken a) f.number is).1) is w.trains
  frame_sound a b number f sent Old is = after_other a b (sent_between line w old.flow a b number f sent).1
      f Old (λ e. cc) is w.trains
  frame_sound a b number f sent Early is = after_other a b (sent_between line w old.flow a b number f sent).1 f
      Early (λ e. cc) is w.trains
  frame_sound a b number f sent NoLink is = after_other a b (sent_between line w old.flow a b number f sent).1 f
      NoLink (λ e. cc) is w.trains

  step_sound : (event : Event) (c : ℕ) (own : centre.Event) (trains : List ℕ)
      → Brings line w event c own trains → After c own trains
  step_sound _ c _ trains (says _ m to) = after_itself c to (centre.Train m) trains (record {}) (record {}) (λ r. refl)
      (train_keeps line c m (ticked (stamp_of (w.at c) (centre.Train m)) (w.at c)))
  step_sound _ c _ trains (sets _ s to) = after_itself c to (centre.Set s) trains (record {}) (record {}) (λ r. refl)
      ((set_keeps line c s).each (ticked (stamp_of (w.at c) (centre.Set s)) (w.at c)))
  step_sound _ c _ trains (unsets _ s to) =
      after_itself c to (centre.Unset s) trains (record {}) (record {}) (λ r. refl)
      ((unset_keeps line c s).each (ticked (stamp_of (w.at c) (centre.Unset s)) (w.at c)))
  step_sound _ _ _ trains (delivers a b number f sent) =
      frame_sound a b number f sent (link_answer line b (w.at b) a f) refl

  event_sound : (event : Event) (answer : Answer) (new : World) → world_step line w event ≡ Ok (answer, new)
      → IsFlowSound line (flow_of new)
  event_sound = of_event line w (λ e a x. IsFlowSound line (flow_of x)) (λ e a idle. old.flow)
      (λ e c own trains brings none. step_sound e c own trains brings)

  pub world_step_sound : (event : Event) (answer : Answer) (new : World) → world_step line w event ≡ Ok (answer, new)
      → IsWorldSound line new
  world_step_sound event answer new is =
      record {
        flow = event_sound event answer new is;
        numbered = world_step_numbered line w old.numbered event answer new is;
      }

-- ## A run

pub world_begins : (line : Line) → IsWorldSound line (new_world line)
unfolding new_world beginning
world_begins line = record {
  flow = line_begins line;
  numbered = line_begins_numbered line;
}

pub world_run_sound : (line : Line) → IsLine line → (events : List Event) (w : World) → IsWorldSound line w
    → (answers : List Answer) (last : World)
    → world_run line w events ≡ Ok (answers, last) → IsWorldSound line last
world_run_sound line ok = keeps_run line (IsWorldSound line) (world_step_sound line ok)
