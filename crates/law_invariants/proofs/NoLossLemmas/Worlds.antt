-- No step of a world loses a right or a token, so none is ever lost.
use Rattle.std.proofs.Common.{◌≡◌, ◌≢◌, ap, List, ltb-true, None, Ok, refl, Some, subst, true, ℕ}
use Rattle.law_base.proofs.CountingLemmas.Network.{each_head}
use Rattle.law_base.proofs.CountingLemmas.Resource.{exact_still, placed_exact, placed_exact_took}
use Rattle.law_base.specs.Counting.Network.{acted, IsCounted, TakesHead, took}
use Rattle.law_base.specs.Counting.Resource.{IsExact, Resource}
use Rattle.law_invariants.proofs.FlowLemmas.OnePlace.{line_begins_whole}
use Rattle.law_invariants.proofs.HandoverLemmas.Worlds.{world_begins, world_step_sound}
use Rattle.law_invariants.proofs.NoLossLemmas.Looked.{looked_for, right_once}
use Rattle.law_invariants.proofs.NoLossLemmas.Rights.{no_right_lost}
use Rattle.law_invariants.proofs.NoLossLemmas.Tokens.{no_token_lost}
use Rattle.law_invariants.proofs.NoUnaskedLemmas.Worlds.{begins_asked, step_keeps_asked, world_step_keeps}
use Rattle.law_invariants.proofs.SoundLemmas.Worlds.{sound_hand}
use Rattle.law_invariants.specs.Flow.Counts.{rights, tokens}
use Rattle.law_invariants.specs.Flow.Flow.{centre_count, Flow, flow_of}
use Rattle.law_invariants.specs.Flow.Keeping.{came_with, nothing_came}
use Rattle.law_invariants.specs.Flow.Sound.{IsBodySound, LosesNothing}
use Rattle.law_invariants.specs.Handover.Steps.{IsByItself, left_by, sent_by}
use Rattle.law_invariants.specs.Handover.Worlds.{IsWorldSound}
use Rattle.law_invariants.specs.NoCopy.Steps.{came_by, came_to}
use Rattle.law_invariants.specs.NoLoss.Keeps.{BringsNoStray, HasRightOnce, IsExactAct}
use Rattle.law_invariants.specs.NoUnasked.Asked.{IsAsked}
use Rattle.law_invariants.specs.Sound.Stays.{IsInRange}
use Rattle.rbc_spec.proofs.Worlds.{keeps_run}
use Rattle.rbc_spec.specs.Centre.{Centre}
use Rattle.rbc_spec.specs.Frame.{Body, Frame}
use Rattle.rbc_spec.specs.Line.{is_centre, IsLine, Line}
use Rattle.rbc_spec.specs.Outcome as outcome
use Rattle.rbc_spec.specs.Outcome.{Early, Next, NoLink, Old}
use Rattle.rbc_spec.specs.Step as centre
use Rattle.rbc_spec.specs.Step.{Effect, link_answer, stamp_of, state_after, taken_by, ticked}
use Rattle.rbc_spec.specs.World.{Answer, Event, new_world, World, world_run, world_step}

-- ## Exact acts

pub exact_alone : (line : Line) (w : Flow) (c : ℕ) (y : Centre) (frames : ℕ → List Body) → IsCounted w
    → is_centre line c ≡ true → IsExactAct line c (w.at c) nothing_came y frames
    → LosesNothing line w → LosesNothing line (acted w c y frames)
exact_alone line w c y frames counted centre exact whole =
    let small = ltb-true c (centre_count line) centre in record {
      rights = λ t. placed_exact (rights line t) (centre_count line) w c y frames counted small
          (exact.rights t) (whole.rights t);
      tokens = λ t s. placed_exact (tokens line t s) (centre_count line) w c y frames counted small
          (exact.tokens t s) (whole.tokens t s);
    }

pub exact_head : (line : Line) (w : Flow) (a c : ℕ) (f : Body) (y : Centre) (frames : ℕ → List Body) → IsCounted w
    → is_centre line a ≡ true → is_centre line c ≡ true → TakesHead w a c f
    → IsExactAct line c (w.at c) (came_with a c f) y frames → LosesNothing line w
    → LosesNothing line (acted (took w a c) c y frames)
exact_head line w a c f y frames counted from centre takes exact whole =
    let small = ltb-true a (centre_count line) from in let below = ltb-true c (centre_count line) centre in record {
      rights = λ t. placed_exact_took (rights line t) (centre_count line) w a c f y frames counted small below takes
          (exact.rights t) (whole.rights t);
      tokens = λ t s. placed_exact_took (tokens line t s) (centre_count line) w a c f y frames counted small below takes
          (exact.tokens t s) (whole.tokens t s);
    }

-- ## A step of a world

module _ (line : Line) (ok : IsLine line) (w : World) (sound : IsWorldSound line w)
    (asked : IsAsked line (flow_of w)) where
  once : (c : ℕ) → is_centre line c ≡ true → HasRightOnce (w.at c)
  once c to = right_once line (flow_of w) c sound.flow to

  exact_event : (c : ℕ) → is_centre line c ≡ true → (event : centre.Event) → IsInRange event
      → BringsNoStray line c (w.at c) event
      → IsExactAct line c (w.at c) (came_to line c (w.at c) event) (left_by line c (w.at c) event)
      (sent_by line c (w.at c) event)
  exact_event c to event range due = record {
    rights = λ t. no_right_lost line ok c t (w.at c) event (sound.flow.centres c to) (once c to) due;
    tokens = λ t s. no_token_lost line ok c t s (w.at c) event range (sound.flow.centres c to) (once c to) due;
  }

  -- a frame that is not the next changes nothing that is counted
  exact_aside : (c d : ℕ) (f : Frame) (answer : outcome.Taken) → answer ≢ Next
      → let e : Effect =
      record {
        reply = taken_by line c d f answer (ticked (stamp_of (w.at c) (centre.Deliver d f)) (w.at c));
        link = Some answer;
        silence = None;
      } in
      IsExactAct line c (w.at c) nothing_came (state_after (stamp_of (w.at c) (centre.Deliver d f)) (w.at c) e)
      e.reply.frames
  exact_aside c d f Next apart = absurd (apart refl)
  exact_aside c d f Old apart = record {
    rights = λ t. exact_still (rights line t) (centre_count line) c (w.at c) _ refl refl;
    tokens = λ t s. exact_still (tokens line t s) (centre_count line) c (w.at c) _ refl refl;
  }
  exact_aside c d f Early apart = record {
    rights = λ t. exact_still (rights line t) (centre_count line) c (w.at c) _ refl refl;
    tokens = λ t s. exact_still (tokens line t s) (centre_count line) c (w.at c) _ refl refl;
  }
  exact_aside c d f NoLink apart = record {
    rights = λ t. exact_still (rights line t) (centre_count line) c (w.at c) _ refl refl;
    tokens = λ t s. exact_still (tokens line t s) (centre_count line) c (w.at c) _ refl refl;
  }

  exact_itself : (c : ℕ) → is_centre line c ≡ true → (event : centre.Event) → IsByItself line c (w.at c) event
      → IsExactAct line c (w.at c) nothing_came (left_by line c (w.at c) event) (sent_by line c (w.at c) event)
  exact_itself c to (centre.Train m) alone = let is = exact_event c to (centre.Train m) (record {}) (record {}) in
      record { rights = is.rights; tokens = is.tokens }
  exact_itself c to (centre.Set s) alone = let is = exact_event c to (centre.Set s) (record {}) (record {}) in
      record { rights = is.rights; tokens = is.tokens }
  exact_itself c to (centre.Unset s) alone = let is = exact_event c to (centre.Unset s) (record {}) (record {}) in
      record { rights = is.rights; tokens = is.tokens }
  exact_itself c to (centre.Deliver d f) alone = exact_aside c d f (link_answer line c (w.at c) d f) alone

  exact_next : (a c : ℕ) → is_centre line a ≡ true → is_centre line c ≡ true → (f : Frame)
      → TakesHead (flow_of w) a c f.body → link_answer line c (w.at c) a f ≡ Next
      → IsExactAct line c (w.at c) (came_with a c f.body) (left_by line c (w.at c) (centre.Deliver a f))
      (sent_by line c (w.at c) (centre.Deliver a f))
  exact_next a c from to f head next = record {
    rights = λ t. subst (λ n. IsExact (rights line t) (centre_count line) c (w.at c) n
        (left_by line c (w.at c) (centre.Deliver a f))
        (sent_by line c (w.at c) (centre.Deliver a f))) (came (rights line t)) (is.rights t);
    tokens = λ t s. subst (λ n. IsExact (tokens line t s) (centre_count line) c (w.at c) n
        (left_by line c (w.at c) (centre.Deliver a f))
        (sent_by line c (w.at c) (centre.Deliver a f))) (came (tokens line t s)) (is.tokens t s);
  }
    where
      came : (r : Resource Centre Body) → came_to line c (w.at c) (centre.Deliver a f) r ≡ r.inside a c f.body
      came r = ap (λ answer. came_by c a f answer r) next

      is : IsExactAct line c (w.at c) (came_to line c (w.at c) (centre.Deliver a f))
          (left_by line c (w.at c) (centre.Deliver a f)) (sent_by line c (w.at c) (centre.Deliver a f))
      is = exact_event c to (centre.Deliver a f)
          (sound_hand line a c f.body (each_head (IsBodySound line) (flow_of w) a c f.body head sound.flow.bodies))
          (λ due. looked_for line ok (flow_of w) sound.flow asked a c from to f.body head)

  pub step_loses_nothing : LosesNothing line (flow_of w) → (event : Event) (answer : Answer) (new : World)
      → world_step line w event ≡ Ok (answer, new) → LosesNothing line (flow_of new)
  step_loses_nothing whole = world_step_keeps line w sound.flow sound.numbered (LosesNothing line) whole
      (λ c to event alone. exact_alone line (flow_of w) c (left_by line c (w.at c) event)
      (sent_by line c (w.at c) event) sound.flow.counted to (exact_itself c to event alone) whole)
      (λ a c from to f head next. exact_head line (flow_of w) a c f.body (left_by line c (w.at c) (centre.Deliver a f))
      (sent_by line c (w.at c) (centre.Deliver a f)) sound.flow.counted from to head
      (exact_next a c from to f head next) whole)

-- ## A run

run_loses_nothing : (line : Line) → IsLine line → (events : List Event) (w : World) → IsWorldSound line w
    → IsAsked line (flow_of w) → LosesNothing line (flow_of w)
    → (answers : List Answer) (last : World) → world_run line w events ≡ Ok (answers, last)
    → LosesNothing line (flow_of last)
run_loses_nothing line ok events w sound asked whole answers last is =
    (keeps_run line (λ x. IsWorldSound line x × IsAsked line (flow_of x) × LosesNothing line (flow_of x))
    (λ x old event answer new went. (
      world_step_sound line ok x old.0 event answer new went,
      step_keeps_asked line ok x old.0 old.1 event answer new went,
      step_loses_nothing line ok x old.0 old.1 old.2 event answer new went,
    ))
    events w (sound, asked, whole) answers last is).2

-- after each event of a line
pub never_lost : (line : Line) → IsLine line → (events : List Event) (answers : List Answer) (w : World)
    → world_run line (new_world line) events ≡ Ok (answers, w)
    → LosesNothing line (flow_of w)
never_lost line ok events answers w is =
    run_loses_nothing line ok events (new_world line) (world_begins line) (begins_asked line)
    (line_begins_whole line) answers w is
