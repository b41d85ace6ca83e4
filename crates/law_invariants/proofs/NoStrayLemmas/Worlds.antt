-- No question is lost in a world, and no frame of it is stray.
use Rattle.std.proofs.Common.{⊎_elim, ◌&&◌, ◌==◌, ◌≡◌, ◌≢◌, arith, Bool, false, List, ltb-true, Ok, refl, Some, subst}
use Rattle.std.proofs.Common.{sym, true, ℕ}
use Rattle.std.proofs.lemmas.Bool.{cases_eq}
use Rattle.law_base.proofs.CountingLemmas.Network.{counted_took, each_acted, each_head, each_start, each_took}
use Rattle.law_base.proofs.CountingLemmas.Resource.{at_cap_start, placed_exact, placed_exact_took}
use Rattle.law_base.proofs.CountingLemmas.Sums.{put_other, put_same}
use Rattle.law_base.specs.Counting.Network.{acted, IsCounted, TakesHead, took}
use Rattle.law_base.specs.Counting.Resource.{IsFair}
use Rattle.law_base.specs.Counting.Sums.{one_if}
use Rattle.law_invariants.proofs.FlowLemmas.OnePlace.{none_way}
use Rattle.law_invariants.proofs.FlowLemmas.Steps.{next_sent}
use Rattle.law_invariants.proofs.HandoverLemmas.Worlds.{linked_next, sent_between, world_begins, world_step_sound}
use Rattle.law_invariants.proofs.NoStrayLemmas.Acts.{IsAnswering}
use Rattle.law_invariants.proofs.NoStrayLemmas.Steps.{due_head, known_head, step_answering, taken_answering}
use Rattle.law_invariants.proofs.NoUnaskedLemmas.Asking.{comes_with, none_comes}
use Rattle.law_invariants.proofs.NoUnaskedLemmas.Steps.{step_asking, taken_asking}
use Rattle.law_invariants.proofs.NoUnaskedLemmas.Worlds.{begins_asked, step_keeps_asked, world_step_keeps}
use Rattle.law_invariants.specs.Flow.Flow.{centre_count, Flow, flow_of}
use Rattle.law_invariants.specs.Handover.Steps.{left_by, sent_by}
use Rattle.law_invariants.specs.Handover.Worlds.{IsWorldSound}
use Rattle.law_invariants.specs.NoStray.Due.{IsFrameDue}
use Rattle.law_invariants.specs.NoStray.Questions.{HasAsked, HasKnownOuts, IsBodyKnown, LeavesNone}
use Rattle.law_invariants.specs.NoUnasked.Asked.{IsAsked, IsBodyAsked, OfRight, OfRoute, Question, questions}
use Rattle.rbc_spec.proofs.Worlds.{keeps_run}
use Rattle.rbc_spec.specs.Centre.{beginning, Centre}
use Rattle.rbc_spec.specs.Frame.{Body, Frame}
use Rattle.rbc_spec.specs.Line.{is_centre, is_linked, IsLine, Line}
use Rattle.rbc_spec.specs.Maps.{put}
use Rattle.rbc_spec.specs.Outcome.{Next}
use Rattle.rbc_spec.specs.Step as centre
use Rattle.rbc_spec.specs.Step.{link_answer}
use Rattle.rbc_spec.specs.World.{Answer, Event, frame_sent, new_world, World, world_run, world_step}

-- ## At the beginning

none_used : (b : Bool) → 0 ≡ one_if (b && false)
none_used true = refl
none_used false = refl

pub begins_answered : (line : Line) → LeavesNone line (flow_of (new_world line))
unfolding new_world beginning
begins_answered line = record {
  questions = λ x d. at_cap_start (questions x d) (centre_count line) (flow_of (new_world line)) (none_way line)
      (λ c small. none_stands x d c);
  bodies = each_start (IsBodyKnown line) (flow_of (new_world line)) (none_way line);
  outs = λ c. record { each = λ s t out. cc };
  waits = λ c. record { each = λ t some. cc };
}
  where
    none_stands : (x : Question) (d c : ℕ) → 0 ≡ (questions x d).cap c (beginning line c)
    none_stands (OfRight t) d c = none_used (c == d)
    none_stands (OfRoute t first) d c = none_used (c == d)

-- ## A step

module _ (line : Line) (u : Flow) (counted : IsCounted u) (c : ℕ) (to : is_centre line c ≡ true) (y : Centre)
    (frames : ℕ → List Body) where
  outs_put : (HasKnownOuts line (u.at c) → HasKnownOuts line y) → ((e : ℕ) → HasKnownOuts line (u.at e)) → (e : ℕ)
      → HasKnownOuts line (put u.at c y e)
  outs_put here old e = ⊎_elim
      (λ (same : e ≡ c). subst (λ x. HasKnownOuts line (put u.at c y x)) (sym same)
      (subst (HasKnownOuts line) (sym (put_same u.at c y)) (here (old c))))
      (λ (other : e ≢ c). subst (HasKnownOuts line) (sym (put_other u.at c y e other)) (old e))
      (cases_eq e c)

  waits_put : (HasAsked (u.at c) → HasAsked y) → ((e : ℕ) → HasAsked (u.at e)) → (e : ℕ) → HasAsked (put u.at c y e)
  waits_put here old e = ⊎_elim
      (λ (same : e ≡ c). subst (λ x. HasAsked (put u.at c y x)) (sym same)
      (subst HasAsked (sym (put_same u.at c y)) (here (old c))))
      (λ (other : e ≢ c). subst HasAsked (sym (put_other u.at c y e other)) (old e))
      (cases_eq e c)

  answered_acted : ((x : Question) (d : ℕ) → IsFair (questions x d) (centre_count line) c (u.at c) 0 y frames)
      → IsAnswering line c none_comes (u.at c) y frames
      → LeavesNone line u → LeavesNone line (acted u c y frames)
  answered_acted fair is old = record {
    questions = λ x d. placed_exact (questions x d) (centre_count line) u c y frames counted
        (ltb-true c (centre_count line) to) (record { law = omega (arith, (fair x d).law, is.law x d) })
        (old.questions x d);
    bodies = each_acted (IsBodyKnown line) u c y frames counted is.bodies old.bodies;
    outs = outs_put is.outs old.outs;
    waits = waits_put is.waits old.waits;
  }

  answered_taken : (a : ℕ) (f : Body) → is_centre line a ≡ true → TakesHead u a c f
      → ((x : Question) (d : ℕ) → IsFair (questions x d) (centre_count line) c (u.at c) (comes_with a c f x d) y frames)
      → IsAnswering line c (comes_with a c f) (u.at c) y frames → LeavesNone line u
      → LeavesNone line (acted (took u a c) c y frames)
  answered_taken a f from head fair is old = record {
    questions = λ x d. placed_exact_took (questions x d) (centre_count line) u a c f y frames counted
        (ltb-true a (centre_count line) from) (ltb-true c (centre_count line) to) head
        (record { law = omega (arith, (fair x d).law, is.law x d) }) (old.questions x d);
    bodies = each_acted (IsBodyKnown line) (took u a c) c y frames (counted_took u a c f head counted) is.bodies
        (each_took (IsBodyKnown line) u a c f head old.bodies);
    outs = outs_put is.outs old.outs;
    waits = waits_put is.waits old.waits;
  }

module _ (line : Line) (ok : IsLine line) (w : World) (sound : IsWorldSound line w) (asked : IsAsked line (flow_of w))
    (old : LeavesNone line (flow_of w)) where
  pub step_answered : (event : Event) (answer : Answer) (new : World) → world_step line w event ≡ Ok (answer, new)
      → LeavesNone line (flow_of new)
  step_answered = world_step_keeps line w sound.flow sound.numbered (LeavesNone line) old
      (λ c to event alone. answered_acted line (flow_of w) sound.flow.counted c to (left_by line c (w.at c) event)
      (sent_by line c (w.at c) event)
      (step_asking line ok c event (w.at c) alone).fair
      (step_answering line ok c event (w.at c) alone (old.outs c)) old)
      (λ a c from to f head next. answered_taken line (flow_of w) sound.flow.counted c to
      (left_by line c (w.at c) (centre.Deliver a f)) (sent_by line c (w.at c) (centre.Deliver a f))
      a f.body from head
      (taken_asking line ok c a f (w.at c) next
      (each_head (IsBodyAsked line) (flow_of w) a c f.body head asked.bodies)).fair
      (taken_answering line ok c a f (ltb-true a (centre_count line) from)
      (known_head line (flow_of w) old.bodies a c f.body head).known (w.at c) next
      (due_head line ok (flow_of w) sound.flow asked old.bodies a c from to f.body head) (old.outs c)) old)

  -- the next frame of a link is due
  pub frame_due : (a b number : ℕ) (f : Frame) → frame_sent w a b number ≡ Some f
      → link_answer line b (w.at b) a f ≡ Next → IsFrameDue line w a b f
  frame_due a b number f sent next = record {
    known = (known_head line (flow_of w) old.bodies a b f.body head).known;
    due = due_head line ok (flow_of w) sound.flow asked old.bodies a b between.0 between.1 f.body head;
  }
    where
      between : (is_centre line a ≡ true) × (is_centre line b ≡ true)
      between = sent_between line w sound.flow a b number f sent

      head : TakesHead (flow_of w) a b f.body
      head = next_sent w sound.numbered a b number f sent
          (linked_next (is_linked line b a) ((w.at b).taken a) f.number next).1

-- ## A run

-- the facts that are known of a world after a list of events
pub record IsReachedSo (line : Line) (w : World) : Type 0 where
  pub sound : IsWorldSound line w
  pub asked : IsAsked line (flow_of w)
  pub answered : LeavesNone line (flow_of w)

pub step_reached : (line : Line) → IsLine line → (w : World) → IsReachedSo line w
    → (event : Event) (answer : Answer) (new : World) → world_step line w event ≡ Ok (answer, new)
    → IsReachedSo line new
step_reached line ok w old event answer new is = record {
  sound = world_step_sound line ok w old.sound event answer new is;
  asked = step_keeps_asked line ok w old.sound old.asked event answer new is;
  answered = step_answered line ok w old.sound old.asked old.answered event answer new is;
}

pub run_reached : (line : Line) → IsLine line → (events : List Event) (w : World) → IsReachedSo line w
    → (answers : List Answer) (last : World)
    → world_run line w events ≡ Ok (answers, last) → IsReachedSo line last
run_reached line ok = keeps_run line (IsReachedSo line) (step_reached line ok)

-- after each event of a line
pub each_reached : (line : Line) → IsLine line → (events : List Event) (answers : List Answer) (w : World)
    → world_run line (new_world line) events ≡ Ok (answers, w) → IsReachedSo line w
each_reached line ok events answers w is =
    run_reached line ok events (new_world line)
    (record { sound = world_begins line; asked = begins_asked line; answered = begins_answered line }) answers w is
