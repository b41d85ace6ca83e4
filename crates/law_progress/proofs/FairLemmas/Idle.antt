-- Deliveries that change nothing, and the next frame of a link.
use Rattle.std.proofs.Common.{[], ◌++◌, ◌∙◌, ◌∷◌, ◌≡◌, ◌≢◌, ◌⊎◌, ap, arith, drop, Err, inl, inr, ltb-true, map, None}
use Rattle.std.proofs.Common.{Ok, Option, refl, Result, Some, subst, suc, sym, zero, ℕ}
use Rattle.std.proofs.lemmas.List.{append-nil}
use Rattle.std.specs.List.{flat_map, sum_by}
use Rattle.std.specs.Option.{option_map_or}
use Rattle.law_base.proofs.PiecesLemmas.Loop.{run_of_none}
use Rattle.law_base.specs.Counting.Network.{TakesHead}
use Rattle.law_invariants.proofs.FlowLemmas.Seats.{way_is}
use Rattle.law_invariants.proofs.FlowLemmas.Steps.{is_next, next_sent, sent_number}
use Rattle.law_invariants.proofs.HandoverLemmas.Worlds.{linked_next, sent_between}
use Rattle.law_invariants.proofs.NoStrayLemmas.Worlds.{each_reached, IsReachedSo, step_reached}
use Rattle.law_invariants.specs.Flow.Flow.{centre_count, flow_of}
use Rattle.law_progress.proofs.RestLemmas.Rest.{no_way, work_is}
use Rattle.law_progress.specs.Fair.Schedule.{after, clockless, IsSameButClocks, IsSilent, next_number, world_after}
use Rattle.law_progress.specs.Rest.Rest.{work, work_of}
use Rattle.rbc_spec.proofs.Lists.{put_keeps}
use Rattle.rbc_spec.specs.Centre.{Centre}
use Rattle.rbc_spec.specs.Frame.{Frame}
use Rattle.rbc_spec.specs.Line.{is_linked, IsLine, Line}
use Rattle.rbc_spec.specs.Outcome as outcome
use Rattle.rbc_spec.specs.Outcome.{Early, Next, NoLink, Old}
use Rattle.rbc_spec.specs.ReadOff.{centres_of}
use Rattle.rbc_spec.specs.Step as centre
use Rattle.rbc_spec.specs.Step.{Effect, link_answer, outcome_of, Refusal, refusal, stamp_of, state_after, step}
use Rattle.rbc_spec.specs.Step.{taken_by, ticked}
use Rattle.rbc_spec.specs.World as world
use Rattle.rbc_spec.specs.World.{Answer, Delivery, Event, frame_sent, new_world, NotSent, stepped, takes, way, World}
use Rattle.rbc_spec.specs.World.{world_step}

-- # A delivery is of the next frame of its link, or changes at most a clock, without messages, frames and replies.

-- centre a has sent a frame to centre b under this number, and it is the next that b takes of a
pub record IsNext (line : Line) (w : World) (a b number : ℕ) : Type 0 where
  pub frame : Frame
  pub sent : frame_sent w a b number ≡ Some frame
  pub next : link_answer line b (w.at b) a frame ≡ Next

-- ## The same but for clocks

pub same_itself : (w : World) → IsSameButClocks w w
same_itself w = record { trains = refl; centres = λ c. refl }

pub same_on : (u w v : World) → IsSameButClocks u w → IsSameButClocks w v → IsSameButClocks u v
same_on u w v first then =
    record { trains = then.trains ∙ first.trains; centres = λ c. then.centres c ∙ first.centres c }

module _ (line : Line) (w v : World) (same : IsSameButClocks w v) where
  same_sent : (a b : ℕ) → (v.at a).sent b ≡ (w.at a).sent b
  same_sent a b = ap (λ (k : Centre). k.sent b) (same.centres a)

  same_taken : (a b : ℕ) → (v.at b).taken a ≡ (w.at b).taken a
  same_taken a b = ap (λ (k : Centre). k.taken a) (same.centres b)

  same_way : (a b : ℕ) → way v a b ≡ way w a b
  same_way a b = ap (λ n. drop n ((v.at a).sent b)) (same_taken a b) ∙ ap (drop ((w.at b).taken a)) (same_sent a b)

  pub same_work : work line v ≡ work line w
  same_work = λ i. sum_by (λ (f : Frame). work_of (centre_count line) f.body)
      (flat_map (λ a. flat_map (λ b. same_way a b i) (centres_of line)) (centres_of line))

  -- what is the next of its link stays so
  pub stays_next : (a b number : ℕ) → IsNext line w a b number → IsNext line v a b number
  stays_next a b number is = record {
    frame = is.frame;
    sent = subst (λ (k : Centre). frame_sent (record w { at = λ c. k }) a b number ≡ Some is.frame)
        (sym (same.centres a)) is.sent;
    next = subst (λ (k : Centre). link_answer line b k a is.frame ≡ Next) (sym (same.centres b)) is.next;
  }

-- ## A delivery

pub record IsIdle (w : World) (r : Result (Answer × World) Refusal) : Type 0 where
  pub same : IsSameButClocks w (after w r)
  pub silent : IsSilent r

module _ (line : Line) (w : World) where
  -- a frame that its link does not take
  abbrev EffectOf : (a b : ℕ) (f : Frame) → outcome.Taken → Effect
  EffectOf a b f answer =
      record {
        reply = taken_by line b a f answer (ticked (stamp_of (w.at b) (centre.Deliver a f)) (w.at b));
        link = Some answer;
        silence = None;
      }

  abbrev Answers : (a b : ℕ) (f : Frame) → Option Refusal → outcome.Taken → Result (Answer × World) Refusal
  Answers a b f o answer = stepped w b w.trains (option_map_or (λ why. Err why) o
      (Ok (
        outcome_of (stamp_of (w.at b) (centre.Deliver a f)) (w.at b) (EffectOf a b f answer),
        state_after (stamp_of (w.at b) (centre.Deliver a f)) (w.at b) (EffectOf a b f answer),
      )))

  ticks_alone : (stamp : ℕ) (k : Centre)
      → clockless (record (ticked stamp k) { sent = λ d. k.sent d ++ [] }) ≡ clockless k
  ticks_alone stamp k = λ i. record k { clock = 0; sent = λ d. append-nil (k.sent d) i }

  idle_old : (a b : ℕ) (f : Frame) (o : Option Refusal) → IsIdle w (Answers a b f o Old)
  idle_old a b f (Some why) = record { same = same_itself w; silent = record {} }
  idle_old a b f None = record {
    same = record {
      trains = refl;
      centres = put_keeps clockless w.at b _
          (ticks_alone (stamp_of (w.at b) (centre.Deliver a f)) (w.at b));
    };
    silent = (refl, λ d. refl, refl);
  }

  idle_early : (a b : ℕ) (f : Frame) (o : Option Refusal) → IsIdle w (Answers a b f o Early)
  idle_early a b f (Some why) = record { same = same_itself w; silent = record {} }
  idle_early a b f None = record {
    same = record {
      trains = refl;
      centres = put_keeps clockless w.at b _
          (ticks_alone (stamp_of (w.at b) (centre.Deliver a f)) (w.at b));
    };
    silent = (refl, λ d. refl, refl);
  }

  idle_unlinked : (a b : ℕ) (f : Frame) (o : Option Refusal) → IsIdle w (Answers a b f o NoLink)
  idle_unlinked a b f (Some why) = record { same = same_itself w; silent = record {} }
  idle_unlinked a b f None = record {
    same = record {
      trains = refl;
      centres = put_keeps clockless w.at b _
          (ticks_alone (stamp_of (w.at b) (centre.Deliver a f)) (w.at b));
    };
    silent = (refl, λ d. refl, refl);
  }

  pub idle_or_next : (a b number : ℕ) → IsIdle w (world_step line w (Delivery a b number)) ⊎ IsNext line w a b number
  unfolding world_step step
  idle_or_next a b number = by_frame (frame_sent w a b number) refl
    where
      by_answer : (f : Frame) → frame_sent w a b number ≡ Some f → (answer : outcome.Taken)
          → link_answer line b (w.at b) a f ≡ answer
          → IsIdle w (takes line w b w.trains (centre.Deliver a f)) ⊎ IsNext line w a b number
      by_answer f sent Next is = inr (record { frame = f; sent = sent; next = is })
      by_answer f sent Old is =
          inl (subst (λ x. IsIdle w (Answers a b f (refusal line b (w.at b) (centre.Deliver a f)) x))
          (sym is) (idle_old a b f _))
      by_answer f sent Early is =
          inl (subst (λ x. IsIdle w (Answers a b f (refusal line b (w.at b) (centre.Deliver a f)) x))
          (sym is) (idle_early a b f _))
      by_answer f sent NoLink is =
          inl (subst (λ x. IsIdle w (Answers a b f (refusal line b (w.at b) (centre.Deliver a f)) x))
          (sym is) (idle_unlinked a b f _))

      by_frame : (o : Option Frame) → frame_sent w a b number ≡ o
          → IsIdle w (option_map_or (λ f. takes line w b w.trains (centre.Deliver a f)) o (Ok (NotSent, w)))
          ⊎ IsNext line w a b number
      by_frame None none = inl (record { same = same_itself w; silent = record {} })
      by_frame (Some f) sent = by_answer f sent (link_answer line b (w.at b) a f) refl

-- # A fair schedule reaches rest: each accepted delivery leaves less work on the way, and there is one while there is
-- work.

-- ## The next of a link

module _ (line : Line) (w : World) (reached : IsReachedSo line w) (a b number : ℕ) (is : IsNext line w a b number) where
  head : TakesHead (flow_of w) a b is.frame.body
  head = next_sent w reached.sound.numbered a b number is.frame is.sent
      (linked_next (is_linked line b a) ((w.at b).taken a) is.frame.number is.next).1

  -- its link has frames on the way
  pub on_way : world.way w a b ≢ []
  on_way none = let wrong : [] ≡ is.frame.body ∷ _ = sym (ap (map (λ (f : Frame). f.body)) none)
      ∙ sym (way_is w a b) ∙ head.head in cc

  -- there is work, since frames are on the way
  pub none_next : work line w ≡ 0 → ⊥
  none_next none = let between = sent_between line w reached.sound.flow a b number is.frame is.sent in
      on_way (no_way line w (omega (arith, none, work_is line w)) a b (ltb-true a (centre_count line) between.0)
      (ltb-true b (centre_count line) between.1))

  pub number_is : number ≡ next_number w a b
  number_is = sym (sent_number w reached.sound.numbered a b number is.frame is.sent)
      ∙ is_next ((w.at b).taken a) is.frame.number
      (linked_next (is_linked line b a) ((w.at b).taken a) is.frame.number is.next).1

-- ## A schedule

-- the facts that are known of each world of the schedule
pub reached_at : (line : Line) → IsLine line → (schedule : ℕ → Event) (n : ℕ)
    → IsReachedSo line (world_after line schedule n)
unfolding world_after
reached_at line ok schedule zero = each_reached line ok [] [] (new_world line) (run_of_none line (new_world line))
reached_at line ok schedule (suc n) =
    by_step (reached_at line ok schedule n) (world_step line (world_after line schedule n) (schedule n)) refl
  where
    by_step : IsReachedSo line (world_after line schedule n) → (r : Result (Answer × World) Refusal)
        → world_step line (world_after line schedule n) (schedule n) ≡ r
        → IsReachedSo line (after (world_after line schedule n) r)
    by_step old (Err why) is = old
    by_step old (Ok (answer, new)) is =
        step_reached line ok (world_after line schedule n) old (schedule n) answer new is
