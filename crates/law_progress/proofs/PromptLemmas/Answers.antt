-- The delivery of a question puts its answer on the way, and the delivery of an answer ends its question.
use Rattle.std.proofs.Common.{◌+◌, ◌∙◌, ◌≡◌, ap, Err, false, length, List, None, Ok, Option, refl, Result}
use Rattle.std.proofs.Common.{Some, subst, sym, true, ℕ}
use Rattle.std.specs.Option.{option_map_or}
use Rattle.law_base.specs.Walk.Trains.{train_of}
use Rattle.law_invariants.specs.NoCopy.Steps.{done}
use Rattle.law_invariants.specs.NoStray.Due.{IsDue, IsFrameDue}
use Rattle.law_invariants.specs.NoUnasked.Asked.{answers, asks, OfRight, OfRoute, Question, stands}
use Rattle.law_progress.proofs.PromptLemmas.Rules.{answer_ends, answer_sent, IsAnswer}
use Rattle.rbc_spec.specs.Acts.{◌>>◌, Reply}
use Rattle.rbc_spec.specs.Centre.{Centre}
use Rattle.rbc_spec.specs.Frame.{AskRight, Body, Frame}
use Rattle.rbc_spec.specs.Line.{IsLine, Line}
use Rattle.rbc_spec.specs.Links.{is_train, received}
use Rattle.rbc_spec.specs.Maps.{put}
use Rattle.rbc_spec.specs.Outcome as outcome
use Rattle.rbc_spec.specs.Outcome.{Early, Next, NoLink, Old, Outcome}
use Rattle.rbc_spec.specs.Step as centre
use Rattle.rbc_spec.specs.Step.{link_answer, numbered, Refusal, refusal, stamp_of, step, taken, taken_by, ticked}
use Rattle.rbc_spec.specs.World.{Answer, Answered, Delivery, Event, Fault, frame_sent, new_world, NoCentre, NotSent}
use Rattle.rbc_spec.specs.World.{stepped}
use Rattle.rbc_spec.specs.World.{takes, World, world_run, world_step}
use Rattle.law_invariants.proofs.NoStrayLemmas.Reached.{delivered_at, due}
use Rattle.law_progress.specs.Prompt.Answering.{PutsAnswer}

-- whether a frame is due does not depend on the clock and on the counts of taken frames
same_due : (line : Line) (a c stamp : ℕ) (count : ℕ → ℕ) (k : Centre) (f : Body) → IsDue line a c k f
    → IsDue line a c (record k { clock = stamp; taken = count }) f
same_due line a c stamp count k (AskRight t) is = is
same_due line a c stamp count k f is = is

module _ (line : Line) (a b : ℕ) (k : Centre) (f : Frame) (next : link_answer line b k a f ≡ Next)
    (known : is_train line (train_of f.body) ≡ true) (due : IsDue line a b k f.body) (x : Question) where
  abbrev stamp : ℕ
  stamp = stamp_of k (centre.Deliver a f)

  abbrev i : Centre
  i = record k { clock = stamp; taken = put k.taken a f.number }

  abbrev reply : Reply
  reply = (done line b k (centre.Deliver a f)).reply

  same_frames : (o : outcome.Taken) → o ≡ Next
      → (taken_by line b a f o (ticked stamp k)).frames a ≡ (received line b a f.body i).frames a
  unfolding ◌>>◌
  same_frames Next is = refl
  same_frames Old is = cc
  same_frames Early is = cc
  same_frames NoLink is = cc

  same_stands : (o : outcome.Taken) → o ≡ Next
      → stands x (taken_by line b a f o (ticked stamp k)).state ≡ stands x (received line b a f.body i).state
  unfolding ◌>>◌
  same_stands Next is = refl
  same_stands Old is = cc
  same_stands Early is = cc
  same_stands NoLink is = cc

  pub puts_answer : asks x f.body ≡ true → PutsAnswer x ((taken line b (centre.Deliver a f) k).0.frames a)
  puts_answer is = let sent : IsAnswer x ((received line b a f.body i).frames a) =
      answer_sent line b a i x f.body is known (same_due line a b stamp (put k.taken a f.number) k f.body due) in
      record {
        frame = record { number = length (k.sent a) + 1; stamp = stamp; body = sent.body };
        alone = ap (numbered stamp (length (k.sent a))) (same_frames (link_answer line b k a f) next ∙ sent.alone);
        answers_it = sent.answers_it;
      }

  left_stands : (y : Question) → stands y (taken line b (centre.Deliver a f) k).1 ≡ stands y reply.state
  left_stands (OfRight t) = refl
  left_stands (OfRoute t first) = refl

  pub ends_question : answers x f.body ≡ true → stands x (taken line b (centre.Deliver a f) k).1 ≡ false
  ends_question is = left_stands x ∙ same_stands (link_answer line b k a f) next
      ∙ answer_ends line b a i x f.body is known (same_due line a b stamp (put k.taken a f.number) k f.body due)

-- ## In a world

-- the outcome of a step, or this one
abbrev pub outcome_in : Outcome → Result (Answer × World) Refusal → Outcome
outcome_in o (Ok (Answered p, new)) = p
outcome_in o (Ok (NoCentre, new)) = o
outcome_in o (Ok (NotSent, new)) = o
outcome_in o (Ok (Fault number, new)) = o
outcome_in o (Err why) = o

module _ (line : Line) (ok : IsLine line) (events : List Event) (replies : List Answer) (w : World)
    (before : world_run line (new_world line) events ≡ Ok (replies, w)) (a b number : ℕ) (f : Frame)
    (sent : frame_sent w a b number ≡ Some f) (next : link_answer line b (w.at b) a f ≡ Next) (x : Question) where
  is_due : IsFrameDue line w a b f
  is_due = due line ok events replies w before a b number f sent next

  by_refusal : (o : Outcome) (new : World) (r : Option Refusal)
      → stepped w b w.trains (option_map_or (λ why. Err why) r (Ok (taken line b (centre.Deliver a f) (w.at b))))
      ≡ Ok (Answered o, new) → (taken line b (centre.Deliver a f) (w.at b)).0 ≡ o
  by_refusal o new (Some why) is = cc
  by_refusal o new None is = ap (outcome_in o) is

  answer_of : (o : Outcome) (new : World) → world_step line w (Delivery a b number) ≡ Ok (Answered o, new)
      → (taken line b (centre.Deliver a f) (w.at b)).0 ≡ o
  unfolding world_step step
  answer_of o new done = by_refusal o new (refusal line b (w.at b) (centre.Deliver a f))
      (sym (ap (λ g. option_map_or (λ h. takes line w b w.trains (centre.Deliver a h)) g (Ok (NotSent, w))) sent)
      ∙ done)

  pub sends_at_once : asks x f.body ≡ true → (o : Outcome) (new : World)
      → world_step line w (Delivery a b number) ≡ Ok (Answered o, new) → PutsAnswer x (o.frames a)
  sends_at_once is o new done = subst (λ (p : Outcome). PutsAnswer x (p.frames a)) (answer_of o new done)
      (puts_answer line a b (w.at b) f next is_due.known is_due.due x is)

  pub ends_at_once : answers x f.body ≡ true → (answer : Answer) (new : World)
      → world_step line w (Delivery a b number) ≡ Ok (answer, new) → stands x (new.at b) ≡ false
  ends_at_once is answer new done = ap (stands x) (delivered_at line w a b number f answer new sent done)
      ∙ ends_question line a b (w.at b) f next is_due.known is_due.due x is
