-- The view from outside after a step that follows a list of events, and after a list of answers.
use Rattle.std.proofs.Common.{[], ◌++◌, ◌∙◌, ◌∷◌, ◌≡◌, ap, Bool, Err, is_none, List, map, None, Ok, Option, option_map}
use Rattle.std.proofs.Common.{refl, Result, Some}
use Rattle.std.specs.Result.{IfOk}
use Rattle.law_outside.specs.Outside.{Spoken, spoken_of, StaysSafeOutside}
use Rattle.law_promises.proofs.Pieces.{run_safe}
use Rattle.law_reached.proofs.Known.{the_run}
use Rattle.rbc_centre.specs.declared.fault.StepFault.{StepFault}
use Rattle.rbc_centre.specs.rbc_train.Reasons.{reason_of}
use Rattle.rbc_centre.specs.rbc_train.Sayings.{saying_of}
use Rattle.rbc_centre.specs.Views.{words_of}
use Rattle.rbc_spec.specs.Line.{IsLine, Line}
use Rattle.rbc_spec.specs.Outcome.{Told}
use Rattle.rbc_spec.specs.World.{Answer, new_world, World, world_step}
use Rattle.rbc_world.proofs.Reached.{run_on}
use Rattle.rbc_world.specs.Answers.{Gives}
use Rattle.rbc_world.specs.declared.event.Answer.{Answer as AnswerCode}
use Rattle.rbc_world.specs.declared.event.Answer.TheVariants as answer
use Rattle.rbc_world.specs.declared.event.WorldEvent.{WorldEvent}
use Rattle.rbc_world.specs.Views.{answer_of, event_of, spoken_by}

pub step_outside : {X : Type 0} (answer : X → Answer) (line : Line) (ok : IsLine line) (w new : World) (e : WorldEvent)
    (result : Result X StepFault)
    → Gives (λ x. (answer x, new)) result (world_step line w (event_of e))
    → IfOk result (λ x. StaysSafeOutside line w (event_of e) (answer x))
step_outside answer line ok w new e (Ok x) s = λ events answers led.
    let h = the_run line ok (events ++ event_of e ∷ []) (answers ++ answer x ∷ []) new
    (run_on line events (new_world line) w new answers (event_of e) (answer x) led s) in
    run_safe line ok (events ++ event_of e ∷ []) (answers ++ answer x ∷ []) h.last h.is_run
step_outside answer line ok w new e (Err fault) s = tt

-- ## The messages and replies of answers

none_if_none : {X Y : Type 0} (f : X → Y) (o : Option X) → is_none (option_map f o) ≡ is_none o
none_if_none f None = refl
none_if_none f (Some x) = refl

spoken_same : (a : AnswerCode) → spoken_of (answer_of a) ≡ spoken_by a
spoken_same (answer.Outcome o) =
    ap (λ (is_heard : Bool). Some (record {
      is_heard = is_heard;
      sayings = map saying_of o.sayings.items;
      words = words_of o.word ++ map (λ s. Told s) o.told;
    })) (none_if_none reason_of o.silence)
spoken_same answer.NoCentre = refl
spoken_same answer.NotSent = refl
spoken_same (answer.Fault fault) = refl

pub all_spoken : (answers : List AnswerCode) → map spoken_of (map answer_of answers) ≡ map spoken_by answers
all_spoken [] = refl
all_spoken (a ∷ answers) =
    ap (λ (first : Option Spoken). first ∷ map spoken_of (map answer_of answers)) (spoken_same a)
    ∙ ap (λ (rest : List (Option Spoken)). spoken_by a ∷ rest) (all_spoken answers)
