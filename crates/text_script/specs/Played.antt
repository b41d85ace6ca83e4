-- A script is played on a world, and each step is reported.
use Rattle.std.specs.Prelude.{[], ◌++◌, ◌∷◌, ◌≡◌, Err, List, Ok, Result}
use Rattle.rbc_spec.specs.Line.{Line}
use Rattle.rbc_spec.specs.World as spec
use Rattle.rbc_spec.specs.World.{World, world_step}
use Rattle.rbc_world.specs.Answers.{IsRefusal}
use Rattle.rbc_world.specs.declared.event.WorldEvent.{WorldEvent}
use Rattle.rbc_world.specs.rbc_centre.declared.fault.StepFault.{StepFault}
use Rattle.rbc_world.specs.Views.{event_of}
use Rattle.text_script.specs.declared.play.PlayFault.{PlayFault}
use Rattle.text_script.specs.declared.play.PlayFault.TheVariants.{Refused, Untold}
use Rattle.text_script.specs.declared.script.Entry.{Entry}
use Rattle.text_script.specs.declared.script.Entry.TheVariants as entry

-- a report to the observer: the centres of a line, an event that comes next, or the answer to that event
pub data Telling : Type 0 where
  Showing : (line : Line) → (world : World) → Telling
  Coming : (event : WorldEvent) → Telling
  Answering : (event : WorldEvent) → (answer : spec.Answer) → Telling

-- `tells t telling u`: a report takes the observer from t to u.

-- The entries are played on world w and reported to t. All are answered, and reported in order. This leaves world v and
-- the observer u.
abbrev pub IsPlayed : {T : Type 0} → (T → Telling → T → Type 0) → Line → World → T → List Entry → World → T → Type 0
IsPlayed tells line w t [] v u = (v ≡ w) × (u ≡ t)
IsPlayed {T} tells line w t (entry.Show ∷ rest) v u =
    (s : T) × tells t (Showing line w) s × IsPlayed tells line w s rest v u
IsPlayed {T} tells line w t (entry.Event event ∷ rest) v u =
    (answer : spec.Answer) × (x : World) × (s r : T) × (world_step line w (event_of event) ≡ Ok (answer, x))
    × tells t (Coming event) s × tells s (Answering event answer) r × IsPlayed tells line x r rest v u

-- The entries before one event are played. Then this event is reported, and its step is refused. Nothing after it is
-- reported, and the world is as it was before the step.
abbrev pub IsStopped : {T : Type 0} → (T → Telling → T → Type 0) → Line → World → T → List Entry → StepFault → World → T
    → Type 0
IsStopped {T} tells line w t entries fault v u =
    (front rest : List Entry) × (event : WorldEvent) × (s : T) × (entries ≡ front ++ entry.Event event ∷ rest)
    × IsPlayed tells line w t front v s × tells s (Coming event) u
    × IsRefusal fault (world_step line v (event_of event))

-- the result of the call; nothing is claimed if the observer failed
abbrev pub Leaves : {T F : Type 0} → (T → Telling → T → Type 0) → Line → World → T → List Entry
    → Result (Unit {0}) (PlayFault F) → World → T → Type 0
Leaves tells line w t entries (Ok done) v u = IsPlayed tells line w t entries v u
Leaves tells line w t entries (Err (Refused fault)) v u = IsStopped tells line w t entries fault v u
Leaves tells line w t entries (Err (Untold why)) v u = Unit {0}
