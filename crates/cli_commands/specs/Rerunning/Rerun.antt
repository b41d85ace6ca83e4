-- Whether entries are one run of a line.
use Rattle.std.specs.Prelude.{◌++◌, ◌∷◌, ◌≡◌, ◌≢◌, Err, List, map, None, Ok, Option, Result, Some, ℕ}
use Rattle.cli_commands.specs.declared.rerunning.place.Place.{Place}
use Rattle.rbc_spec.specs.Line.{Line}
use Rattle.rbc_spec.specs.World.{Answer, Answered, Event, Fault, new_world, NoCentre, NotSent, World, world_run}
use Rattle.rbc_spec.specs.World.{world_step}
use Rattle.text_journal.specs.declared.entry.Entry.{Entry}
use Rattle.text_journal.specs.Order.{taken_at}
use Rattle.text_script.specs.rbc_centre.declared.fault.StepFault.{StepFault}
use Rattle.text_script.specs.rbc_world.Answers.{IsRefusedRun}
use Rattle.text_script.specs.rbc_world.Views.{event_of}

-- the event of the world at an entry
abbrev pub happened : Entry → Event
happened e = event_of e.event

-- the stamp of an answer; an answer that changes nothing has none
abbrev pub stamp_of : Answer → Option ℕ
stamp_of (Answered outcome) = Some outcome.stamp
stamp_of NoCentre = None
stamp_of NotSent = None
stamp_of (Fault number) = None

-- The entries are a run of the line: from its beginning the centres answer each event with the stamp of its entry.
-- The run ends in this world.
pub record IsRerun (line : Line) (es : List Entry) (last : World) : Type 0 where
  pub answers : List Answer
  pub run : world_run line (new_world line) (map happened es) ≡ Ok (answers, last)
  pub stamps : map stamp_of answers ≡ map (λ e. Some e.stamp) es

-- The entries before one are a run of the line. The answer to this one's event has no stamp, or another stamp. The
-- entry is from the journal of this centre.
pub record IsFirstUnfit (line : Line) (es : List Entry) (place : Place) : Type 0 where
  pub front : List Entry
  pub rest : List Entry
  pub entry : Entry
  pub reached : World
  pub answer : Answer
  pub next : World
  pub cut : es ≡ front ++ entry ∷ rest
  pub fits : IsRerun line front reached
  pub step : world_step line reached (happened entry) ≡ Ok (answer, next)
  pub other : stamp_of answer ≢ Some entry.stamp
  pub centre : place.centre ≡ taken_at entry

-- the result for entries: they are a run; or the first unfit entry; or a step of their run is refused
abbrev pub Finds : Line → List Entry → Result (Option Place) StepFault → Type 0
Finds line es (Ok None) = (last : World) × IsRerun line es last
Finds line es (Ok (Some place)) = IsFirstUnfit line es place
Finds line es (Err fault) = IsRefusedRun line (map happened es) fault
