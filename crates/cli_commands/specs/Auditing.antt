-- The results of the command that audits.
use Rattle.std.specs.Prelude.{Err, List, Ok, Result}
use Rattle.text_replay.specs.declared.comparing.verdict.Verdict.{Verdict}
use Rattle.text_replay.specs.declared.comparing.verdict.Verdict.TheVariants.{Differs, Equal}
use Rattle.cli_commands.specs.declared.rerunning.place.Place.{Place}
use Rattle.cli_commands.specs.Rerunning.Rerun.{IsFirstUnfit, IsRerun}
use Rattle.rbc_spec.specs.Line.{Line}
use Rattle.rbc_spec.specs.World.{World}
use Rattle.text_journal.specs.declared.entry.Entry.{Entry}
use Rattle.text_script.specs.declared.status.fault.Fault.{Fault}
use Rattle.text_script.specs.declared.status.fault.Fault.TheVariants as fault

-- the result of the command by its verdict: only an equal print is a success; or the writer refused a write
abbrev pub Reports : Result (Unit {0}) Fault → Verdict → Type 0
Reports (Err fault.Write) verdict = Unit {0}
Reports (Err fault.Differs) (Differs line) = Unit {0}
Reports (Ok done) (Equal events) = Unit {0}
Reports result verdict = ⊥

-- The result of an audit of journals with these entries. It is a success only if they are a run of the line. It is a
-- difference only if there is a first entry that does not fit.
abbrev pub Audits : {T : Type 0} → Line → List Entry → Result T Fault → Type 0
Audits line es (Ok part) = (last : World) × IsRerun line es last
Audits line es (Err fault.Differs) = (place : Place) × IsFirstUnfit line es place
Audits line es (Err why) = Unit {0}
