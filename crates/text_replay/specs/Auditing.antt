-- The results of an audit.
use Rattle.std.specs.Prelude.{◌+◌, ◌-◌, ◌^◌, Err, min, None, Ok, Option, Result, Some, ℕ}
use Rattle.text_replay.specs.declared.comparing.verdict.Verdict.{Verdict}
use Rattle.text_replay.specs.declared.comparing.verdict.Verdict.TheVariants.{Differs, Equal}
use Rattle.text_script.specs.declared.script.Entry.{Entry as Asked}
use Rattle.text_script.specs.declared.script.Entry.TheVariants as asked
use Rattle.text_script.specs.declared.status.fault.Fault.{Fault}
use Rattle.text_script.specs.declared.status.fault.Fault.TheVariants as fault
use Rattle.text_script.specs.rbc_centre.declared.fault.StepFault.{StepFault}

-- The answer of an audit, if no more lines come. A line without a form is reported before a refused step, and a
-- refused step before the first line that differs. Without all of these the print is equal, with this many events.
abbrev pub audited : Option ℕ → Option StepFault → Option ℕ → ℕ → Result Verdict Fault
audited (Some row) refused differs events = Err (fault.Script row)
audited None (Some why) differs events = Err (fault.Step why)
audited None None (Some line) events = Ok (Differs line)
audited None None None events = Ok (Equal events)

-- the number of events after one more entry: `show` is not an event
abbrev pub counted : Asked → ℕ → ℕ
counted (asked.Event event) n = min (n + 1) (2 ^ 64 - 1)
counted asked.Show n = n
