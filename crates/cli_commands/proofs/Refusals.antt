-- The effect of `run` if a step is refused.
use Rattle.std.proofs.Common.{◌≡◌, Err, List, Option, subst, ℕ}
use Rattle.cli_commands.specs.Running.Printed.{LeavesPrint}
use Rattle.cli_commands.specs.Runs.{GivesEntries, GivesLine, LeavesRun}
use Rattle.rbc_spec.specs.Line.{Line}
use Rattle.text_script.specs.declared.play.PlayFault.{PlayFault}
use Rattle.text_script.specs.declared.play.PlayFault.TheVariants.{Refused}
use Rattle.text_script.specs.declared.script.Entry.{Entry}
use Rattle.text_script.specs.declared.status.fault.Fault.TheVariants.{Step}
use Rattle.text_script.specs.rbc_centre.declared.fault.StepFault.{StepFault}
use Rattle.text_script.specs.rbc_centre.declared.fault.StepFault.TheVariants.{ClockEnd, LinkFull, Memory}

module _ (F : Type 0) (gives : List ℕ → Option (List ℕ) → Type 0) (file script : List ℕ) (line : Line)
    (entries : List Entry) (before after : Option (List ℕ)) where
  of_refused : (why : StepFault) → GivesLine gives file line → GivesEntries gives line script entries
      → LeavesPrint {F = F} line entries (Err (Refused why)) before after
      → LeavesRun gives file script (Err (Step why)) before after
  of_refused Memory given asked printed = tt
  of_refused LinkFull given asked printed = (line, entries, (given, asked), printed)
  of_refused ClockEnd given asked printed = (line, entries, (given, asked), printed)

  pub leaves_refused : (held : List Entry) (fault : PlayFault F) (why : StepFault) → held ≡ entries
      → fault ≡ Refused why → GivesLine gives file line → GivesEntries gives line script entries
      → LeavesPrint {F = F} line held (Err fault) before after
      → LeavesRun gives file script (Err (Step why)) before after
  leaves_refused held fault why same is given asked printed =
      of_refused why given asked (
      subst (λ (f : PlayFault F). LeavesPrint {F = F} line entries (Err f) before after) is
      (subst (λ (es : List Entry). LeavesPrint {F = F} line es (Err fault) before after) same printed)
      )
