-- The answers to the interlocking at the control endpoint.
use Rattle.std.specs.Prelude.{◌≡◌, ℕ, List, ◌++◌, Result, Ok, Err, codes}
use Rattle.std.specs.Fmt.{decimal}
use Rattle.rbc_spec.specs.Line.{Line}
use Rattle.text_script.specs.rbc_centre.Views.{outcome_of}
use Rattle.text_script.specs.rbc_centre.declared.outcome.Outcome.{Outcome}
use Rattle.text_script.specs.rbc_world.declared.event.WorldEvent.{WorldEvent}
use Rattle.rbc_node.specs.Faults.{number_of_fault}
use Rattle.rbc_node.specs.declared.fault.ShareFault.{ShareFault}
use Rattle.text_script.specs.Print.Rows.{name_at, event_row}
use Rattle.text_script.specs.Print.Answers.{IsOutcomePrint}

-- the line of a refusal: the number of its fault
abbrev pub refusal_row : ShareFault → List ℕ
refusal_row fault = codes "refused " ++ (decimal (number_of_fault fault) ++ codes "\n")

-- the event and its effects at centre c, or the fault for which the commit was refused
abbrev pub IsCommitPrint : Line → ℕ → WorldEvent → Result Outcome ShareFault → List ℕ → Type 0
IsCommitPrint line c event (Ok outcome) text =
    (rows : List ℕ) × IsOutcomePrint line (name_at line c) (outcome_of outcome) rows
    × (text ≡ event_row line event ++ rows)
IsCommitPrint line c event (Err fault) text = text ≡ refusal_row fault
