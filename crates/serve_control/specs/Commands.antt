-- The commands of the control endpoint.
use Rattle.std.specs.Prelude.{◌≡◌, ◌≢◌, ℕ, List, [], ◌∷◌, map, filter, codes, Option, Some, None, ◌⊎◌}
use Rattle.rbc_spec.specs.Line.{Line}
use Rattle.text_script.specs.Script as script
use Rattle.text_script.specs.Script.{Asked, row_asks, is_kept, rows}
use Rattle.text_script.specs.Entries.{IsFirstFault}
use Rattle.text_script.specs.declared.script.ScriptFault.TheVariants as refused
use Rattle.serve_control.specs.declared.command.Command.{Command}
use Rattle.serve_control.specs.declared.command.Command.TheVariants as command
use Rattle.serve_control.specs.declared.command.CommandFault.{CommandFault}
use Rattle.serve_control.specs.declared.command.CommandFault.TheVariants as fault

-- the command of one line of a script, if the interlocking may give it: no event of a train or of a link
abbrev pub bidden_once : Asked → Option Command
bidden_once script.Show = Some command.Show
bidden_once (script.Set centre section) = Some (command.Set centre section)
bidden_once (script.Unset centre section) = Some (command.Unset centre section)
bidden_once asked = None

-- the command of the lines of a script, if there is at most one
abbrev pub bidden : List Asked → Option Command
bidden [] = Some command.Nothing
bidden (one ∷ []) = bidden_once one
bidden (one ∷ next ∷ others) = None

-- the lines of the text that are not skipped ask for this, in order
abbrev pub AskFor : Line → List ℕ → List Asked → Type 0
AskFor line text asked = map Some asked ≡ map (row_asks line) (filter is_kept (rows text))

-- the text is `stop` or `stop now`, or asks for this in the form of a script
abbrev pub Bids : Line → List ℕ → Command → Type 0
Bids line text command.Stop = text ≡ codes "stop"
Bids line text command.StopNow = text ≡ codes "stop now"
Bids line text other = (asked : List Asked) × AskFor line text asked × (bidden asked ≡ Some other)

-- Memory ran out; or the text is not `stop` or `stop now`, and is not a script of a command that the interlocking may
-- give.
abbrev pub IsNoCommand : Line → List ℕ → CommandFault → Type 0
IsNoCommand line text fault.Memory = Unit {0}
IsNoCommand line text fault.Form =
    (text ≢ codes "stop") × (text ≢ codes "stop now")
    × (((n : ℕ) × IsFirstFault line (rows text) (refused.Form n))
    ⊎ ((asked : List Asked) × AskFor line text asked × (bidden asked ≡ None)))
