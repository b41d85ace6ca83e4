-- The meaning of a line at the control endpoint.
use Rattle.std.specs.Prelude.{Err, IsUtf8, List, Ok, Result, ℕ, ⊤}
use Rattle.rbc_spec.specs.Line.{Line}
use Rattle.serve_control.specs.Commands.{Bids, IsNoCommand}
use Rattle.serve_control.specs.declared.command.Command.{Command}
use Rattle.serve_control.specs.declared.command.CommandFault.TheVariants.{Form, Memory}
use Rattle.serve_control.specs.declared.command.CommandFault.{CommandFault}
use Rattle.serve_control.specs.declared.meaning.Meaning.TheVariants as meaning
use Rattle.serve_control.specs.declared.meaning.Meaning.{Meaning}

-- the meaning by the command of a line
abbrev pub meaning_by : Result Command CommandFault → Meaning
meaning_by (Ok command) = meaning.Command command
meaning_by (Err Form) = meaning.NoForm
meaning_by (Err Memory) = meaning.NoMemory

-- The meaning of a line that is not of another protocol: its command, if it has one. Bytes that are not UTF-8 have no
-- form.
abbrev pub IsMeaning : Line → List ℕ → Meaning → Type 0
IsMeaning line row (meaning.Command command) = IsUtf8 row × Bids line row command
IsMeaning line row meaning.NoForm = IsUtf8 row → IsNoCommand line row Form
IsMeaning line row meaning.Foreign = ⊥
IsMeaning line row meaning.NoMemory = ⊤
