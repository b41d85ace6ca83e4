-- A connection of the interlocking after an answer.
use Rattle.std.specs.Prelude.{◌+◌, ◌-◌, ◌^◌, List, min, ℕ}
use Rattle.rbc_spec.specs.Line.{Line}
use Rattle.serve_control.specs.Commands.{Bids}
use Rattle.serve_control.specs.declared.command.Command.TheVariants as command
use Rattle.serve_line.specs.declared.clients.control.Next.{Next}
use Rattle.serve_line.specs.declared.clients.control.Next.TheVariants.{End, Listen, Stop, StopNow}
use Rattle.serve_line.specs.declared.clients.rows.Came.{Came}
use Rattle.serve_line.specs.declared.clients.rows.Came.TheVariants.{Row}
use Rattle.serve_line.specs.declared.clients.sending.Sent.{Sent}
use Rattle.serve_line.specs.declared.clients.sending.Sent.TheVariants.{Short, Whole}

-- a connection ends if it did not take the whole of an answer
abbrev pub next_after : Sent → Next
next_after Whole = Listen
next_after Short = End

-- The centres stop only if the line bids that.
abbrev pub IsNextAfter : Line → List ℕ → Next → Type 0
IsNextAfter line row Stop = Bids line row command.Stop
IsNextAfter line row StopNow = Bids line row command.StopNow
IsNextAfter line row next = Unit {0}

-- The centres stop only if some line bids that.
abbrev pub IsNext : Line → Next → Type 0
IsNext line Stop = (row : List ℕ) × Bids line row command.Stop
IsNext line StopNow = (row : List ℕ) × Bids line row command.StopNow
IsNext line next = Unit {0}

-- the number of reads without a line since the last line, after one read more
abbrev pub rests_after : ℕ → Came → ℕ
rests_after rests (Row row) = 0
rests_after rests came = min (rests + 1) (2 ^ 32 - 1)
