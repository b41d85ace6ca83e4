-- A connection of the interlocking after a line.
use Rattle.std.proofs.Common.{List, ℕ}
use Rattle.rbc_spec.specs.Line.{Line}
use Rattle.serve_line.specs.Answering.{IsNext, IsNextAfter}
use Rattle.serve_line.specs.declared.clients.control.Next.{Next}
use Rattle.serve_line.specs.declared.clients.control.Next.TheVariants.{End, Listen, Stop, StopNow}

pub next_by : (line : Line) (row : List ℕ) (next : Next) → IsNextAfter line row next → IsNext line next
next_by line row Stop is = (row, is)
next_by line row StopNow is = (row, is)
next_by line row Listen is = tt
next_by line row End is = tt
