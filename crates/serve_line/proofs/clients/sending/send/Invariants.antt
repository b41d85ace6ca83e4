use Rattle.serve_line.proofs.clients.sending.send.Given as goal
use Rattle.serve_line.specs.Sendings.{IsWritten}

abbrev pub invariant-loop : goal.invariant-loop
invariant-loop g l =
    IsWritten l.text.answer.items l.rest (g.O.Write.contents l.initial.out) (g.O.Write.contents l.out)
