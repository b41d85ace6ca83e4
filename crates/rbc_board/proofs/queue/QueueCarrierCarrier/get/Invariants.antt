use Rattle.std.proofs.Common.{◌≡◌, false, None, Some, ℕ}
use Rattle.rbc_board.proofs.queue.QueueCarrierCarrier.get.Given as goal
use Rattle.rbc_board.specs.InStep.{found}
use Rattle.rbc_board.specs.Ties.{IsTied}
use Rattle.rbc_linkmsg.specs.declared.frame.Frame.{Frame}

abbrev pub invariant-loop : goal.invariant-loop
invariant-loop g l =
    IsTied l.self.queue l.seen
    × ((n : ℕ) (f : Frame) → found n l.initial.seen.known.items ≡ Some f → found n l.seen.known.items ≡ Some f)
    × (found l.number l.seen.known.items ≡ None)
    × (l.seen.puts ≡ false)
