use Rattle.std.proofs.Common.{◌++◌, ◌≡◌, drop}
use Rattle.text_replay.proofs.stretch.stretches_to.Given as goal
use Rattle.text_replay.specs.Noted.{stretches_to}

abbrev pub invariant-loop-i : goal.invariant-loop-i
invariant-loop-i l =
    l.stretches.items ++ stretches_to l.events (drop l.i l.changes) ≡ stretches_to l.events l.changes
