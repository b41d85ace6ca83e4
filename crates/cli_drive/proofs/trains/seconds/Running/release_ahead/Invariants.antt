use Rattle.std.proofs.Common.{◌≡◌}
use Rattle.cli_drive.proofs.trains.seconds.Running.release_ahead.Given as goal

abbrev pub invariant-loop-s : goal.invariant-loop-s
invariant-loop-s g l =
    (l.self.trains ≡ l.fn.self.trains) × (l.self.interlocking.sections ≡ l.fn.self.interlocking.sections)
