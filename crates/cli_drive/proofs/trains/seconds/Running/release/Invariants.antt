use Rattle.std.proofs.Common.{◌≡◌}
use Rattle.cli_drive.proofs.trains.seconds.Running.release.Given as goal

abbrev pub invariant-loop-i : goal.invariant-loop-i
invariant-loop-i g l =
    (l.self.trains ≡ l.fn.self.trains) × (l.self.interlocking.sections ≡ l.fn.self.interlocking.sections)
