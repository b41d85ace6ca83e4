use Rattle.std.proofs.Common.{◌*◌, ◌≡◌, ◌≤◌}
use Rattle.cli_picture.proofs.scale.Scale.metres_before.Given as goal
use Rattle.cli_picture.specs.Scale.{metres_before}

abbrev pub invariant-loop-t : goal.invariant-loop-t
invariant-loop-t l = (l.metres ≡ metres_before l.self.line.now l.t) × (l.metres ≤ 1024000 * l.t)
