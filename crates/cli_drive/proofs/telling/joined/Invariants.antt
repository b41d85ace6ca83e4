use Rattle.std.proofs.Common.{◌≡◌, map, take}
use Rattle.cli_drive.proofs.telling.joined.Given as goal
use Rattle.cli_drive.specs.Answers.{request}

abbrev pub invariant-loop-line : goal.invariant-loop-line
invariant-loop-line l = l.bytes.items ≡ request (map (λ line. line.now) (take l.line-index l.lines))
