use Rattle.std.proofs.Common.{◌≡◌, vec_len}
use Rattle.cli_drive.specs.Obedience.{ends_of}
use Rattle.cli_drive.proofs.trains.seconds.Running.deliver.Given as goal

abbrev pub invariant-loop-letter : goal.invariant-loop-letter
invariant-loop-letter g l =
    (ends_of l.self.trains.items ≡ ends_of l.initial.self.trains.items) × (l.self.now ≡ l.initial.self.now)

abbrev pub decreases-loop-letter : goal.decreases-loop-letter
decreases-loop-letter g l = vec_len l.self.radio.letters
