use Rattle.std.proofs.Common.{◌≡◌, vec_len}
use Rattle.cli_drive.proofs.trains.seconds.Running.send_due.Given as goal

abbrev pub invariant-loop-letter : goal.invariant-loop-letter
invariant-loop-letter g l = (l.self.trains ≡ l.initial.self.trains) × (l.self.now ≡ l.initial.self.now)

abbrev pub decreases-loop-letter : goal.decreases-loop-letter
decreases-loop-letter g l = vec_len l.self.radio.letters
