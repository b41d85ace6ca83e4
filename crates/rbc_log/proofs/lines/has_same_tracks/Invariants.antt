use Rattle.std.proofs.Common.{◌<◌, ◌≡◌, slice_get, ℕ}
use Rattle.rbc_log.proofs.lines.has_same_tracks.Given as goal

abbrev pub invariant-loop-track : goal.invariant-loop-track
invariant-loop-track l = (k : ℕ) → k < l.track → slice_get l.a.tracks k ≡ slice_get l.b.tracks k
