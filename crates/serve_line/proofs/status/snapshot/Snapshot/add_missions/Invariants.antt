use Rattle.std.proofs.Common.{◌<◌, ◌≡◌, ◌≤◌, slice_get, ℕ}
use Rattle.serve_line.proofs.status.snapshot.Snapshot.add_missions.Given as goal
use Rattle.serve_line.specs.Snapshots.{HasMission}

abbrev pub invariant-loop-i : goal.invariant-loop-i
invariant-loop-i l = record {
  pages : l.self.pages.items ≡ l.initial.self.pages.items;
  seen : (k : ℕ) → k < l.i
      → HasMission l.line l.log.core k (slice_get l.initial.self.missions.items k) (slice_get l.self.missions.items k);
  others : (k : ℕ) → l.i ≤ k → slice_get l.self.missions.items k ≡ slice_get l.initial.self.missions.items k;
}
