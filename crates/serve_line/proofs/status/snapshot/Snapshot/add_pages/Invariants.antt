use Rattle.std.proofs.Common.{◌<◌, ◌≡◌, ◌≤◌, slice_get, ℕ}
use Rattle.serve_line.proofs.status.snapshot.Snapshot.add_pages.Given as goal
use Rattle.serve_line.specs.Snapshots.{HasPage}

abbrev pub invariant-loop-s : goal.invariant-loop-s
invariant-loop-s l = record {
  missions : l.self.missions.items ≡ l.initial.self.missions.items;
  seen : (k : ℕ) → k < l.s
      → HasPage l.line l.log.core k (slice_get l.initial.self.pages.items k) (slice_get l.self.pages.items k);
  others : (k : ℕ) → l.s ≤ k → slice_get l.self.pages.items k ≡ slice_get l.initial.self.pages.items k;
}
