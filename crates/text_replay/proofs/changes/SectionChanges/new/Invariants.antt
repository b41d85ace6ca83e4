use Rattle.std.proofs.Common.{◌<◌, ◌≡◌, [], length, Some, ℕ}
use Rattle.text_replay.proofs.changes.SectionChanges.new.Given as goal
use Rattle.text_replay.specs.Noted.{changes_at}

abbrev pub invariant-loop : goal.invariant-loop
invariant-loop l = record {
  count : length l.lists.items ≡ l.counter;
  empty : (s : ℕ) → s < l.counter → changes_at s l.lists.items ≡ Some [];
}
