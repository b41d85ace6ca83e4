use Rattle.std.proofs.Common.{◌<◌, ◌≡◌, ◌≤◌, length, ℕ}
use Rattle.std.specs.Prelude.{option_map}
use Rattle.text_replay.proofs.changes.note_all.Given as goal
use Rattle.text_replay.specs.Noted.{changes_at, noted}
use Rattle.text_replay.specs.Stretches.{seen_in}

abbrev pub invariant-loop-section : goal.invariant-loop-section
invariant-loop-section l = record {
  count : length l.lists.items ≡ length l.fn.lists.items;
  done :
      (s : ℕ) → s < l.section
      → changes_at s l.lists.items ≡ option_map (noted l.event (seen_in s l.view)) (changes_at s l.fn.lists.items);
  rest : (s : ℕ) → l.section ≤ s → changes_at s l.lists.items ≡ changes_at s l.fn.lists.items;
}
