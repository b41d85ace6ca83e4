use Rattle.std.proofs.Common.{◌<◌, ◌==◌, ◌≡◌, map, true, ℕ}
use Rattle.std.specs.List.{list_any}
use Rattle.rbc_line.proofs.faults.has_sections_fault.Given as goal
use Rattle.rbc_line.specs.DraftViews.{section_view}

abbrev pub invariant-loop-k : goal.invariant-loop-k
invariant-loop-k l = (j : ℕ) → j < l.k
    → list_any (λ s. s.track == j) (map section_view l.draft.tracks.sections.items) ≡ true
