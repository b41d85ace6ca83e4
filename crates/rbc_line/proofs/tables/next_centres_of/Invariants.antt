use Rattle.std.proofs.Common.{◌%◌, ◌/◌, ◌<◌, ◌≡◌, get_or, length, None, ℕ}
use Rattle.rbc_line.proofs.tables.next_centres_of.Given as goal
use Rattle.rbc_line.specs.Views.{line_of_rows}
use Rattle.rbc_spec.specs.Line.{next_centre}

abbrev pub invariant-loop-k : goal.invariant-loop-k
invariant-loop-k l =
    (length l.next_centres ≡ 32)
    × ((j : ℕ) → j < l.k → get_or l.next_centres j None ≡ next_centre (line_of_rows l.rows) (j / 4) (j % 4))
