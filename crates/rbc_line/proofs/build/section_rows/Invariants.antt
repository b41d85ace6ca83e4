use Rattle.std.proofs.Common.{◌*◌, ◌<◌, ◌==◌, ◌≡◌, ◌≤◌, filter, get_or, length, map, sum_by, take, ℕ}
use Rattle.rbc_line.proofs.build.section_rows.Given as goal
use Rattle.rbc_line.specs.DraftViews.{centre_view, section_view}
use Rattle.rbc_line.specs.Homes.{HasOwnStarts}
use Rattle.rbc_line.specs.LineFile.{line_section}
use Rattle.rbc_line.specs.Views.{section_of}

abbrev pub invariant-loop-section : goal.invariant-loop-section
invariant-loop-section l =
    record {
      rows : map section_of l.rows.items
          ≡ map (line_section (map centre_view l.centres)) (map section_view (take l.section-index l.sections));
      starts : HasOwnStarts l.rows.items;
      count : length l.ends ≡ 4;
      ends : (k : ℕ) → k < 4 → get_or l.ends k 0 ≡ sum_by (λ q. q.metres) (filter (λ q. q.track == k) l.rows.items);
      small : (k : ℕ) → k < 4 → get_or l.ends k 0 ≤ 2000 * l.section-index;
    }
