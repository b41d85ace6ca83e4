-- The used part of a centre's life.
use Rattle.std.specs.Fmt.{decimal}
use Rattle.std.specs.List.{flat_map, fold, range_with_len}
use Rattle.std.specs.Prelude.{[], ◌++◌, ◌≡◌, codes, List, if◌then◌else◌, length, max, nat_le, None, Option, Some, ℕ}
use Rattle.rbc_log.specs.Log.{LogValue, most_entries}
use Rattle.rbc_spec.specs.Line.{is_linked, Line}
use Rattle.rbc_spec.specs.Step.{ClockEnd, LinkFull, Refusal, refusal, Set}
use Rattle.serve_line.specs.declared.status.life.Life.{Life}
use Rattle.serve_line.specs.Stamps.{last_stamp}
use Rattle.serve_line.specs.Usage.{mark_of}
use Rattle.text_page.specs.declared.view.End.{End}
use Rattle.text_page.specs.declared.view.End.TheVariants as end
use Rattle.text_script.specs.Print.Rows.{name_at}
use Rattle.text_script.specs.rbc_centre.declared.centre.Centre.{Centre}
use Rattle.text_script.specs.rbc_centre.States.{line_of, number_of, state_of}

abbrev pub end_by : Option Refusal → Option End
end_by None = None
end_by (Some ClockEnd) = Some end.Clock
end_by (Some LinkFull) = Some end.Link

-- The end of a centre that takes no further event: its log is full, or it refuses a `set`.
abbrev pub end_of : LogValue → Option End
end_of l =
    if nat_le most_entries (length l.entries) then Some end.Log
    else end_by (refusal (line_of l.core) (number_of l.core) (state_of l.core) (Set 0))

-- the frames of the fullest link of a centre to one of the first n centres
abbrev pub most_sent : Centre → ℕ → ℕ
most_sent k n = fold (λ most d. max (length ((state_of k).sent d)) most) 0 (range_with_len 0 n)

-- the entries of a log, the last stamp, and the frames of the fullest link of its centre
abbrev pub used_of : LogValue → ℕ → ℕ × ℕ × ℕ
used_of l centres = (length l.entries, last_stamp l.entries, most_sent l.core centres)

-- the highest of 50, 90 and 99 percent that each usage has reached so far
pub record IsNoted (used : ℕ × ℕ × ℕ) (old new : Life) : Type 0 where
  pub log : new.log.noted ≡ max old.log.noted (mark_of used.0 1000000)
  pub clock : new.clock.noted ≡ max old.clock.noted (mark_of used.1 1073741823)
  pub link : new.link.noted ≡ max old.link.noted (mark_of used.2 65536)

-- ## The lines after those of `show`

-- a count and its greatest value, at the end of a line
abbrev pub used_up : ℕ → ℕ → List ℕ
used_up used most = decimal used ++ (codes " of " ++ (decimal most ++ codes "\n"))

-- the usage of a centre's log
abbrev pub log_row : Line → LogValue → List ℕ
log_row line l = name_at line (number_of l.core) ++ (codes " log " ++ used_up (length l.entries) 1000000)

-- the usage of a centre's clock
abbrev pub clock_row : Line → LogValue → List ℕ
clock_row line l = name_at line (number_of l.core) ++ (codes " clock " ++ used_up (last_stamp l.entries) 1073741823)

-- the usage of the link from a centre to centre d, if they are linked
abbrev pub link_row : Line → Centre → ℕ → List ℕ
link_row line k d =
    if is_linked line (number_of k) d
    then name_at line (number_of k) ++ (codes " link " ++ (name_at line d ++ (codes " "
    ++ used_up (length ((state_of k).sent d)) 65536)))
    else []

-- the usage of a centre's log, of its clock, and of each of its links follow the text
abbrev pub AddsUsage : Line → LogValue → List ℕ → List ℕ → Type 0
AddsUsage line l old new =
    new ≡ ((old ++ log_row line l) ++ clock_row line l)
    ++ flat_map (link_row line l.core) (range_with_len 0 (length line.centres))
