-- The events that a token shows.
use Rattle.std.specs.Prelude.{ℕ, ◌-◌, Bool, ◌==◌, ◌&&◌, nat_le, List, length, slice_get, Option, option_map}
use Rattle.text_journal.specs.declared.entry.Entry.{Entry}
use Rattle.text_journal.specs.Order.{taken_at}
use Rattle.serve_journal.specs.declared.kept.Kept.{Kept}

-- the token is of this centre, and of this stamp or a later one
abbrev pub shows : Kept → ℕ → ℕ → Bool
shows kept centre stamp = (kept.centre == centre) && nat_le stamp kept.stamp

-- the token of the last entry: its centre and its stamp; `None` without an entry
abbrev pub last_kept : List Entry → Option Kept
last_kept entries =
    option_map (λ e. record { centre = taken_at e; stamp = e.stamp }) (slice_get entries (length entries - 1))
