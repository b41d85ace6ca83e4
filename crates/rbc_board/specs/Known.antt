-- The frames that a list of notes of cells knows.
use Rattle.std.specs.Prelude.{◌≡◌, ℕ, ◌-◌, List, Option, Some, None, slice_get, length, if◌then◌else◌, ◌==◌}
use Rattle.std.specs.Option.{option_and_then}
use Rattle.once_cell.specs.declared.race.note.Note.{Note}
use Rattle.once_cell.specs.declared.race.once_box.OnceBox.{OnceBox}
use Rattle.once_cell.specs.Once.{cell_name}
use Rattle.rbc_linkmsg.specs.declared.frame.Frame.{Frame}

-- the frame that a list of notes knows under a number, from 1
abbrev pub known_at : List (Note Frame) → ℕ → Option Frame
known_at notes number =
    if number == 0 then None else option_and_then (λ (n : Note Frame). n.known) (slice_get notes (number - 1))

-- each note is of the cell at its place
pub record AreNotesOf (cells : List (OnceBox Frame)) (notes : List (Note Frame)) : Type 0 where
  pub long : length notes ≡ length cells
  pub each : (k : ℕ) (c : OnceBox Frame) (n : Note Frame) → slice_get cells k ≡ Some c → slice_get notes k ≡ Some n
      → n.cell ≡ cell_name c
