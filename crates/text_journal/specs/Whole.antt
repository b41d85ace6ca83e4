-- The whole lines of a text.
use Rattle.std.specs.Prelude.{◌-◌, ◌≡◌, ◌≤◌, ◌⊎◌, drop, length, List, slice_index, ℕ}
use Rattle.text_journal.specs.Reading.{Lacks}

-- the first n bytes of a text are its whole lines: no byte, or all up to and with the last line feed
pub record AreWhole (text : List ℕ) (n : ℕ) : Type 0 where
  pub within : n ≤ length text
  pub ended : (n ≡ 0) ⊎ (slice_index text (n - 1) ≡ 10)
  pub unended : Lacks 10 (drop n text)
