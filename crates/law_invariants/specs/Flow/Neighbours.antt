-- Facts about neighbouring centres that follow from the order of homes on a track.
use Rattle.std.specs.Prelude.{◌≡◌, ◌<◌, ℕ, true, false, ◌==◌, Some}
use Rattle.rbc_spec.specs.Maps.{has}
use Rattle.rbc_spec.specs.Line.{Line, is_home, is_linked, next_centre}
use Rattle.rbc_spec.specs.Sections.{is_on}

-- The next centre of a track is linked with the centre before it, and does not have that one as its own next. Its
-- sections have greater numbers.
pub record AreNeighbours (line : Line) : Type 0 where
  pub linked : (a b track : ℕ) → next_centre line a track ≡ Some b → is_linked line b a ≡ true
  pub onward : (a b track : ℕ) → next_centre line a track ≡ Some b
      → has (λ n. n == a) (next_centre line b track) ≡ false
  pub later : (a b track s e : ℕ) → next_centre line a track ≡ Some b → is_on line track s ≡ true
      → is_home line a s ≡ true → is_on line track e ≡ true → is_home line b e ≡ true → s < e
