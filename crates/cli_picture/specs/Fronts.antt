-- The paths of the fronts of trains.
use Rattle.cli_picture.specs.declared.fronts.Front.{Front}
use Rattle.std.specs.Fmt.{decimal}
use Rattle.std.specs.Prelude.{◌&&◌, ◌++◌, ◌==◌, Bool, codes, false, if◌then◌else◌, List, None, not, Option, Some, ℕ}

-- the line to a front goes on from the front before, which was on this track
abbrev pub goes_on : Front → Option ℕ → Bool
goes_on front (Some track) = not front.is_start && (track == front.place.track)
goes_on front None = false

-- a line to a point, or the beginning of a line at it
abbrev pub step_text : Bool → ℕ → ℕ → List ℕ
step_text goes_on x y = (if goes_on then codes "L" else codes "M") ++ (decimal x ++ (codes " " ++ decimal y))

-- the band from a safe rear end to a front
abbrev pub band_text : ℕ → ℕ → ℕ → List ℕ
band_text rear y x = codes "M" ++ (decimal rear ++ (codes " " ++ (decimal y ++ (codes "H" ++ decimal x))))
