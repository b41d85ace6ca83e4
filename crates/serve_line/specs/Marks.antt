-- The part of the page's view that a look at the centres does not change.
use Rattle.std.specs.Option.{option_map_or}
use Rattle.std.specs.Prelude.{◌≡◌, Bool, false, List, Option, option_map, slice_get, ℕ}
use Rattle.text_page.specs.declared.view.CentreCounts.{CentreCounts}
use Rattle.text_page.specs.declared.view.CentreNow.{CentreNow}
use Rattle.text_page.specs.declared.view.LineNow.{LineNow}

-- a centre with the marks of its endpoint in the earlier view
abbrev pub with_marks : CentreNow → CentreNow → CentreNow
with_marks old now = record now { taken = old.taken; seats = old.seats; is_stuck = old.is_stuck }

-- a centre without the marks of its endpoint
abbrev pub unmarked : CentreNow → CentreNow
unmarked centre = record centre { taken = 0; seats = 0; is_stuck = false }

-- the number of connections of a centre, and whether its journal can't be written
abbrev pub marks_of : CentreNow → ℕ × Bool
marks_of centre = (centre.taken, centre.is_stuck)

-- The views differ at most in the marks of the endpoints, and in whether connections are accepted.
pub record DiffersInMarks (old new : LineNow) : Type 0 where
  pub centres : (c : ℕ) → option_map unmarked (slice_get new.centres.items c)
      ≡ option_map unmarked (slice_get old.centres.items c)
  pub others : record new { is_stopped = old.is_stopped; centres = old.centres } ≡ old

-- centre c with its marks in these earlier views, if it was in them
abbrev pub marked : List CentreNow → ℕ → Option CentreNow → Option CentreNow
marked before c now =
    option_map (λ centre. option_map_or (λ old. with_marks old centre) (slice_get before c) centre) now

-- the counts of the silent messages of a centre
abbrev pub silent_of : CentreCounts → List ℕ
silent_of counts = counts.silent

-- the counts of centre c with these of its silent messages, if there are any
abbrev pub with_silent : List (List ℕ) → ℕ → Option CentreCounts → Option CentreCounts
with_silent silent c now =
    option_map (λ counts. option_map_or (λ count. record counts { silent = count }) (slice_get silent c) counts) now

-- The new view is the one of the look, with the marks of the endpoints and the true places of the earlier view.
pub record TakesMarks (before look new : LineNow) : Type 0 where
  pub stopped : new.is_stopped ≡ before.is_stopped
  pub places : new.true_places ≡ before.true_places
  pub centres : (c : ℕ) → slice_get new.centres.items c ≡ marked before.centres.items c (slice_get look.centres.items c)
  pub others :
      record new { is_stopped = look.is_stopped; true_places = look.true_places; centres = look.centres } ≡ look
