-- The page endpoint.
use Rattle.std.specs.Prelude.{◌≡◌, slice_get, Some, ℕ}
use Rattle.serve_line.specs.declared.browsers.PageEndpoint.{PageEndpoint}
use Rattle.serve_line.specs.declared.browsers.Place.{Place}

-- the endpoint has the place
abbrev pub IsPlaceOf : PageEndpoint → Place → Type 0
IsPlaceOf endpoint place = (at : ℕ) × (slice_get endpoint.places.items at ≡ Some place)
