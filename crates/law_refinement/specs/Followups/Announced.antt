-- The handovers that a centre has announced.
use Rattle.std.specs.Prelude.{◌≡◌, ℕ, true, Some, None}
use Rattle.rbc_spec.specs.SectionRuns.{is_empty}
use Rattle.rbc_spec.specs.Line.{Line, next_centre}
use Rattle.rbc_spec.specs.Centre.{Centre, Mission}
use Rattle.rbc_spec.specs.Acts.{part_at}

-- a mission that announced no handover has no section of the next centre in its hand
abbrev pub IsAnnounced : Line → ℕ → Mission → Type 0
IsAnnounced line c m =
    (d : ℕ) → m.handing ≡ None → next_centre line c m.place.track ≡ Some d
    → is_empty (part_at line d m.place.track m.hand) ≡ true

abbrev pub AnnouncesAll : Line → ℕ → Centre → Type 0
AnnouncesAll line c k = (t : ℕ) (m : Mission) → k.mission t ≡ Some m → IsAnnounced line c m
