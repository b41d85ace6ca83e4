-- A handover is announced as soon as the hand has a section of the next centre.
use Rattle.std.specs.Prelude.{◌≡◌, ℕ, true, Some, None}
use Rattle.rbc_spec.specs.SectionRuns.{is_empty}
use Rattle.rbc_spec.specs.Line.{Line, is_centre, next_centre}
use Rattle.rbc_spec.specs.Centre.{Centre, Mission}
use Rattle.rbc_spec.specs.Acts.{part_at}
use Rattle.rbc_spec.specs.World.{World}

-- a mission at centre c without an announced handover has no section of the next centre in its hand
abbrev pub HasAnnounced : Line → ℕ → Centre → Type 0
HasAnnounced line c k =
    (t d : ℕ) (m : Mission) → k.mission t ≡ Some m → next_centre line c m.place.track ≡ Some d → m.handing ≡ None
    → is_empty (part_at line d m.place.track m.hand) ≡ true

-- this holds of each centre of the line
abbrev pub IsAnnounced : Line → World → Type 0
IsAnnounced line w = (c : ℕ) → is_centre line c ≡ true → HasAnnounced line c (w.at c)
