-- Stretches of centres.
use Rattle.std.specs.Prelude.{◌<◌, ◌⊎◌, ℕ}
use Rattle.rbc_centre.specs.declared.reach.Reach.{Reach}

-- the centre is not in the stretch
abbrev pub IsOutside : Reach → ℕ → Type 0
IsOutside r d = (d < r.first) ⊎ (r.last < d)
