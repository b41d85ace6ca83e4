-- The messages on the way in a demo.
use Rattle.std.specs.List.{swap_remove}
use Rattle.std.specs.Prelude.{[], ◌++◌, ◌<◌, ◌⊎◌, ◌∷◌, ◌≡◌, length, List, None, Option, slice_index_or, Some, suc}
use Rattle.std.specs.Prelude.{zero, ℕ}
use Rattle.cli_demo.specs.declared.radio.Flight.{Flight}
use Rattle.cli_demo.specs.declared.radio.Flight.TheVariants.{Down}

-- the first messages of the centre's answer of this number, this many
abbrev pub sent_down : ℕ → ℕ → List Flight
sent_down answer zero = []
sent_down answer (suc which) = sent_down answer which ++ Down answer which ∷ []

-- A message that arrives is on the way, and stays there or is taken out. If none arrives, all stay.
abbrev pub Arrives : List Flight → List Flight → Option Flight → Type 0
Arrives old new None = new ≡ old
Arrives old new (Some flight) =
    (k : ℕ) × (k < length old) × (flight ≡ slice_index_or old k flight)
    × ((new ≡ old) ⊎ (new ≡ swap_remove old k flight))
