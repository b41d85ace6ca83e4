-- The connections of trains to centres: for each train, one to each centre.
use Rattle.std.specs.Prelude.{[], ◌*◌, ◌+◌, ◌++◌, ◌-◌, ◌^◌, ◌∷◌, List, min, suc, zero, ℕ}

-- the ports of this many centres, which follow one another from the first on
abbrev pub ports : ℕ → ℕ → List ℕ
ports first zero = []
ports first (suc centres) = ports first centres ++ (first + centres) ∷ []

-- the ports of the centres, once for each train
abbrev pub ports_of_trains : ℕ → ℕ → ℕ → List ℕ
ports_of_trains first centres zero = []
ports_of_trains first centres (suc trains) = ports_of_trains first centres trains ++ ports first centres

-- the place of the connection of a train to a centre, of this many centres
abbrev pub place_of : ℕ → ℕ → ℕ → ℕ
place_of centres train centre = min (train * centres + centre) (2 ^ 64 - 1)
