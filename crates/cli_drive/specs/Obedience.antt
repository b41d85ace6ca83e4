-- Trains over TCP as trains of the closed loop.
use Rattle.std.specs.Prelude.{◌≡◌, ◌⊎◌, length, List, map, slice_get, Some, true, ℕ}
use Rattle.train_unit.specs.Trains as rules
use Rattle.train_unit.specs.Units.{train_of}
use Rattle.train_unit.specs.declared.ends.Ends.{Ends}
use Rattle.cli_drive.specs.declared.trains.train.Train.{Train}

-- the train of the closed loop, with the fields that its unit keeps, and its true ends
abbrev pub train_at : Train → rules.Train
train_at x = train_of x.unit x.ends

-- The train has not moved, or it ran as the rules allow. Its unit is as before.
abbrev pub HasRun : Train → Train → Type 0
HasRun old new =
    (new.unit ≡ old.unit)
    × ((new.ends ≡ old.ends) ⊎ (rules.may_run new.ends.front new.ends.rear (train_at old) ≡ true))

-- no train has moved, and no unit has changed
abbrev pub KeepTrains : List Train → List Train → Type 0
KeepTrains old new = map train_at new ≡ map train_at old

-- the true ends of the trains
abbrev pub ends_of : List Train → List Ends
ends_of trains = map (λ x. x.ends) trains

-- a train is at the same place
abbrev pub KeepsEnds : Train → Train → Type 0
KeepsEnds old new = new.ends ≡ old.ends

-- the train is at the same place, or it ran as the rules allow it before
abbrev pub RunsByRules : Train → Train → Type 0
RunsByRules old new =
    (new.ends ≡ old.ends) ⊎ (rules.may_run new.ends.front new.ends.rear (train_at old) ≡ true)

-- each train is at the same place, or it ran as the rules allow it before
pub record RunByRules (old new : List Train) : Type 0 where
  pub count : length new ≡ length old
  pub each : (k : ℕ) (a b : Train) → slice_get old k ≡ Some a → slice_get new k ≡ Some b → RunsByRules a b
