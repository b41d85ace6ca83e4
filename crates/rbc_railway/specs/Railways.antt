-- A railway as a state of the closed loop.
use Rattle.std.specs.Prelude.{◌≡◌, ◌++◌, ◌∷◌, [], List}
use Rattle.std.specs.Prelude.{ℕ}
use Rattle.law_trains.specs.Trains.{Happens, IsSafeLoop, Moment, Train}
use Rattle.rbc_railway.specs.declared.railway.Railway.{Railway}
use Rattle.rbc_railway.specs.History.{IsTaken, Leads, loop_after, obeys, WasLed}
use Rattle.rbc_spec.specs.World.{Event}
use Rattle.rbc_world.specs.Views.{answer_of}
use Rattle.rbc_world.specs.World.{state_of}

-- these moments lead to this railway
abbrev pub HasRun : Railway → (ℕ → Train) → List Moment → Type 0
HasRun r first moments = Leads r.line (state_of r.world) r.trains.items r.sent.items r.told.items first moments

-- Some list of moments led to this railway. By whichever moments it is so, no two accepted trains are on one section,
-- and none is on a section that is not released.
pub record IsSafeRailway (r : Railway) : Type 0 where
  pub led : ∥ WasLed r.line (state_of r.world) r.trains.items r.sent.items r.told.items ∥₁
  pub safe : (first : ℕ → Train) (moments : List Moment) → HasRun r first moments
      → IsSafeLoop r.line (obeys r.trains.items) (loop_after r.line first moments)

-- the line, the centres and the messages on the way stay
pub record KeepsMessages (old new : Railway) : Type 0 where
  pub line : new.line ≡ old.line
  pub world : state_of new.world ≡ state_of old.world
  pub sent : new.sent.items ≡ old.sent.items
  pub told : new.told.items ≡ old.told.items

-- nothing changes
pub record IsUnchanged (old new : Railway) : Type 0 where
  pub messages : KeepsMessages old new
  pub trains : new.trains.items ≡ old.trains.items

-- the event happened at the centres, and is one moment more of the closed loop
pub record Happened (old new : Railway) (event : Event) : Type 0 where
  pub taken : IsTaken old.line (state_of old.world) (state_of new.world) old.told.items new.told.items event
  pub moment : (first : ℕ → Train) (moments : List Moment) → HasRun old first moments
      → HasRun new first (moments ++ Happens event (answer_of taken.answer.answer) ∷ [])
