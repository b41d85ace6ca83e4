-- The frames that a step of a centre may send on a link, its messages to trains, and its replies to the interlocking.
use Rattle.std.specs.Prelude.{◌≡◌, ◌⊎◌, ℕ, ◌+◌, ◌<◌, ◌≤◌, List, [], ◌∷◌, ⊤, Some}
use Rattle.rbc_spec.specs.SectionRuns.{next_after}
use Rattle.rbc_spec.specs.Line.{Line}
use Rattle.rbc_spec.specs.Place.{Place, covered}
use Rattle.rbc_spec.specs.Frame.{Frame, Body, ReturnRight, RouteAsk, RouteReturn, Announce, Cancel, Yield, last_stamp}
use Rattle.rbc_spec.specs.Centre.{Centre, Mission}
use Rattle.rbc_spec.specs.Step.{Event, Train, Set, Unset, Deliver}

-- which kinds of frames a step sends first
abbrev pub rank : Body → ℕ
rank (RouteReturn t r) = 0
rank (Yield number t heard has_data is_ended place hand) = 1
rank (Cancel number t) = 2
rank (ReturnRight t) = 3
rank (Announce number t track) = 4
rank (RouteAsk t first most) = 5
rank body = 6

-- of two returned runs the lower is first, and a section is between them: they are not parts of one longer run
abbrev pub IsLowerReturn : Body → Body → Type 0
IsLowerReturn (RouteReturn t r) (RouteReturn u q) = next_after r < q.first
IsLowerReturn a b = ⊥

abbrev pub GoesBefore : Body → Body → Type 0
GoesBefore a b = (rank a < rank b) ⊎ IsLowerReturn a b

-- the body goes before each body of the list
abbrev pub GoesBeforeAll : Body → List Body → Type 0
GoesBeforeAll a [] = ⊤
GoesBeforeAll a (b ∷ bs) = GoesBefore a b × GoesBeforeAll a bs

-- each body goes before all bodies after it
abbrev pub GoInOrder : List Body → Type 0
GoInOrder [] = ⊤
GoInOrder (a ∷ xs) = GoesBeforeAll a xs × GoInOrder xs

-- a centre holds at most 64 sections for a train, and its pool follows its hand
pub record HoldsFew (line : Line) (k : Centre) : Type 0 where
  pub missions : (t : ℕ) (m : Mission) → k.mission t ≡ Some m → m.hand.count + m.pool.count ≤ 64
  pub pools : (t : ℕ) (m : Mission) → k.mission t ≡ Some m → (m.pool.count ≡ 0) ⊎ (next_after m.hand ≤ m.pool.first)
  pub waits : (t : ℕ) (place : Place) → k.wait t ≡ Some place → (covered line place).count ≤ 64

-- one frame returns at most 64 sections
abbrev pub BringsFew : Body → Type 0
BringsFew (RouteReturn t r) = r.count ≤ 64
BringsFew body = ⊤

abbrev pub TakesFew : Event → Type 0
TakesFew (Train m) = ⊤
TakesFew (Set s) = ⊤
TakesFew (Unset s) = ⊤
TakesFew (Deliver d f) = BringsFew f.body

-- the number and the stamp of a frame are in the ranges of their fields
pub record IsCountedInRange (f : Frame) : Type 0 where
  pub number : (1 ≤ f.number) × (f.number ≤ 65536)
  pub stamp : (1 ≤ f.stamp) × (f.stamp ≤ last_stamp)
