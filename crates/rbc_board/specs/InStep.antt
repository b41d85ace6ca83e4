-- The rule of the queue of a link: its frames, and the plain data of its passes.
use Rattle.std.specs.Prelude.{◌≡◌, ℕ, ◌≤◌, ◌<◌, ◌==◌, List, [], ◌∷◌, Bool, true, Option}
use Rattle.std.specs.List.{find}
use mathlib.Core.Logic.{◌⊎◌}
use mathlib.Core.Option.{some}
use lib.ListN.{get_elem?}
use Rattle.rbc_linkmsg.specs.declared.frame.Frame.{Frame}
use Rattle.rbc_board.specs.declared.view.View.{View}

abbrev pub Mem : Frame → List Frame → Type 0
Mem f [] = ⊥
Mem f (g ∷ gs) = (f ≡ g) ⊎ Mem f gs

-- A pass knows only frames that were put. The pass that puts knows all of them, and the last number.
abbrev pub Fits : ℕ → List Frame → ℕ → View → Type 0
Fits seat put port v =
    ((f : Frame) → Mem f v.known → Mem f put)
    × (v.puts ≡ true → (port ≡ seat) × ((f : Frame) → Mem f put → Mem f v.known × (f.number ≤ v.last)))

-- no two frames under one number
abbrev pub IsUnique : List Frame → Type 0
IsUnique put = (f g : Frame) → Mem f put → Mem g put → f.number ≡ g.number → f ≡ g

-- each frame has a lower number than all frames after it
abbrev pub AreInOrder : List Frame → Type 0
AreInOrder [] = Unit {0}
AreInOrder (f ∷ fs) = ((g : Frame) → Mem g fs → f.number < g.number) × AreInOrder fs

-- The rule of a link's queue. One pass puts. All frames that are in the queue or are known were put, each number once.
-- The frames in the queue are in the order of their numbers.
abbrev pub InStep : List Frame → List View → Type 0
InStep items views =
    (seat : ℕ) × (put : List Frame) × IsUnique put × ((f : Frame) → Mem f items → Mem f put) × AreInOrder items
    × ((port : ℕ) (v : View) → get_elem? views port ≡ some v → Fits seat put port v)

abbrev pub viewed : Bool → ℕ → List Frame → View
viewed puts last known = record { puts = puts; last = last; known = known }

-- the frame under a number
abbrev pub found : ℕ → List Frame → Option Frame
found n known = find (λ f. f.number == n) known
