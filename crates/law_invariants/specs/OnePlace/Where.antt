-- The place of a section in use. One that its home has taken is there. One that is out is at another centre, or on the
-- way between two.
use Rattle.std.specs.Prelude.{◌≡◌, ◌⊎◌, ℕ, ◌==◌, List, [], ◌∷◌, true, false}
use Rattle.std.specs.List.{Contains, flat_map, count_by}
use Rattle.rbc_spec.specs.Line.{Line, is_centre}
use Rattle.rbc_spec.specs.Frame.{Frame, Body, RouteInfo, RouteReturn}
use Rattle.rbc_spec.specs.Centre.{Entry, Shut, Open, Taken, Out}
use Rattle.rbc_spec.specs.World.{World, way}
use Rattle.rbc_spec.specs.Promises.{held_for, carried_for}

-- how often these frames have the section for the train: lent, on its way home, or in a hand that is handed over
abbrev pub times_carried : ℕ → ℕ → List Frame → ℕ
times_carried s t fs = count_by (λ u. u == t) (flat_map (λ f. carried_for s f.body) fs)

-- The frame from a to b may carry sections of home c. Lent sections are from a, returned ones are of b. A hand is
-- handed over between any two centres.
abbrev pub GoesBetween : ℕ → ℕ → ℕ → Body → Type 0
GoesBetween c a b (RouteInfo t run) = a ≡ c
GoesBetween c a b (RouteReturn t run) = b ≡ c
GoesBetween c a b body = Unit {0}

-- A taken section is in the hand of its train at home, or in a start that waits there. A section that is out is in the
-- hand or the pool of its train at one other centre of the line. Or it is in one frame between two centres, which
-- leaves the home, returns to it, or hands the train over.
abbrev pub IsFoundAs : Line → World → ℕ → ℕ → Entry → Type 0
IsFoundAs line w c s Shut = Unit {0}
IsFoundAs line w c s Open = Unit {0}
IsFoundAs line w c s (Taken t) = held_for line s (w.at c) t ≡ t ∷ []
IsFoundAs line w c s (Out t) =
    ((d : ℕ) × (is_centre line d ≡ true) × ((d == c) ≡ false) × (held_for line s (w.at d) t ≡ t ∷ [])) ⊎
    ((a : ℕ) × (b : ℕ) × (is_centre line a ≡ true) × (is_centre line b ≡ true) × (times_carried s t (way w a b) ≡ 1)
    × ((f : Frame) → Contains (way w a b) f → Contains (carried_for s f.body) t → GoesBetween c a b f.body))

-- the section of home c is found as its home has it
pub record IsWhereHomeHasIt (line : Line) (w : World) (c s : ℕ) : Type 0 where
  pub found : IsFoundAs line w c s ((w.at c).book s)
