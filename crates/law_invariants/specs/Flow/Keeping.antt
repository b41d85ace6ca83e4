-- Conditions on an act of a centre that keep a sound flow sound.
use Rattle.std.specs.Prelude.{◌≡◌, ℕ, true, false, List, [], All, Option, Some, is_some}
use Rattle.law_base.specs.Counting.Resource.{Resource, IsFair}
use Rattle.rbc_spec.specs.Line.{Line, is_centre}
use Rattle.rbc_spec.specs.Frame.{Body}
use Rattle.rbc_spec.specs.Centre.{Centre}
use Rattle.law_invariants.specs.Flow.Flow.{centre_count}
use Rattle.law_invariants.specs.Flow.Counts.{rights, tokens}
use Rattle.law_invariants.specs.Flow.Pairs.{follows, handing_to, announces, takes_over, yields}
use Rattle.law_invariants.specs.Flow.Sound.{IsCentreSound, IsBodySound}

-- nothing arrived with the act
abbrev pub nothing_came : Resource Centre Body → ℕ
nothing_came r = 0

-- the amount that arrived with a frame from a to c
abbrev pub came_with : ℕ → ℕ → Body → Resource Centre Body → ℕ
came_with a c f r = r.inside a c f

-- An act of centre c from state k to state y, which sends these frames. It makes no right and no token beyond those
-- that arrived.
pub record IsFairAct (line : Line) (c : ℕ) (k : Centre) (came : Resource Centre Body → ℕ) (y : Centre)
    (frames : ℕ → List Body) : Type 0 where
  pub rights : (t : ℕ) → IsFair (rights line t) (centre_count line) c k (came (rights line t)) y frames
  pub tokens : (t s : ℕ) → IsFair (tokens line t s) (centre_count line) c k (came (tokens line t s)) y frames

-- the act leaves its centre sound, and sends only sound bodies, only to centres of the line
pub record LeavesSound (line : Line) (c : ℕ) (y : Centre) (frames : ℕ → List Body) : Type 0 where
  pub centre : IsCentreSound line c y
  pub inside : (d : ℕ) → is_centre line d ≡ false → frames d ≡ []
  pub bodies : (d : ℕ) → All (IsBodySound line c d) (frames d)

-- ## Without a part in a handover

-- a body that has none
pub record IsNeutral (f : Body) : Type 0 where
  pub follows : (t : ℕ) (n : Option ℕ) → follows t f n ≡ Some n
  pub announces : (t h : ℕ) → announces t h f ≡ false
  pub takes_over : (t h : ℕ) → takes_over t h f ≡ false
  pub yields : (t h : ℕ) → yields t h f ≡ false

-- a centre that changes nothing of its handovers
pub record IsApart (k y : Centre) : Type 0 where
  pub expects : (a t : ℕ) → y.expects a t ≡ k.expects a t
  pub announced : y.announced ≡ k.announced
  pub handing : (b t : ℕ) → handing_to b (y.mission t) ≡ handing_to b (k.mission t)

-- ## Aside

-- The act changes nothing that is counted. It may change phases, the counts of messages sent, the stamps received, the
-- clock, and end questions.
pub record IsAside (k y : Centre) : Type 0 where
  pub book : y.book ≡ k.book
  pub wish : y.wish ≡ k.wish
  pub mission : y.mission ≡ k.mission
  pub wait : y.wait ≡ k.wait
  pub has_right : y.has_right ≡ k.has_right
  pub expects : y.expects ≡ k.expects
  pub announced : y.announced ≡ k.announced
  pub asks : (t first : ℕ) → y.route_ask t ≡ Some first → k.route_ask t ≡ Some first
  pub heard : (t : ℕ) → is_some (k.heard t) ≡ true → is_some (y.heard t) ≡ true
