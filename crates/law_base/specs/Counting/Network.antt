-- Centres and the links between them. A link keeps every frame that was ever sent over it, and counts those that were
-- taken. So a frame may be delivered again, late or early, and is taken only if it is the next.
use Rattle.std.specs.Prelude.{[], ◌++◌, ◌+◌, ◌==◌, ◌∷◌, ◌≡◌, ◌≤◌, All, drop, if◌then◌else◌, length, List, None, Option}
use Rattle.std.specs.Prelude.{slice_get, suc, zero, ℕ}
use Rattle.law_base.specs.Counting.Sums.{put, put_link}

-- each centre's state, the frames sent from one to another so far, and how many of them were taken
pub record Net (X F : Type 0) : Type 0 where
  pub at : ℕ → X
  pub sent : ℕ → ℕ → List F
  pub taken : ℕ → ℕ → ℕ

-- the frames on the way from a to b
abbrev pub way : {X F : Type 0} → Net X F → ℕ → ℕ → List F
way w a b = drop (w.taken a b) (w.sent a b)

-- no link took more than was sent
pub record IsCounted {X F : Type 0} (w : Net X F) : Type 0 where
  pub counts : (a b : ℕ) → w.taken a b ≤ length (w.sent a b)

-- each frame on the way between two centres has the property P
pub record EachOnTheWay {X F : Type 0} (P : ℕ → ℕ → F → Type 0) (w : Net X F) : Type 0 where
  pub each : (a b : ℕ) → All (P a b) (way w a b)

-- frames have the numbers from 1 on, in the order in which they were sent
abbrev pub numbered : {F : Type 0} → List F → ℕ → Option F
numbered frames zero = None
numbered frames (suc k) = slice_get frames k

-- the next frame from a to b is taken
abbrev pub took : {X F : Type 0} → Net X F → ℕ → ℕ → Net X F
took w a b = record { at = w.at; sent = w.sent; taken = put_link w.taken a b (w.taken a b + 1) }

-- frame f is the head of the frames on the way from a to b, and leaves them
pub record TakesHead {X F : Type 0} (w : Net X F) (a b : ℕ) (f : F) : Type 0 where
  pub head : way w a b ≡ f ∷ way (took w a b) a b

-- a frame with this number arrives from a at b: the next is taken, an old or early one changes nothing
abbrev pub came : {X F : Type 0} → Net X F → ℕ → ℕ → ℕ → Net X F
came w a b number = if number == w.taken a b + 1 then took w a b else w

-- centre c acts: its state is x now, and it sends these frames to each centre
abbrev pub acted : {X F : Type 0} → Net X F → ℕ → X → (ℕ → List F) → Net X F
acted w c x frames = record { at = put w.at c x; sent = put w.sent c (λ d. w.sent c d ++ frames d); taken = w.taken }

-- these frames to centre d, and none to others
abbrev pub to_one : {F : Type 0} → ℕ → List F → ℕ → List F
to_one d frames b = if b == d then frames else []
