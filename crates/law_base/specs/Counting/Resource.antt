-- A resource is counted: how much of it each centre holds, how much is inside each frame, and how much may be out.
use Rattle.std.specs.Prelude.{◌≡◌, ◌≢◌, ℕ, ◌+◌, ◌<◌, ◌≤◌, List, [], ◌∷◌}
use Rattle.law_base.specs.Counting.Sums.{sum_below, sum_links}
use Rattle.law_base.specs.Counting.Network.{Net, way}

-- a resource: the amount that a centre holds, the amount inside a frame, and the amount that a centre allows to exist
pub record Resource (X F : Type 0) : Type 0 where
  pub held : ℕ → X → ℕ
  pub inside : ℕ → ℕ → F → ℕ
  pub cap : ℕ → X → ℕ

-- the amount inside these frames from a to b
unfoldable pub carried : {X F : Type 0} → Resource X F → ℕ → ℕ → List F → ℕ
carried r a b [] = 0
carried r a b (f ∷ fs) = r.inside a b f + carried r a b fs

-- the amount inside the frames of an act of c, over all n destinations
unfoldable pub sent_by : {X F : Type 0} → Resource X F → ℕ → ℕ → (ℕ → List F) → ℕ
sent_by r n c frames = sum_below n (λ d. carried r c d (frames d))

-- the amount that the n centres hold, and that is on the way between them
unfoldable pub placed : {X F : Type 0} → Resource X F → ℕ → Net X F → ℕ
placed r n w = sum_below n (λ c. r.held c (w.at c)) + sum_links n (λ a b. carried r a b (way w a b))

-- the amount that the n centres together allow to be out
unfoldable pub allowed : {X F : Type 0} → Resource X F → ℕ → Net X F → ℕ
allowed r n w = sum_below n (λ c. r.cap c (w.at c))

-- An act of c is fair: it makes nothing. All that it keeps and sends it had before, or it arrived, or its cap grew by
-- it.
pub record IsFair {X F : Type 0} (r : Resource X F) (n c : ℕ) (old : X) (came : ℕ) (new : X)
    (frames : ℕ → List F) : Type 0 where
  pub law : r.held c new + sent_by r n c frames + r.cap c old ≤ r.held c old + came + r.cap c new

-- an act of c makes nothing and loses nothing
pub record IsExact {X F : Type 0} (r : Resource X F) (n c : ℕ) (old : X) (came : ℕ) (new : X)
    (frames : ℕ → List F) : Type 0 where
  pub law : r.held c new + sent_by r n c frames + r.cap c old ≡ r.held c old + came + r.cap c new

-- the amount in all places together is at most the amount that may be out
pub record IsWithinCap {X F : Type 0} (r : Resource X F) (n : ℕ) (w : Net X F) : Type 0 where
  pub law : placed r n w ≤ allowed r n w

-- the amount in all places together is the amount that may be out
pub record IsAtCap {X F : Type 0} (r : Resource X F) (n : ℕ) (w : Net X F) : Type 0 where
  pub law : placed r n w ≡ allowed r n w

-- there is one, and centre c has it: nobody else, and no frame on the way
pub record OnlyHeld {X F : Type 0} (r : Resource X F) (n : ℕ) (w : Net X F) (c : ℕ) : Type 0 where
  pub here : r.held c (w.at c) ≡ 1
  pub others : (d : ℕ) → d < n → d ≢ c → r.held d (w.at d) ≡ 0
  pub links : (a b : ℕ) → a < n → b < n → carried r a b (way w a b) ≡ 0

-- there is one, and it is on the way from a to b: no centre has it, and no other link
pub record OnlyOnTheWay {X F : Type 0} (r : Resource X F) (n : ℕ) (w : Net X F) (a b : ℕ) : Type 0 where
  pub here : carried r a b (way w a b) ≡ 1
  pub centres : (c : ℕ) → c < n → r.held c (w.at c) ≡ 0
  pub others : (i j : ℕ) → i < n → j < n → (i ≡ a → j ≢ b) → carried r i j (way w i j) ≡ 0
