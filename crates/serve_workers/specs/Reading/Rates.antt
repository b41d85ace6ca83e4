-- The messages that a bucket passes; each takes 1000 from its level.
use Rattle.std.specs.Prelude.{◌≡◌, ℕ, ◌+◌, ◌-◌, ◌*◌, min, max, List, [], ◌∷◌}
use Rattle.serve_workers.specs.declared.reading.bucket.Bucket.{Bucket}

-- the level after `gone` milliseconds
abbrev pub filled : ℕ → ℕ → ℕ → ℕ → ℕ
filled rate burst level gone = min (burst * 1000) (level + gone * rate)

-- the level of a bucket at this time, before a message passes
abbrev pub held_at : Bucket → ℕ → ℕ
held_at bucket now = filled bucket.rate.per_second bucket.rate.burst bucket.level (now - bucket.at)

-- a message asks at this time, and passes, or has to wait
pub data Ask : Type 0 where
  Passes : (time : ℕ) → Ask
  Waits : (time : ℕ) → Ask

-- a bucket with this level, last filled at this time, gives these answers
abbrev pub Answers : ℕ → ℕ → ℕ → ℕ → List Ask → Type 0
Answers rate burst level at [] = Unit {0}
Answers rate burst level at (Passes time ∷ asks) =
    (left : ℕ) × (left + 1000 ≡ filled rate burst level (time - at)) × Answers rate burst left (max at time) asks
Answers rate burst level at (Waits time ∷ asks) =
    Answers rate burst (filled rate burst level (time - at)) (max at time) asks

-- the number of messages that pass
abbrev pub passed : List Ask → ℕ
passed [] = 0
passed (Passes time ∷ asks) = passed asks + 1
passed (Waits time ∷ asks) = passed asks

-- the time of the last ask
abbrev pub last_time : ℕ → List Ask → ℕ
last_time at [] = at
last_time at (Passes time ∷ asks) = last_time (max at time) asks
last_time at (Waits time ∷ asks) = last_time (max at time) asks
