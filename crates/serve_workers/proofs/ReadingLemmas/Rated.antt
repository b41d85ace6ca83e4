-- The messages that a bucket passes, compared with its level and its rate.
use Rattle.std.proofs.Common.{[], ◌*◌, ◌+◌, ◌-◌, ◌∙◌, ◌∷◌, ◌≡◌, ◌≤◌, ap, arith, List, max, min, ℕ}
use Rattle.std.proofs.Math.Nat.{add-mul}
use Rattle.serve_workers.specs.Reading.Rates.{Answers, Ask, last_time, passed, Passes, Waits}

later : (at : ℕ) (asks : List Ask) → at ≤ last_time at asks
later at [] = omega arith
later at (Passes time ∷ asks) = let h = later (max at time) asks in omega (arith, h)
later at (Waits time ∷ asks) = let h = later (max at time) asks in omega (arith, h)

-- the gain of the rate up to the first ask, and from there on
parted : (rate at time last : ℕ) → max at time ≤ last
    → (last - at) * rate ≡ (time - at) * rate + (last - max at time) * rate
parted rate at time last h =
    let parts : last - at ≡ (time - at) + (last - max at time) = omega (arith, h) in
    ap (λ n. n * rate) parts ∙ add-mul (time - at) (last - max at time) rate

pub rated : (rate burst level at : ℕ) (asks : List Ask) → Answers rate burst level at asks
    → passed asks * 1000 ≤ level + (last_time at asks - at) * rate
rated rate burst level at [] goes = omega arith
rated rate burst level at (Passes time ∷ asks) goes =
    let on = rated rate burst goes.0 (max at time) asks goes.2 in
    let mul = parted rate at time (last_time (max at time) asks) (later (max at time) asks) in
    let step : goes.0 + 1000 ≡ min (burst * 1000) (level + (time - at) * rate) = goes.1 in
    omega (arith, on, mul, step)
rated rate burst level at (Waits time ∷ asks) goes =
    let on = rated rate burst (min (burst * 1000) (level + (time - at) * rate)) (max at time) asks goes in
    let mul = parted rate at time (last_time (max at time) asks) (later (max at time) asks) in
    omega (arith, on, mul)
