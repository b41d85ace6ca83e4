-- The effect of an act of a centre on handovers: those that it announces, those that it expects, and the frames
-- between.
use Rattle.std.specs.Prelude.{◌&&◌, ◌+◌, ◌<◌, ◌==◌, ◌≡◌, ◌≢◌, ◌≤◌, ◌⊎◌, Bool, false, List, not, Option, option_map}
use Rattle.std.specs.Prelude.{Some, true, ℕ}
use Rattle.law_base.specs.Counting.Chain.{Chain}
use Rattle.law_base.specs.Counting.Sums.{one_if}
use Rattle.law_invariants.specs.Flow.Pairs.{announces, count_if, follows, handing_to, takes_over, yields}
use Rattle.rbc_spec.specs.Centre.{Centre, Expectation, Handing}
use Rattle.rbc_spec.specs.Frame.{Body}
use Rattle.rbc_spec.specs.Maps.{has}

-- the number of a handover that is expected, and of one that is announced
abbrev pub number_expected : Option Expectation → Option ℕ
number_expected e = option_map (λ x. x.number) e

abbrev pub number_announced : Option Handing → Option ℕ
number_announced h = option_map (λ x. x.number) h

-- 1 if the train is expected under number h, and this centre has not replied yet that it takes over
abbrev pub waiting : ℕ → Option Expectation → ℕ
waiting h e = one_if (has (λ x. (x.number == h) && not x.is_taking) e)

-- which handovers an act may yield: to a centre, of a train, under a number
abbrev pub Allowance : Type 0
Allowance = ℕ → ℕ → ℕ → Bool

abbrev pub none_allowed : Allowance
none_allowed d t h = false

-- a frame TakingOver from centre a allows the handover that it names
abbrev pub allowed_by : ℕ → Body → Allowance
allowed_by a f d t h = (d == a) && takes_over t h f

-- an act of a centre leads from state k to state y, sends these frames, and yields only allowed handovers
pub record IsOrderlyWith (allow : Allowance) (k y : Centre) (frames : ℕ → List Body) : Type 0 where
  -- its frames about a train lead from the handover announced before to the one announced after
  pub leads : (d t : ℕ) → Chain (follows t) (frames d) (number_announced (handing_to d (k.mission t)))
      (number_announced (handing_to d (y.mission t)))
  -- it expects each train as before
  pub expected : (a t : ℕ) → number_expected (y.expects a t) ≡ number_expected (k.expects a t)
  pub announced : k.announced ≤ y.announced
  -- it yields only an allowed handover
  pub yielded : (d t h : ℕ) → (count_if (yields t h) (frames d) ≡ 0) ⊎ (allow d t h ≡ true)
  -- an announcement has a number that no handover had before, and is sent once
  pub anew : (d t h : ℕ) → (count_if (announces t h) (frames d) ≡ 0)
      ⊎ ((k.announced < h) × (h ≤ y.announced) × (count_if (announces t h) (frames d) ≤ 1))
  -- it replies TakingOver only for a handover that waited for it, which then waits no longer
  pub takes : (a t h : ℕ) → waiting h (y.expects a t) + count_if (takes_over t h) (frames a) ≤ waiting h (k.expects a t)

-- an act that yields none
abbrev pub IsOrderly : Centre → Centre → (ℕ → List Body) → Type 0
IsOrderly k y frames = IsOrderlyWith none_allowed k y frames

-- centre k becomes y by frame f from a, which is the next of its link
pub record IsTaking (a : ℕ) (f : Body) (k y : Centre) : Type 0 where
  -- the expectation for the train that the frame names changes as the frame requires
  pub leads : (t : ℕ) → follows t f (number_expected (k.expects a t)) ≡ Some (number_expected (y.expects a t))
  pub expected : (i t : ℕ) → i ≢ a → y.expects i t ≡ k.expects i t
  pub waits : (t h : ℕ) → waiting h (y.expects a t) ≤ waiting h (k.expects a t) + one_if (announces t h f)
  pub announced : y.announced ≡ k.announced
  -- the handovers announced to centre a do not change
  pub number : (t : ℕ) → number_announced (handing_to a (y.mission t)) ≡ number_announced (handing_to a (k.mission t))
  pub handing : (b t : ℕ) → b ≢ a → handing_to b (y.mission t) ≡ handing_to b (k.mission t)

-- the effect of the frame, then an orderly act from state y, which may yield a handover that the frame takes over
pub record IsTakenWith (a : ℕ) (f : Body) (k new : Centre) (frames : ℕ → List Body) : Type 0 where
  pub y : Centre
  pub taking : IsTaking a f k y
  pub after : IsOrderlyWith (allowed_by a f) y new frames
