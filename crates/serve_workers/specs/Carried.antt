-- The frames that the two workers of a link carry.
use Rattle.std.specs.Prelude.{◌≡◌, ℕ, ◌≤◌, ◌+◌, ◌-◌, ◌^◌, min, List, [], ◌∷◌, Bool, true, false, Option, Some, None}
use Rattle.rbc_spec.specs.Frame.{Frame}
use Rattle.rbc_spec.specs.Outcome.{Outcome}
use Rattle.rbc_centre.specs.declared.event.Event.TheVariants.{Deliver}
use Rattle.rbc_node.specs.Receipts.{ShareValue}
use Rattle.rbc_node.specs.Node.{CommitsAt, IsFrameOf}

-- ## Sent frames

-- the notes know a frame under this number, and centre c has sent that frame to the other centre under this number
abbrev pub IsPut : (ℕ → Option Frame) → ℕ → ℕ → ℕ → Type 0
IsPut known c to n = (f : Frame) × (known n ≡ Some f) × IsFrameOf c to n (Some f)

-- this holds for each number from 1 to the count
pub record PutsInOrder (known : ℕ → Option Frame) (c to count : ℕ) : Type 0 where
  pub each : (n : ℕ) → 1 ≤ n → n ≤ count → IsPut known c to n

-- the journal keeps the stamp that the frame under this number awaits
abbrev pub IsKept : (ℕ → ℕ) → (ℕ → Option Frame) → ℕ → ℕ → Type 0
IsKept awaits known kept n = (f : Frame) × (known n ≡ Some f) × (awaits f.stamp ≤ kept)

-- this holds for each number from 1 to the count
pub record AreKept (awaits : ℕ → ℕ) (known : ℕ → Option Frame) (count kept : ℕ) : Type 0 where
  pub each : (n : ℕ) → 1 ≤ n → n ≤ count → IsKept awaits known kept n

-- ## Received frames

-- One turn at centre c, after which the order goes on. It may commit the delivery of the frame that the notes know
-- under the number that was asked for. Then the commit has the outcome of its step. Or it commits nothing, and the
-- share stays.
abbrev pub TakesTurn : {N : Type 0} → (N → ℕ) → (N → Bool → ℕ → Type 0) → (ℕ → Option Frame) → ℕ → ℕ
    → N → N → ShareValue → ShareValue → Option Bool → Type 0
TakesTurn asks follows known c from o p old new (Some true) =
    (f : Frame) × (outcome : Outcome) × (known (asks o) ≡ Some f) × CommitsAt c old new (Deliver from f) outcome
    × follows o true (asks p)
TakesTurn asks follows known c from o p old new (Some false) = (new ≡ old) × follows o false (asks p)
TakesTurn asks follows known c from o p old new None = (new ≡ old) × follows o false (asks p)

-- turn by turn: to its earlier receipts the share adds those of the committed deliveries, in their order, and no others
abbrev pub TakesTurns : {N : Type 0} → (N → ℕ) → (N → Bool → ℕ → Type 0) → (ℕ → Option Frame) → ℕ → ℕ
    → N → N → ShareValue → ShareValue → List (Option Bool) → Type 0
TakesTurns asks follows known c from o p old new [] = (p ≡ o) × (new ≡ old)
TakesTurns {N} asks follows known c from o p old new (came ∷ turns) =
    (q : N) × (mid : ShareValue) × TakesTurn asks follows known c from o q old mid came
    × TakesTurns asks follows known c from q p mid new turns

-- The frames are those that the notes know under n and the numbers after it, in order; the greatest number is followed
-- by itself. Their deliveries from a centre are committed at centre c in that order, each with the outcome of its step.
-- Nothing else is committed.
abbrev pub Delivers : (ℕ → Option Frame) → ℕ → ℕ → ℕ → ShareValue → ShareValue → List Frame → Type 0
Delivers known c from n old new [] = new ≡ old
Delivers known c from n old new (f ∷ frames) =
    (mid : ShareValue) × (outcome : Outcome) × (known n ≡ Some f) × CommitsAt c old mid (Deliver from f) outcome
    × Delivers known c from (min (n + 1) (2 ^ 32 - 1)) mid new frames
