-- Steps and worlds in whose frames each field is in its range.
use Rattle.std.specs.Prelude.{◌≡◌, ℕ, true, All, Ok}
use Rattle.rbc_spec.specs.Line.{Line, is_linked}
use Rattle.rbc_spec.specs.Frame.{Frame, HasFrameRanges}
use Rattle.rbc_spec.specs.Centre.{Centre}
use Rattle.rbc_spec.specs.Step as step
use Rattle.rbc_spec.specs.Step.{taken, effect, ticked, stamp_of, state_after}
use Rattle.rbc_spec.specs.World.{World, Event, Bytes}
use Rattle.law_invariants.specs.Ranges.Ranges.{HasStateRanges, LeavesInRange, HasMessageRanges}

-- centres a and b have a link, and each field of the frame is in its range
pub record IsFrameInRange (line : Line) (a b : ℕ) (f : Frame) : Type 0 where
  pub linked : is_linked line a b ≡ true
  pub ranges : HasFrameRanges f

-- a step of centre c, from state k, leaves it in its ranges, and sends bodies in their ranges, only on links
abbrev pub StaysInRange : Line → ℕ → Centre → step.Event → Type 0
StaysInRange line c k event =
    let stamp = stamp_of k event in
    let e = effect line c (ticked stamp k) event in
    LeavesInRange line c (state_after stamp k e) e.reply.frames

-- each frame of the step is in range
abbrev pub SendsInRange : Line → ℕ → Centre → step.Event → Type 0
SendsInRange line c k event = (d : ℕ) → All (IsFrameInRange line c d) ((taken line c event k).0.frames d)

-- a message in bytes has its ranges; another event needs none
abbrev pub IsReadInRange : Event → Type 0
IsReadInRange (Bytes c (Ok m)) = HasMessageRanges m
IsReadInRange event = Unit {0}

-- each centre is in its ranges, and so is each frame that one has sent to another
pub record IsWorldInRange (line : Line) (w : World) : Type 0 where
  pub centres : (c : ℕ) → HasStateRanges line c (w.at c)
  pub sent : (a b : ℕ) → All (IsFrameInRange line a b) ((w.at a).sent b)
