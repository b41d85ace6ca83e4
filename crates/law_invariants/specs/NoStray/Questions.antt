-- Pending questions of centres, each with the frame on the way that asks it or answers it.
use Rattle.std.specs.Prelude.{◌≡◌, ℕ, ◌+◌, true, List, is_some}
use Rattle.std.specs.List.{flat_map, count_by}
use Rattle.law_base.specs.Counting.Sums.{one_if}
use Rattle.law_base.specs.Counting.Network.{EachOnTheWay}
use Rattle.law_base.specs.Counting.Resource.{IsAtCap}
use Rattle.rbc_spec.specs.Line.{Line, is_centre, is_home}
use Rattle.rbc_spec.specs.Frame.{Body, Frame, AskRight, RouteWithdraw}
use Rattle.rbc_spec.specs.Centre.{Centre, is_out_for, is_registrar_of}
use Rattle.rbc_spec.specs.Links.{is_train}
use Rattle.rbc_spec.specs.World.{World, way}
use Rattle.rbc_spec.specs.ReadOff.{centres_of}
use Rattle.law_base.specs.Walk.Trains.{train_of}
use Rattle.law_invariants.specs.NoUnasked.Asked.{Question, asks, answers, stands, questions}
use Rattle.law_invariants.specs.Flow.Flow.{Flow, centre_count}

-- ## For a reader

-- the frames on the way from centre c, and those on the way to it
abbrev pub frames_from : Line → World → ℕ → List Frame
frames_from line w c = flat_map (λ b. way w c b) (centres_of line)

abbrev pub frames_to : Line → World → ℕ → List Frame
frames_to line w c = flat_map (λ a. way w a c) (centres_of line)

-- The pending question of centre c is on the way, or its answer is, once. If it is not pending, neither is on the way.
pub record IsAskedOnce (line : Line) (w : World) (c : ℕ) (x : Question) : Type 0 where
  pub once : count_by (λ f. asks x f.body) (frames_from line w c)
      + count_by (λ f. answers x f.body) (frames_to line w c) ≡ one_if (stands x (w.at c))

-- of each start of mission that waits at a centre the right was asked for, and is not yet answered
pub record HasAsked (k : Centre) : Type 0 where
  pub each : (t : ℕ) → is_some (k.wait t) ≡ true → k.has_asked t ≡ true

pub record IsAnswered (line : Line) (w : World) : Type 0 where
  pub questions : (c : ℕ) (x : Question) → is_centre line c ≡ true → IsAskedOnce line w c x
  pub waits : (c : ℕ) → HasAsked (w.at c)

-- ## Invariants of a flow

-- a right is asked of its registrar, and a section withdrawn by its home
abbrev pub IsSentRight : Line → ℕ → ℕ → Body → Type 0
IsSentRight line a b (AskRight t) = is_registrar_of line b t ≡ true
IsSentRight line a b (RouteWithdraw t s) = is_home line a s ≡ true
IsSentRight line a b body = Unit {0}

-- each body names a train of the line, and has a right sender and receiver
pub record IsBodyKnown (line : Line) (a b : ℕ) (body : Body) : Type 0 where
  pub known : is_train line (train_of body) ≡ true
  pub sent : IsSentRight line a b body

-- a section is out only for a train of the line
pub record HasKnownOuts (line : Line) (k : Centre) : Type 0 where
  pub each : (s t : ℕ) → is_out_for t (k.book s) ≡ true → is_train line t ≡ true

-- as many questions and answers are on the way as questions are pending
pub record LeavesNone (line : Line) (w : Flow) : Type 0 where
  pub questions : (x : Question) (d : ℕ) → IsAtCap (questions x d) (centre_count line) w
  pub bodies : EachOnTheWay (IsBodyKnown line) w
  pub outs : (c : ℕ) → HasKnownOuts line (w.at c)
  pub waits : (c : ℕ) → HasAsked (w.at c)
