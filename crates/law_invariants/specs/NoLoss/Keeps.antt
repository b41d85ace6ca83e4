-- The things that a centre has, and the frames that have to arrive at it, so that it loses nothing.
use Rattle.std.specs.Prelude.{◌≡◌, ℕ, true, false, List, Some}
use Rattle.law_base.specs.Counting.Resource.{Resource, IsExact}
use Rattle.rbc_spec.specs.Line.{Line}
use Rattle.rbc_spec.specs.Frame.{Body}
use Rattle.rbc_spec.specs.Outcome.{Next}
use Rattle.rbc_spec.specs.Centre.{Centre, Mission}
use Rattle.rbc_spec.specs.Step.{Event, Deliver, link_answer}
use Rattle.law_invariants.specs.Flow.Flow.{centre_count}
use Rattle.law_invariants.specs.Flow.Counts.{rights, tokens}
use Rattle.law_invariants.specs.NoCopy.Stray.{is_looked_for}

-- the right of a train is not here beside its mission
pub record HasRightOnce (k : Centre) : Type 0 where
  pub alone : (t : ℕ) (m : Mission) → k.mission t ≡ Some m → k.has_right t ≡ false

-- the event brings no stray frame to centre c, which is k: one that is the next of its link is looked for
abbrev pub BringsNoStray : Line → ℕ → Centre → Event → Type 0
BringsNoStray line c k (Deliver d f) = link_answer line c k d f ≡ Next → is_looked_for line c d k f.body ≡ true
BringsNoStray line c k event = Unit {0}

-- An act of centre c from state k to state y, which sends these frames. It makes no right and no token beyond those
-- that arrived, and loses none.
pub record IsExactAct (line : Line) (c : ℕ) (k : Centre) (came : Resource Centre Body → ℕ) (y : Centre)
    (frames : ℕ → List Body) : Type 0 where
  pub rights : (t : ℕ) → IsExact (rights line t) (centre_count line) c k (came (rights line t)) y frames
  pub tokens : (t s : ℕ) → IsExact (tokens line t s) (centre_count line) c k (came (tokens line t s)) y frames
