-- A train's message does not touch the state that the centres keep of every other train.
use Rattle.std.specs.Prelude.{◌≡◌, ℕ, true, Ok}
use Rattle.std.specs.List.{All}
use Rattle.rbc_spec.specs.Line.{Line}
use Rattle.rbc_spec.specs.Message.{TrainMessage}
use Rattle.rbc_spec.specs.Outcome.{Outcome, Word, Told}
use Rattle.rbc_spec.specs.Centre.{Centre, is_used_for}
use Rattle.rbc_spec.specs.World.{World, Bytes, Answered, world_step}
use Rattle.law_base.specs.Walk.Trains.{train_of}

-- The state that a centre keeps of train u is the same. It is the session, the mission, the waiting start, the right
-- with its pending questions, the announced handovers, and the sections in use for u.
pub record IsSameOf (u : ℕ) (k new : Centre) : Type 0 where
  pub phase : new.phase u ≡ k.phase u
  pub heard : new.heard u ≡ k.heard u
  pub said : new.said u ≡ k.said u
  pub mission : new.mission u ≡ k.mission u
  pub wait : new.wait u ≡ k.wait u
  pub has_asked : new.has_asked u ≡ k.has_asked u
  pub has_right : new.has_right u ≡ k.has_right u
  pub route_ask : new.route_ask u ≡ k.route_ask u
  pub expects : (d : ℕ) → new.expects d u ≡ k.expects d u
  pub used : (s : ℕ) → is_used_for u (new.book s) ≡ is_used_for u (k.book s)
  pub entries : (s : ℕ) → is_used_for u (k.book s) ≡ true → new.book s ≡ k.book s

-- the reply reports to the interlocking that a section is shut, and the section was in use for train t
abbrev pub IsToldOf : ℕ → Centre → Word → Type 0
IsToldOf t k (Told s) = is_used_for t (k.book s) ≡ true
IsToldOf t k word = ⊥

-- Centre c takes a message of train t. At each centre, the state of every other train is unchanged. All messages to
-- trains and all frames to other centres are of t. All replies to the interlocking are of sections that were in use for
-- t at c.
pub record IsOfTrain (c t : ℕ) (w : World) (outcome : Outcome) (new : World) : Type 0 where
  pub others : (u : ℕ) → (u ≡ t → ⊥) → (d : ℕ) → IsSameOf u (w.at d) (new.at d)
  pub sayings : All (λ p. p.nid_engine ≡ t) outcome.sayings
  pub frames : (d : ℕ) → All (λ f. train_of f.body ≡ t) (outcome.frames d)
  pub words : All (IsToldOf t (w.at c)) outcome.words

-- a message of one train takes nothing from another, in any state of the centres
abbrev pub IsolationTheorem : Type 0
IsolationTheorem = (line : Line) (w new : World) (c : ℕ) (m : TrainMessage) (outcome : Outcome)
    → world_step line w (Bytes c (Ok m)) ≡ Ok (Answered outcome, new) → IsOfTrain c m.nid_engine w outcome new
