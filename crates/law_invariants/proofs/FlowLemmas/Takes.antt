-- Acts that take no frame, and rights that a start of mission waits for.
use Rattle.std.proofs.Common.{[], ◌+◌, ◌∙◌, ◌∷◌, ◌≡◌, false, is_some, None, refl, Some, true, ℕ}
use Rattle.law_base.proofs.WalkLemmas.Causes.{May}
use Rattle.law_base.proofs.WalkLemmas.Moves.{Answer, Closed, Move, nothing_waits, rests}
use Rattle.law_base.proofs.WalkLemmas.Steps.{of_frame, of_set, of_train, of_unset}
use Rattle.law_invariants.specs.Flow.Numbers.{taken_after}
use Rattle.rbc_spec.specs.Acts.{◌>>◌, Act, begun, Reply}
use Rattle.rbc_spec.specs.Centre.{Centre}
use Rattle.rbc_spec.specs.Frame.{Body, Frame, GiveRight}
use Rattle.rbc_spec.specs.Line.{Line, train_number}
use Rattle.rbc_spec.specs.Links.{received}
use Rattle.rbc_spec.specs.Maps.{put}
use Rattle.rbc_spec.specs.Message.{TrainAccepted, TrainMessage, unknown_group}
use Rattle.rbc_spec.specs.Outcome as outcome
use Rattle.rbc_spec.specs.Outcome.{Early, Next, NoLink, Old}
use Rattle.rbc_spec.specs.Place.{Place}
use Rattle.rbc_spec.specs.Step as step
use Rattle.rbc_spec.specs.Step.{effect, link_answer, set, taken_by, Train, unset}

-- # The acts of a centre for a right that arrives while a start of mission waits for it.

pub given_is : (line : Line) (c a t : ℕ) (place : Place) (k : Centre) → is_some (train_number line t) ≡ true
    → k.has_asked t ≡ true → k.wait t ≡ Some place → k.mission t ≡ None
    → received line c a (GiveRight t) k ≡ record {
      state = record k {
        has_asked = put k.has_asked t false;
        wait = put k.wait t None;
        mission = put k.mission t (Some (begun line place));
        said = put k.said t (k.said t + 1);
      };
      frames = λ d. [];
      sayings =
          record {
            nid_engine = t;
            message = record {
              t_train = k.said t + 1;
              nid_lrbg = unknown_group;
              body = TrainAccepted;
            };
          } ∷ [];
      words = [];
    }
unfolding ◌>>◌
given_is line c a t place k known asked waits none = rw (known, asked, waits, none) refl

-- # No act of a centre but the taking of a frame changes how many frames it has taken of each other.

abbrev KeepsTaken : Centre → Reply → Type 0
KeepsTaken k q = q.state.taken ≡ k.taken

pub record Keeps (act : Act) : Type 0 where
  pub each : (k : Centre) → KeepsTaken k (act k)

module _ (line : Line) (c : ℕ) where
  moves : (may : May) (was k : Centre) (q : Reply) → Move line c may was k q → KeepsTaken k q
  moves may was _ _ (rests k) = refl
  moves may was k q move = refl

  answers : (may : May) (was : Centre) (d : ℕ) (body : Body) (q : Reply)
      → Answer line c may was d body q → KeepsTaken was q
  answers may was d _ _ (nothing_waits t asked none) = refl
  answers may was d body q answer = refl

  joins : (a b : Act) (k : Centre) → KeepsTaken k (a k) → KeepsTaken (a k).state (b (a k).state)
      → KeepsTaken k ((a >> b) k)
  unfolding ◌>>◌
  joins a b k one two = two ∙ one

  closed : (may : May) (was : Centre) → Closed line c may was KeepsTaken
  closed may was = record { moves = moves may was; joins = joins }

  pub set_keeps : (s : ℕ) → Keeps (set line c s)
  set_keeps s = record { each = of_set line c KeepsTaken closed s }

  pub unset_keeps : (s : ℕ) → Keeps (unset line c s)
  unset_keeps s = record { each = of_unset line c KeepsTaken closed s }

  pub train_keeps : (m : TrainMessage) (k : Centre) → (effect line c k (Train m)).reply.state.taken ≡ k.taken
  train_keeps = of_train line c KeepsTaken closed

  deliver_keeps : (d : ℕ) (f : Frame) (answer : outcome.Taken) (k : Centre)
      → (taken_by line c d f answer k).state.taken ≡ taken_after d f answer k
  unfolding ◌>>◌
  deliver_keeps d f Next k = of_frame line c KeepsTaken closed answers d f.body
      (record k { taken = put k.taken d f.number })
  deliver_keeps d f Old k = refl
  deliver_keeps d f Early k = refl
  deliver_keeps d f NoLink k = refl

  -- the clock is not looked at
  pub deliver_taken : (d stamp : ℕ) (f : Frame) (k : Centre)
      → (taken_by line c d f (link_answer line c k d f) (step.ticked stamp k)).state.taken
      ≡ taken_after d f (link_answer line c k d f) k
  deliver_taken d stamp f k = deliver_keeps d f (link_answer line c k d f) (step.ticked stamp k)
      ∙ same (link_answer line c k d f)
    where
      same : (answer : outcome.Taken) → taken_after d f answer (step.ticked stamp k) ≡ taken_after d f answer k
      same Next = refl
      same Old = refl
      same Early = refl
      same NoLink = refl
