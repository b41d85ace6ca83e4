-- A train at the border to the next centre.
use Rattle.std.specs.Prelude.{◌≡◌, ℕ, ◌+◌, ◌-◌, ◌<◌, ◌≤◌, true, Some}
use Rattle.rbc_spec.specs.SectionRuns.{within}
use Rattle.rbc_spec.specs.Line.{Line, start}
use Rattle.rbc_spec.specs.Place.{group_start}
use Rattle.rbc_spec.specs.Centre.{Mission}
use Rattle.rbc_spec.specs.Frame.{last_stamp}
use Rattle.rbc_mission.specs.Supervisions.{SupervisionState}
use Rattle.rbc_train.specs.Desk.{last_said}
use Rattle.rbc_train.specs.declared.train.TrainState.{TrainState}

-- each section of the hand of the mission, if there is one, starts within the range of D_RBCTR from the group of its
-- place
abbrev pub IsNear : Line → SupervisionState → Type 0
IsNear line c =
    (m : Mission) → c.mission ≡ Some m → (s : ℕ) → within m.hand s ≡ true
    → start line s - group_start line m.place ≤ 32767

-- the train is the same, and so is its hand with the tokens
pub record KeepsHand (old new : SupervisionState) : Type 0 where
  pub number : new.number ≡ old.number
  pub engine : new.engine ≡ old.engine
  pub hand : new.hand ≡ old.hand

-- A handover of the train may be announced after `count` earlier ones. The numbers suffice for the message and the
-- handover, and the border is near.
pub record MayAnnounce (line : Line) (p : TrainState) (count : ℕ) : Type 0 where
  pub said : p.said < last_said
  pub announced : count < last_stamp
  pub near : IsNear line p.supervision

-- Only the changes of an announcement and of a question: at most one further message, and one further announced
-- handover.
pub record KeepsAtBorder (old new : TrainState) (count count' : ℕ) : Type 0 where
  pub left : new ≡ record old { said = new.said; supervision = new.supervision }
  pub hand : KeepsHand old.supervision new.supervision
  pub counted : (old.said ≤ new.said) × (new.said ≤ old.said + 1)
  pub announced : (count ≤ count') × (count' ≤ count + 1)
