-- On-board units as the trains of the closed loop.
use Rattle.std.specs.Prelude.{if◌then◌else◌, ◌==◌, ◌≡◌, ◌≤◌, Err, int_le, nat_lt, not, Ok, Option}
use Rattle.std.specs.Prelude.{option_and_then, option_map, Result, slice_get, true, ℕ}
use Rattle.rbc_spec.specs.Line.{Line}
use Rattle.rbc_spec.specs.Message.{TrainMessage}
use Rattle.law_trains.specs.Trains.{Asked, Followed, is_true_of, Train, was_asked}
use Rattle.train_unit.specs.declared.ends.Ends.{Ends}
use Rattle.train_unit.specs.declared.refused.Refused.{Refused}
use Rattle.train_unit.specs.declared.refused.Refused.TheVariants.{Name, Stamp, Position, Request}
use Rattle.train_unit.specs.declared.unit.Asked.{Asked as AskedCode}
use Rattle.train_unit.specs.declared.unit.Followed.{Followed as FollowedCode}
use Rattle.train_unit.specs.declared.unit.OnBoardUnit.{OnBoardUnit}

abbrev pub followed_of : FollowedCode → Followed
followed_of f = record { centre = f.centre; stamp = f.stamp }

abbrev pub asked_of : AskedCode → Asked
asked_of a = record { stamp = a.stamp; end = a.end }

-- the request to shorten that it received last from centre c
abbrev pub asked_by : OnBoardUnit → ℕ → Option Asked
asked_by unit c = option_and_then (option_map asked_of) (slice_get unit.asked c)

-- the train with this unit on board, and with its ends there
abbrev pub train_of : OnBoardUnit → Ends → Train
train_of unit ends = record {
  track = ends.track;
  front = ends.front;
  rear = ends.rear;
  clock = unit.clock;
  has_started = unit.has_started;
  end = unit.end;
  follows = option_map followed_of unit.follows;
  gave_back = unit.gave_back;
  asked = asked_by unit;
}

-- These ends are within the safe ends: on the same track, the front end not in advance, the rear end not in rear.
pub record IsWithin (ends safe : Ends) : Type 0 where
  pub track : ends.track ≡ safe.track
  pub front : ends.front ≤ safe.front
  pub rear : int_le safe.rear ends.rear ≡ true

-- the first rule that forbids the train of this NID_ENGINE to send the message to centre c
abbrev pub verdict : Line → ℕ → ℕ → TrainMessage → Train → Result (Unit {0}) Refused
verdict line engine c m x =
    if not (m.nid_engine == engine) then Err Name
    else (if not (nat_lt x.clock m.t_train) then Err Stamp
    else (if not (is_true_of line x m.body) then Err Position
    else (if not (was_asked c m.body x) then Err Request else Ok tt)))
