-- The sections of the front ends of trains, and their true places for an observer.
use Rattle.cli_drive.specs.declared.trains.observer.TruePlace.{TruePlace}
use Rattle.cli_drive.specs.declared.trains.train.Train.{Train}
use Rattle.rbc_line.specs.declared.parts.Section.{Section}
use Rattle.std.specs.Prelude.{List, None, Option, position, Some, ℕ}
use Rattle.train_unit.specs.Standing.{has_front}

-- the first section with the front end of a train; none without a train
abbrev pub front_section : List Section → Option Train → Option ℕ
front_section sections None = None
front_section sections (Some train) = position (λ section. has_front section train.ends) sections

-- the true place of a train, with its NID_ENGINE
abbrev pub place_of : Train → TruePlace
place_of train = record {
  nid_engine = train.unit.nid_engine;
  track = train.ends.track;
  front = train.ends.front;
  rear = train.ends.rear;
}
