-- Scenes of trains that leave out one part of the rules about one clock, true reports, and runs with an authority. Each
-- has the acts that the five rules forbid.
use Rattle.std.specs.List.{range_with_len, zip}
use Rattle.std.specs.Prelude.{[], ◌++◌, ◌+◌, ◌-◌, ◌==◌, ◌∷◌, false, if◌then◌else◌, length, List, map, None, pos, Some}
use Rattle.std.specs.Prelude.{true, ℕ}
use Rattle.law_trains.specs.Trains.{Train}
use Rattle.rbc_spec.specs.Line.{Line, Section, Train as TrainOfLine}
use Rattle.rbc_spec.specs.Message.{EndOfMission, InitiationOfSession, Report, Request, SessionEstablished}
use Rattle.rbc_spec.specs.Message.{ShorteningGranted, StartOfMission, TrainData}
use Rattle.rbc_spec.specs.Place.{Position}
use Rattle.rbc_spec.specs.World.{Set, Unset}
use Rattle.test_scenes.specs.RuleParts.{Arrives, Commands, Frame, HeardRequest, Hears, LeftOut, meet_on, OneClock, Runs}
use Rattle.test_scenes.specs.RuleParts.{Says, Sends, ToTheEnd, TrueFront, TrueRear, WithAuthority}
use Rattle.test_scenes.specs.Scene.{at, line_of, sections_on, times}

-- ## The lines and trains

-- the lengths and homes of sections of 100 m, by their counts and homes in order
abbrev pub hundreds : List (ℕ × ℕ) → List (ℕ × ℕ)
hundreds [] = []
hundreds (p ∷ ps) = times p.0 (100, p.1) ++ hundreds ps

-- the sections of tracks, from this track and this section on
abbrev pub tracks_from : (track first : ℕ) → List (List (ℕ × ℕ)) → List Section
tracks_from track first [] = []
tracks_from track first (parts ∷ others) =
    sections_on track first (hundreds parts)
    ++ tracks_from (track + 1) (first + length (hundreds parts)) others

-- trains from 1 on with these registrars
abbrev pub trains_of : List ℕ → List TrainOfLine
trains_of registrars =
    map (λ e. record { nid_engine = e.0; registrar = e.1 }) (zip (range_with_len 1 (length registrars)) registrars)

-- a line of this number of centres with these tracks, and trains with these registrars
abbrev pub line_with : ℕ → List (List (ℕ × ℕ)) → List ℕ → Line
line_with centres tracks registrars = record (line_of centres names (tracks_from 0 0 tracks) 0 0) {
  trains = trains_of registrars;
}
  where
    names : List (List ℕ)
    names = map (λ k. (97 + k) ∷ []) (range_with_len 0 (length tracks))

-- a train before its first act, with its true ends in decimetres
abbrev pub new_train : (t track front rear : ℕ) → ℕ × Train
new_train t track front rear = (
  t,
  record {
    track = track;
    front = front;
    rear = pos rear;
    clock = 0;
    has_started = false;
    end = None;
    follows = None;
    gave_back = 0;
    asked = λ c. None;
  },
)

abbrev pub placed : List (ℕ × Train) → ℕ → Train
placed [] t = (new_train t 0 1 0).1
placed (p ∷ ps) t = if p.0 == t then p.1 else placed ps t

-- a position at standstill, by its safe front and rear ends in metres from this balise group
abbrev pub span : (balise front rear : ℕ) → Position
span balise front rear =
    record (at balise front (Some (front - rear))) { l_doubtover = 0; l_doubtunder = 0 }

-- the same without a safe rear end
abbrev pub front_at : (balise front : ℕ) → Position
front_at balise front = record (span balise front front) { l_trainint = None }

-- ## The scenes

-- A train ends its mission at standstill twice, the second time with a lower T_TRAIN. The first of both messages
-- arrives after it has an authority again.
abbrev pub clock_set_back : LeftOut
clock_set_back = record {
  part = OneClock;
  scene = record {
    line = line_with 2 (((2, 0) ∷ (3, 1) ∷ []) ∷ []) (0 ∷ 1 ∷ []);
    train = placed (new_train 1 0 950 450 ∷ new_train 2 0 1950 1450 ∷ []);
    acts =
        Commands (Set 0 0) ∷ Commands (Set 0 1) ∷ Sends 1 0 1 InitiationOfSession ∷ Sends 1 0 2 SessionEstablished
        ∷ Sends 1 0 3 (StartOfMission true (span 100 95 45)) ∷ Says 1 0 20 (EndOfMission (span 100 95 45))
        ∷ Says 1 0 5 (EndOfMission (span 100 95 45)) ∷ Sends 1 0 10 (TrainData (span 100 95 45)) ∷ Hears 1 0 3
        ∷ Sends 1 0 11 (Request (span 100 95 45)) ∷ Hears 1 0 4 ∷ Arrives 1 0 20 ∷ Sends 2 0 1 InitiationOfSession
        ∷ Sends 2 0 2 SessionEstablished ∷ Sends 2 0 3 (StartOfMission true (span 100 195 145)) ∷ Frame 0 1
        ∷ Frame 0 1 ∷ Frame 1 0 ∷ Frame 1 0 ∷ Runs 1 2000 (pos 1500) ∷ [];
  };
  is_wrong = meet_on 1 2 1;
  forbidden =
      Says 1 0 5 (EndOfMission (span 100 95 45)) ∷ Sends 1 0 10 (TrainData (span 100 95 45))
      ∷ Sends 1 0 11 (Request (span 100 95 45)) ∷ Runs 1 2000 (pos 1500) ∷ [];
}

-- A train starts with a safe front end in rear of its own.
abbrev pub front_in_rear : LeftOut
front_in_rear = record {
  part = TrueFront;
  scene = record {
    line = line_with 2 (((2, 0) ∷ (2, 1) ∷ []) ∷ ((3, 1) ∷ (3, 0) ∷ []) ∷ []) (0 ∷ 0 ∷ 0 ∷ []);
    train = placed (new_train 1 1 4600 4550 ∷ new_train 2 1 5700 5650 ∷ new_train 3 1 5800 5750 ∷ []);
    acts =
        Commands (Set 0 8) ∷ Commands (Set 0 9) ∷ Sends 3 0 1 InitiationOfSession ∷ Sends 3 0 2 SessionEstablished
        ∷ Sends 2 0 2 InitiationOfSession ∷ Sends 3 0 3 (StartOfMission true (span 104 469 468))
        ∷ Sends 2 0 3 SessionEstablished ∷ Sends 2 0 9 (StartOfMission true (span 104 570 565)) ∷ [];
  };
  is_wrong = meet_on 2 3 9;
  forbidden = Sends 3 0 3 (StartOfMission true (span 104 469 468)) ∷ [];
}

-- A train reports a safe rear end in advance of its own, and the section is free for another.
abbrev pub rear_in_advance : LeftOut
rear_in_advance = record {
  part = TrueRear;
  scene = record {
    line = line_with 2 (((2, 0) ∷ (1, 1) ∷ []) ∷ ((2, 0) ∷ []) ∷ []) (0 ∷ 0 ∷ []);
    train = placed (new_train 1 0 700 650 ∷ new_train 2 0 800 750 ∷ []);
    acts =
        Commands (Set 0 0) ∷ Sends 1 0 1 InitiationOfSession ∷ Sends 2 0 1 InitiationOfSession
        ∷ Sends 2 0 2 SessionEstablished ∷ Sends 2 0 3 (StartOfMission true (span 100 80 66))
        ∷ Sends 1 0 2 SessionEstablished ∷ Sends 2 0 29 (Report (span 100 300 245))
        ∷ Sends 1 0 22 (StartOfMission true (span 100 70 69)) ∷ [];
  };
  is_wrong = meet_on 1 2 0;
  forbidden = Sends 2 0 29 (Report (span 100 300 245)) ∷ Sends 1 0 22 (StartOfMission true (span 100 70 69)) ∷ [];
}

-- A train grants a request to shorten that it did not receive.
abbrev pub request_not_heard : LeftOut
request_not_heard = record {
  part = HeardRequest;
  scene = record {
    line = line_with 2 (((2, 0) ∷ (3, 1) ∷ []) ∷ []) (1 ∷ 0 ∷ 1 ∷ []);
    train = placed (new_train 1 0 3630 3580 ∷ new_train 2 0 2420 2370 ∷ new_train 3 0 5000 4950 ∷ []);
    acts =
        Commands (Set 1 4) ∷ Commands (Set 1 3) ∷ Sends 1 1 1 InitiationOfSession ∷ Sends 1 1 2 SessionEstablished
        ∷ Sends 1 1 5 (StartOfMission true (span 100 395 355)) ∷ Sends 3 1 1 InitiationOfSession
        ∷ Sends 1 1 6 (TrainData (span 100 412 358)) ∷ Sends 3 1 2 SessionEstablished
        ∷ Sends 1 1 7 (Request (span 100 363 350)) ∷ Hears 1 1 3 ∷ Sends 1 1 8 (Request (span 100 363 350))
        ∷ Hears 1 1 4 ∷ Commands (Unset 1 4) ∷ Sends 1 1 10 (ShorteningGranted 6 (span 100 367 343))
        ∷ Commands (Set 1 4) ∷ Runs 1 5000 (pos 4950) ∷ Sends 3 1 14 (StartOfMission true (span 100 500 495)) ∷ [];
  };
  is_wrong = meet_on 1 3 4;
  forbidden = Sends 1 1 10 (ShorteningGranted 6 (span 100 367 343)) ∷ [];
}

-- A train runs in advance of the end of its authority.
abbrev pub past_the_end : LeftOut
past_the_end = record {
  part = ToTheEnd;
  scene = record {
    line = line_with 2 (((2, 0) ∷ (2, 1) ∷ []) ∷ ((3, 1) ∷ (3, 0) ∷ []) ∷ []) (0 ∷ 0 ∷ 0 ∷ []);
    train = placed (new_train 1 1 4600 4550 ∷ new_train 2 1 5700 5650 ∷ new_train 3 1 5800 5750 ∷ []);
    acts =
        Commands (Set 0 8) ∷ Commands (Set 0 9) ∷ Sends 3 0 1 InitiationOfSession ∷ Sends 1 0 1 InitiationOfSession
        ∷ Sends 1 0 2 SessionEstablished ∷ Sends 1 0 3 (StartOfMission true (span 104 460 455))
        ∷ Runs 1 6000 (pos 4550) ∷ Sends 3 0 3 SessionEstablished
        ∷ Sends 3 0 7 (StartOfMission true (span 104 580 569)) ∷ [];
  };
  is_wrong = meet_on 1 3 9;
  forbidden = Runs 1 6000 (pos 4550) ∷ [];
}

-- A train starts its mission, and runs before it has an authority.
abbrev pub without_an_authority : LeftOut
without_an_authority = record {
  part = WithAuthority;
  scene = record {
    line = line_with 2 (((3, 0) ∷ (1, 1) ∷ []) ∷ []) (1 ∷ 1 ∷ []);
    train = placed (new_train 1 0 630 580 ∷ new_train 2 0 4000 3950 ∷ []);
    acts =
        Commands (Set 1 3) ∷ Sends 1 0 1 InitiationOfSession ∷ Runs 1 840 (pos 790) ∷ Sends 1 0 3 SessionEstablished
        ∷ Commands (Set 0 0) ∷ Sends 2 1 2 InitiationOfSession ∷ Sends 2 1 3 SessionEstablished
        ∷ Says 1 0 5 (StartOfMission true (span 100 84 79)) ∷ Sends 2 1 4 (StartOfMission true (span 100 400 389))
        ∷ Runs 1 4000 (pos 790) ∷ Arrives 1 0 5 ∷ Frame 0 1 ∷ Frame 1 0 ∷ [];
  };
  is_wrong = meet_on 1 2 3;
  forbidden = Runs 1 4000 (pos 790) ∷ [];
}
