-- Scenes of trains that leave out one part of the rules about giving back, and about the centre that a train follows.
-- Each has the acts that the five rules forbid.
use Rattle.std.specs.Prelude.{[], ◌∷◌, pos, true}
use Rattle.rbc_spec.specs.Message.{EndOfMission, InitiationOfSession, Report, Request, SessionEstablished}
use Rattle.rbc_spec.specs.Message.{ShorteningGranted, StartOfMission, TrainData}
use Rattle.rbc_spec.specs.World.{Set, Unset}
use Rattle.test_scenes.specs.RuleParts.{Arrives, CentreAfterGrant, CentreAtStandstill, Commands, DataAfterGrant}
use Rattle.test_scenes.specs.RuleParts.{DataAtStandstill, EndAfterGrant, EndAtStandstill, FollowedCentre, Frame, Hears}
use Rattle.test_scenes.specs.RuleParts.{is_on_shut, LeftOut, meet_on, Runs, Says, Sends, SinceAcknowledged, TrainScene}
use Rattle.test_scenes.specs.RuleScenes.{front_at, line_with, new_train, placed, span}

-- A train grants a request to shorten, and keeps the end of its authority.
abbrev pub end_after_a_grant : LeftOut
end_after_a_grant = record {
  part = EndAfterGrant;
  scene = record {
    line = line_with 2 (((1, 0) ∷ (2, 1) ∷ []) ∷ []) (1 ∷ 1 ∷ []);
    train = placed (new_train 1 0 1900 1850 ∷ new_train 2 0 630 580 ∷ []);
    acts =
        Commands (Set 1 1) ∷ Commands (Set 1 2) ∷ Sends 1 1 1 InitiationOfSession ∷ Sends 1 1 2 SessionEstablished
        ∷ Runs 2 3000 (pos 2950) ∷ Sends 1 1 3 (StartOfMission true (span 100 190 182))
        ∷ Sends 2 1 3 InitiationOfSession ∷ Sends 2 1 4 SessionEstablished
        ∷ Sends 1 1 10 (TrainData (front_at 100 190)) ∷ Hears 1 1 3 ∷ Sends 1 1 16 (Request (span 100 190 185))
        ∷ Commands (Unset 1 2) ∷ Hears 1 1 5 ∷ Hears 1 1 4 ∷ Sends 1 1 20 (ShorteningGranted 5 (span 100 190 185))
        ∷ Runs 1 2260 (pos 1850) ∷ [];
  };
  is_wrong = is_on_shut 1 2;
  forbidden = Runs 1 2260 (pos 1850) ∷ [];
}

-- A train grants a request to shorten, and takes an earlier authority after that.
abbrev pub centre_after_a_grant : LeftOut
centre_after_a_grant = record {
  part = CentreAfterGrant;
  scene = record {
    line = line_with 2 (((1, 0) ∷ (3, 1) ∷ []) ∷ []) (1 ∷ 1 ∷ []);
    train = placed (new_train 1 0 2000 1950 ∷ new_train 2 0 3560 3510 ∷ []);
    acts =
        Commands (Set 1 2) ∷ Commands (Set 1 3) ∷ Sends 1 1 1 InitiationOfSession ∷ Sends 2 1 2 InitiationOfSession
        ∷ Sends 2 1 3 SessionEstablished ∷ Sends 1 1 3 SessionEstablished ∷ Commands (Set 1 1)
        ∷ Sends 1 1 5 (StartOfMission true (span 100 200 189)) ∷ Sends 1 1 7 (TrainData (span 100 200 195))
        ∷ Sends 1 1 12 (Request (span 100 200 195)) ∷ Hears 1 1 3 ∷ Commands (Unset 1 3) ∷ Hears 1 1 5
        ∷ Sends 1 1 20 (ShorteningGranted 5 (span 100 201 195)) ∷ Commands (Set 1 3)
        ∷ Sends 2 1 19 (StartOfMission true (span 100 356 338)) ∷ Hears 1 1 4 ∷ Runs 1 4000 (pos 3950) ∷ [];
  };
  is_wrong = meet_on 1 2 3;
  forbidden = Runs 1 4000 (pos 3950) ∷ [];
}

-- A train grants a request to shorten, and then follows its centre by an earlier acknowledgement.
abbrev pub data_before_a_grant : LeftOut
data_before_a_grant = record {
  part = DataAfterGrant;
  scene = record {
    line = line_with 2 (((2, 0) ∷ (1, 1) ∷ []) ∷ []) (0 ∷ 0 ∷ []);
    train = placed (new_train 1 0 2700 2650 ∷ new_train 2 0 1700 1650 ∷ []);
    acts =
        Commands (Set 0 1) ∷ Commands (Set 1 2) ∷ Sends 2 0 1 InitiationOfSession ∷ Sends 2 0 2 SessionEstablished
        ∷ Sends 2 0 4 (StartOfMission true (span 100 170 164)) ∷ Sends 2 0 6 (TrainData (span 100 212 165))
        ∷ Says 2 0 10 (Request (span 100 170 111)) ∷ Sends 1 1 16 InitiationOfSession ∷ Arrives 2 0 10 ∷ Frame 0 1
        ∷ Sends 1 1 17 SessionEstablished ∷ Frame 1 0 ∷ Sends 2 0 16 (Request (span 100 170 165)) ∷ Frame 0 1
        ∷ Commands (Unset 1 2) ∷ Commands (Set 1 2) ∷ Frame 1 0 ∷ Hears 2 0 7
        ∷ Sends 2 0 36 (ShorteningGranted 7 (span 100 170 165)) ∷ Frame 0 1
        ∷ Sends 1 1 46 (StartOfMission true (span 100 286 265)) ∷ Frame 0 1 ∷ Frame 1 0 ∷ Hears 2 0 3 ∷ Frame 0 1
        ∷ Hears 2 0 5 ∷ Runs 2 3000 (pos 1950) ∷ [];
  };
  is_wrong = meet_on 1 2 2;
  forbidden = Runs 2 3000 (pos 1950) ∷ [];
}

-- A train ends its mission at standstill, and keeps its authority.
abbrev pub end_at_standstill : LeftOut
end_at_standstill = record {
  part = EndAtStandstill;
  scene = record {
    line = line_with 2 (((1, 0) ∷ (2, 1) ∷ []) ∷ []) (1 ∷ 0 ∷ 1 ∷ []);
    train = placed (new_train 1 0 1630 1580 ∷ new_train 2 0 2560 2510 ∷ new_train 3 0 600 550 ∷ []);
    acts =
        Commands (Set 1 2) ∷ Commands (Set 1 1) ∷ Sends 1 1 1 InitiationOfSession ∷ Sends 1 1 2 SessionEstablished
        ∷ Sends 1 1 3 (StartOfMission true (span 100 163 158)) ∷ Sends 1 1 10 (TrainData (front_at 100 163))
        ∷ Hears 1 1 3 ∷ Sends 1 1 23 (Request (front_at 100 164)) ∷ Hears 1 1 4 ∷ Sends 2 1 28 InitiationOfSession
        ∷ Sends 1 1 31 (EndOfMission (span 100 163 129)) ∷ Sends 2 1 29 SessionEstablished ∷ Runs 1 2170 (pos 2120)
        ∷ Sends 2 1 35 (StartOfMission true (span 100 256 251)) ∷ Frame 1 0 ∷ Frame 0 1 ∷ [];
  };
  is_wrong = meet_on 1 2 2;
  forbidden = Runs 1 2170 (pos 2120) ∷ [];
}

-- A train ends its mission at standstill, and takes an earlier authority after that.
abbrev pub centre_at_standstill : LeftOut
centre_at_standstill = record {
  part = CentreAtStandstill;
  scene = record {
    line = line_with 3 (((1, 0) ∷ (3, 1) ∷ (2, 2) ∷ []) ∷ ((3, 2) ∷ (3, 1) ∷ (1, 0) ∷ []) ∷ []) (2 ∷ 1 ∷ []);
    train = placed (new_train 1 0 4560 4510 ∷ new_train 2 0 1800 1750 ∷ []);
    acts =
        Commands (Set 1 1) ∷ Commands (Set 1 2) ∷ Commands (Set 1 3) ∷ Commands (Set 2 4) ∷ Commands (Set 2 5)
        ∷ Sends 2 1 1 InitiationOfSession ∷ Sends 2 1 2 SessionEstablished
        ∷ Sends 2 1 3 (StartOfMission true (span 100 227 117)) ∷ Says 1 2 2 InitiationOfSession
        ∷ Sends 2 1 5 (TrainData (span 100 226 175)) ∷ Arrives 1 2 2 ∷ Sends 1 2 3 SessionEstablished
        ∷ Runs 1 5640 (pos 5590) ∷ Sends 2 1 13 (Request (span 100 180 118)) ∷ Frame 1 2 ∷ Hears 2 1 3 ∷ Frame 2 1
        ∷ Sends 2 1 24 (Request (span 100 193 149)) ∷ Sends 2 1 26 (EndOfMission (span 100 193 175)) ∷ Frame 1 2
        ∷ Frame 1 2 ∷ Sends 1 2 14 (StartOfMission true (span 100 564 559)) ∷ Hears 2 1 5
        ∷ Runs 2 6000 (pos 5950) ∷ [];
  };
  is_wrong = meet_on 1 2 5;
  forbidden = Runs 2 6000 (pos 5950) ∷ [];
}

-- A train ends its mission at standstill, and then follows its centre by an earlier acknowledgement.
abbrev pub data_before_standstill : LeftOut
data_before_standstill = record {
  part = DataAtStandstill;
  scene = record {
    line = line_with 2 (((2, 0) ∷ (2, 1) ∷ []) ∷ []) (0 ∷ 1 ∷ 1 ∷ []);
    train = placed (new_train 1 0 3700 3650 ∷ new_train 2 0 1560 1510 ∷ new_train 3 0 560 510 ∷ []);
    acts =
        Commands (Set 0 0) ∷ Commands (Set 0 1) ∷ Sends 3 0 1 InitiationOfSession ∷ Sends 3 0 2 SessionEstablished
        ∷ Sends 3 0 3 (StartOfMission true (span 100 103 51)) ∷ Sends 2 0 1 InitiationOfSession
        ∷ Sends 2 0 2 SessionEstablished ∷ Frame 0 1 ∷ Frame 1 0 ∷ Sends 3 0 11 (TrainData (span 100 107 51))
        ∷ Sends 3 0 12 (Request (span 100 83 51)) ∷ Says 3 0 13 (EndOfMission (span 100 56 51)) ∷ Frame 0 1
        ∷ Arrives 3 0 13 ∷ Frame 1 0 ∷ Sends 2 0 10 (StartOfMission true (span 100 156 151)) ∷ Frame 0 1 ∷ Hears 3 0 3
        ∷ Frame 1 0 ∷ Hears 3 0 4 ∷ Runs 3 2000 (pos 1950) ∷ [];
  };
  is_wrong = meet_on 2 3 1;
  forbidden = Runs 3 2000 (pos 1950) ∷ [];
}

-- A train follows B, and takes an authority of A from before the handover.
abbrev pub another_centre : LeftOut
another_centre = record {
  part = FollowedCentre;
  scene = record {
    line = line_with 2 (((2, 0) ∷ (3, 1) ∷ []) ∷ []) (0 ∷ 1 ∷ []);
    train = placed (new_train 1 0 950 450 ∷ new_train 2 0 4950 4450 ∷ []);
    acts =
        Commands (Set 0 0) ∷ Commands (Set 0 1) ∷ Commands (Set 1 2) ∷ Commands (Set 1 3) ∷ Commands (Set 1 4)
        ∷ Sends 1 0 1 InitiationOfSession ∷ Sends 1 0 2 SessionEstablished
        ∷ Sends 1 0 3 (StartOfMission true (span 100 95 45)) ∷ Sends 1 0 4 (TrainData (span 100 95 45)) ∷ Hears 1 0 3
        ∷ Sends 1 0 5 (Request (span 100 95 45)) ∷ Frame 0 1 ∷ Frame 1 0 ∷ Sends 1 0 6 (Request (span 100 95 45))
        ∷ Hears 1 0 5 ∷ Runs 1 2500 (pos 2000) ∷ Frame 0 1 ∷ Sends 1 1 7 InitiationOfSession
        ∷ Sends 1 1 8 SessionEstablished ∷ Sends 1 1 9 (Report (span 100 250 200)) ∷ Frame 1 0 ∷ Frame 0 1
        ∷ Sends 1 1 10 (TrainData (span 100 250 200)) ∷ Hears 1 1 2 ∷ Commands (Unset 1 4) ∷ Hears 1 1 3
        ∷ Sends 1 1 11 (ShorteningGranted 3 (span 100 250 200)) ∷ Commands (Set 1 4) ∷ Sends 2 1 1 InitiationOfSession
        ∷ Sends 2 1 2 SessionEstablished ∷ Sends 2 1 3 (StartOfMission true (span 100 495 445))
        ∷ Sends 1 1 12 (TrainData (span 100 250 200)) ∷ Hears 1 1 4 ∷ Hears 1 0 5 ∷ Runs 1 5000 (pos 4500) ∷ [];
  };
  is_wrong = meet_on 1 2 4;
  forbidden = Runs 1 5000 (pos 4500) ∷ [];
}

-- A train starts again, and takes an authority from before the acknowledgement by which it follows its centre.
abbrev pub before_the_acknowledgement : LeftOut
before_the_acknowledgement = record {
  part = SinceAcknowledged;
  scene = record {
    line = line_with 2 (((2, 0) ∷ (2, 1) ∷ []) ∷ []) (0 ∷ 1 ∷ 1 ∷ []);
    train = placed (new_train 1 0 3700 3650 ∷ new_train 2 0 1560 1510 ∷ new_train 3 0 560 510 ∷ []);
    acts =
        Commands (Set 0 0) ∷ Commands (Set 0 1) ∷ Sends 3 0 1 InitiationOfSession ∷ Sends 3 0 2 SessionEstablished
        ∷ Sends 3 0 3 (StartOfMission true (span 100 103 51)) ∷ Sends 2 0 1 InitiationOfSession
        ∷ Sends 2 0 2 SessionEstablished ∷ Frame 0 1 ∷ Frame 1 0 ∷ Sends 3 0 11 (TrainData (span 100 107 51))
        ∷ Sends 3 0 12 (Request (span 100 83 51)) ∷ Says 3 0 13 (EndOfMission (span 100 56 51)) ∷ Frame 0 1
        ∷ Arrives 3 0 13 ∷ Frame 1 0 ∷ Sends 2 0 10 (StartOfMission true (span 100 156 151)) ∷ Frame 0 1
        ∷ Sends 3 0 14 (StartOfMission true (span 100 83 51)) ∷ Sends 3 0 16 (TrainData (front_at 100 106))
        ∷ Frame 1 0 ∷ Hears 3 0 6 ∷ Hears 3 0 4 ∷ Runs 3 2000 (pos 1950) ∷ [];
  };
  is_wrong = meet_on 2 3 1;
  forbidden = Runs 3 2000 (pos 1950) ∷ [];
}

-- ## No rule left out

-- Train 1 runs from A over B to C, and train 2 in advance of it at C. Some messages arrive late, and some again. Only C
-- gives train 1 the last section, after a late report of train 2.
abbrev pub over_three_centres : TrainScene
over_three_centres = record {
  line = line_with 3 (((2, 0) ∷ (2, 1) ∷ (3, 2) ∷ []) ∷ []) (0 ∷ 2 ∷ []);
  train = placed (new_train 1 0 950 450 ∷ new_train 2 0 5950 5450 ∷ []);
  acts =
      Commands (Set 0 0) ∷ Commands (Set 0 1) ∷ Commands (Set 1 2) ∷ Commands (Set 1 3) ∷ Commands (Set 2 4)
      ∷ Commands (Set 2 5) ∷ Commands (Set 2 6) ∷ Sends 2 2 1 InitiationOfSession ∷ Sends 2 2 2 SessionEstablished
      ∷ Sends 2 2 3 (StartOfMission true (span 100 595 545)) ∷ Sends 2 2 4 (TrainData (span 100 595 545))
      ∷ Hears 2 2 3 ∷ Sends 2 2 5 (Request (span 100 595 545)) ∷ Hears 2 2 4 ∷ Sends 1 0 1 InitiationOfSession
      ∷ Sends 1 0 2 SessionEstablished ∷ Sends 1 0 3 (StartOfMission true (span 100 95 45))
      ∷ Sends 1 0 4 (TrainData (span 100 95 45)) ∷ Hears 1 0 3 ∷ Sends 1 0 5 (Request (span 100 95 45))
      ∷ Hears 1 0 4 ∷ Runs 1 1900 (pos 1400) ∷ Frame 0 1 ∷ Frame 1 0 ∷ Sends 1 0 6 (Request (span 100 190 140))
      ∷ Hears 1 0 5 ∷ Runs 1 2500 (pos 2000) ∷ Frame 0 1 ∷ Sends 1 1 7 InitiationOfSession
      ∷ Sends 1 1 8 SessionEstablished ∷ Sends 1 1 9 (Report (span 100 250 200)) ∷ Frame 1 0 ∷ Frame 0 1
      ∷ Sends 1 1 10 (TrainData (span 100 250 200)) ∷ Hears 1 1 2 ∷ Sends 1 1 11 (Request (span 100 250 200))
      ∷ Hears 1 1 3 ∷ Hears 1 0 5 ∷ Runs 1 3900 (pos 3400) ∷ Runs 2 6950 (pos 6450)
      ∷ Says 2 2 6 (Report (span 100 695 645)) ∷ Sends 1 1 12 (Report (span 100 390 340)) ∷ Frame 1 0 ∷ Frame 1 2
      ∷ Frame 2 1 ∷ Sends 1 1 13 (Request (span 100 390 340)) ∷ Hears 1 1 4 ∷ Runs 1 4500 (pos 4000) ∷ Frame 1 2
      ∷ Frame 1 2 ∷ Sends 1 2 14 InitiationOfSession ∷ Sends 1 2 15 SessionEstablished
      ∷ Sends 1 2 16 (Report (span 100 450 400)) ∷ Frame 2 1 ∷ Frame 2 1 ∷ Frame 1 2 ∷ Arrives 1 0 6
      ∷ Sends 1 2 17 (TrainData (span 100 450 400)) ∷ Hears 1 2 2 ∷ Hears 1 1 4 ∷ Arrives 2 2 6
      ∷ Sends 1 2 18 (Request (span 100 450 400)) ∷ Hears 1 2 3 ∷ Arrives 1 2 18 ∷ Runs 1 5900 (pos 5400) ∷ [];
}
