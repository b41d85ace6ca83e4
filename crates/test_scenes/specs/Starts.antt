-- The interlocking, sessions, and starts of mission at the registrar and elsewhere.
use Rattle.std.specs.Prelude.{[], ◌++◌, ◌∷◌, Err, List, Some, true, ℕ}
use Rattle.rbc_spec.specs.Frame.{AskRight, GiveRight, RefuseRight, ReturnRight}
use Rattle.rbc_spec.specs.Message.{EndOfMission, InitiationOfSession, Report, Request, SessionEstablished}
use Rattle.rbc_spec.specs.Message.{ShorteningGranted, ShorteningRejected, StartOfMission, SystemVersion}
use Rattle.rbc_spec.specs.Message.{TerminationAcknowledged, TerminationOfSession, TrainAccepted, TrainData}
use Rattle.rbc_spec.specs.Message.{TrainRejected, unknown_group}
use Rattle.rbc_spec.specs.Outcome.{Asked, ForeignEngine, MissionEnded, Next, NoSession, NotHome, NoTrainData}
use Rattle.rbc_spec.specs.Outcome.{NotSupervised, Old, Reason, StaleStamp, WrongPhase}
use Rattle.rbc_spec.specs.World.{Bytes, Delivery, Set, Unset}
use Rattle.test_scenes.specs.Scene.{at, BadBytes, done, Given, Happens, in_section_1, IsOpen, IsShut, Item, Kept, Link}
use Rattle.test_scenes.specs.Scene.{Look, LookAtFrame, LookAtTrains, Mark, NeverSent, nothing, Nowhere, Says, Scene}
use Rattle.test_scenes.specs.Scene.{Sends, session, shows, ShowsFrame, ShowsTrains, Silence, Tells, times, train}

-- every section is shut, and no train is supervised
abbrev pub shows_a_new_line : List Item
shows_a_new_line = shows (times 8 IsShut) [] ([] ∷ [] ∷ [])

-- section 1 has this mark, the others are shut; and the supervisors of trains 1 and 2
abbrev pub shows_section_1 : Mark → List (List ℕ) → List Item
shows_section_1 m supervisors = shows (IsShut ∷ m ∷ times 6 IsShut) [] supervisors

-- the views of a new session with train t
abbrev pub opened : ℕ → List (List Item)
opened t = (Says t 1 unknown_group SystemVersion ∷ []) ∷ nothing ∷ []

abbrev pub silent : Reason → List Item
silent why = Silence why ∷ []

-- ## The interlocking

-- nothing happens on a new line
abbrev pub nothing_happens : List Scene
nothing_happens = Look ∷ []

abbrev pub nothing_happens_shows : List (List Item)
nothing_happens_shows = shows_a_new_line ∷ []

-- sections are set and unset at their home and elsewhere
abbrev pub set_and_unset : List Scene
set_and_unset =
    Happens (Set 0 0) ∷ Happens (Set 0 0) ∷ Happens (Set 1 7) ∷ Happens (Unset 0 0) ∷ Happens (Unset 0 1)
    ∷ Happens (Unset 0 4) ∷ Happens (Set 1 3) ∷ Happens (Set 0 8) ∷ Happens (Unset 1 65535) ∷ Happens (Set 0 4)
    ∷ Look ∷ Happens (Set 0 3) ∷ Look ∷ []

abbrev pub set_and_unset_shows : List (List Item)
set_and_unset_shows =
    done 0 ∷ done 0 ∷ done 7 ∷ done 0 ∷ done 1
    ∷ (Tells (NotHome 4) ∷ []) ∷ (Tells (NotHome 3) ∷ []) ∷ (Tells (NotHome 8) ∷ []) ∷ (Tells (NotHome 65535) ∷ [])
    ∷ (Tells (NotHome 4) ∷ [])
    ∷ shows (times 7 IsShut ++ IsOpen ∷ []) [] ([] ∷ [] ∷ []) ∷ done 3
    ∷ shows (times 3 IsShut ++ IsOpen ∷ times 3 IsShut ++ IsOpen ∷ []) [] ([] ∷ [] ∷ []) ∷ []

-- ## Sessions

-- the first message of a train
abbrev pub session_opens : List Scene
session_opens = train 1 0 1 InitiationOfSession ∷ Look ∷ []

abbrev pub session_opens_shows : List (List Item)
session_opens_shows = (Says 1 1 unknown_group SystemVersion ∷ []) ∷ shows_a_new_line ∷ []

-- the first message of a train arrives a second time
abbrev pub session_opens_again : List Scene
session_opens_again = train 1 0 1 InitiationOfSession ∷ train 1 0 1 InitiationOfSession ∷ []

abbrev pub session_opens_again_shows : List (List Item)
session_opens_again_shows = (Says 1 1 unknown_group SystemVersion ∷ []) ∷ silent StaleStamp ∷ []

-- Trains are listed in the order in which they are first named. A train that is not of the line is not listed. Faulty
-- bytes name no train, and nor does a message to an unknown centre.
abbrev pub trains_are_named : List Scene
trains_are_named =
    train 3 0 1 InitiationOfSession ∷ LookAtTrains ∷ train 1 2 1 InitiationOfSession ∷ Happens (Bytes 0 (Err 3))
    ∷ Happens (Bytes 2 (Err 3)) ∷ LookAtTrains
    ∷ train 2 1 1 SessionEstablished ∷ LookAtTrains ∷ train 1 0 1 InitiationOfSession ∷ train 2 0 1 InitiationOfSession
    ∷ LookAtTrains ∷ []

abbrev pub trains_are_named_show : List (List Item)
trains_are_named_show =
    silent ForeignEngine ∷ (ShowsTrains [] ∷ []) ∷ (Nowhere ∷ []) ∷ (BadBytes 3 ∷ []) ∷ (Nowhere ∷ [])
    ∷ (ShowsTrains [] ∷ [])
    ∷ silent NoSession ∷ (ShowsTrains (2 ∷ []) ∷ []) ∷ (Says 1 1 unknown_group SystemVersion ∷ [])
    ∷ (Says 2 1 unknown_group SystemVersion ∷ [])
    ∷ (ShowsTrains (2 ∷ 1 ∷ []) ∷ []) ∷ []

-- a session is opened over an established one
abbrev pub session_opens_over_a_session : List Scene
session_opens_over_a_session =
    session 1 0 1
    ++ train 1 0 3 InitiationOfSession ∷ train 1 0 4 (Report in_section_1) ∷ train 1 0 4 SessionEstablished
    ∷ train 1 0 5 (Report in_section_1) ∷ []

abbrev pub session_opens_over_a_session_shows : List (List Item)
session_opens_over_a_session_shows =
    opened 1
    ++ (Says 1 2 unknown_group SystemVersion ∷ []) ∷ silent WrongPhase ∷ nothing ∷ silent NotSupervised ∷ []

-- a session that was established is terminated
abbrev pub session_ends : List Scene
session_ends = session 1 0 1 ++ train 1 0 3 TerminationOfSession ∷ Look ∷ []

abbrev pub session_ends_shows : List (List Item)
session_ends_shows = opened 1 ++ (Says 1 2 unknown_group TerminationAcknowledged ∷ []) ∷ shows_a_new_line ∷ []

-- each message without a session
abbrev pub messages_without_a_session : List Scene
messages_without_a_session =
    train 1 0 3 (TrainData in_section_1) ∷ train 1 0 3 (Request in_section_1) ∷ train 1 0 3 (Report in_section_1)
    ∷ train 1 0 3 (ShorteningGranted 2 in_section_1) ∷ train 1 0 3 (ShorteningRejected 2 in_section_1)
    ∷ train 1 0 3 (EndOfMission in_section_1) ∷ train 1 0 3 TerminationOfSession
    ∷ train 1 0 3 (StartOfMission true in_section_1) ∷ train 1 0 3 SessionEstablished ∷ []

abbrev pub messages_without_a_session_show : List (List Item)
messages_without_a_session_show =
    silent NoSession ∷ silent NoSession ∷ silent NoSession ∷ silent NoSession ∷ silent NoSession
    ∷ silent NoSession ∷ silent NoSession ∷ silent NoSession ∷ silent NoSession ∷ []

-- each message before the session is established
abbrev pub messages_before_the_session_is_up : List Scene
messages_before_the_session_is_up =
    train 1 0 1 InitiationOfSession ∷ train 1 0 3 (TrainData in_section_1) ∷ train 1 0 3 (Request in_section_1)
    ∷ train 1 0 3 (Report in_section_1) ∷ train 1 0 3 (ShorteningGranted 2 in_section_1)
    ∷ train 1 0 3 (ShorteningRejected 2 in_section_1)
    ∷ train 1 0 3 (EndOfMission in_section_1) ∷ train 1 0 3 (StartOfMission true in_section_1)
    ∷ train 1 0 2 SessionEstablished ∷ train 1 0 3 SessionEstablished ∷ train 1 0 3 TerminationOfSession ∷ []

abbrev pub messages_before_the_session_is_up_show : List (List Item)
messages_before_the_session_is_up_show =
    (Says 1 1 unknown_group SystemVersion ∷ []) ∷ silent WrongPhase ∷ silent WrongPhase
    ∷ silent WrongPhase ∷ silent WrongPhase ∷ silent WrongPhase
    ∷ silent WrongPhase ∷ silent WrongPhase
    ∷ nothing ∷ silent WrongPhase ∷ (Says 1 2 unknown_group TerminationAcknowledged ∷ []) ∷ []

-- messages of a train that is not supervised
abbrev pub messages_without_a_mission : List Scene
messages_without_a_mission =
    session 1 0 1
    ++ train 1 0 3 (TrainData in_section_1) ∷ train 1 0 3 (Request in_section_1) ∷ train 1 0 3 (Report in_section_1)
    ∷ train 1 0 3 (ShorteningGranted 2 in_section_1) ∷ train 1 0 3 (ShorteningRejected 2 in_section_1)
    ∷ train 1 0 3 (EndOfMission in_section_1) ∷ []

abbrev pub messages_without_a_mission_show : List (List Item)
messages_without_a_mission_show =
    opened 1
    ++ silent NotSupervised ∷ silent NotSupervised ∷ silent NotSupervised
    ∷ silent NotSupervised ∷ silent NotSupervised ∷ silent NotSupervised ∷ []

-- if several reasons hold, the first is given
abbrev pub first_reason : List Scene
first_reason =
    train 3 0 1 TerminationOfSession ∷ train 1 0 5 InitiationOfSession ∷ train 1 0 5 SessionEstablished
    ∷ train 1 0 6 SessionEstablished
    ∷ train 1 0 6 (Report in_section_1) ∷ train 1 0 7 TerminationOfSession ∷ train 1 0 7 SessionEstablished
    ∷ train 1 0 8 SessionEstablished
    ∷ train 1 0 8 InitiationOfSession ∷ train 1 0 8 (EndOfMission in_section_1)
    ∷ train 1 0 9 (EndOfMission in_section_1) ∷ []

abbrev pub first_reason_shows : List (List Item)
first_reason_shows =
    silent ForeignEngine ∷ (Says 1 1 unknown_group SystemVersion ∷ []) ∷ silent StaleStamp ∷ nothing
    ∷ silent StaleStamp ∷ (Says 1 2 unknown_group TerminationAcknowledged ∷ []) ∷ silent StaleStamp ∷ silent NoSession
    ∷ (Says 1 3 unknown_group SystemVersion ∷ []) ∷ silent StaleStamp ∷ silent WrongPhase ∷ []

-- ## A start at the registrar

-- section 1 is released, and train 1 starts in it
abbrev pub start : List Scene
start = Happens (Set 0 1) ∷ (session 1 0 1 ++ train 1 0 3 (StartOfMission true in_section_1) ∷ [])

abbrev pub start_shows : List (List Item)
start_shows = done 1 ∷ (opened 1 ++ (Says 1 2 unknown_group TrainAccepted ∷ []) ∷ [])

-- section 1 is given to train 1, which A supervises
abbrev pub shows_train_1_in_section_1 : List Item
shows_train_1_in_section_1 = shows_section_1 (Given 1) ((0 ∷ []) ∷ [] ∷ [])

abbrev pub start_at_the_registrar : List Scene
start_at_the_registrar = start ++ Look ∷ []

abbrev pub start_at_the_registrar_shows : List (List Item)
start_at_the_registrar_shows = start_shows ++ shows_train_1_in_section_1 ∷ []

-- the section was not released
abbrev pub start_at_a_shut_section : List Scene
start_at_a_shut_section = session 1 0 1 ++ train 1 0 3 (StartOfMission true in_section_1) ∷ Look ∷ []

abbrev pub start_at_a_shut_section_shows : List (List Item)
start_at_a_shut_section_shows = opened 1 ++ (Says 1 2 unknown_group TrainRejected ∷ []) ∷ shows_a_new_line ∷ []

-- a request comes before the train data
abbrev pub request_without_train_data : List Scene
request_without_train_data = start ++ train 1 0 4 (Request in_section_1) ∷ Look ∷ []

abbrev pub request_without_train_data_shows : List (List Item)
request_without_train_data_shows = start_shows ++ silent NoTrainData ∷ shows_train_1_in_section_1 ∷ []

-- the session ends, and the hand stays
abbrev pub hand_outlives_the_session : List Scene
hand_outlives_the_session =
    start ++ train 1 0 4 TerminationOfSession ∷ Look ∷ train 1 0 5 (Request in_section_1) ∷ Look ∷ []

abbrev pub hand_outlives_the_session_shows : List (List Item)
hand_outlives_the_session_shows =
    start_shows
    ++ (Says 1 3 unknown_group TerminationAcknowledged ∷ []) ∷ shows_train_1_in_section_1 ∷ silent NoSession
    ∷ shows_train_1_in_section_1 ∷ []

-- the mission is ended, and begins again within its hand
abbrev pub start_after_the_end_of_mission : List Scene
start_after_the_end_of_mission =
    start
    ++ train 1 0 4 (EndOfMission in_section_1) ∷ train 1 0 5 (TrainData in_section_1)
    ∷ train 1 0 6 (StartOfMission true in_section_1) ∷ Look ∷ []

abbrev pub start_after_the_end_of_mission_shows : List (List Item)
start_after_the_end_of_mission_shows =
    start_shows ++ nothing ∷ silent MissionEnded ∷ (Says 1 3 unknown_group TrainAccepted ∷ [])
    ∷ shows_train_1_in_section_1 ∷ []

-- the first section of a hand is wished back, and then released again
abbrev pub unset_of_the_first_section : List Scene
unset_of_the_first_section = start ++ Happens (Unset 0 1) ∷ Look ∷ Happens (Set 0 1) ∷ Look ∷ []

abbrev pub unset_of_the_first_section_shows : List (List Item)
unset_of_the_first_section_shows =
    start_shows
    ++ (Tells (Asked 1) ∷ []) ∷ shows (IsShut ∷ Given 1 ∷ times 6 IsShut) (1 ∷ []) ((0 ∷ []) ∷ [] ∷ [])
    ∷ done 1 ∷ shows_train_1_in_section_1 ∷ []

-- ## A start elsewhere

-- train 2, which is registered at B, starts at A
abbrev pub start_elsewhere : List Scene
start_elsewhere =
    Happens (Set 0 1) ∷ (session 2 0 1
    ++ train 2 0 3 (StartOfMission true in_section_1) ∷ Look ∷ Happens (Delivery 0 1 1) ∷ [])

abbrev pub start_elsewhere_shows : List (List Item)
start_elsewhere_shows =
    done 1
    ∷ (opened 2
    ++ (Sends 1 1 (AskRight 2) ∷ []) ∷ shows_section_1 (Kept 2) ([] ∷ [] ∷ [])
    ∷ (Link Next ∷ Sends 0 1 (GiveRight 2) ∷ []) ∷ [])

-- the train's right arrives from B
abbrev pub right_comes : List Scene
right_comes = start_elsewhere ++ LookAtFrame 0 1 1 ∷ LookAtFrame 1 0 1 ∷ Happens (Delivery 1 0 1) ∷ Look ∷ []

abbrev pub right_comes_shows : List (List Item)
right_comes_shows =
    start_elsewhere_shows
    ++ (ShowsFrame (Some (record { number = 1; stamp = 4; body = AskRight 2 })) ∷ [])
    ∷ (ShowsFrame (Some (record { number = 1; stamp = 5; body = GiveRight 2 })) ∷ [])
    ∷ (Link Next ∷ Says 2 2 unknown_group TrainAccepted ∷ []) ∷ shows_section_1 (Given 2) ([] ∷ (0 ∷ []) ∷ []) ∷ []

-- the session ends before the right arrives: the right is returned, and serves a start at B
abbrev pub right_goes_back : List Scene
right_goes_back =
    start_elsewhere
    ++ train 2 0 4 TerminationOfSession ∷ Look ∷ Happens (Delivery 1 0 1) ∷ Happens (Delivery 0 1 2) ∷ Happens (Set 1 5)
    ∷ (session 2 1 1 ++ train 2 1 3 (StartOfMission true (at 105 600 (Some 200))) ∷ Look ∷ [])

abbrev pub right_goes_back_shows : List (List Item)
right_goes_back_shows =
    start_elsewhere_shows
    ++ (Says 2 2 unknown_group TerminationAcknowledged ∷ []) ∷ shows_section_1 IsOpen ([] ∷ [] ∷ [])
    ∷ (Link Next ∷ Sends 1 2 (ReturnRight 2) ∷ []) ∷ (Link Next ∷ []) ∷ done 5
    ∷ (opened 2
    ++ (Says 2 2 unknown_group TrainAccepted ∷ [])
    ∷ shows (IsShut ∷ IsOpen ∷ times 3 IsShut ++ Given 2 ∷ times 2 IsShut) [] ([] ∷ (1 ∷ []) ∷ []) ∷ [])

-- the session ends before the right arrives, and another start waits for the same right
abbrev pub right_serves_a_later_start : List Scene
right_serves_a_later_start =
    start_elsewhere
    ++ train 2 0 4 TerminationOfSession
    ∷ (session 2 0 5 ++ train 2 0 7 (StartOfMission true in_section_1) ∷ Happens (Delivery 1 0 1) ∷ Look ∷ [])

abbrev pub right_serves_a_later_start_shows : List (List Item)
right_serves_a_later_start_shows =
    start_elsewhere_shows
    ++ (Says 2 2 unknown_group TerminationAcknowledged ∷ [])
    ∷ (Says 2 3 unknown_group SystemVersion ∷ []) ∷ nothing ∷ nothing
    ∷ (Link Next ∷ Says 2 4 unknown_group TrainAccepted ∷ []) ∷ shows_section_1 (Given 2) ([] ∷ (0 ∷ []) ∷ []) ∷ []

-- the question for the right is delivered twice
abbrev pub ask_delivered_twice : List Scene
ask_delivered_twice = start_elsewhere ++ Happens (Delivery 0 1 1) ∷ Happens (Delivery 0 1 2) ∷ Look ∷ []

abbrev pub ask_delivered_twice_shows : List (List Item)
ask_delivered_twice_shows =
    start_elsewhere_shows ++ (Link Old ∷ []) ∷ (NeverSent ∷ []) ∷ shows_section_1 (Kept 2) ([] ∷ [] ∷ []) ∷ []

-- train 1 has a mission at A and starts at B: its right is refused
abbrev pub right_is_refused : List Scene
right_is_refused =
    start
    ++ Happens (Set 1 5)
    ∷ (session 1 1 20
    ++ train 1 1 22 (StartOfMission true (at 105 600 (Some 200))) ∷ Look ∷ Happens (Delivery 1 0 1)
    ∷ Happens (Delivery 0 1 1) ∷ Look ∷ [])

abbrev pub right_is_refused_shows : List (List Item)
right_is_refused_shows =
    start_shows
    ++ done 5
    ∷ (opened 1
    ++ (Sends 0 1 (AskRight 1) ∷ [])
    ∷ shows (IsShut ∷ Given 1 ∷ times 3 IsShut ++ Kept 1 ∷ times 2 IsShut) [] ((0 ∷ []) ∷ [] ∷ [])
    ∷ (Link Next ∷ Sends 1 1 (RefuseRight 1) ∷ []) ∷ (Link Next ∷ Says 1 2 unknown_group TrainRejected ∷ [])
    ∷ shows (IsShut ∷ Given 1 ∷ times 3 IsShut ++ IsOpen ∷ times 2 IsShut) [] ((0 ∷ []) ∷ [] ∷ []) ∷ [])
