-- Scenes that test the definition of the promise (`Outside.antt`): lists of events with the answers to them. A right
-- definition calls the first scenes safe, and notices each part that a train takes back there. It calls all other
-- scenes unsafe: two trains may run over one section, or one train over a section that is not released.
use Rattle.std.specs.List.{range_with_len}
use Rattle.std.specs.Prelude.{[], ◌*◌, ◌++◌, ◌+◌, ◌∷◌, List, map, Ok, Option, Some, true, ℕ}
use Rattle.law_outside.specs.Outside.{nothing_seen, sees_all, Spoken, View}
use Rattle.rbc_spec.specs.Line.{Line}
use Rattle.rbc_spec.specs.Message.{Authority, EndOfMission, Report, Request, ShorteningGranted, ShorteningRequest}
use Rattle.rbc_spec.specs.Message.{StartOfMission, TrackBody, TrainAccepted, TrainBody, TrainRejected}
use Rattle.rbc_spec.specs.Outcome.{Asked, Done, Saying, Told, Word}
use Rattle.rbc_spec.specs.Place.{Position}
use Rattle.rbc_spec.specs.World.{Bytes, Delivery, Event, Set, Unset}

-- ## The line and its trains

-- one track of eight sections of 1 000 m, all at centre A, with a balise group 100 + s at the start of section s
abbrev pub line : Line
line = record {
  nid_c = 5;
  centres = record { name = 65 ∷ []; nid_rbc = 1 } ∷ record { name = 66 ∷ []; nid_rbc = 2 } ∷ [];
  tracks = (109 ∷ []) ∷ [];
  sections = map (λ s. record { track = 0; metres = 1000; home = 0; balise = 100 + s }) (range_with_len 0 8);
  trains = record { nid_engine = 1; registrar = 0 } ∷ record { nid_engine = 2; registrar = 0 } ∷ [];
}

-- NID_LRBG of the group at the start of section s: NID_C, and 14 bits of NID_BG
abbrev pub group : (s : ℕ) → ℕ
group s = 5 * 16384 + 100 + s

-- a train of 200 m in section s: its safe front end is at 620 m, its safe rear end at 390 m of it
abbrev pub in_section : (s : ℕ) → Position
in_section s = record {
  scale = 10;
  nid_lrbg = group s;
  d_lrbg = 600;
  is_nominal = true;
  l_doubtover = 10;
  l_doubtunder = 20;
  l_trainint = Some 200;
  v_train = 0;
  is_level_2 = true;
}

-- an event, with the messages and replies after it
pub record Exchange : Type 0 where
  pub event : Event
  pub spoken : Option Spoken

-- After the event, train t gets these messages with this T_TRAIN, from the group at the start of section 1. The
-- interlocking gets these replies.
abbrev pub exchange : Event → (t t_train : ℕ) → List TrackBody → List Word → Exchange
exchange event t t_train told words = record {
  event = event;
  spoken = Some (record { is_heard = true; sayings = map saying told; words = words });
}
  where
    saying : TrackBody → Saying
    saying it = record { nid_engine = t; message = record { t_train = t_train; nid_lrbg = group 1; body = it } }

-- train t sends this message to centre A and gets these messages; the interlocking gets these replies
abbrev pub talk : (t t_train : ℕ) → TrainBody → List TrackBody → List Word → Exchange
talk t t_train body told words =
    exchange (Bytes 0 (Ok (record { t_train = t_train; nid_engine = t; body = body }))) t t_train told words

-- section s is released, at A
abbrev pub released : (s : ℕ) → Exchange
released s = exchange (Set 0 s) 0 0 [] (Done s ∷ [])

abbrev pub events_of : List Exchange → List Event
events_of exchanges = map (λ it. it.event) exchanges

abbrev pub spoken_after : List Exchange → List (Option Spoken)
spoken_after exchanges = map (λ it. it.spoken) exchanges

unfoldable pub seen_of : List Exchange → View
seen_of exchanges = sees_all line (events_of exchanges) (spoken_after exchanges) nothing_seen

-- train t starts in section 1
abbrev pub starts_in_1 : (t t_train : ℕ) → List TrackBody → Exchange
starts_in_1 t t_train told = talk t t_train (StartOfMission true (in_section 1)) told []

-- sections 1 and 2 are released, and train 1 starts in section 1
abbrev pub train_1_starts : List Exchange
train_1_starts = released 1 ∷ released 2 ∷ starts_in_1 1 1 (TrainAccepted ∷ []) ∷ []

-- train 2 starts in section 2
abbrev pub train_2_starts : List TrackBody → Exchange
train_2_starts told = talk 2 1 (StartOfMission true (in_section 2)) told []

-- train 1 requests an authority, and gets one of this many metres from the group at the start of section 1
abbrev pub train_1_asks : ℕ → Exchange
train_1_asks metres = talk 1 2 (Request (in_section 1)) (Authority metres ∷ []) []

-- the right of train t arrives at A, and its waiting start is accepted
abbrev pub right_comes : (t : ℕ) → Exchange
right_comes t = exchange (Delivery 1 0 1) t 2 (TrainAccepted ∷ []) []

-- sections 1 to 3 are released; train 1 starts in section 1, and gets an authority to the end of section 3
abbrev pub train_1_runs : List Exchange
train_1_runs = released 3 ∷ train_1_starts ++ train_1_asks 3000 ∷ []

-- the interlocking wishes section 3 back, and train 1 gets a request to stop at the end of section 2
abbrev pub section_3_is_wished_back : Exchange
section_3_is_wished_back = exchange (Unset 0 3) 1 5 (ShorteningRequest 2000 ∷ []) (Asked 3 ∷ [])

-- train 1 grants that, and the interlocking gets the report that section 3 is shut
abbrev pub train_1_grants : Exchange
train_1_grants = talk 1 7 (ShorteningGranted 5 (in_section 1)) [] (Told 3 ∷ [])

-- ## Answers that may be given

-- each train in its own section
abbrev pub side_by_side : List Exchange
side_by_side = train_1_starts ++ train_2_starts (TrainAccepted ∷ []) ∷ train_1_asks 1000 ∷ []

-- the request is granted
abbrev pub granted : List Exchange
granted = train_1_runs ++ section_3_is_wished_back ∷ train_1_grants ∷ []

-- the train reports that it has run into section 2
abbrev pub reported : List Exchange
reported = train_1_runs ++ talk 1 7 (Report (in_section 2)) [] [] ∷ []

-- the train ends its mission at standstill in section 1
abbrev pub ended : List Exchange
ended = train_1_runs ++ talk 1 7 (EndOfMission (in_section 1)) [] [] ∷ []

-- the same events, but the authority does not arrive at the train
abbrev pub the_authority_is_lost : List Exchange
the_authority_is_lost = released 3 ∷ train_1_starts ++ talk 1 2 (Request (in_section 1)) [] [] ∷ []

-- ## Answers that give too much

-- the authority goes over the section of another train
abbrev pub longer_than_the_hand : List Exchange
longer_than_the_hand = train_1_starts ++ train_2_starts (TrainAccepted ∷ []) ∷ train_1_asks 2000 ∷ []

-- the authority goes over the section in which another train starts, which is accepted afterwards
abbrev pub over_a_waiting_start : List Exchange
over_a_waiting_start = train_1_starts ++ train_2_starts [] ∷ train_1_asks 2000 ∷ right_comes 2 ∷ []

-- an unset of a section that a train has is answered by Done
abbrev pub unset_of_a_kept_section_is_done : List Exchange
unset_of_a_kept_section_is_done = train_1_starts ++ exchange (Unset 0 1) 0 0 [] (Done 1 ∷ []) ∷ []

-- a train that was never accepted gets an authority
abbrev pub out_of_nothing : List Exchange
out_of_nothing = released 1 ∷ talk 1 1 (Request (in_section 1)) (Authority 1000 ∷ []) [] ∷ []

-- ## Answers that forget too early

-- a later authority is shorter, and the interlocking gets the rest back, though nobody asked the train
abbrev pub shortened_by_an_authority : List Exchange
shortened_by_an_authority =
    train_1_runs ++ talk 1 3 (Request (in_section 1)) (Authority 2000 ∷ []) (Told 3 ∷ []) ∷ []

-- an authority is sent while a request to shorten is pending, which the train grants afterwards
abbrev pub granted_before_it_was_told : List Exchange
granted_before_it_was_told =
    train_1_runs ++ section_3_is_wished_back ∷ talk 1 6 (Request (in_section 1)) (Authority 3000 ∷ []) []
    ∷ train_1_grants ∷ []

-- a report that the train sent before a start is taken after it
abbrev pub a_late_report : List Exchange
a_late_report =
    train_1_runs ++ starts_in_1 1 8 (TrainAccepted ∷ []) ∷ exchange (Unset 0 1) 1 5 [] (Asked 1 ∷ [])
    ∷ talk 1 7 (Report (in_section 2)) [] (Told 1 ∷ []) ∷ []

-- a train is accepted in advance of its authority, and another train there too
abbrev pub accepted_in_advance : List Exchange
accepted_in_advance =
    released 3 ∷ train_1_starts ++ talk 1 6 (StartOfMission true (in_section 3)) (TrainAccepted ∷ []) []
    ∷ talk 2 3 (StartOfMission true (in_section 3)) (TrainAccepted ∷ []) [] ∷ []

-- the answer to a set of section 1 names section 2 too
abbrev pub another_is_done : List Exchange
another_is_done =
    exchange (Set 0 1) 0 0 [] (Done 1 ∷ Done 2 ∷ []) ∷ starts_in_1 1 1 (TrainAccepted ∷ []) ∷ train_1_asks 2000 ∷ []

-- a start that was rejected is accepted afterwards
abbrev pub accepted_after_a_rejection : List Exchange
accepted_after_a_rejection = released 1 ∷ starts_in_1 1 1 (TrainRejected ∷ []) ∷ right_comes 1 ∷ []
