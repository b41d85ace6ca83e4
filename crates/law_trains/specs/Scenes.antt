-- A train that obeys starts, is accepted, follows its centre, and runs into the next section. A train that breaks a
-- rule meets another.
use Rattle.std.specs.Prelude.{ℕ, ◌==◌, Bool, true, false, List, [], ◌∷◌, ◌++◌, None, pos, Ok}
use Rattle.rbc_spec.specs.Message.{TrainBody, TrainData, Request, EndOfMission, StartOfMission, TrainMessage, TrackBody}
use Rattle.rbc_spec.specs.Message.{TrackMessage, Authority, DataAcknowledged, TrainAccepted}
use Rattle.rbc_spec.specs.Outcome.{Saying, Word, Done}
use Rattle.rbc_spec.specs.World.{Bytes, Set, Answer, Answered}
use Rattle.law_outside.specs.Scenes.{group, in_section}
use Rattle.law_trains.specs.Trains.{Train, Moment, Says, Happens, Hears, Runs}

-- a train of 200 m in a section, with its front end at 600 m of it
abbrev pub standing : (front rear : ℕ) → Train
standing front rear = record {
  track = 0;
  front = front;
  rear = pos rear;
  clock = 0;
  has_started = false;
  end = None;
  follows = None;
  gave_back = 0;
  asked = λ c. None;
}

-- train 2 is in section 2, and each other train in section 1
abbrev pub in_2 : Bool → Train
in_2 true = standing 26000 24000
in_2 false = standing 16000 14000

abbrev pub trains : ℕ → Train
trains t = in_2 (t == 2)

abbrev pub each : ℕ → Bool
each t = true

abbrev pub only_1 : ℕ → Bool
only_1 t = t == 1

abbrev pub says_1 : (stamp : ℕ) → TrainBody → TrainMessage
says_1 stamp body = record { t_train = stamp; nid_engine = 1; body = body }

abbrev pub told_1 : (stamp : ℕ) → TrackBody → TrackMessage
told_1 stamp body = record { t_train = stamp; nid_lrbg = group 1; body = body }

abbrev pub answer : List TrackMessage → List Word → Answer
answer ms words = Answered (record {
  stamp = 0;
  sayings = sayings ms;
  frames = λ d. [];
  words = words;
  link = None;
  silence = None;
})
  where
    sayings : List TrackMessage → List Saying
    sayings [] = []
    sayings (m ∷ ms) = record { nid_engine = 1; message = m } ∷ sayings ms

-- the train sends this to centre A, which answers at once
abbrev pub talks : (stamp : ℕ) → TrainBody → List TrackMessage → List Moment
talks stamp body ms =
    Says 0 (says_1 stamp body) ∷ Happens (Bytes 0 (Ok (says_1 stamp body))) (answer ms []) ∷ []

abbrev pub authority : TrackMessage
authority = told_1 3 (Authority 2000)

-- it has an authority to the end of section 2
abbrev pub may_go : List Moment
may_go =
    Happens (Set 0 1) (answer [] (Done 1 ∷ [])) ∷ Happens (Set 0 2) (answer [] (Done 2 ∷ []))
    ∷ talks 1 (StartOfMission true (in_section 1)) (told_1 1 TrainAccepted ∷ [])
    ++ talks 2 (TrainData (in_section 1)) (told_1 2 (DataAcknowledged 2) ∷ [])
    ++ Hears 1 0 (told_1 2 (DataAcknowledged 2)) ∷ talks 3 (Request (in_section 1)) (authority ∷ [])
    ++ Hears 1 0 authority ∷ []

-- it runs into section 2
abbrev pub goes : List Moment
goes = may_go ++ Runs 1 29000 (pos 27000) ∷ []

-- it ends its mission at standstill, and receives the authority again
abbrev pub gives_up : List Moment
gives_up = may_go ++ Says 0 (says_1 4 (EndOfMission (in_section 1))) ∷ Hears 1 0 authority ∷ []

-- train 2 starts in section 2, and is accepted
abbrev pub starts_2 : TrainMessage
starts_2 = record { t_train = 1; nid_engine = 2; body = StartOfMission true (in_section 2) }

abbrev pub accepts_2 : Answer
accepts_2 = Answered (record {
  stamp = 0;
  sayings = record { nid_engine = 2; message = record { t_train = 1; nid_lrbg = group 1; body = TrainAccepted } } ∷ [];
  frames = λ d. [];
  words = [];
  link = None;
  silence = None;
})

abbrev pub train_2_starts : List Moment
train_2_starts = Says 0 starts_2 ∷ Happens (Bytes 0 (Ok starts_2)) accepts_2 ∷ []

-- train 1 is accepted in section 1, and gets no authority
abbrev pub both_accepted : List Moment
both_accepted = talks 1 (StartOfMission true (in_section 1)) (told_1 1 TrainAccepted ∷ []) ++ train_2_starts

-- Train 1 has an authority to the end of section 2, and ends its mission at standstill. Train 2 starts in section 2.
-- Train 1 receives the authority again.
abbrev pub gave_back : List Moment
gave_back = may_go ++ talks 4 (EndOfMission (in_section 1)) [] ++ train_2_starts ++ Hears 1 0 authority ∷ []

-- then it runs into section 2
abbrev pub and_runs : List Moment → List Moment
and_runs moments = moments ++ Runs 1 25000 (pos 23000) ∷ []
