-- A small line of two centres, and the worlds that some events lead to.
use Rattle.std.specs.Prelude.{[], ◌++◌, ◌+◌, ◌∷◌, Err, List, None, Ok, pos, Result, Some, true, ℕ}
use Rattle.law_invariants.specs.Flow.Flow.{Flow, flow_of}
use Rattle.rbc_spec.specs.Centre.{beginning, Centre}
use Rattle.rbc_spec.specs.Line.{Line}
use Rattle.rbc_spec.specs.Maps.{put_pair}
use Rattle.rbc_spec.specs.Message.{InitiationOfSession, Report, Request, SessionEstablished, StartOfMission, TrainBody}
use Rattle.rbc_spec.specs.Message.{TrainData}
use Rattle.rbc_spec.specs.Place.{Place, Position}
use Rattle.rbc_spec.specs.SectionRuns.{SectionRun}
use Rattle.rbc_spec.specs.Step.{Refusal}
use Rattle.rbc_spec.specs.World.{Answer, Bytes, Delivery, Event, new_world, Set, Unset, World, world_run}

-- Centres A (0) and B (1), and a track of three sections of 1 000 m, the first at A and two at B. Train 1 is registered
-- at A, train 2 at B.
abbrev pub small : Line
small = record {
  nid_c = 5;
  centres = record { name = 65 ∷ []; nid_rbc = 1 } ∷ record { name = 66 ∷ []; nid_rbc = 2 } ∷ [];
  tracks = (109 ∷ []) ∷ [];
  sections = record { track = 0; metres = 1000; home = 0; balise = 100 }
      ∷ record { track = 0; metres = 1000; home = 1; balise = 101 }
      ∷ record { track = 0; metres = 1000; home = 1; balise = 102 } ∷ [];
  trains = record { nid_engine = 1; registrar = 0 } ∷ record { nid_engine = 2; registrar = 1 } ∷ [];
}

-- The position of a train of 200 m, in metres from the group at the start of section s. Its doubts are 10 m and 20 m.
abbrev pub at : (s d_lrbg : ℕ) → Position
at s d_lrbg = record {
  scale = 10;
  nid_lrbg = 82020 + s;
  d_lrbg = d_lrbg;
  is_nominal = true;
  l_doubtover = 10;
  l_doubtunder = 20;
  l_trainint = Some 200;
  v_train = 0;
  is_level_2 = true;
}

-- the place of the position at 600 m in section 0, and in section 1
abbrev pub in_section_0 : Place
in_section_0 = record { track = 0; group = 82020; front = 6200; rear = Some (pos 3900) }

abbrev pub in_section_1 : Place
in_section_1 = record { track = 0; group = 82021; front = 16200; rear = Some (pos 13900) }

-- the run of only this section
abbrev pub only : ℕ → SectionRun
only s = record { first = s; count = 1 }

-- a message of train 1 to centre c
abbrev pub says : (c t_train : ℕ) → TrainBody → Event
says c t_train body = Bytes c (Ok (record { t_train = t_train; nid_engine = 1; body = body }))

-- ## Events

-- the sections of B are set, and train 1 has a session with it
abbrev pub at_the_other : List Event
at_the_other = Set 1 1 ∷ Set 1 2 ∷ says 1 1 InitiationOfSession ∷ says 1 2 SessionEstablished ∷ []

-- train 1 begins a mission in A's section and asks for more, and B lends its two sections: they are in A's pool
abbrev pub pooled : List Event
pooled =
    Set 0 0 ∷ Set 1 1 ∷ Set 1 2 ∷ says 0 1 InitiationOfSession ∷ says 0 2 SessionEstablished
    ∷ says 0 3 (StartOfMission true (at 0 600))
    ∷ says 0 4 (TrainData (at 0 600)) ∷ says 0 5 (Request (at 0 600)) ∷ Delivery 0 1 1 ∷ Delivery 1 0 1 ∷ []

-- the last section is wished back: A returns it, which is on the way, and has the other still in its pool
abbrev pub returning : List Event
returning = pooled ++ Unset 1 2 ∷ Delivery 1 0 2 ∷ []

-- the train's hand is extended over the border, A announces it to B, and B gets a report of the train and takes over
abbrev pub taking : List Event
taking =
    pooled ++ says 0 6 (Request (at 0 600)) ∷ Delivery 0 1 2 ∷ says 1 7 InitiationOfSession
    ∷ says 1 8 SessionEstablished ∷ says 1 9 (Report (at 1 100)) ∷ []

-- ## Results

abbrev pub left_by : World → Result (List Answer × World) Refusal → World
left_by w (Ok (answers, after)) = after
left_by w (Err why) = w

-- the world after these events, on a new line
unfoldable pub world_after : List Event → World
world_after events = left_by (new_world small) (world_run small (new_world small) events)

abbrev pub flow : List Event → Flow
flow events = flow_of (world_after events)

-- B expects train 1 from A under the second number that A announced, and has replied that it takes over
abbrev pub expecting : Centre
expecting =
    record (beginning small 1) { expects = put_pair (λ d t. None) 0 1 (Some (record { number = 2; is_taking = true })) }
