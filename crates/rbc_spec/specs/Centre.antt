-- The state of a radio block centre. It consists of functions of section numbers, of engines (NID_ENGINE), and of
-- centre numbers.
use Rattle.std.specs.Prelude.{ℕ, List, [], Bool, true, false, ◌==◌, ◌&&◌, Option, None, is_some, length}
use Rattle.std.specs.List.{list_any, range_with_len}
use Rattle.rbc_spec.specs.Maps.{has}
use Rattle.rbc_spec.specs.SectionRuns.{SectionRun}
use Rattle.rbc_spec.specs.Line.{Line, is_home, registrar}
use Rattle.rbc_spec.specs.Sections.{section_count}
use Rattle.rbc_spec.specs.Place.{Place}
use Rattle.rbc_spec.specs.Frame.{Frame}

-- The entry of a home section in the centre's book (profile). `Shut`: not released by the interlocking. `Open`:
-- released, and not in use. `Taken`: in use for a train at this centre. `Out`: lent for a train, and now at another
-- centre or in a frame on the way.
-- Rules: CE-1
pub data Entry : Type 0 where
  Shut : Entry
  Open : Entry
  Taken : (t : ℕ) → Entry
  Out : (t : ℕ) → Entry

-- The phase of the communication session with a train (3.5.3): none, initiated by the train, or established.
-- Rules: CE-1
pub data Phase : Type 0 where
  Closed : Phase
  Opened : Phase
  Up : Phase

-- A pending request to shorten the movement authority: T_TRAIN of its message 9, and the last section that the train
-- would keep.
-- Rules: CE-3
pub record Proposal : Type 0 where
  pub stamp : ℕ
  pub last_kept : ℕ

-- a handover that this centre has announced: its number, and the accepting centre
-- Rules: CE-3
pub record Handing : Type 0 where
  pub number : ℕ
  pub to : ℕ

-- A mission that this centre supervises. `place` is the last place of the train. `hand` is the run of the sections of
-- its movement authority. `pool` is a run of lent sections that follows the hand at once. `has_data`: the train data
-- are known. `is_ended`: the train has ended its mission. `proposal` and `handing` are the pending request to shorten
-- and the pending handover.
-- Rules: CE-1, CE-3
pub record Mission : Type 0 where
  pub place : Place
  pub hand : SectionRun
  pub pool : SectionRun
  pub has_data : Bool
  pub is_ended : Bool
  pub proposal : Option Proposal
  pub handing : Option Handing

-- A handover that another centre has announced: its number, and whether this centre has replied that it takes over.
-- Rules: CE-1
pub record Expectation : Type 0 where
  pub number : ℕ
  pub is_taking : Bool

-- Rules: CE-1
pub record Centre : Type 0 where
  pub clock : ℕ  -- the stamp of the last step
  pub book : ℕ → Entry  -- the entry of each section
  pub wish : ℕ → Bool  -- the interlocking wishes the section back
  pub phase : ℕ → Phase  -- the phase of the session with each train
  pub heard : ℕ → Option ℕ  -- the last T_TRAIN received from each train
  pub said : ℕ → ℕ  -- the number of messages sent to each train
  pub mission : ℕ → Option Mission  -- the mission of each train
  pub wait : ℕ → Option Place  -- the place of each start of mission that waits for its right
  pub has_asked : ℕ → Bool  -- the registrar was asked for the right, and its answer is pending
  pub has_right : ℕ → Bool  -- the right of each train is here, and in no mission
  pub route_ask : ℕ → Option ℕ  -- the first section of each request for sections that is pending
  pub expects : ℕ → ℕ → Option Expectation  -- the handover of each train that each centre has announced
  pub announced : ℕ  -- the number of handovers that this centre has announced
  pub sent : ℕ → List Frame  -- the frames sent to each centre
  pub taken : ℕ → ℕ  -- the number of frames taken from each centre

-- c is the registrar of train t
abbrev pub is_registrar_of : Line → ℕ → ℕ → Bool
is_registrar_of line c t = has (λ r. r == c) (registrar line t)

-- the initial state: each section is shut, no train is known, and each right is at its registrar
-- Rules: CE-2, RG-1
unfoldable pub beginning : Line → ℕ → Centre
beginning line c = record {
  clock = 0;
  book = λ s. Shut;
  wish = λ s. false;
  phase = λ t. Closed;
  heard = λ t. None;
  said = λ t. 0;
  mission = λ t. None;
  wait = λ t. None;
  has_asked = λ t. false;
  has_right = λ t. is_registrar_of line c t;
  route_ask = λ t. None;
  expects = λ d t. None;
  announced = 0;
  sent = λ d. [];
  taken = λ d. 0;
}

-- ## Tests of a state

-- the train has no session
abbrev pub is_closed : Phase → Bool
is_closed Closed = true
is_closed phase = false

abbrev pub is_up : Phase → Bool
is_up Up = true
is_up phase = false

abbrev pub is_open : Entry → Bool
is_open Open = true
is_open e = false

-- the section is not in use
abbrev pub is_unused : Entry → Bool
is_unused Shut = true
is_unused Open = true
is_unused e = false

abbrev pub is_taken_for : ℕ → Entry → Bool
is_taken_for t (Taken u) = u == t
is_taken_for t e = false

abbrev pub is_out_for : ℕ → Entry → Bool
is_out_for t (Out u) = u == t
is_out_for t e = false

-- the section is in use for the train, here or elsewhere
abbrev pub is_used_for : ℕ → Entry → Bool
is_used_for t (Taken u) = u == t
is_used_for t (Out u) = u == t
is_used_for t e = false

-- the section has home c, is released, and is not in use
abbrev pub is_free : Line → ℕ → Centre → ℕ → Bool
is_free line c k s = is_home line c s && is_open (k.book s)

-- some section of home c is in use for the train
-- Rules: RT-7
abbrev pub uses_some : Line → ℕ → Centre → ℕ → Bool
uses_some line c k t =
    list_any (λ s. is_home line c s && is_used_for t (k.book s)) (range_with_len 0 (section_count line))

-- some centre has announced a handover of the train to this one
abbrev pub is_expected : Line → Centre → ℕ → Bool
is_expected line k t = list_any (λ d. is_some (k.expects d t)) (range_with_len 0 (length line.centres))
