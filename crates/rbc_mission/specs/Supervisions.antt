-- The state of a train's mission at a centre, in memory and by the rules.
use Rattle.std.specs.Option.{option_map_or}
use Rattle.std.specs.Prelude.{if◌then◌else◌, ◌&&◌, ◌+◌, ◌<◌, ◌==◌, ◌≡◌, ◌≤◌, false, is_none, is_some, length, None}
use Rattle.std.specs.Prelude.{Option, option_and_then, option_map, replicate, Some, true, ℕ}
use Rattle.rbc_allocation.specs.Sections.{front_of, next_of, rest_of}
use Rattle.rbc_book.specs.Book.{entry_at, is_own, Pages}
use Rattle.rbc_border.specs.Border.{BorderState}
use Rattle.rbc_hand.specs.Hands.{Holding, nothing, run}
use Rattle.rbc_hand.specs.Tokens.{Own}
use Rattle.rbc_handover.specs.declared.handing.HandoverName.{HandoverName}
use Rattle.rbc_handover.specs.Handings.{handover_name}
use Rattle.rbc_mission.specs.declared.facts.MissionFacts.{MissionFacts}
use Rattle.rbc_mission.specs.declared.held.HeldRight.{HeldRight}
use Rattle.rbc_mission.specs.declared.held.HeldRight.TheVariants.{Held, Nothing}
use Rattle.rbc_place.specs.Places.{place_of}
use Rattle.rbc_right.specs.Rights.{right_of}
use Rattle.rbc_shorten.specs.Facts.{standing_of}
use Rattle.rbc_spec.specs.Acts.{part_at}
use Rattle.rbc_spec.specs.Centre as spec
use Rattle.rbc_spec.specs.Centre.{is_open}
use Rattle.rbc_spec.specs.Line.{Line}
use Rattle.rbc_spec.specs.Maps.{has, put}
use Rattle.rbc_spec.specs.Place.{Place}
use Rattle.rbc_spec.specs.Rules.{extended_by}
use Rattle.rbc_spec.specs.SectionRuns.{is_empty, joined, next_after, no_run, part_before, SectionRun, within}

-- A train of the line, by its position in the line file and its NID_ENGINE. `mission` is its mission, if there is one,
-- and `hand` the tokens of its hand. `asked` is the first section of a pending question over the border. The question
-- may outlive the mission.
pub record SupervisionState : Type 0 where
  pub number : ℕ
  pub engine : ℕ
  pub mission : Option spec.Mission
  pub hand : Holding
  pub asked : Option ℕ

-- a train without a mission, for which nothing is held and nothing is asked
abbrev pub no_mission : ℕ → ℕ → SupervisionState
no_mission number t = record { number = number; engine = t; mission = None; hand = nothing; asked = None }

-- the facts, the hand, the pool and the handover of a mission
abbrev pub mission_of : SectionRun → SectionRun → Option spec.Handing → MissionFacts → spec.Mission
mission_of hand pool handing m = record {
  place = place_of m.place;
  hand = hand;
  pool = pool;
  has_data = m.has_data;
  is_ended = m.is_ended;
  proposal = standing_of m.proposal;
  handing = handing;
}

-- the sections of its movement authority, and those of its pool; empty without a mission
abbrev pub hand_of : SupervisionState → SectionRun
hand_of c = option_map_or (λ m. m.hand) c.mission no_run

abbrev pub pool_of : SupervisionState → SectionRun
pool_of c = option_map_or (λ m. m.pool) c.mission no_run

-- its pending handover
abbrev pub handing_in : SupervisionState → Option spec.Handing
handing_in c = option_and_then (λ (m : spec.Mission). m.handing) c.mission

-- the invariants of a mission
pub record HasRouteForm (m : spec.Mission) : Type 0 where
  pub some : 1 ≤ m.hand.count
  pub most : m.hand.count ≤ 32
  pub numbers : next_after m.hand ≤ 65535
  pub few : m.pool.count ≤ 31

-- ## Changes

-- a mission that begins at this place, with these sections
abbrev pub mission_at : Place → SectionRun → spec.Mission
mission_at place hand =
    record {
      place = place;
      hand = hand;
      pool = no_run;
      has_data = false;
      is_ended = false;
      proposal = None;
      handing = None;
    }

-- a hand of claims for the train on these sections
abbrev pub claims_on : ℕ → SectionRun → Holding
claims_on t r = record { first = r.first; holds = replicate r.count (Own t) }

-- the mission without its first `count` sections, at this place; `None` if no section is left
abbrev pub without_front : Place → ℕ → spec.Mission → Option spec.Mission
without_front place count m =
    if count == m.hand.count then None else Some (record m { place = place; hand = rest_of count m.hand })

-- The handover that stays pending for a mission on this track with this hand; `None` if the hand has no section of the
-- accepting centre.
abbrev pub still_handing : Line → ℕ → SectionRun → Option spec.Handing → Option spec.Handing
still_handing line track hand handing =
    if has (λ (h : spec.Handing). is_empty (part_at line h.to track hand)) handing then None else handing

-- the mission with only its first `count` sections, without pool and request; `None` if no section is left
abbrev pub with_front : Line → ℕ → spec.Mission → Option spec.Mission
with_front line count m =
    if count == 0 then None
    else Some (record m {
      hand = front_of count m.hand;
      pool = no_run;
      proposal = None;
      handing = still_handing line m.place.track (front_of count m.hand) m.handing;
    })

-- the mission at this place, with `count` further sections in its hand: first those of its pool
abbrev pub with_next : Place → ℕ → spec.Mission → spec.Mission
with_next place count m = extended_by (next_of count m.hand) (record m { place = place })

-- the `count` sections in advance of the hand of the mission; empty without a mission
abbrev pub next_sections : ℕ → SupervisionState → SectionRun
next_sections count c = option_map_or (λ m. next_of count m.hand) c.mission no_run

-- The hand of a mission may be extended by `count` sections. The pool follows the hand and has no section of the book's
-- home, and each section outside the pool is open.
pub record MayGrow (m : spec.Mission) (count : ℕ) (book : Pages) : Type 0 where
  pub most : m.hand.count + count ≤ 32
  pub numbers : next_after m.hand + count ≤ 65535
  pub follows : 0 < m.pool.count → next_after m.hand ≡ m.pool.first
  pub away : (s : ℕ) → within m.pool s ≡ true → is_own book s ≡ false
  pub free : (s : ℕ) → within (next_of count m.hand) s ≡ true → within m.pool s ≡ false
      → is_open (entry_at book s) ≡ true

-- the sections that leave if the first `count` are cleared: the pool leaves with the last section of the hand
abbrev pub cleared_run : ℕ → SupervisionState → SectionRun
cleared_run count c = if count == (hand_of c).count then joined (hand_of c) (pool_of c) else front_of count (hand_of c)

-- the sections that leave if the first `keep` are kept: the pool leaves with those that are cut off
abbrev pub cut_run : ℕ → SupervisionState → SectionRun
cut_run keep c = joined (rest_of keep (hand_of c)) (pool_of c)

-- the right of the train, if its mission has closed
abbrev pub right_left : SupervisionState → SupervisionState → HeldRight
right_left old new = if is_some old.mission && is_none new.mission then Held (right_of old.number) else Nothing

-- the name of the handover that was pending and is not any more
abbrev pub handover_left : SupervisionState → SupervisionState → Option HandoverName
handover_left old new = if is_some (handing_in new) then None else option_map handover_name (handing_in old)

-- with another handover or none, if there is a mission
abbrev pub with_handing : Option spec.Handing → SupervisionState → SupervisionState
with_handing handing c =
    record c { mission = option_map (λ (m : spec.Mission). record m { handing = handing }) c.mission }

-- with another pool, if there is a mission
abbrev pub with_pool : SectionRun → SupervisionState → SupervisionState
with_pool pool c = record c { mission = option_map (λ (m : spec.Mission). record m { pool = pool }) c.mission }

-- without the sections of the pool from this one on
abbrev pub without_section : ℕ → SupervisionState → SupervisionState
without_section s c = if within (pool_of c) s then with_pool (part_before s (pool_of c)) c else c

-- ## A centre that has it

-- the centre has this mission of the train, and this question
pub record HasSupervision (k : spec.Centre) (c : SupervisionState) : Type 0 where
  pub has_mission : k.mission c.engine ≡ c.mission
  pub has_question : k.route_ask c.engine ≡ c.asked

-- the centre with this mission of the train, and this question
abbrev pub with_supervision : SupervisionState → spec.Centre → spec.Centre
with_supervision c k =
    record k { mission = put k.mission c.engine c.mission; route_ask = put k.route_ask c.engine c.asked }

-- ## In memory

abbrev pub supervision_state : ℕ → ℕ → Option MissionFacts → Holding → BorderState → Option spec.Handing
    → SupervisionState
supervision_state number engine mission hand border handing =
    record {
      number = number;
      engine = engine;
      mission = option_map (mission_of (run hand) border.pool handing) mission;
      hand = hand;
      asked = border.asked;
    }

-- the right is held if and only if there is a mission
abbrev pub held_for : ℕ → Option MissionFacts → HeldRight
held_for number None = Nothing
held_for number (Some m) = Held (right_of number)

-- So are sections. The border is that of the train; it has a pool only if there is a mission, and so has the handover.
pub record IsSupervision (number engine : ℕ) (mission : Option MissionFacts) (hand : Holding) (held : HeldRight)
    (border : BorderState) (handing : Option spec.Handing) : Type 0 where
  pub right : held ≡ held_for number mission
  pub some : is_empty (run hand) ≡ is_none mission
  pub most : length hand.holds ≤ 32
  pub numbers : hand.first + length hand.holds ≤ 65535
  pub train : border.engine ≡ engine
  pub none : mission ≡ None → border.pool ≡ no_run
  pub few : border.pool.count ≤ 31
  pub handed : mission ≡ None → handing ≡ None
