-- A train at the border to the next centre: the lent sections that follow its hand, and the question for more.
use Rattle.std.specs.Prelude.{◌&&◌, ◌+◌, ◌<◌, ◌==◌, ◌≡◌, ◌≤◌, Bool, false, is_none, length, nat_lt, None, Option}
use Rattle.std.specs.Prelude.{option_map, replicate, Some, true, ℕ}
use Rattle.rbc_border.specs.declared.way.Way.{Way}
use Rattle.rbc_hand.specs.Hands.{Holding}
use Rattle.rbc_hand.specs.Tokens.{Name}
use Rattle.rbc_line.specs.SectionRuns.{run_of}
use Rattle.rbc_spec.specs.Centre.{Centre, Mission}
use Rattle.rbc_spec.specs.Line.{is_home, Line}
use Rattle.rbc_spec.specs.Links.{is_of_line}
use Rattle.rbc_spec.specs.Maps.{has, put}
use Rattle.rbc_spec.specs.SectionRuns.{all_of, is_empty, most_in_hand, next_after, no_run, SectionRun}
use Rattle.rbc_spec.specs.Sections.{is_on}

-- The state of a train's border at a centre. It has the train's NID_ENGINE, the centre that lent its pool, the pool,
-- and the first section of a pending question.
pub record BorderState : Type 0 where
  pub engine : ℕ
  pub lender : ℕ
  pub pool : SectionRun
  pub asked : Option ℕ

-- nothing is lent to the train, and nothing is asked for
abbrev pub nothing_lent : ℕ → BorderState
nothing_lent t = record { engine = t; lender = 0; pool = no_run; asked = None }

-- ## A centre that has it

-- the centre has this of the train
pub record HasBorder (k : Centre) (b : BorderState) : Type 0 where
  pub has_pool : (m : Mission) → k.mission b.engine ≡ Some m → m.pool ≡ b.pool
  pub has_ask : k.route_ask b.engine ≡ b.asked

-- the centre with this of the train
abbrev pub with_border : BorderState → Centre → Centre
with_border b k = record k {
  mission = put k.mission b.engine (option_map (λ (m : Mission). record m { pool = b.pool }) (k.mission b.engine));
  route_ask = put k.route_ask b.engine b.asked;
}

-- the way is that of the mission
pub record IsWayOf (way : Way) (m : Mission) : Type 0 where
  pub on : m.place.track ≡ way.track
  pub sections : m.hand ≡ run_of way.hand

-- the track and hand of the mission, if it is not ended; `None` if there is none
abbrev pub GoesOn : Option Way → Option Mission → Type 0
GoesOn None None = Unit {0}
GoesOn None (Some m) = m.is_ended ≡ true
GoesOn (Some way) None = ⊥
GoesOn (Some way) (Some m) = (m.is_ended ≡ false) × IsWayOf way m

-- ## Requests and answers

-- A request is due. The next section in advance of the hand is of the next centre's home and on the track. The hand has
-- room, the pool is empty, and no question is pending.
abbrev pub is_due : Line → ℕ → Way → BorderState → Bool
is_due line next way b =
    ((is_home line next (next_after (run_of way.hand)) && is_on line way.track (next_after (run_of way.hand)))
    && nat_lt way.hand.count most_in_hand)
    && (is_empty b.pool && is_none b.asked)

-- the sections were asked for from their first on, and are of the line, on one track, and of that centre's home
abbrev pub answers : Line → ℕ → SectionRun → BorderState → Bool
answers line from r b =
    (has (λ first. first == r.first) b.asked && (is_of_line line r && is_home line from r.first))
    && all_of (is_home line from) r

-- the mission is not ended, the sections follow its hand at once, on its track, and the pool is empty
abbrev pub wants : Line → SectionRun → Option Way → BorderState → Bool
wants line r way b =
    has (λ w. (r.first == next_after (run_of w.hand)) && is_on line w.track r.first) way && is_empty b.pool

-- ## In memory

abbrev pub border_state : ℕ → ℕ → ℕ → Holding → Option ℕ → BorderState
border_state t lender first names asked =
    record { engine = t; lender = lender; pool = record { first = first; count = length names.holds }; asked = asked }

-- The pool is held by names of sections that one home has lent to the train. Its sections are of a line.
pub record IsBorder (t lender first : ℕ) (names : Holding) : Type 0 where
  pub lent : names.holds ≡ replicate (length names.holds) (Name t lender)
  pub begins : 0 < length names.holds → names.first ≡ first
  pub most : length names.holds ≤ 31
  pub last : 0 < length names.holds → first + length names.holds ≤ 512
