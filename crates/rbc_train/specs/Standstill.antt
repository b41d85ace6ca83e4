-- The sections that leave the hand of a train that reports, and of one that ends its mission at standstill.
use Rattle.std.specs.Prelude.{◌≡◌, ℕ, ◌+◌, ◌++◌, ◌==◌, true, List, Some, None, is_some, option_and_then, if◌then◌else◌}
use Rattle.std.specs.Option.{option_map_or}
use Rattle.rbc_spec.specs.SectionRuns.{SectionRun, passing}
use Rattle.rbc_spec.specs.Line.{Line}
use Rattle.rbc_spec.specs.Place.{Place, Position, is_cleared, place_on}
use Rattle.rbc_book.specs.Book.{Pages}
use Rattle.rbc_allocation.specs.Sections.{FreesRun, front_of, rest_of, hand_rest, wished}
use Rattle.rbc_shorten.specs.Standstill.{ahead_of}
use Rattle.rbc_shorten.specs.declared.answer.Cut.{Cut}
use Rattle.rbc_shorten.specs.declared.answer.Cut.TheVariants.{Nothing, Keep}
use Rattle.rbc_mission.specs.Supervisions.{SupervisionState, hand_of, without_front}
use Rattle.rbc_train.specs.Letters.{mail_home}
use Rattle.rbc_train.specs.declared.heard.Heard.{Heard}
use Rattle.rbc_train.specs.declared.mail.Notice.TheVariants as notice

-- how many of the first sections of a hand a train at this place has cleared
abbrev pub cleared_count : Line → Place → SectionRun → ℕ
cleared_count line place hand = passing (is_cleared line place) hand

-- the sections of a hand that a train at this place has not cleared
abbrev pub uncleared : Line → Place → SectionRun → SectionRun
uncleared line place hand = rest_of (cleared_count line place hand) hand

-- the sections that a train at this place has cleared have left its hand, with these reports
pub record LeavesFront (line : Line) (place : Place) (old new : SupervisionState) (words : List ℕ)
    (from to : Pages) : Type 0 where
  pub supervision : new ≡ record old {
    mission = option_and_then (without_front place (cleared_count line place (hand_of old))) old.mission;
    hand = hand_rest (cleared_count line place (hand_of old)) old.hand;
  }
  pub told : words ≡ wished old.engine (front_of (cleared_count line place (hand_of old)) (hand_of old)) from
  pub book : FreesRun old.engine (front_of (cleared_count line place (hand_of old)) (hand_of old)) from to

-- The effect of a report with this state after it. It has no order; sections of this track are returned. While the
-- mission is here, it has neither a letter nor a notice.
pub record SendsHome (track : ℕ) (left : SupervisionState) (h : Heard) : Type 0 where
  pub order : h.order ≡ None
  pub mail : h.mail ≡ mail_home track h.mail.first h.mail.notice h.mail.letter
  pub letter : is_some left.mission ≡ true → (h.mail.letter ≡ None) × (h.mail.notice ≡ notice.Nothing)

-- the cut ahead of a train at standstill at its place on this track, after the cleared sections
abbrev pub left_ahead : Line → ℕ → Position → SectionRun → Cut
left_ahead line track position hand =
    if position.v_train == 0
    then option_map_or (λ place. ahead_of line (uncleared line place hand) place.front)
    (place_on line track position) Nothing else Nothing

-- `keep` sections are kept after the cleared ones, with these reports of all that leave the hand
pub record IsAhead (line : Line) (t track : ℕ) (position : Position) (hand : SectionRun) (book : Pages) (keep : ℕ)
    (words : List ℕ) : Type 0 where
  pub still : position.v_train ≡ 0
  pub place : Place
  pub at : place_on line track position ≡ Some place
  pub cut : ahead_of line (uncleared line place hand) place.front ≡ Keep keep
  pub told : words ≡ wished t (front_of (cleared_count line place hand) hand) book
      ++ wished t (rest_of (cleared_count line place hand + keep) hand) book
