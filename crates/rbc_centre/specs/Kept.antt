-- The invariants of a centre between two steps.
use Rattle.std.specs.Prelude.{◌*◌, ◌≡◌, ◌≤◌, All, length, List, slice_get, Some, true, ℕ}
use Rattle.law_invariants.specs.Flow.Sound.{IsCentreSound}
use Rattle.law_invariants.specs.Ranges.Ranges.{HasStateRanges}
use Rattle.rbc_book.specs.Book.{is_own, Pages}
use Rattle.rbc_centre.specs.declared.desk.Desk.{Desk}
use Rattle.rbc_centre.specs.State.{IsOfTrain, stands_for}
use Rattle.rbc_link.specs.declared.link.Link.{Link}
use Rattle.rbc_link.specs.Links.{has_link, sent_to}
use Rattle.rbc_link.specs.Outgoing.{frames_by}
use Rattle.rbc_linkmsg.specs.Bodies.{body_of}
use Rattle.rbc_linkmsg.specs.declared.body.Body.{Body}
use Rattle.rbc_session.specs.Sessions.{Records}
use Rattle.rbc_spec.specs.Frame.{HasFrameRanges}
use Rattle.rbc_spec.specs.Line.{is_centre, is_home, is_linked, IsLine, Line, train_number}
use Rattle.rbc_train.specs.declared.train.TrainState.{TrainState}

-- the links of centre c are those of the line, and each frame that was sent is in its ranges
pub record AreLinks (line : Line) (c : ℕ) (links : List (Link Body)) : Type 0 where
  pub count : length links ≡ length line.centres
  pub linked : (d : ℕ) → has_link links d ≡ is_linked line c d
  pub frames : ∥ ((d : ℕ) → All HasFrameRanges (frames_by body_of (sent_to links d))) ∥₁

-- the trains are those of the line, and each was sent at most two messages a step
pub record AreTrains (line : Line) (c clock : ℕ) (sessions : Records) (states : List TrainState) : Type 0 where
  pub count : length states ≡ length line.trains
  pub each : (t i : ℕ) (p : TrainState) → train_number line t ≡ Some i → slice_get states i ≡ Some p
      → IsOfTrain line c sessions t i p
  pub said : (i : ℕ) (p : TrainState) → slice_get states i ≡ Some p → p.said ≤ 2 * clock

-- these are the parts of centre c of the line
pub record IsCentre (line : Line) (c clock : ℕ) (book : Pages) (desk : Desk) (sessions : Records)
    (links : List (Link Body)) (states : List TrainState) : Type 0 where
  pub line_rules : ∥ IsLine line ∥₁
  pub of_line : is_centre line c ≡ true
  pub own_sections : (s : ℕ) → is_own book s ≡ is_home line c s
  pub each_right : length desk.registrar ≡ length line.trains
  pub all_links : AreLinks line c links
  pub all_trains : AreTrains line c clock sessions states
  pub sound : IsCentreSound line c (stands_for line c clock book desk links states)
  pub ranged : ∥ HasStateRanges line c (stands_for line c clock book desk links states) ∥₁
