-- The promises of the centres of a line, for one event and for lists of events, read from the state that the line
-- shows.
use Rattle.std.specs.Prelude.{◌≡◌, ℕ, List, [], ◌∷◌, ◌++◌, false, Ok}
use Rattle.rbc_spec.specs.Line.{Line}
use Rattle.rbc_spec.specs.Centre as centre
use Rattle.rbc_spec.specs.LineCentre.{Shut, Given, is_given_to}
use Rattle.rbc_spec.specs.World.{World, Event, Answer, world_step, world_run}
use Rattle.rbc_spec.specs.ReadOff.{read_off}
use Rattle.rbc_spec.specs.Promises.{MayFree, holders}

-- Among the events that follow w is one by which the section leaves the hand of the train, as it may. The train reports
-- to its supervisor that it has cleared the section, or grants it the request to give it up.
pub record IsFreedWithin (line : Line) (w : World) (events : List Event) (t s : ℕ) : Type 0 where
  pub front : List Event
  pub event : Event
  pub rest : List Event
  pub cut : events ≡ front ++ event ∷ rest
  pub answers : List Answer
  pub before : World
  pub answered : world_run line w front ≡ Ok (answers, before)
  pub answer : Answer
  pub after : World
  pub done : world_step line before event ≡ Ok (answer, after)
  pub given : (read_off line before).mark s ≡ Given t
  pub not_given : is_given_to t ((read_off line after).mark s) ≡ false
  pub may_free : MayFree line before t s event

-- The section of home c is the interlocking's again. It is shut at its home, and not wished back any more. No centre
-- and no frame has it for a train, and the line shows it as shut.
pub record IsTakenBack (line : Line) (c s : ℕ) (w : World) : Type 0 where
  pub shut : (w.at c).book s ≡ centre.Shut
  pub not_wished : (w.at c).wish s ≡ false
  pub held_by_none : holders line w s ≡ []
  pub marked : (read_off line w).mark s ≡ Shut
