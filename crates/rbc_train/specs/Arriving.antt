-- A mission that arrives from the handing-over centre.
use Rattle.std.specs.Prelude.{◌≡◌, ◌+◌, ◌≤◌, ℕ, true, length, List, Option, Some, None, max}
use Rattle.std.specs.Option.{option_map_or}
use Rattle.rbc_spec.specs.Line.{Line}
use Rattle.rbc_spec.specs.SectionRuns.{SectionRun, no_run, within}
use Rattle.rbc_spec.specs.Place.{Place}
use Rattle.rbc_spec.specs.Centre.{Mission, Expectation, is_out_for}
use Rattle.rbc_spec.specs.Acts.{Act}
use Rattle.rbc_spec.specs.Links.{yielded}
use Rattle.rbc_book.specs.Book.{Pages, is_own, entry_at}
use Rattle.rbc_hand.specs.Hands.{Holding}
use Rattle.rbc_line.specs.SectionRuns.{run_of}
use Rattle.rbc_linkmsg.specs.declared.body.Yielding.{Yielding}
use Rattle.rbc_mission.specs.Supervisions.{SupervisionState}
use Rattle.rbc_train.specs.declared.taking_up.Arriving.{Arriving}
use Rattle.rbc_train.specs.declared.train.TrainState.{TrainState}

-- the mission of train t that arrives at centre c, at this place
abbrev pub yielded_at : Line → ℕ → ℕ → Arriving → Place → Act
yielded_at line c t a =
    yielded line c a.from a.number t (run_of a.yielding.hand) a.yielding.heard a.yielding.has_data a.yielding.is_ended

-- A mission with this hand may go on here. The train has no mission here, the sections are of the line, and those of
-- the book's home are out for it.
pub record MayGoOn (line : Line) (p : SupervisionState) (hand : SectionRun) (book : Pages) : Type 0 where
  pub none : p.mission ≡ None
  pub on_line : hand.first + hand.count ≤ length line.sections
  pub own : (s : ℕ) → within hand s ≡ true → is_own book s ≡ true → is_out_for p.engine (entry_at book s) ≡ true

-- the mission that arrives, at this place
abbrev pub coming_mission : Yielding → Place → Mission
coming_mission y place = record {
  place = place;
  hand = run_of y.hand;
  pool = no_run;
  has_data = y.has_data;
  is_ended = y.is_ended;
  proposal = None;
  handing = None;
}

-- the train with the mission, the later of both stamps, these holdings of the hand, and these expectations
abbrev pub taken_up : Yielding → Place → Holding → List (Option Expectation) → TrainState → TrainState
taken_up y place hand e p = record p {
  heard = Some (option_map_or (max y.heard) p.heard y.heard);
  supervision = record p.supervision { mission = Some (coming_mission y place); hand = hand };
  expectations = e;
}
