-- The condition under which the one line centre has the same reasons of silence as a centre.
use Rattle.std.specs.Prelude.{◌≡◌, ◌≤◌, Some}
use Rattle.rbc_spec.specs.SectionRuns.{SectionRun, next_after}
use Rattle.rbc_spec.specs.Line.{Line}
use Rattle.rbc_spec.specs.Sections.{section_count}
use Rattle.rbc_spec.specs.Place.{Position}
use Rattle.rbc_spec.specs.Message.{TrainMessage, Request}
use Rattle.rbc_spec.specs.Centre.{Centre, Mission}

-- the run has a section, and its last is of the line
pub record EndsOnLine (line : Line) (r : SectionRun) : Type 0 where
  pub some : 1 ≤ r.count
  pub last : next_after r ≤ section_count line

-- if the message is a request, the hand of its train's mission at the centre has a last section
abbrev pub HasEndIfAsked : Line → Centre → TrainMessage → Type 0
HasEndIfAsked line k m =
    (position : Position) (n : Mission) → m.body ≡ Request position → k.mission m.nid_engine ≡ Some n
    → EndsOnLine line n.hand
