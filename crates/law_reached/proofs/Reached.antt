-- A reached world is represented by the state that is read off, and is sound.
use Rattle.std.proofs.Common.{◌≡◌, List, Ok}
use Rattle.law_invariants.proofs.FlowLemmas.OnePlace.{has_one_place}
use Rattle.law_invariants.proofs.HandoverLemmas.Worlds.{world_begins}
use Rattle.law_invariants.proofs.NoLossLemmas.Worlds.{never_lost}
use Rattle.law_invariants.specs.Flow.Flow.{flow_of}
use Rattle.law_invariants.specs.Flow.Sound.{LosesNothing}
use Rattle.law_refinement.proofs.Promises.{begins_so, run_read, run_so, stands_read, WaitsAtCentres}
use Rattle.law_refinement.specs.Announced.{IsAnnounced}
use Rattle.law_refinement.specs.Meets.{Meets}
use Rattle.rbc_spec.proofs.Safe.{safe}
use Rattle.rbc_spec.specs.Line.{IsLine, Line}
use Rattle.rbc_spec.specs.Promises.{IsSound}
use Rattle.rbc_spec.specs.ReadOff.{read_off, StandsFor}
use Rattle.rbc_spec.specs.World.{Answer, Event, new_world, World, world_run}

-- a world is sound if the state that is read off meets it, and nothing is lost
pub sound_met : (line : Line) → IsLine line → (w : World) → Meets line w (read_off line w)
    → LosesNothing line (flow_of w) → IsSound line w
sound_met line ok w meets whole =
    let stands = stands_read line w (read_off line w) meets in
    record {
      stands = stands;
      safe = safe line w (read_off line w) stands;
      one_place = has_one_place line ok w meets.sound.flow whole;
    }

module _ (line : Line) (ok : IsLine line) where
  module _ (events : List Event) (answers : List Answer) (w : World)
      (is : world_run line (new_world line) events ≡ Ok (answers, w)) where
    pub meets : Meets line w (read_off line w)
    meets = (run_read line ok events answers w is).1

    pub announced : IsAnnounced line w
    announced = (run_read line ok events answers w is).2

    pub loses_nothing : LosesNothing line (flow_of w)
    loses_nothing = never_lost line ok events answers w is

    pub waits : WaitsAtCentres line w
    waits = run_so line ok events (new_world line) (world_begins line) (begins_so line) answers w is

    pub stands : StandsFor line w (read_off line w)
    stands = stands_read line w (read_off line w) meets
