-- A mission that is handed over.
use Rattle.std.specs.Prelude.{◌≡◌, ℕ, true, if◌then◌else◌, Some, is_some}
use Rattle.std.specs.Option.{option_map_or}
use Rattle.rbc_spec.specs.Line.{Line}
use Rattle.rbc_spec.specs.Frame.{Yield, yielded_place}
use Rattle.rbc_spec.specs.Centre.{Mission}
use Rattle.rbc_spec.specs.Acts.{Act, rest, ◌>>◌, send, returned, end_order}
use Rattle.rbc_line.specs.SectionRuns.{run_of}
use Rattle.rbc_place.specs.Places.{place_of}
use Rattle.rbc_mission.specs.Supervisions.{SupervisionState}
use Rattle.rbc_mission.specs.declared.handing_over.Yielded.{Yielded}

-- A mission is yielded. The pool is returned, and the mission goes in one frame, with the last T_TRAIN received. A
-- train that will not return to this centre is ordered to end its session.
abbrev pub sends_off : Line → ℕ → ℕ → Yielded → Act
sends_off line c t y k =
    ((returned line c t y.mission.place.track (run_of y.pool)
    >> send y.handover.to (Yield y.handover.number t
    (option_map_or (λ n. n) (k.heard t) 0) y.mission.has_data y.mission.is_ended
    (yielded_place (place_of y.mission.place)) (run_of y.hand)))
    >> (if y.is_gone then end_order line c t else rest)) k

-- the yielded mission was this mission, with a pending handover
pub record WasHandedOver (c : SupervisionState) (y : Yielded) : Type 0 where
  pub mission : Mission
  pub there : c.mission ≡ Some mission
  pub handing : is_some mission.handing ≡ true
  pub place : place_of y.mission.place ≡ mission.place
  pub hand : run_of y.hand ≡ mission.hand
  pub pool : run_of y.pool ≡ mission.pool
