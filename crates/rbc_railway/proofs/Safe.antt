-- A railway that moments led to is safe.
use Rattle.law_trains.specs.Trains.{TrainsTheorem}
use Rattle.rbc_railway.specs.declared.railway.Railway.{Railway}
use Rattle.rbc_railway.specs.History.{obeys}
use Rattle.rbc_railway.specs.Railways.{IsSafeRailway}
use Rattle.rbc_spec.specs.Line.{IsLine}
use Rattle.rbc_world.specs.World.{state_of}

pub is_safe : (r : Railway) → TrainsTheorem → IsLine r.line → IsSafeRailway r
is_safe r theorem ok = record {
  led = r.led;
  safe = λ first moments h.
      theorem r.line (obeys r.trains.items) first moments (state_of r.world) ok h.new h.may h.run;
}
