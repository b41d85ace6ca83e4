-- When a train may send a message, when one arrives at it, and how far it may run.
use Rattle.std.specs.Prelude.{◌&&◌, ◌≡◌, ◌⊎◌, Bool, Err, false, if◌then◌else◌, int_le, int_lt, nat_le, None, not, Ok}
use Rattle.std.specs.Prelude.{Option, pos, Result, Some, ℕ, ℤ}
use Rattle.law_trains.specs.Trains.{may_reach, Train}
use Rattle.rbc_railway.specs.declared.fault.RailwayFault.{RailwayFault}
use Rattle.rbc_railway.specs.declared.fault.RailwayFault.TheVariants.{Backwards, Length, Limit, Memory, Name, NoCentre}
use Rattle.rbc_railway.specs.declared.fault.RailwayFault.TheVariants.{NoTrain, NotSent, Refused as ByUnit, Step}
use Rattle.rbc_railway.specs.declared.fault.RailwayFault.TheVariants.{TooLong}
use Rattle.rbc_railway.specs.History.{IsFree}
use Rattle.rbc_spec.specs.Line.{is_centre, Line}
use Rattle.rbc_spec.specs.Outcome.{Saying}
use Rattle.rbc_spec.specs.World.{centre_of, Event, World, world_step}
use Rattle.rbc_world.specs.Answers.{IsRefusal}
use Rattle.rbc_world.specs.rbc_centre.declared.fault.StepFault.{StepFault}
use Rattle.train_unit.specs.declared.refused.Refused.{Refused}

-- the verdict of the on-board unit
abbrev pub sent_as : Result (Unit {0}) Refused → Result (Unit {0}) RailwayFault
sent_as (Ok u) = Ok u
sent_as (Err why) = Err (ByUnit why)

-- why a message is not sent, by the verdict of the unit: that, or the memory or the length of its spelling
abbrev pub IsWhyNotSent : Result (Unit {0}) Refused → RailwayFault → Type 0
IsWhyNotSent verdict fault =
    (fault ≡ Memory) ⊎ ((fault ≡ TooLong) ⊎ ((why : Refused) × (fault ≡ ByUnit why) × (verdict ≡ Err why)))

-- a message arrives if it was sent, and if its train is one of the railway
abbrev pub hear_verdict : (ℕ → Bool) → Option (ℕ × Saying) → Result (Unit {0}) RailwayFault
hear_verdict obeys None = Err NotSent
hear_verdict obeys (Some p) = if obeys (p.1).nid_engine then Ok tt else Err NoTrain

-- why the event may not happen: its bytes are in the name of a train that obeys
abbrev pub IsOfItsTrain : (ℕ → Bool) → Event → RailwayFault → Type 0
IsOfItsTrain obeys event fault = (fault ≡ Name) × (IsFree obeys event → ⊥)

-- why the centres do not take an event: the line has no such centre, memory, or the refusal of a step
abbrev pub IsWhyNotTaken : Line → World → Event → RailwayFault → Type 0
IsWhyNotTaken line w event fault =
    ((fault ≡ NoCentre) × (is_centre line (centre_of event) ≡ false))
    ⊎ ((fault ≡ Memory) ⊎ ((why : StepFault) × (fault ≡ Step why) × IsRefusal why (world_step line w event)))

-- the first rule that forbids the train to run to these ends
abbrev pub run_verdict : ℕ → ℤ → Train → Result (Unit {0}) RailwayFault
run_verdict front rear x =
    if not (nat_le x.front front && int_le x.rear rear) then Err Backwards
    else (if not (int_lt rear (pos front)) then Err Length
    else (if not (may_reach front x) then Err Limit else Ok tt))
