-- The verdicts of a railway.
use Rattle.std.proofs.Common.{if◌then◌else◌, ◌≡◌, Bool, Err, false, Ok, refl}
use Rattle.std.proofs.Common.{Result, true, ℕ}
use Rattle.rbc_railway.specs.declared.fault.RailwayFault.{RailwayFault}
use Rattle.rbc_railway.specs.declared.fault.RailwayFault.TheVariants.{NoTrain}
use Rattle.rbc_railway.specs.declared.fault.RailwayFault.TheVariants.{Refused as ByUnit}
use Rattle.rbc_railway.specs.Verdicts.{hear_verdict, IsWhyNotSent, sent_as}
use Rattle.rbc_spec.specs.Outcome.{Saying}
use Rattle.std.proofs.Common.{◌∙◌, ap, inr, Option, Some}
use Rattle.train_unit.specs.declared.refused.Refused.{Refused}

by_name : (b : Bool) → b ≡ true → ◌≡◌ {A = Result (Unit {0}) RailwayFault} (if b then Ok tt else Err NoTrain) (Ok tt)
by_name true e = refl
by_name false e = cc

by_no_name : (b : Bool) → b ≡ false
    → ◌≡◌ {A = Result (Unit {0}) RailwayFault} (if b then Ok tt else Err NoTrain) (Err NoTrain)
by_no_name true e = cc
by_no_name false e = refl

pub arrives : (obeys : ℕ → Bool) (sent : Option (ℕ × Saying)) (p : ℕ × Saying) → sent ≡ Some p
    → obeys (p.1).nid_engine ≡ true → hear_verdict obeys sent ≡ Ok tt
arrives obeys sent p is named = ap (hear_verdict obeys) is ∙ by_name (obeys (p.1).nid_engine) named

pub has_no_train : (obeys : ℕ → Bool) (sent : Option (ℕ × Saying)) (p : ℕ × Saying) → sent ≡ Some p
    → obeys (p.1).nid_engine ≡ false → hear_verdict obeys sent ≡ Err NoTrain
has_no_train obeys sent p is named = ap (hear_verdict obeys) is ∙ by_no_name (obeys (p.1).nid_engine) named

pub by_unit : (v : Result (Unit {0}) Refused) (fault : RailwayFault) → Err fault ≡ sent_as v → IsWhyNotSent v fault
by_unit (Ok u) fault e = cc
by_unit (Err why) fault e = let is : fault ≡ ByUnit why = cc in inr (inr (why, is, refl))
