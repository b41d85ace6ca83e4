-- A message that the rules allow at the safe ends of a train is allowed wherever the train may be.
use Rattle.std.proofs.Common.{if◌then◌else◌, ◌&&◌, ◌==◌, ◌∙◌, ◌≡◌, arith, Bool, Err, false, int_le, is_ok, le-leb}
use Rattle.std.proofs.Common.{leb-true, nat_le, nat_lt, negsuc, None, not, Ok, Option, pos, refl, Result, Some, subst}
use Rattle.std.proofs.Common.{sym, true, ℕ, ℤ}
use Rattle.std.proofs.lemmas.Bool.{and_from, and_parts}
use Rattle.std.specs.Option.{option_map_or}
use Rattle.std.specs.Result.{IsErr}
use Rattle.rbc_spec.specs.Line.{Line}
use Rattle.rbc_spec.specs.Message.{EndOfMission, InitiationOfSession, Report, Request as AuthorityRequest}
use Rattle.rbc_spec.specs.Message.{SessionEstablished, ShorteningGranted, ShorteningRejected, StartOfMission}
use Rattle.rbc_spec.specs.Message.{TerminationOfSession, TrainBody, TrainData, TrainMessage}
use Rattle.rbc_spec.specs.Place.{extent, Place, Position as PositionReport}
use Rattle.law_trains.specs.Trains.{is_in_place, is_true_of, may_say, position_of, Train, was_asked}
use Rattle.train_unit.specs.declared.ends.Ends.{Ends}
use Rattle.train_unit.specs.declared.refused.Refused.{Refused}
use Rattle.train_unit.specs.declared.refused.Refused.TheVariants.{Name, Position, Request, Stamp}
use Rattle.train_unit.specs.declared.unit.OnBoardUnit.{OnBoardUnit}
use Rattle.train_unit.specs.Units.{IsWithin, train_of, verdict}

-- the verdict by the results of the tests
abbrev by_tests : Bool → Bool → Bool → Bool → Result (Unit {0}) Refused
by_tests name stamp position request =
    if not name then Err Name
    else (if not stamp then Err Stamp
    else (if not position then Err Position else (if not request then Err Request else Ok tt)))

by_parts : (name stamp position request : Bool)
    → is_ok (by_tests name stamp position request) ≡ (name && ((stamp && position) && request))
by_parts true true true true = refl
by_parts true true true false = refl
by_parts true true false request = refl
by_parts true false position request = refl
by_parts false stamp position request = refl

-- a result that is an error
pub not_ok : (verdict : Result (Unit {0}) Refused) → IsErr verdict → is_ok verdict ≡ false
not_ok (Ok tt) is = cc
not_ok (Err e) is = refl

-- a message is sent if it has the train's name, and the rules allow it
pub verdict_is : (line : Line) (engine c : ℕ) (m : TrainMessage) (x : Train)
    → is_ok (verdict line engine c m x) ≡ ((m.nid_engine == engine) && may_say line c m x)
verdict_is line engine c m x =
    by_parts (m.nid_engine == engine) (nat_lt x.clock m.t_train) (is_true_of line x m.body) (was_asked c m.body x)

no_farther_back : (a b c : ℤ) → int_le a b ≡ true → int_le b c ≡ true → int_le a c ≡ true
no_farther_back (pos a) (pos b) (pos c) one two = le-leb a c (omega (arith, leb-true a b one, leb-true b c two))
no_farther_back (pos a) (pos b) (negsuc c) one two = cc
no_farther_back (pos a) (negsuc b) c one two = cc
no_farther_back (negsuc a) (pos b) (pos c) one two = refl
no_farther_back (negsuc a) (pos b) (negsuc c) one two = cc
no_farther_back (negsuc a) (negsuc b) (pos c) one two = refl
no_farther_back (negsuc a) (negsuc b) (negsuc c) one two =
    le-leb c a (omega (arith, leb-true b a one, leb-true c b two))

module _ (unit : OnBoardUnit) (there safe : Ends) (within : IsWithin there safe) where
  rear_too : (rear : Option ℤ) → option_map_or (λ r. int_le r safe.rear) rear true ≡ true
      → option_map_or (λ r. int_le r there.rear) rear true ≡ true
  rear_too None is = refl
  rear_too (Some r) is = no_farther_back r safe.rear there.rear is within.rear

  at_place : (place : Place) → is_in_place (train_of unit safe) place ≡ true
      → is_in_place (train_of unit there) place ≡ true
  at_place place is =
      let both = and_parts (place.track == safe.track && nat_le safe.front place.front)
      (option_map_or (λ r. int_le r safe.rear) place.rear true) is in
      let before = and_parts (place.track == safe.track) (nat_le safe.front place.front) both.0 in
      and_from (place.track == there.track && nat_le there.front place.front)
      (option_map_or (λ r. int_le r there.rear) place.rear true)
      (and_from (place.track == there.track) (nat_le there.front place.front)
      (subst (λ track. (place.track == track) ≡ true) (sym within.track) before.0)
      (le-leb there.front place.front
      (let le = within.front in omega (arith, le, leb-true safe.front place.front before.1))))
      (rear_too place.rear both.1)

  at_extent : (place : Option Place) → option_map_or (is_in_place (train_of unit safe)) place true ≡ true
      → option_map_or (is_in_place (train_of unit there)) place true ≡ true
  at_extent None is = refl
  at_extent (Some place) is = at_place place is

  at_report : (line : Line) (report : Option PositionReport)
      → option_map_or (λ p. option_map_or (is_in_place (train_of unit safe)) (extent line p) true) report true ≡ true
      → option_map_or (λ p. option_map_or (is_in_place (train_of unit there)) (extent line p) true) report true ≡ true
  at_report line None is = refl
  at_report line (Some p) is = at_extent (extent line p) is

  asked_too : (c : ℕ) (body : TrainBody) → was_asked c body (train_of unit safe) ≡ true
      → was_asked c body (train_of unit there) ≡ true
  asked_too c (TrainData p) is = is
  asked_too c (AuthorityRequest p) is = is
  asked_too c (Report p) is = is
  asked_too c (ShorteningGranted asked p) is = is
  asked_too c (ShorteningRejected asked p) is = is
  asked_too c (EndOfMission p) is = is
  asked_too c InitiationOfSession is = is
  asked_too c TerminationOfSession is = is
  asked_too c (StartOfMission is_valid p) is = is
  asked_too c SessionEstablished is = is

  -- a message that it may send by its safe ends it may send there
  pub may_say_there : (line : Line) (engine c : ℕ) (m : TrainMessage)
      → is_ok (verdict line engine c m (train_of unit safe)) ≡ true → may_say line c m (train_of unit there) ≡ true
  may_say_there line engine c m is =
      let named = and_parts (m.nid_engine == engine) (may_say line c m (train_of unit safe))
      (sym (verdict_is line engine c m (train_of unit safe)) ∙ is) in
      let both = and_parts (nat_lt unit.clock m.t_train && is_true_of line (train_of unit safe) m.body)
      (was_asked c m.body (train_of unit safe)) named.1 in
      let before = and_parts (nat_lt unit.clock m.t_train) (is_true_of line (train_of unit safe) m.body) both.0 in
      and_from (nat_lt unit.clock m.t_train && is_true_of line (train_of unit there) m.body)
      (was_asked c m.body (train_of unit there))
      (and_from (nat_lt unit.clock m.t_train) (is_true_of line (train_of unit there) m.body) before.0
      (at_report line (position_of m.body) before.1))
      (asked_too c m.body both.1)
