-- All parts of the rules together are the five rules.
use Rattle.std.proofs.Common.{◌&&◌, ◌≡◌, ap, Bool, not, refl, true, ℕ}
use Rattle.std.proofs.lemmas.Bool.{and_parts}
use Rattle.law_trains.specs.Trains as rules
use Rattle.law_trains.specs.Trains.{is_accepted, IsSafeLoop, Loop, stands_on, Train}
use Rattle.rbc_spec.specs.Line.{Line}
use Rattle.rbc_spec.specs.Message.{Authority, DataAcknowledged, EndOfMission, EndSession, InitiationOfSession, Report}
use Rattle.rbc_spec.specs.Message.{Request, SessionEstablished, ShorteningGranted, ShorteningRejected}
use Rattle.rbc_spec.specs.Message.{ShorteningRequest, StartOfMission, SystemVersion, TerminationAcknowledged}
use Rattle.rbc_spec.specs.Message.{TerminationOfSession, TrackBody, TrackMessage, TrainAccepted, TrainBody, TrainData}
use Rattle.rbc_spec.specs.Message.{TrainMessage, TrainRejected, Transition}
use Rattle.test_scenes.specs.RuleParts.{before_it_says, five_rules, hears, is_on_shut, meet_on, says}

before : (c stamp : ℕ) (body : TrainBody) (x : Train)
    → before_it_says five_rules c stamp body x ≡ rules.before_it_says c stamp body x
before c stamp (TrainData position) x = refl
before c stamp (Request position) x = refl
before c stamp (Report position) x = refl
before c stamp (ShorteningGranted asked position) x = refl
before c stamp (ShorteningRejected asked position) x = refl
before c stamp (EndOfMission position) x = refl
before c stamp InitiationOfSession x = refl
before c stamp TerminationOfSession x = refl
before c stamp (StartOfMission is_valid position) x = refl
before c stamp SessionEstablished x = refl

pub said_is : (c : ℕ) (m : TrainMessage) (x : Train) → says five_rules c m x ≡ rules.says c m x
said_is c m x = ap (λ (y : Train). record y { clock = m.t_train }) (before c m.t_train m.body x)

pub heard_is : (line : Line) (c : ℕ) (m : TrackMessage) (body : TrackBody) (x : Train)
    → hears five_rules line c m body x ≡ rules.hears line c m body x
heard_is line c m (Authority l) x = refl
heard_is line c m (DataAcknowledged stamp) x = refl
heard_is line c m (ShorteningRequest l) x = refl
heard_is line c m (Transition d n k) x = refl
heard_is line c m (EndSession n k) x = refl
heard_is line c m SystemVersion x = refl
heard_is line c m TerminationAcknowledged x = refl
heard_is line c m TrainRejected x = refl
heard_is line c m TrainAccepted x = refl

pub not_safe_there : (line : Line) (k : Loop) (t u s : ℕ) → meet_on t u s line k ≡ true → (t ≡ u → ⊥)
    → IsSafeLoop line (λ v. true) k → ⊥
not_safe_there line k t u s meet apart safe =
    let both = and_parts (is_accepted k t && is_accepted k u)
    (stands_on line (k.train t) s && stands_on line (k.train u) s) meet in
    let accepted = and_parts (is_accepted k t) (is_accepted k u) both.0 in
    let on = and_parts (stands_on line (k.train t) s) (stands_on line (k.train u) s) both.1 in
    apart (safe.never_meet t u s refl refl accepted.0 accepted.1 on.0 on.1)

pub not_safe_on : (line : Line) (k : Loop) (t s : ℕ) → is_on_shut t s line k ≡ true
    → IsSafeLoop line (λ v. true) k → ⊥
not_safe_on line k t s is safe =
    let both = and_parts (is_accepted k t && stands_on line (k.train t) s) (not (k.seen.released s)) is in
    let on = and_parts (is_accepted k t) (stands_on line (k.train t) s) both.0 in
    released_twice (k.seen.released s) both.1 (safe.released t s refl on.0 on.1)
  where
    released_twice : (b : Bool) → not b ≡ true → b ≡ true → ⊥
    released_twice b is_shut is_open = cc
