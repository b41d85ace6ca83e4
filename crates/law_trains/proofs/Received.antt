-- The last T_TRAIN that a centre received from a train never falls.
use Rattle.std.proofs.Common.{[], ◌<◌, ◌∙◌, ◌∷◌, ◌≡◌, arith, Bool, Err, false, if◌then◌else◌, inl, inr, le-leb, List}
use Rattle.std.proofs.Common.{nat_le, None, Ok, Option, refl, Some, subst, sym, true, ℕ}
use Rattle.std.proofs.lemmas.Bool.{both_ways, cases_lt, and_parts}
use Rattle.std.proofs.lemmas.Option.{same_Some}
use Rattle.std.specs.List.{find, list_all}
use Rattle.law_promises.proofs.Follows.{put_later}
use Rattle.law_promises.proofs.Marks.{IsSince, Later}
use Rattle.law_trains.proofs.Speech.{quiet_speaks, own_speaks, sets_say, unsets_say}
use Rattle.rbc_spec.specs.Line.{Line}
use Rattle.rbc_spec.specs.LineCentre.{LineState, hears, Said}
use Rattle.rbc_spec.specs.Message.{TrainBody, TrainMessage, TrainData, Request, Report, ShorteningGranted}
use Rattle.rbc_spec.specs.Message.{ShorteningRejected, EndOfMission, InitiationOfSession, TerminationOfSession}
use Rattle.rbc_spec.specs.Message.{StartOfMission, SessionEstablished, is_stale}
use Rattle.rbc_spec.specs.Outcome.{Outcome, Reason, ForeignEngine, StaleStamp, reasons_of}
use Rattle.rbc_spec.specs.Quiet.{Quiet, is_of_centre, TakesAll}
use Rattle.rbc_spec.specs.Run.{Goes, OwnStep, Piece, Steps, silent, heard, listened, holds, may_listen, silence}
use Rattle.rbc_spec.specs.World.{Answer, Answered, Bytes, centre_of, Delivery, Event, Fault, NoCentre, NotSent, Set}
use Rattle.rbc_spec.specs.World.{Unset}

-- ## A message that is not stale

pub stale_below : (n : ℕ) (o : Option ℕ) → is_stale n o ≡ false → (k : ℕ) → IsSince k o → k < n
stale_below n None fresh k since = let wrong : None ≡ Some since.last = since.is in cc
stale_below n (Some last) fresh k since = elim (cases_lt last n) [
  | inl less ↦ let same : last ≡ since.last = same_Some last since.last since.is in let le = since.le in
      omega (arith, same, le, less)
  | inr le ↦ absurd (both_ways (nat_le n last) fresh (le-leb n last le))
]

not_stale : (n : ℕ) (o : Option ℕ) → is_stale n o ≡ false → Later o (Some n)
not_stale n o fresh k since =
    record { last = n; is = refl; le = (let less = stale_below n o fresh k since in omega (arith, less)) }

module _ (line : Line) (v : LineState) (c : ℕ) (m : TrainMessage) where
  abbrev stale : Bool
  stale = is_stale m.t_train (v.heard m.nid_engine c)

  -- the second reason of each list
  fresh_of : (body : TrainBody) (o : Option Reason) → o ≡ None
      → o ≡ find (holds line v c m body) (reasons_of body) → stale ≡ false
  fresh_of body o none is = by_body body (sym is ∙ none)
    where
      by_two : (a b : Bool) (rest : Option Reason)
          → (if a then Some ForeignEngine else (if b then Some StaleStamp else rest)) ≡ None → b ≡ false
      by_two true b rest is = cc
      by_two false true rest is = cc
      by_two false false rest is = refl

      by_body : (b : TrainBody) → find (holds line v c m b) (reasons_of b) ≡ None → stale ≡ false
      by_body InitiationOfSession is = by_two _ stale _ is
      by_body TerminationOfSession is = by_two _ stale _ is
      by_body SessionEstablished is = by_two _ stale _ is
      by_body (StartOfMission is_valid position) is = by_two _ stale _ is
      by_body (TrainData position) is = by_two _ stale _ is
      by_body (Request position) is = by_two _ stale _ is
      by_body (Report position) is = by_two _ stale _ is
      by_body (ShorteningGranted stamp position) is = by_two _ stale _ is
      by_body (ShorteningRejected stamp position) is = by_two _ stale _ is
      by_body (EndOfMission position) is = by_two _ stale _ is

  pub fresh_is : silence line v c m ≡ None → stale ≡ false
  fresh_is none = fresh_of m.body (silence line v c m) none refl

  pub fresh_if_listened : may_listen line c m.body (silence line v c m) ≡ true → stale ≡ false
  fresh_if_listened may = by_body m.body refl may
    where
      by_two : (position : _) (a b : Bool) (rest : Option Reason)
          → may_listen line c (Report position)
          (if a then Some ForeignEngine else (if b then Some StaleStamp else rest)) ≡ true → b ≡ false
      by_two position true b rest may = cc
      by_two position false true rest may = cc
      by_two position false false rest may = refl

      by_body : (b : TrainBody) → m.body ≡ b
          → may_listen line c b (find (holds line v c m b) (reasons_of b)) ≡ true → stale ≡ false
      by_body (Report position) is may = by_two position _ stale _ may
      by_body InitiationOfSession is may = cc
      by_body TerminationOfSession is may = cc
      by_body SessionEstablished is may = cc
      by_body (StartOfMission is_valid position) is may = cc
      by_body (TrainData position) is may = cc
      by_body (Request position) is may = cc
      by_body (ShorteningGranted stamp position) is may = cc
      by_body (ShorteningRejected stamp position) is may = cc
      by_body (EndOfMission position) is may = cc

  pub hears_later : stale ≡ false → (t d : ℕ) → Later (v.heard t d) ((hears c m v).heard t d)
  hears_later fresh = put_later v.heard m.nid_engine c (Some m.t_train)
      (not_stale m.t_train (v.heard m.nid_engine c) fresh)

-- ## A step

abbrev Rises : LineState → LineState → Type 0
Rises v new = (t d : ℕ) → Later (v.heard t d) (new.heard t d)

same_rises : (v new : LineState) → new ≡ v → Rises v new
same_rises v new same t d k h = subst (λ (w : LineState). IsSince k (w.heard t d)) (sym same) h

module _ (line : Line) where
  quiets_rise : (c : ℕ) (qs : List Quiet) (v : LineState) (said : Said) (new : LineState)
      → list_all (is_of_centre line c) qs ≡ true → TakesAll line v qs said new → Rises v new
  quiets_rise c [] v said new at h t d k is = same_rises v new h.1 t d k is
  quiets_rise c (q ∷ qs) v said new at (first, others, mid, step, rest, same) t d k h =
      let parts = and_parts (is_of_centre line c q) (list_all (is_of_centre line c) qs) at in
      quiets_rise c qs mid others new parts.1 rest t d k
      ((quiet_speaks line c v q first mid parts.0 step).heard t d k h)

  steps_rise : (v : LineState) (c : ℕ) (m : TrainMessage) (said : Said) (mid : LineState) (why : Option Reason)
      → Steps line v c m said mid why → Rises v mid
  steps_rise v c m said mid why (silent reason is so none new) t d k h = same_rises v mid new t d k h
  steps_rise v c m said mid why (heard is so own) t d k h =
      (own_speaks line c (hears c m v) m said mid m.body own).heard t d k
      (hears_later line v c m (fresh_is line v c m is) t d k h)
  steps_rise v c m said mid why (listened may so none new) t d k h =
      same_rises (hears c m v) mid new t d k (hears_later line v c m (fresh_if_listened line v c m may) t d k h)

  own_rises : (v : LineState) (event : Event) (said : Said) (mid : LineState) (why : Option Reason)
      → OwnStep line v event said mid why → Rises v mid
  own_rises v (Bytes c (Ok m)) said mid why h = steps_rise v c m said mid why h.1
  own_rises v (Bytes c (Err number)) said mid why h = absurd h
  own_rises v (Set c s) said mid why h = (sets_say line v c s said mid h.1).heard
  own_rises v (Unset c s) said mid why h = (unsets_say line v c s said mid h.1).heard
  own_rises v (Delivery from to number) said mid why h = same_rises v mid h.1

  piece_rises : (v : LineState) (event : Event) (o : Outcome) (new : LineState) → Piece line v event o new → Rises v new
  piece_rises v event o new h t d k is =
      quiets_rise (centre_of event) h.quiets h.mid h.later new h.own_centre h.quiet_steps t d k
      (own_rises v event h.own h.mid o.silence h.own_step t d k is)

  pub goes_rises : (v : LineState) (event : Event) (answer : Answer) (new : LineState) → Goes line v event answer new
      → Rises v new
  goes_rises v (Bytes c (Ok m)) (Answered o) new h = piece_rises v (Bytes c (Ok m)) o new h
  goes_rises v (Bytes c (Err number)) (Answered o) new h = piece_rises v (Bytes c (Err number)) o new h
  goes_rises v (Set c s) (Answered o) new h = piece_rises v (Set c s) o new h
  goes_rises v (Unset c s) (Answered o) new h = piece_rises v (Unset c s) o new h
  goes_rises v (Delivery from to number) (Answered o) new h = piece_rises v (Delivery from to number) o new h
  goes_rises v (Bytes c (Err number)) (Fault n) new h = same_rises v new h.2
  goes_rises v (Bytes c (Ok m)) (Fault n) new h = absurd h
  goes_rises v (Bytes c (Ok m)) NoCentre new h = same_rises v new h.1
  goes_rises v (Bytes c (Err number)) NoCentre new h = same_rises v new h.1
  goes_rises v (Bytes c (Ok m)) NotSent new h = absurd h
  goes_rises v (Bytes c (Err number)) NotSent new h = absurd h
  goes_rises v (Set c s) NoCentre new h = same_rises v new h.1
  goes_rises v (Set c s) NotSent new h = absurd h
  goes_rises v (Set c s) (Fault n) new h = absurd h
  goes_rises v (Unset c s) NoCentre new h = same_rises v new h.1
  goes_rises v (Unset c s) NotSent new h = absurd h
  goes_rises v (Unset c s) (Fault n) new h = absurd h
  goes_rises v (Delivery from to number) NoCentre new h = absurd h
  goes_rises v (Delivery from to number) NotSent new h = same_rises v new h
  goes_rises v (Delivery from to number) (Fault n) new h = absurd h
