-- A train sends each message.
use Rattle.std.proofs.Common.{◌≡◌, ℕ, ◌<◌, ◌≤◌, ◌==◌, ◌∙◌, ◌&&◌, Bool, true, false, if◌then◌else◌, min, nat_lt, Option}
use Rattle.std.proofs.Common.{Some, None, refl, sym, ap, subst, arith, eqb-true, ltb-true}
use Rattle.std.proofs.lemmas.Bool.{and_parts, both_ways}
use Rattle.std.proofs.lemmas.Option.{same_Some}
use Rattle.rbc_spec.specs.Line.{Line}
use Rattle.rbc_spec.specs.Maps.{has}
use Rattle.rbc_spec.specs.Message.{TrainBody, TrainData, Request, Report, ShorteningGranted, ShorteningRejected}
use Rattle.rbc_spec.specs.Message.{EndOfMission, InitiationOfSession, TerminationOfSession, StartOfMission}
use Rattle.rbc_spec.specs.Message.{SessionEstablished}
use Rattle.rbc_spec.specs.Place.{Position, extent}
use Rattle.law_outside.specs.Outside.{Stretch}
use Rattle.law_trains.specs.Trains.{Train, Asked, is_true_of, was_asked, may_say, says, no_farther, gives_back}
use Rattle.law_trains.proofs.Keeps.{Saids, Tolds, GivesBack, IsRequest, HasGranted, Keeps}
use Rattle.law_trains.proofs.Saying.{true_is, message, more, sends}

module _ (line : Line) (t : ℕ) (x : Train) (o : Option Stretch) (first : ℕ
    → Option Stretch) (said : Saids) (told : Tolds)
    (h : Keeps line t x o first said told) (c n : ℕ) where
  abbrev Sent : TrainBody → Type 0
  Sent body = Keeps line t (says c (message line t x o first said told h c n body) x) o first
      (more line t x o first said told h c n body) told

  -- nothing is given back, and no mission starts
  plain : (body : TrainBody) → x.clock < n → is_true_of line x body ≡ true → (GivesBack body → ⊥)
      → ((is_valid : Bool) (position : Position) → body ≡ StartOfMission is_valid position → ⊥)
      → Keeps line t (record x { clock = n }) o first (more line t x o first said told h c n body) told
  plain body later true_of keeps no_start = sends line t x o first said told h c n body later true_of
      (record x { clock = n }) (record {
        track = refl;
        front = refl;
        rear = refl;
        clock = refl;
        less = λ k is. (k, is, (omega arith));
        follows = λ f is. (is, refl);
        gave = λ k old low. low;
        gives = λ gives. absurd (keeps gives);
        started = λ is. is;
        starts = λ is_valid position is. absurd (no_start is_valid position is);
        asked = λ d. refl;
      })
      (λ stamp position is. absurd (keeps (subst GivesBack (sym is) tt)))
      (λ position is still. absurd (keeps (subst GivesBack (sym is) still)))

  -- ## A start

  start_sent : (is_valid : Bool) (position : Position) → x.clock < n
      → is_true_of line x (StartOfMission is_valid position) ≡ true → Sent (StartOfMission is_valid position)
  start_sent is_valid position later true_of = sends line t x o first said told h c n (StartOfMission is_valid position)
      later true_of (record x { has_started = true; clock = n }) (record {
        track = refl;
        front = refl;
        rear = refl;
        clock = refl;
        less = λ k is. (k, is, (omega arith));
        follows = λ f is. (is, refl);
        gave = λ k old low. low;
        gives = λ gives. absurd gives;
        started = λ is. refl;
        starts = λ valid place is. refl;
        asked = λ d. refl;
      })
      (λ stamp place is. cc) (λ place is still. cc)

  -- ## A granted request

  farther : (a : Option Asked) (e : Option ℕ) (k : ℕ) → no_farther a e ≡ Some k
      → (j : ℕ) × (e ≡ Some j) × (k ≤ j)
  farther (Some a) (Some j) k is = (j, refl, (let same = same_Some (min j a.end) k is in omega (arith, same)))
  farther (Some a) None k is = cc
  farther None e k is = cc

  not_past : (a : Asked) (e : Option ℕ) (k : ℕ) → no_farther (Some a) e ≡ Some k → k ≤ a.end
  not_past a (Some j) k is = let same = same_Some (min j a.end) k is in omega (arith, same)
  not_past a None k is = cc

  granted_sent : (stamp : ℕ) (position : Position) → x.clock < n
      → is_true_of line x (ShorteningGranted stamp position) ≡ true
      → was_asked c (ShorteningGranted stamp position) x ≡ true → Sent (ShorteningGranted stamp position)
  granted_sent stamp position later true_of asked =
      sends line t x o first said told h c n (ShorteningGranted stamp position)
      later true_of now (record {
        track = refl;
        front = refl;
        rear = refl;
        clock = refl;
        less = farther (x.asked c) x.end;
        follows = λ f is. cc;
        gave = λ k old low. omega (arith, old, later);
        gives = λ gives. omega arith;
        started = λ is. is;
        starts = λ valid place is. cc;
        asked = λ d. refl;
      })
      (λ s p is.
      let one : stamp ≡ s = cc in
      let two : position ≡ p = cc in
      subst (λ (k : ℕ). HasGranted line t now told c k p) one
      (subst (HasGranted line t now told c stamp) two (by_asked (x.asked c) refl asked)))
      (λ place is still. cc)
    where
      now : Train
      now = record (gives_back n (no_farther (x.asked c) x.end) x) { clock = n }

      by_asked : (a : Option Asked) → x.asked c ≡ a → has (λ a. a.stamp == stamp) a ≡ true
          → HasGranted line t now told c stamp position
      by_asked None at is = cc
      by_asked (Some a) at is = let same : a.stamp ≡ stamp = eqb-true a.stamp stamp is in record {
        end = a.end;
        request = subst (λ (k : ℕ). IsRequest line t told c k a.end) same (h.asked c a at);
        front = λ place there low.
            let near = (true_is line x (ShorteningGranted stamp position) true_of position place refl there).front in
            omega (arith, near, low);
        ends = λ k has. not_past a x.end k (sym (ap (λ (p : Option Asked). no_farther p x.end) at) ∙ has);
      }

  -- ## An end of mission

  ended_sent : (position : Position) → x.clock < n → is_true_of line x (EndOfMission position) ≡ true
      → Sent (EndOfMission position)
  ended_sent position later true_of = by_still (position.v_train == 0) refl
    where
      by_still : (b : Bool) → (position.v_train == 0) ≡ b
          → Keeps line t (record (if b then gives_back n None x else x) { clock = n }) o first
          (more line t x o first said told h c n (EndOfMission position)) told
      by_still false is = plain (EndOfMission position) later true_of
          (λ still. both_ways (position.v_train == 0) is
          (subst (λ (k : ℕ). (k == 0) ≡ true) (sym still) refl))
          (λ valid place same. cc)
      by_still true is = sends line t x o first said told h c n (EndOfMission position) later true_of
          (record (gives_back n None x) { clock = n }) (record {
            track = refl;
            front = refl;
            rear = refl;
            clock = refl;
            less = λ k has. cc;
            follows = λ f has. cc;
            gave = λ k old low. omega (arith, old, later);
            gives = λ gives. omega arith;
            started = λ was. was;
            starts = λ valid place same. cc;
            asked = λ d. refl;
          })
          (λ stamp place same. cc)
          (λ p same still. let one : position ≡ p = cc in record {
            end = refl;
            front = λ place there.
                (true_is line x (EndOfMission position) true_of position place refl
                (ap (λ (q : Position). extent line q) one ∙ there)).front;
          })

  -- ## All messages

  pub any_sent : (body : TrainBody) → may_say line c (message line t x o first said told h c n body) x ≡ true
      → Sent body
  any_sent body may =
      let both = and_parts (nat_lt x.clock n && is_true_of line x body) (was_asked c body x) may in
      let parts = and_parts (nat_lt x.clock n) (is_true_of line x body) both.0 in
      by_body body (ltb-true x.clock n parts.0) parts.1 both.1
    where
      by_body : (b : TrainBody) → x.clock < n → is_true_of line x b ≡ true → was_asked c b x ≡ true → Sent b
      by_body (TrainData position) later holds asked =
          plain (TrainData position) later holds (λ gives. gives) (λ valid place is. cc)
      by_body (Request position) later holds asked =
          plain (Request position) later holds (λ gives. gives) (λ valid place is. cc)
      by_body (Report position) later holds asked =
          plain (Report position) later holds (λ gives. gives) (λ valid place is. cc)
      by_body (ShorteningGranted stamp position) later holds asked = granted_sent stamp position later holds asked
      by_body (ShorteningRejected stamp position) later holds asked =
          plain (ShorteningRejected stamp position) later holds (λ gives. gives) (λ valid place is. cc)
      by_body (EndOfMission position) later holds asked = ended_sent position later holds
      by_body InitiationOfSession later holds asked =
          plain InitiationOfSession later holds (λ gives. gives) (λ valid place is. cc)
      by_body TerminationOfSession later holds asked =
          plain TerminationOfSession later holds (λ gives. gives) (λ valid place is. cc)
      by_body (StartOfMission is_valid position) later holds asked = start_sent is_valid position later holds
      by_body SessionEstablished later holds asked =
          plain SessionEstablished later holds (λ gives. gives) (λ valid place is. cc)
