-- By the messages that arrived, trains may run over no more than by all messages.
use Rattle.std.proofs.Common.{ℤ, ◌&&◌, ◌*◌, ◌==◌, ◌∙◌, ◌≡◌, ◌≤◌, arith, Bool, eqb-true, false, if◌then◌else◌, int_lt}
use Rattle.std.proofs.Common.{lt-ltb, ltb-true, nat_le, nat_lt, None, Option, pos, refl, Some, subst, sym, true, ℕ}
use Rattle.std.proofs.lemmas.Bool.{and_from, and_parts, both_ways}
use Rattle.std.specs.Option.{option_and_then, option_map_or}
use Rattle.law_outside.specs.Outside.{after_message, cleared, front_end, position_of, Shortening, Stretch, takes_back}
use Rattle.law_outside.specs.Outside.{up_to}
use Rattle.law_promises.proofs.Marks.{if_true}
use Rattle.law_promises.proofs.Spans.{rear_later, rear_other}
use Rattle.rbc_spec.specs.Line.{end, Line}
use Rattle.rbc_spec.specs.Message.{EndOfMission, InitiationOfSession, Report, Request, SessionEstablished}
use Rattle.rbc_spec.specs.Message.{ShorteningGranted, ShorteningRejected, StartOfMission, TerminationOfSession}
use Rattle.rbc_spec.specs.Message.{TrainBody, TrainData}
use Rattle.rbc_spec.specs.Place.{extent, Place, Position}
use Rattle.rbc_spec.specs.Sections.{section_count}

-- ## One stretch in another

-- the first is within the second
pub record Lies (y x : Stretch) : Type 0 where
  pub track : y.track ≡ x.track
  pub end : y.end ≤ x.end
  pub since : y.since ≤ x.since
  pub past : (n : ℕ) → int_lt y.rear (pos n) ≡ true → int_lt x.rear (pos n) ≡ true

pub lies_itself : (x : Stretch) → Lies x x
lies_itself x = record { track = refl; end = (omega arith); since = (omega arith); past = λ n is. is }

pub lies_then : (z y x : Stretch) → Lies z y → Lies y x → Lies z x
lies_then z y x one two = record {
  track = one.track ∙ two.track;
  end = (let a = one.end in let b = two.end in omega (arith, a, b));
  since = (let a = one.since in let b = two.since in omega (arith, a, b));
  past = λ n is. two.past n (one.past n is);
}

-- a part that is taken back makes the stretch smaller
cleared_lies : (place : Place) (y : Stretch) → Lies (cleared place y) y
cleared_lies place y = by_rear place.rear
  where
    by_later : (rear : ℤ) (b : Bool) → int_lt y.rear rear ≡ b → Lies (if b then record y { rear = rear } else y) y
    by_later rear false is = lies_itself y
    by_later rear true is =
        record {
          track = refl;
          end = (omega arith);
          since = (omega arith);
          past = λ n past. rear_later y.rear rear n is past;
        }

    by_rear : (o : Option ℤ)
        → Lies (option_map_or (λ rear. if int_lt y.rear rear then record y { rear = rear } else y) o y) y
    by_rear None = lies_itself y
    by_rear (Some rear) = by_later rear (int_lt y.rear rear) refl

up_to_lies : (y : Stretch) (e : ℕ) → Lies (up_to y e) y
up_to_lies y e = record { track = refl; end = (omega arith); since = (omega arith); past = λ n is. is }

front_lies : (o : Option ℕ) (y : Stretch) → Lies (option_map_or (up_to y) o y) y
front_lies None y = lies_itself y
front_lies (Some e) y = up_to_lies y e

pub back_lies : (line : Line) (c : ℕ) (body : TrainBody) (place : Place) (y : Stretch)
    → Lies (takes_back line c body place y) y
back_lies line c InitiationOfSession place y = lies_itself y
back_lies line c TerminationOfSession place y = lies_itself y
back_lies line c SessionEstablished place y = lies_itself y
back_lies line c (StartOfMission is_valid position) place y = lies_itself y
back_lies line c (TrainData position) place y = lies_itself y
back_lies line c (Request position) place y = lies_itself y
back_lies line c (ShorteningRejected stamp position) place y = lies_itself y
back_lies line c (Report position) place y = cleared_lies place y
back_lies line c (EndOfMission position) place y = by_still (position.v_train == 0)
  where
    by_still : (b : Bool)
        → Lies (if b then option_map_or (up_to (cleared place y)) (front_end line place (section_count line))
        (cleared place y) else cleared place y) y
    by_still false = cleared_lies place y
    by_still true =
        lies_then (option_map_or (up_to (cleared place y)) (front_end line place (section_count line))
        (cleared place y)) (cleared place y) y
        (front_lies (front_end line place (section_count line)) (cleared place y)) (cleared_lies place y)
back_lies line c (ShorteningGranted stamp position) place y = by_asked y.asked
  where
    by_test : (b : Bool) (e : ℕ) → Lies (if b then up_to y e else y) y
    by_test true e = up_to_lies y e
    by_test false e = lies_itself y

    by_asked : (o : Option Shortening)
        → Lies (option_map_or (λ a. if ((a.centre == c) && (a.stamp == stamp))
        && nat_le place.front (10 * a.end) then up_to y a.end else y) o y) y
    by_asked None = lies_itself y
    by_asked (Some a) = by_test (((a.centre == c) && (a.stamp == stamp)) && nat_le place.front (10 * a.end)) a.end

-- ## The same message to both

module _ (y x : Stretch) (lies : Lies y x) where
  cleared_both : (place : Place) → Lies (cleared place y) (cleared place x)
  cleared_both place = by_rear place.rear
    where
      by_both : (rear : ℤ) (a b : Bool) → int_lt y.rear rear ≡ a → int_lt x.rear rear ≡ b
          → Lies (if a then record y { rear = rear } else y) (if b then record x { rear = rear } else x)
      by_both rear true true one two =
          record { track = lies.track; end = lies.end; since = lies.since; past = λ n is. is }
      by_both rear true false one two =
          record {
            track = lies.track;
            end = lies.end;
            since = lies.since;
            past = λ n is. lies.past n (rear_later y.rear rear n one is);
          }
      by_both rear false true one two =
          record {
            track = lies.track;
            end = lies.end;
            since = lies.since;
            past = λ n is. rear_other y.rear rear n one is;
          }
      by_both rear false false one two = lies

      by_rear : (o : Option ℤ)
          → Lies (option_map_or (λ rear. if int_lt y.rear rear then record y { rear = rear } else y) o y)
          (option_map_or (λ rear. if int_lt x.rear rear then record x { rear = rear } else x) o x)
      by_rear None = lies
      by_rear (Some rear) = by_both rear (int_lt y.rear rear) (int_lt x.rear rear) refl refl

  up_to_both : (e : ℕ) → Lies (up_to y e) (up_to x e)
  up_to_both e =
      record {
        track = lies.track;
        end = (let le = lies.end in omega (arith, le));
        since = lies.since;
        past = lies.past;
      }

  front_both : (o : Option ℕ) → Lies (option_map_or (up_to y) o y) (option_map_or (up_to x) o x)
  front_both None = lies
  front_both (Some e) = up_to_both e

module _ (line : Line) (c : ℕ) (y x : Stretch) (lies : Lies y x) where
  back_both : (body : TrainBody) (place : Place)
      → ((stamp : ℕ) (position : Position) (a : Shortening) → body ≡ ShorteningGranted stamp position → a.stamp ≡ stamp
      → a.centre ≡ c → x.asked ≡ Some a → y.asked ≡ Some a)
      → Lies (takes_back line c body place y) (takes_back line c body place x)
  back_both InitiationOfSession place came = lies
  back_both TerminationOfSession place came = lies
  back_both SessionEstablished place came = lies
  back_both (StartOfMission is_valid position) place came = lies
  back_both (TrainData position) place came = lies
  back_both (Request position) place came = lies
  back_both (ShorteningRejected stamp position) place came = lies
  back_both (Report position) place came = cleared_both y x lies place
  back_both (EndOfMission position) place came = by_still (position.v_train == 0)
    where
      by_still : (b : Bool)
          → Lies (if b then option_map_or (up_to (cleared place y)) (front_end line place (section_count line))
          (cleared place y) else cleared place y)
          (if b then option_map_or (up_to (cleared place x)) (front_end line place (section_count line))
          (cleared place x) else cleared place x)
      by_still false = cleared_both y x lies place
      by_still true = front_both (cleared place y) (cleared place x) (cleared_both y x lies place)
          (front_end line place (section_count line))
  back_both (ShorteningGranted stamp position) place came = by_asked x.asked refl
    where
      after : Stretch → Option Shortening → Stretch
      after z o = option_map_or (λ a. if ((a.centre == c) && (a.stamp == stamp))
          && nat_le place.front (10 * a.end) then up_to z a.end else z) o z

      same_after : (a : Shortening) → y.asked ≡ Some a → Lies (after y (Some a)) (after x (Some a))
          → Lies (after y y.asked) (after x (Some a))
      same_after a is h = subst (λ (o : Option Shortening). Lies (after y o) (after x (Some a))) (sym is) h

      by_both : (b : Bool) (e : ℕ) → Lies (if b then up_to y e else y) (if b then up_to x e else x)
      by_both true e = up_to_both y x lies e
      by_both false e = lies

      -- x keeps all
      kept : (a : Shortening) (b : Bool) → (((a.centre == c) && (a.stamp == stamp)) && nat_le place.front (10 * a.end))
          ≡ b → x.asked ≡ Some a → Lies (after y y.asked) (if b then up_to x a.end else x)
      kept a false so is =
          lies_then (after y y.asked) y x (back_lies line c (ShorteningGranted stamp position) place y) lies
      kept a true so is =
          let parts = and_parts ((a.centre == c) && (a.stamp == stamp)) (nat_le place.front (10 * a.end)) so in
          let names = and_parts (a.centre == c) (a.stamp == stamp) parts.0 in
          let same = came stamp position a refl (eq_is a.stamp stamp names.1) (eq_is a.centre c names.0) is in
          subst (λ (o : Option Shortening). Lies (after y o) (up_to x a.end)) (sym same)
          (subst (λ (z : Stretch). Lies z (up_to x a.end))
          (sym (if_true (((a.centre == c) && (a.stamp == stamp)) && nat_le place.front (10 * a.end)) (up_to y a.end)
          y so)) (up_to_both y x lies a.end))
        where
          eq_is : (m n : ℕ) → (m == n) ≡ true → m ≡ n
          eq_is m n is = eqb-true m n is

      by_asked : (o : Option Shortening) → x.asked ≡ o → Lies (after y y.asked) (after x o)
      by_asked None is =
          lies_then (after y y.asked) y x (back_lies line c (ShorteningGranted stamp position) place y) lies
      by_asked (Some a) is = kept a (((a.centre == c) && (a.stamp == stamp)) && nat_le place.front (10 * a.end)) refl is

  pub message_both : (n : ℕ) (body : TrainBody)
      → ((stamp : ℕ) (position : Position) (a : Shortening) → body ≡ ShorteningGranted stamp position → a.stamp ≡ stamp
      → a.centre ≡ c → x.asked ≡ Some a → y.asked ≡ Some a)
      → Lies (after_message line c n body y) (after_message line c n body x)
  message_both n body came = by_place (option_and_then (extent line) (position_of body))
    where
      by_test : (place : Place) (a b : Bool) → ((place.track == y.track) && nat_lt y.since n) ≡ a
          → ((place.track == x.track) && nat_lt x.since n) ≡ b
          → Lies (if a then takes_back line c body place y else y) (if b then takes_back line c body place x else x)
      by_test place true true one two = back_both body place came
      by_test place true false one two =
          lies_then (takes_back line c body place y) y x (back_lies line c body place y) lies
      by_test place false false one two = lies
      by_test place false true one two =
          let parts = and_parts (place.track == x.track) (nat_lt x.since n) two in
          let less = ltb-true x.since n parts.1 in
          let since = lies.since in
          absurd (both_ways ((place.track == y.track) && nat_lt y.since n) one
          (and_from (place.track == y.track) (nat_lt y.since n)
          (subst (λ (k : ℕ). (place.track == k) ≡ true) (sym lies.track) parts.0)
          (lt-ltb y.since n (omega (arith, less, since)))))

      by_place : (o : Option Place)
          → Lies (option_map_or (λ place. if (place.track == y.track)
          && nat_lt y.since n then takes_back line c body place y else y) o y)
          (option_map_or (λ place. if (place.track == x.track)
          && nat_lt x.since n then takes_back line c body place x else x) o x)
      by_place None = lies
      by_place (Some place) = by_test place ((place.track == y.track) && nat_lt y.since n) ((place.track == x.track)
          && nat_lt x.since n) refl refl
