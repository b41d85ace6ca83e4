-- The reports of trains that miss messages.
use Rattle.std.proofs.Common.{ℤ, ◌&&◌, ◌*◌, ◌==◌, ◌∙◌, ◌≡◌, ap, Bool, Err, false, if◌then◌else◌, int_lt, nat_le, nat_lt}
use Rattle.std.proofs.Common.{None, Ok, Option, option_map, refl, Some, subst, sym, true, ℕ}
use Rattle.std.proofs.lemmas.Option.{none-some, same_Some}
use Rattle.std.specs.Option.{option_and_then, option_map_or}
use Rattle.law_outside.specs.Outside as outside
use Rattle.law_outside.specs.Outside.{after_message, begun, cleared, front_end, position_of, said_by, Shortening}
use Rattle.law_outside.specs.Outside.{Stretch, takes_back, up_to, View}
use Rattle.law_promises.proofs.ArrivalLemmas.Arrives.{back_lies, Lies, lies_itself, message_both}
use Rattle.law_promises.proofs.ArrivalLemmas.Reached.{begins_on, Fit, is_nothing, is_part, none_plain, out_less, Rel}
use Rattle.law_promises.proofs.ArrivalLemmas.Reached.{rel_changed, rel_starts}
use Rattle.law_promises.specs.Arrival.Received.{Known, may_happen, may_say}
use Rattle.rbc_spec.proofs.Lists.{put_here, put_other}
use Rattle.rbc_spec.specs.Line.{end, Line}
use Rattle.rbc_spec.specs.Maps.{put}
use Rattle.rbc_spec.specs.Message.{EndOfMission, InitiationOfSession, Report, Request, SessionEstablished}
use Rattle.rbc_spec.specs.Message.{ShorteningGranted, ShorteningRejected, StartOfMission, TerminationOfSession}
use Rattle.rbc_spec.specs.Message.{TrainBody, TrainData, TrainMessage}
use Rattle.rbc_spec.specs.Place.{extent, Place, Position}
use Rattle.rbc_spec.specs.Sections.{section_count}
use Rattle.rbc_spec.specs.World.{Bytes, Delivery, Event, Set, Unset}

-- ## Messages of trains

-- a message takes a part back, and changes no request
asked_stays : (line : Line) (c n : ℕ) (body : TrainBody) (x : Stretch) → (after_message line c n body x).asked ≡ x.asked
asked_stays line c n body x = by_place (option_and_then (extent line) (position_of body))
  where
    by_cleared : (place : Place) → (cleared place x).asked ≡ x.asked
    by_cleared place = by_rear place.rear
      where
        by_test : (b : Bool) (rear : ℤ) → (if b then record x { rear = rear } else x).asked ≡ x.asked
        by_test true rear = refl
        by_test false rear = refl

        by_rear : (o : Option ℤ)
            → (option_map_or (λ rear. if int_lt x.rear rear then record x { rear = rear } else x) o x).asked ≡ x.asked
        by_rear None = refl
        by_rear (Some rear) = by_test (int_lt x.rear rear) rear

    by_front : (o : Option ℕ) (y : Stretch) → (option_map_or (up_to y) o y).asked ≡ y.asked
    by_front None y = refl
    by_front (Some e) y = refl

    by_still : (b : Bool) (place : Place)
        → (if b then option_map_or (up_to (cleared place x)) (front_end line place (section_count line))
        (cleared place x) else cleared place x).asked ≡ x.asked
    by_still true place = by_front (front_end line place (section_count line)) (cleared place x) ∙ by_cleared place
    by_still false place = by_cleared place

    by_grant : (stamp : ℕ) (place : Place) (o : Option Shortening)
        → (option_map_or (λ a. if ((a.centre == c) && (a.stamp == stamp))
        && nat_le place.front (10 * a.end) then up_to x a.end else x) o x).asked ≡ x.asked
    by_grant stamp place None = refl
    by_grant stamp place (Some a) = by_test (((a.centre == c) && (a.stamp == stamp)) && nat_le place.front (10 * a.end))
      where
        by_test : (b : Bool) → (if b then up_to x a.end else x).asked ≡ x.asked
        by_test true = refl
        by_test false = refl

    by_body : (body : TrainBody) (place : Place) → (takes_back line c body place x).asked ≡ x.asked
    by_body InitiationOfSession place = refl
    by_body TerminationOfSession place = refl
    by_body SessionEstablished place = refl
    by_body (StartOfMission is_valid position) place = refl
    by_body (TrainData position) place = refl
    by_body (Request position) place = refl
    by_body (ShorteningRejected stamp position) place = refl
    by_body (Report position) place = by_cleared place
    by_body (EndOfMission position) place = by_still (position.v_train == 0) place
    by_body (ShorteningGranted stamp position) place = by_grant stamp place x.asked

    by_place : (o : Option Place)
        → (option_map_or (λ place. if (place.track == x.track)
        && nat_lt x.since n then takes_back line c body place x else x) o x).asked ≡ x.asked
    by_place None = refl
    by_place (Some place) = by_test ((place.track == x.track) && nat_lt x.since n)
      where
        by_test : (b : Bool) → (if b then takes_back line c body place x else x).asked ≡ x.asked
        by_test true = by_body body place
        by_test false = refl

after_lies : (line : Line) (c n : ℕ) (body : TrainBody) (y : Stretch) → Lies (after_message line c n body y) y
after_lies line c n body y = by_place (option_and_then (extent line) (position_of body))
  where
    by_place : (o : Option Place)
        → Lies (option_map_or (λ place. if (place.track == y.track)
        && nat_lt y.since n then takes_back line c body place y else y) o y) y
    by_place None = lies_itself y
    by_place (Some place) = by_test ((place.track == y.track) && nat_lt y.since n)
      where
        by_test : (b : Bool) → Lies (if b then takes_back line c body place y else y) y
        by_test true = back_lies line c body place y
        by_test false = lies_itself y

begun_plain : (line : Line) (stamp : ℕ) (place : Place) (f : Stretch) → begun line stamp place ≡ Some f → f.asked ≡ None
begun_plain line stamp place f is = by_rear place.rear is
  where
    by_end : (rear : ℤ) (o : Option ℕ)
        → option_map {T = ℕ} {U = Stretch}
        (λ e. record { track = place.track; rear = rear; end = e; since = stamp; asked = None }) o ≡ Some f
        → f.asked ≡ None
    by_end rear None so = absurd (none-some f so)
    by_end rear (Some e) so =
        sym (ap (λ (x : Stretch). x.asked)
        (same_Some (record { track = place.track; rear = rear; end = e; since = stamp; asked = None }) f so))

    by_rear : (o : Option ℤ)
        → option_and_then {T = ℤ} {U = Stretch}
        (λ rear. option_map {T = ℕ} {U = Stretch}
        (λ e. record { track = place.track; rear = rear; end = e; since = stamp; asked = None })
        (front_end line place (section_count line))) o ≡ Some f → f.asked ≡ None
    by_rear None so = absurd (none-some f so)
    by_rear (Some rear) so = by_end rear (front_end line place (section_count line)) so

start_plain : (line : Line) (stamp : ℕ) (is_valid : Bool) (o : Option Place) (f : Stretch)
    → (if is_valid then option_and_then {T = Place} {U = Stretch} (begun line stamp) o else None) ≡ Some f
    → f.asked ≡ None
start_plain line stamp false o f is = absurd (none-some f is)
start_plain line stamp true None f is = absurd (none-some f is)
start_plain line stamp true (Some place) f is = begun_plain line stamp place f is

module _ (line : Line) (c : ℕ) (m : TrainMessage) (v w : View) (k : Known) (said : ℕ → ℕ → ℕ)
    (old : Rel line v w k said) where
  abbrev t : ℕ
  t = m.nid_engine

  rel_message : (body : TrainBody) → may_say k c t body ≡ true
      → Rel line
      (record v { stretch = put v.stretch t (option_map (after_message line c m.t_train body) (v.stretch t)) })
      (record w { stretch = put w.stretch t (option_map (after_message line c m.t_train body) (w.stretch t)) }) k said
  rel_message body may = rel_changed line v w k said old t _ _ k said (λ u apart. put_other v.stretch t u _ apart)
      (λ u apart. put_other w.stretch t u _ apart) (λ u apart. refl) (λ u apart d n. refl)
      (λ q is. subst (λ (o : Option Stretch). Fit line o (k.misses t) (k.requested t) q)
      (sym (put_here v.stretch t t (option_map after (v.stretch t)) refl))
      (by_came (w.stretch t) refl q (sym (put_here w.stretch t t (option_map after (w.stretch t)) refl) ∙ is)))
      (begins_on line v w k said old) old.released old.said
    where
      after : Stretch → Stretch
      after = after_message line c m.t_train body

      granted : (b : TrainBody) → body ≡ b → (stamp : ℕ) (position : Position) (a : Shortening)
          → body ≡ ShorteningGranted stamp position → a.stamp ≡ stamp → a.centre ≡ c
          → k.requested t a.centre a.stamp ≡ true
      granted b same stamp position a is named centre =
          let asked : k.requested t c stamp ≡ true = subst (λ (x : TrainBody). may_say k c t x ≡ true) is may in
          ap (λ (d : ℕ). k.requested t d a.stamp) centre ∙ ap (k.requested t c) named ∙ asked

      fits : (y : Stretch) → Fit line (v.stretch t) (k.misses t) (k.requested t) y
          → Fit line (option_map after (v.stretch t)) (k.misses t) (k.requested t) (after y)
      fits y (is_part x at lies asked) = is_part (after x) (ap (option_map after) at)
          (message_both line c y x lies m.t_train body
          (λ stamp position a is named centre stands. asked a stands
          (granted body refl stamp position a is named centre)))
          (λ a is came. asked_stays line c m.t_train body y
          ∙ asked a (sym (asked_stays line c m.t_train body x) ∙ is) came)
      fits y (is_nothing missed out) =
          is_nothing missed (out_less line (after y) y (after_lies line c m.t_train body y) out)

      by_came : (o : Option Stretch) → w.stretch t ≡ o → (q : Stretch) → option_map after o ≡ Some q
          → Fit line (option_map after (v.stretch t)) (k.misses t) (k.requested t) q
      by_came None at q is = absurd (none-some q is)
      by_came (Some y) at q is = subst (Fit line (option_map after (v.stretch t)) (k.misses t) (k.requested t))
          (same_Some (after y) q is) (fits y (old.stretch t y at))

  rel_says : (body : TrainBody) → may_say k c t body ≡ true
      → Rel line (outside.says line c m body v) (outside.says line c m body w) k said
  rel_says (StartOfMission is_valid position) may =
      rel_starts line v w k said old t c _ (start_plain line m.t_train is_valid (extent line position))
  rel_says InitiationOfSession may = rel_starts line v w k said old t c None (none_plain line v w k said old)
  rel_says TerminationOfSession may = rel_starts line v w k said old t c None (none_plain line v w k said old)
  rel_says SessionEstablished may = rel_message SessionEstablished may
  rel_says (TrainData position) may = rel_message (TrainData position) may
  rel_says (Request position) may = rel_message (Request position) may
  rel_says (Report position) may = rel_message (Report position) may
  rel_says (ShorteningGranted stamp position) may = rel_message (ShorteningGranted stamp position) may
  rel_says (ShorteningRejected stamp position) may = rel_message (ShorteningRejected stamp position) may
  rel_says (EndOfMission position) may = rel_message (EndOfMission position) may

pub rel_said : (line : Line) (event : Event) (b : Bool) (v w : View) (k : Known) (said : ℕ → ℕ → ℕ)
    → Rel line v w k said → may_happen k event ≡ true
    → Rel line (said_by line event b v) (said_by line event b w) k said
rel_said line (Bytes c (Ok m)) true v w k said old may = rel_says line c m v w k said old m.body may
rel_said line (Bytes c (Ok m)) false v w k said old may = old
rel_said line (Bytes c (Err number)) b v w k said old may = old
rel_said line (Set c s) b v w k said old may = old
rel_said line (Unset c s) b v w k said old may = old
rel_said line (Delivery from to number) b v w k said old may = old
