-- Each message of a train, as it is seen from outside.
use Rattle.std.proofs.Common.{◌≡◌, ℕ, ◌∙◌, Bool, if◌then◌else◌, Option, Some, None, option_map, ℤ, refl, sym, subst}
use Rattle.std.proofs.Common.{arith}
use Rattle.std.proofs.lemmas.Option.{same_Some}
use Rattle.std.specs.Option.{option_and_then}
use Rattle.law_base.proofs.LocalLemmas.Homes.{fit_parts, IsFit}
use Rattle.law_base.proofs.PiecesLemmas.Waits.{elsewhere, put_at, PutAt, there}
use Rattle.law_base.proofs.RulesLemmas.Places.{fit_is}
use Rattle.law_outside.specs.Outside.{Stretch, View, says, after_message, begun, front_end}
use Rattle.law_promises.proofs.Promised.{seen_is}
use Rattle.law_promises.proofs.Spans.{Ends}
use Rattle.law_trains.proofs.Keeps.{Saids, Tolds, IsSaid, HasBegun, Keeps}
use Rattle.law_trains.proofs.Reach.{reaches}
use Rattle.law_trains.proofs.Seen.{Less, still_under, report_less, granted_less, ended_less}
use Rattle.law_trains.proofs.ToldSteps.{start_less, put_none}
use Rattle.law_trains.specs.Trains.{Train}
use Rattle.rbc_spec.proofs.Lists.{put_there}
use Rattle.rbc_spec.specs.Line.{Line}
use Rattle.rbc_spec.specs.Maps.{put, put_pair}
use Rattle.rbc_spec.specs.Message.{TrainBody, TrainMessage, TrainData, Request, Report, ShorteningGranted}
use Rattle.rbc_spec.specs.Message.{ShorteningRejected, EndOfMission, InitiationOfSession, TerminationOfSession}
use Rattle.rbc_spec.specs.Message.{StartOfMission, SessionEstablished}
use Rattle.rbc_spec.specs.Place.{Place, Position, extent, fit_place}
use Rattle.rbc_spec.specs.Sections.{section_count}

-- a start is at a place that is fit
abbrev pub IsGood : Line → TrainBody → Type 0
IsGood line (StartOfMission is_valid position) = (place : Place) × (fit_place line is_valid position ≡ Some place)
IsGood line body = Unit {0}

module _ (line : Line) (t : ℕ) (x : Train) (said : Saids) (told : Tolds) (c n : ℕ) (y : View)
    (h : Keeps line t x (y.stretch t) (y.start t) said told)
    (ends : (z : Stretch) → y.stretch t ≡ Some z → Ends line z) where
  abbrev message : TrainBody → TrainMessage
  message body = record { t_train = n; nid_engine = t; body = body }

  -- a message that may take something back
  changed : (f : Stretch → Stretch) → ((z : Stretch) → y.stretch t ≡ Some z → Less line t x said told z (f z))
      → Keeps line t x (put y.stretch t (option_map f (y.stretch t)) t) (y.start t) said told
  changed f less = subst (λ (o : Option Stretch). Keeps line t x o (y.start t) said told)
      (sym (put_there y.stretch t (option_map f (y.stretch t)))) (by_stretch (y.stretch t) refl h)
    where
      by_stretch : (o : Option Stretch) → y.stretch t ≡ o → Keeps line t x o (y.start t) said told
          → Keeps line t x (option_map f o) (y.start t) said told
      by_stretch None at k = k
      by_stretch (Some z) at k =
          let l = less z at in still_under line t x said told (y.start t) z (f z) l.1 l.0 k

  unchanged : (z : Stretch) → y.stretch t ≡ Some z → Less line t x said told z z
  unchanged z at = (h.some z at, refl)

  -- ## A start

  module _ (is_valid : Bool) (position : Position) (place : Place)
      (sent : IsSaid line t said c n (StartOfMission is_valid position))
      (fits : fit_place line is_valid position ≡ Some place) where
    fit : IsFit line place
    fit = fit_parts line place (fit_is line is_valid position place fits).0

    there_is : extent line position ≡ Some place
    there_is = (fit_is line is_valid position place fits).1

    has_begun : (q : Stretch) → begun line n place ≡ Some q → HasBegun line t x (y.stretch t) q said
    has_begun q is = by_rear place.rear refl is
      where
        by_front : (r : ℤ) → place.rear ≡ Some r → (o : Option ℕ) → front_end line place (section_count line) ≡ o
            → option_map (λ e. record { track = place.track; rear = r; end = e; since = n; asked = None }) o ≡ Some q
            → HasBegun line t x (y.stretch t) q said
        by_front r at None so is = cc
        by_front r at (Some e) so is =
            let p = h.honest.past c n (StartOfMission is_valid position) position place sent refl there_is in
            subst (λ (w : Stretch). HasBegun line t x (y.stretch t) w said) (same_Some _ q is) (record {
              track = p.track;
              rear = p.rear r at;
              front = λ none.
                  let near = (h.none none).front c n is_valid position place sent there_is in
                  let low = fit.bound in
                  reaches line place e x.front so near (omega (arith, near, low));
              asked = refl;
              started = record {
                centre = c;
                stamp = n;
                is_valid = is_valid;
                position = position;
                is = sent;
                le = (omega arith);
              };
            })

        by_rear : (o : Option ℤ) → place.rear ≡ o
            → option_and_then (λ r. option_map
            (λ e. record { track = place.track; rear = r; end = e; since = n; asked = None })
            (front_end line place (section_count line))) o ≡ Some q → HasBegun line t x (y.stretch t) q said
        by_rear None at is = cc
        by_rear (Some r) at is = by_front r at (front_end line place (section_count line)) refl is

    pub start_said : Keeps line t x ((says line c (message (StartOfMission is_valid position))
        (StartOfMission is_valid position) y).stretch t) ((says line c (message (StartOfMission is_valid position))
        (StartOfMission is_valid position) y).start t) said told
    start_said = record {
      honest = h.honest;
      none = h.none;
      some = h.some;
      granted = h.granted;
      ended = h.ended;
      begun = λ d q is. by_pair d q (put_at y.start t c reach t d) is;
      follows = h.follows;
      asked = h.asked;
    }
      where
        reach : Option Stretch
        reach = if is_valid then option_and_then (begun line n) (extent line position) else None

        by_pair : (d : ℕ) (q : Stretch) → PutAt y.start t c reach t d → put_pair y.start t c reach t d ≡ Some q
            → HasBegun line t x (y.stretch t) q said
        by_pair d q (there a b one) is =
            has_begun q (sym (seen_is line is_valid position place n fits) ∙ sym one ∙ is)
        by_pair d q (elsewhere apart one) is = h.begun d q (sym one ∙ is)

  -- ## All messages

  pub any_said : (body : TrainBody) → IsSaid line t said c n body → IsGood line body
      → Keeps line t x ((says line c (message body) body y).stretch t) ((says line c (message body) body y).start t)
      said told
  any_said (StartOfMission is_valid position) sent good = start_said is_valid position good.0 sent good.1
  any_said InitiationOfSession sent good =
      start_less line t x (y.stretch t) (y.start t) (put_pair y.start t c None t) said told (put_none y.start t c) h
  any_said TerminationOfSession sent good =
      start_less line t x (y.stretch t) (y.start t) (put_pair y.start t c None t) said told (put_none y.start t c) h
  any_said (Report position) sent good = changed (after_message line c n (Report position))
      (report_less line t x said told c n y h position sent)
  any_said (ShorteningGranted stamp position) sent good = changed (after_message line c n
      (ShorteningGranted stamp position))
      (granted_less line t x said told c n y h stamp position sent)
  any_said (EndOfMission position) sent good = changed (after_message line c n (EndOfMission position))
      (λ z at. ended_less line t x said told c n y h position sent z at (ends z at))
  any_said (TrainData position) sent good = changed (after_message line c n (TrainData position)) unchanged
  any_said (Request position) sent good = changed (after_message line c n (Request position)) unchanged
  any_said (ShorteningRejected stamp position) sent good =
      changed (after_message line c n (ShorteningRejected stamp position)) unchanged
  any_said SessionEstablished sent good = changed (after_message line c n SessionEstablished) unchanged
