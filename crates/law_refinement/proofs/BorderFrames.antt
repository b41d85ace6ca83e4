-- No step leaves a section of the next centre in a hand without an announcement.
use Rattle.std.proofs.Common.{◌&&◌, ◌*◌, ◌==◌, ◌∙◌, ◌≡◌, ap, Bool, eq-eqb, eqb-true, false, if◌then◌else◌, is_none}
use Rattle.std.proofs.Common.{is_some, max, nat_le, None, not, Option, refl, Some, sym, true, ℕ}
use Rattle.std.specs.List.{find, range_with_len}
use Rattle.std.specs.Option.{option_map_or}
use Rattle.law_invariants.specs.Flow.Counts.{wait_has}
use Rattle.law_refinement.proofs.Bordering.{both, branch, changes, chosen, Good, Keeps, next_apart, none_there, of_some}
use Rattle.law_refinement.proofs.Bordering.{put_so, when}
use Rattle.law_refinement.proofs.BorderMessages.{begun_so, propose_keeps, return_keeps}
use Rattle.rbc_spec.proofs.Lists.{one_home}
use Rattle.rbc_spec.proofs.Runs.{each_within}
use Rattle.rbc_spec.specs.Acts.{◌>>◌, become, change_mission, propose_if_so, rest, return_right, send, with_some}
use Rattle.rbc_spec.specs.Centre.{Centre, is_out_for, Taken}
use Rattle.rbc_spec.specs.Frame.{RouteReturn}
use Rattle.rbc_spec.specs.Line.{is_home, IsLine, Line, next_centre, Section, section, section_of_group}
use Rattle.rbc_spec.specs.Links.{expect, is_wanted, may_arrive, may_take, right_given, route_told, take_mission}
use Rattle.rbc_spec.specs.Maps.{has, put}
use Rattle.rbc_spec.specs.Place.{group_start, Place}
use Rattle.rbc_spec.specs.Rules.{begin, choose}
use Rattle.rbc_spec.specs.SectionRuns.{all_of, is_empty, no_run, SectionRun, within}
use Rattle.rbc_spec.specs.Sections.{is_on, is_on_track}

last_of : (x a e b : Bool) → (x && (a && (e && b))) ≡ true → b ≡ true
last_of true true true b is = is
last_of true true false b is = cc
last_of true false e b is = cc
last_of false a e b is = cc

module _ (line : Line) (ok : IsLine line) (c t : ℕ) where
  pub given_good : (k : Centre) → ((s : ℕ) → wait_has line (k.wait t) s ≡ true → is_home line c s ≡ true)
      → Good line c k → Good line c (right_given line c t k).state
  unfolding ◌>>◌
  given_good k own good = by_asked (k.has_asked t)
    where
      by_place : (o : Option Place) → k.wait t ≡ o
          → Good line c
          (option_map_or (λ place. (become (λ j. record j { wait = put j.wait t None }) >> begin line t place)
          (record k { has_asked = put k.has_asked t false })) o
          (rest (record k { has_asked = put k.has_asked t false }))).state
      by_place None at = good
      by_place (Some place) at =
          put_so line c k.mission good t _
          (begun_so line ok c t place
          (λ s in_place. own s (ap (λ (o : Option Place). wait_has line o s) at ∙ in_place)))

      by_wait : (b : Bool)
          → Good line c
          (if b then (with_some (λ j. j.wait t) (λ place. become (λ j. record j { wait = put j.wait t None })
          >> begin line t place)) (record k { has_asked = put k.has_asked t false })
          else return_right line c t (record k { has_asked = put k.has_asked t false })).state
      by_wait true = by_place (k.wait t) refl
      by_wait false = (return_keeps line ok c t).each (record k { has_asked = put k.has_asked t false }) good

      by_asked : (b : Bool)
          → Good line c (if b then ((λ (j : Centre). become (λ i. record i { has_asked = put i.has_asked t false }) j)
          >> choose (λ j. is_some (j.wait t) && is_none (j.mission t))
          (with_some (λ j. j.wait t) (λ place. become (λ j. record j { wait = put j.wait t None })
          >> begin line t place)) (return_right line c t)) k else rest k).state
      by_asked true = by_wait (is_some (k.wait t) && is_none (k.mission t))
      by_asked false = good

  pub told_keeps : (d : ℕ) (r : SectionRun) → Keeps line c (route_told line c d t r)
  told_keeps d r =
      when line c _ _ (both line c _ _ (record { each = λ k good. good })
      (chosen line c (λ k. has (is_wanted line r) (k.mission t)) (change_mission t (λ m. record m { pool = r }))
      (if is_empty r then rest else send d (RouteReturn t r))
      (changes line c t (λ m. record m { pool = r }) (λ m so. so))
      (branch line c (is_empty r) rest (send d (RouteReturn t r)) (record { each = λ k good. good })
      (record { each = λ k good. good }))))

  -- ## A mission that arrives

  -- none of its sections is of the next centre
  arrived_so : (k : Centre) (a number : ℕ) (place : Place) (hand : SectionRun)
      → may_take line c k a number t place hand ≡ true → (d : ℕ) → next_centre line c place.track ≡ Some d
      → (s : ℕ) → within hand s ≡ true → is_home line d s ≡ true → ⊥
  arrived_so k a number place hand may d next s in_hand there = by_home (is_home line c s) refl arrives
    where
      arrives : may_arrive line c k t place.track s ≡ true
      arrives = each_within (may_arrive line c k t place.track) hand (last_of
          (has (λ e. (e.number == number) && e.is_taking) (k.expects a t)
          && (is_none (k.mission t) && not (k.has_right t)))
          (is_on_track line place.track hand && has (is_on line place.track) (section_of_group line place.group))
          (nat_le (10 * group_start line place) place.front)
          (all_of (may_arrive line c k t place.track) hand) may) s in_hand

      by_section : (o : Option Section) → has (λ p. p.home == d) o ≡ true
          → has (λ p. not (has (λ n. n == p.home) (next_centre line c place.track))) o ≡ true → ⊥
      by_section None home passes = cc
      by_section (Some p) home passes =
          let same : p.home ≡ d = eqb-true p.home d home in
          let found : has (λ n. n == p.home) (next_centre line c place.track) ≡ true = ap (has (λ n. n == p.home)) next
          ∙ eq-eqb d p.home (sym same) in
          let wrong : false ≡ true = sym (ap not found) ∙ passes in cc

      by_home : (b : Bool) → is_home line c s ≡ b
          → (if b then is_out_for t (k.book s) else has
          (λ p. not (has (λ n. n == p.home) (next_centre line c place.track))) (section line s)) ≡ true → ⊥
      by_home true here passes = next_apart line ok c d place.track next (one_home line c d s here there)
      by_home false away passes = by_section (section line s) there passes

  pub take_good : (k : Centre) (a number heard : ℕ) (has_data is_ended : Bool) (place : Place) (hand : SectionRun)
      → may_take line c k a number t place hand ≡ true → Good line c k
      → Good line c
      (take_mission line c a t heard
      (record {
        place = place;
        hand = hand;
        pool = no_run;
        has_data = has_data;
        is_ended = is_ended;
        proposal = None;
        handing = None;
      }) k).state
  unfolding ◌>>◌
  take_good k a number heard has_data is_ended place hand may good =
      (of_some line c (λ j. find (λ s. is_home line c s && j.wish s) (range_with_len hand.first hand.count))
      (propose_if_so line t) (λ s. propose_keeps line ok c t s)).each
      (record k {
        book = λ s. if within hand s && is_out_for t (k.book s) then Taken t else k.book s;
        mission =
            put k.mission t
            (Some (record {
              place = place;
              hand = hand;
              pool = no_run;
              has_data = has_data;
              is_ended = is_ended;
              proposal = None;
              handing = None;
            }));
        heard = put k.heard t (Some (option_map_or (max heard) (k.heard t) heard));
        expects = (expect a t None k).state.expects;
      })
      (put_so line c k.mission good t _ (λ d next none. none_there line ok d place.track hand
      (arrived_so k a number place hand may d next)))
