-- A position from which a train has cleared its hand, and handovers that are at rest.
use Rattle.std.proofs.Common.{[], ⊎_elim, ◌&&◌, ◌*◌, ◌+◌, ◌-◌, ◌<◌, ◌==◌, ◌||◌, ◌∙◌, ◌∷◌, ◌≡◌, ◌≤◌, ap, arith, Bool}
use Rattle.std.proofs.Common.{cond, eq-eqb, eqb-true, Err, false, get_or, if◌then◌else◌, is_some, le-leb, length, List}
use Rattle.std.proofs.Common.{lt-ltb, ltb-true, map, nat_lt, None, Ok, Option, option_and_then, option_map, refl}
use Rattle.std.proofs.Common.{slice_get, Some, subst, suc, sym, true, zero, ℕ}
use Rattle.std.proofs.lemmas.Bool.{both_ways, cases_Bool, cases_lt, cond-true}
use Rattle.std.proofs.lemmas.List.Quantifiers.{position-Some}
use Rattle.std.proofs.lemmas.List.Sums.{position_or_len_is}
use Rattle.std.proofs.lemmas.Option.{get_or_from_slice_get, slice_get-get_or, slice_get_within}
use Rattle.std.specs.List.{list_any, position_or_len, sum_by}
use Rattle.std.specs.Option.{option_map_or}
use Rattle.law_base.specs.Counting.Chain.{after_all}
use Rattle.law_base.specs.Counting.Network.{way}
use Rattle.law_invariants.proofs.FlowLemmas.Seats.{way_is}
use Rattle.law_invariants.proofs.NoStrayLemmas.Worlds.{IsReachedSo}
use Rattle.law_invariants.specs.Flow.Flow.{centre_count, flow_of}
use Rattle.law_invariants.specs.Flow.Pairs.{follows, handing_to}
use Rattle.law_invariants.specs.Flow.Sound.{IsHandAt}
use Rattle.law_invariants.specs.Handover.Orderly.{number_announced, number_expected}
use Rattle.law_invariants.specs.Ranges.Stays.{IsReadInRange}
use Rattle.law_progress.proofs.Kept.{none_to}
use Rattle.law_progress.proofs.RestLemmas.Rest.{no_way, work_is}
use Rattle.law_progress.specs.Ends.{HasNoHandover, is_handing, IsGoingOn}
use Rattle.law_progress.specs.Rest.Rest.{IsAtRest, IsDelivery, work_of}
use Rattle.rbc_spec.proofs.Lists.{any-range_none, each_at}
use Rattle.rbc_spec.proofs.Places.{end_of, ends_rise, IsAt, section_on, start_is}
use Rattle.rbc_spec.proofs.Runs.{longest_is, within_from, within_true}
use Rattle.rbc_spec.specs.Centre.{Expectation}
use Rattle.rbc_spec.specs.Frame.{Body, Frame}
use Rattle.rbc_spec.specs.Line.{end, group_of, is_centre, IsLine, Line, Section, section, section_of_group, start}
use Rattle.rbc_spec.specs.Line.{Train, train_number}
use Rattle.rbc_spec.specs.Place.{extent, has_place, is_cleared, is_known, Place, place_ahead, place_on, Position}
use Rattle.rbc_spec.specs.SectionRuns.{longest, next_after, passing, SectionRun, within}
use Rattle.rbc_spec.specs.Sections.{is_on}
use Rattle.rbc_spec.specs.World.{Bytes, Delivery, Event, Set, Unset, World}

-- # A position from which a train has cleared its hand.

-- if each section of a run passes, all pass
all_pass : (test : ℕ → Bool) (r : SectionRun) → ((s : ℕ) → within r s ≡ true → test s ≡ true) → passing test r ≡ r.count
all_pass test r each = ⊎_elim
    (λ (less : longest test r.first r.count < r.count).
    absurd (both_ways (test (r.first + longest test r.first r.count)) ((longest_is test r.first r.count).ends less)
    (each (r.first + longest test r.first r.count)
    (within_from r (r.first + longest test r.first r.count) (omega arith) (omega (arith, less))))))
    (λ (all : r.count ≤ longest test r.first r.count). omega (arith, all, (longest_is test r.first r.count).fits))
    (cases_lt (longest test r.first r.count) r.count)

-- the section of its own group
group_found : (line : Line) → IsLine line → (s : ℕ) (q : Section) → section line s ≡ Some q
    → section_of_group line (group_of line q) ≡ Some s
group_found line ok s q at = ap (λ n. cond (nat_lt n (length line.sections)) (Some n) None) first
    ∙ cond-true (nat_lt s (length line.sections)) (Some s) None (lt-ltb s (length line.sections) small)
  where
    small : s < length line.sections
    small = slice_get_within line.sections s q at

    is_its : Section → Bool
    is_its p = group_of line p == group_of line q

    -- the balise of no other
    only : (k : ℕ) → k < s → (p : Section) → section line k ≡ Some p → is_its p ≡ true → ⊥
    only k low p found same =
        let groups : line.nid_c * 16384 + p.balise ≡ line.nid_c * 16384 + q.balise =
        eqb-true (group_of line p) (group_of line q) same in
        let one : k ≡ s = ok.distinct.balises k s p q found at (omega (arith, groups)) in
        omega (arith, low, one)

    before : (k : ℕ) → k < s → is_its (get_or line.sections k q) ≡ false
    before k low = ⊎_elim
        (λ (passes : is_its (get_or line.sections k q) ≡ true).
        absurd (only k low (get_or line.sections k q)
        (slice_get-get_or line.sections k q (omega (arith, low, small))) passes))
        (λ (fails : is_its (get_or line.sections k q) ≡ false). fails)
        (cases_Bool (is_its (get_or line.sections k q)))

    first : position_or_len is_its line.sections ≡ s
    first = position_or_len_is is_its line.sections s q (omega (arith, small)) before
        (λ low. ap is_its (get_or_from_slice_get line.sections s q q at)
        ∙ eq-eqb (group_of line q) (group_of line q) refl)

-- its front at the end of a section, with the whole train in no doubt in rear
abbrev pub at_end : Line → Section → Position
at_end line q =
    record {
      scale = 10;
      nid_lrbg = group_of line q;
      d_lrbg = q.metres;
      is_nominal = true;
      l_doubtover = 0;
      l_doubtunder = 0;
      l_trainint = Some 0;
      v_train = 0;
      is_level_2 = true;
    }

-- a position on the track from which the hand is cleared
pub record Clears (line : Line) (place : Place) (hand : SectionRun) : Type 0 where
  pub section : Section
  pub new : Place
  pub is_placed : place_on line place.track (at_end line section) ≡ Some new
  pub is_all : passing (is_cleared line new) hand ≡ hand.count

module _ (line : Line) (ok : IsLine line) (place : Place) (hand : SectionRun) (is : IsHandAt line place hand) where
  on_last : is_on line place.track (next_after hand - 1) ≡ true
  on_last =
      is.on_track (next_after hand - 1)
      (within_from hand (next_after hand - 1) (omega (arith, is.some)) (omega (arith, is.some)))

  module _ (q : Section) (at : IsAt line place.track (next_after hand - 1) q) where
    known : is_known q.metres ≡ true
    known = let range = each_at (λ (p : Section). (p.track < length line.tracks) × (100 ≤ p.metres) × (p.metres ≤ 2000)
        × (p.home < length line.centres)
        × (p.balise ≤ 16382)) line.sections (next_after hand - 1) q ok.ranges.sections at.at in
        lt-ltb q.metres 32767 (omega (arith, range.2))

    placed : has_place (at_end line q) ≡ true
    placed = ap (λ b. ((true && true) && b) && (nat_lt 0 32767 && nat_lt 0 32767)) known

    extent_is : extent line (at_end line q) ≡ Some (place_ahead line (next_after hand - 1) q (at_end line q))
    unfolding extent
    extent_is =
        ap (λ b. if b then option_and_then
        (λ s. option_map (λ p. place_ahead line s p (at_end line q)) (section line s))
        (section_of_group line (group_of line q)) else None) placed
        ∙ ap (λ o. option_and_then (λ s. option_map (λ p. place_ahead line s p (at_end line q)) (section line s)) o)
        (group_found line ok (next_after hand - 1) q at.at)
        ∙ ap (λ o. option_map (λ p. place_ahead line (next_after hand - 1) p (at_end line q)) o) at.at

    on_track : place_on line place.track (at_end line q)
        ≡ Some (place_ahead line (next_after hand - 1) q (at_end line q))
    on_track = ap (λ (o : Option Place). option_map_or (λ p. if p.track == place.track then Some p else None) o None)
        extent_is
        ∙ ap (λ b. if b then Some (place_ahead line (next_after hand - 1) q (at_end line q)) else None)
        (eq-eqb q.track place.track at.on)

    ends_at : end line (next_after hand - 1) ≡ start line (next_after hand - 1) + q.metres
    ends_at =
        omega (
          arith,
          end_of line place.track (next_after hand - 1) q at,
          start_is line place.track (next_after hand - 1) q at,
        )

    cleared_each : (s : ℕ) → within hand s ≡ true
        → is_cleared line (place_ahead line (next_after hand - 1) q (at_end line q)) s ≡ true
    cleared_each s inside = le-leb (10 * end line s) ((10 * start line (next_after hand - 1) + 10 * q.metres) + 0)
        (let low = within_true hand s inside in
        omega (
          arith,
          ends_at,
          ends_rise line place.track s (next_after hand - 1) (is.on_track s inside) on_last
              (omega (arith, low.0, low.1)),
        ))

  pub clears : Clears line place hand
  clears = let q = section_on line place.track (next_after hand - 1) on_last in record {
    section = q.0;
    new = place_ahead line (next_after hand - 1) q.0 (at_end line q.0);
    is_placed = on_track q.0 q.1;
    is_all = all_pass (is_cleared line (place_ahead line (next_after hand - 1) q.0 (at_end line q.0)))
        hand (cleared_each q.0 q.1);
  }

-- # Handovers end in order, and the line reaches rest after each.

-- ## At rest nothing is expected that is not announced

same_number : (x y : Option ℕ) → ◌≡◌ {A = Option (Option ℕ)} (Some x) (Some y) → x ≡ y
same_number x y e = cc

unexpected : (o : Option Expectation) → number_expected o ≡ None → is_some o ≡ false
unexpected None none = refl
unexpected (Some e) none = cc

ends_as : (t : ℕ) (fs : List Body) (start last : Option ℕ) → fs ≡ []
    → after_all (follows t) fs start ≡ Some last → start ≡ last
unfolding after_all
ends_as t fs start last none leads =
    same_number start last (subst (λ gs. after_all (follows t) gs start ≡ Some last) none leads)

module _ (line : Line) (w : World) (reached : IsReachedSo line w) (at_rest : IsAtRest line w)
    (none : (c t : ℕ) → is_handing ((w.at c).mission t) ≡ false) where
  expects_none : (c t a : ℕ) → is_centre line c ≡ true → a < centre_count line → is_some ((w.at c).expects a t) ≡ false
  expects_none c t a to from =
      unexpected ((w.at c).expects a t) (ends_as t (way (flow_of w) a c) (number_expected ((w.at c).expects a t))
      (number_announced (handing_to c ((w.at a).mission t))) empty
      (reached.sound.flow.pairs a c t (lt-ltb a (centre_count line) from) to).chain.leads
      ∙ none_to c ((w.at a).mission t) (none a t))
    where
      empty : way (flow_of w) a c ≡ []
      empty = way_is w a c ∙ ap (λ (fs : List Frame). map (λ (f : Frame). f.body) fs)
          (no_way line w (sym (work_is line w)
          ∙ ap (sum_by (λ (f : Frame). work_of (centre_count line) f.body)) at_rest.no_frames) a c from
          (ltb-true c (centre_count line) to))

  pub no_handover : HasNoHandover line w
  no_handover = record {
    none_handed = λ c t to. none c t;
    none_expected = λ c t to. any-range_none (λ d. is_some ((w.at c).expects d t)) 0 (centre_count line)
        (λ d low high. expects_none c t d to (omega (arith, high)));
  }

-- ## Trains of a list

any_at : (test : Train → Bool) (ts : List Train) (i : ℕ) (p : Train) → slice_get ts i ≡ Some p → test p ≡ true
    → list_any test ts ≡ true
any_at test [] i p at passes = cc
any_at test (q ∷ ts) zero p at passes = let same : q ≡ p = cc in ap (λ b. b || list_any test ts) (ap test same ∙ passes)
any_at test (q ∷ ts) (suc i) p at passes = or_true (test q) (list_any test ts) (any_at test ts i p at passes)
  where
    or_true : (a b : Bool) → b ≡ true → (a || b) ≡ true
    or_true true b is = refl
    or_true false b is = is

no_train : Train
no_train = record { nid_engine = 0; registrar = 0 }

pub known_among : (line : Line) (t : ℕ) → is_some (train_number line t) ≡ true
    → list_any (λ p. p.nid_engine == t) line.trains ≡ true
known_among line t known = by_number (train_number line t) refl known
  where
    by_number : (o : Option ℕ) → train_number line t ≡ o → is_some o ≡ true
        → list_any (λ p. p.nid_engine == t) line.trains ≡ true
    by_number None is some = cc
    by_number (Some i) is some = let found =
        position-Some (λ (p : Train). p.nid_engine == t) line.trains i no_train is in
        any_at (λ p. p.nid_engine == t) line.trains i _ (slice_get-get_or line.trains i no_train found.0) found.1

-- ## One event, and many deliveries

pub in_range : (event : Event) → IsGoingOn event → IsReadInRange event
in_range (Delivery a b number) on = record {}
in_range (Bytes c (Ok m)) on = on.1
in_range (Bytes c (Err number)) on = absurd on
in_range (Set c s) on = absurd on
in_range (Unset c s) on = absurd on

pub delivery_on : (event : Event) → IsDelivery event → IsGoingOn event
delivery_on (Delivery a b number) is = record {}
delivery_on (Bytes c read) is = absurd is
delivery_on (Set c s) is = absurd is
delivery_on (Unset c s) is = absurd is
