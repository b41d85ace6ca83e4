-- The ranges of engines, sections, runs, links and places.
use Rattle.std.proofs.Common.{[], ℤ, ⊎_elim, ◌&&◌, ◌*◌, ◌+◌, ◌-ℤ◌, ◌-◌, ◌<◌, ◌==◌, ◌||◌, ◌∙◌, ◌∷◌, ◌≡◌, ◌≢◌, ◌≤◌, All}
use Rattle.std.proofs.Common.{ap, arith, Bool, cond, eq-eqb, eqb-true, false, filter, get_or, inl, inr, is_some, le-leb}
use Rattle.std.proofs.Common.{length, List, lt-ltb, ltb-true, nat_lt, negsuc, None, not, Option, option_map, pos, refl}
use Rattle.std.proofs.Common.{Some, subst, suc, sym, take, true, zero, ℕ}
use Rattle.std.proofs.lemmas.Bool.{and_from, and_parts, cases_Bool, eqb-false, or_left, or_right}
use Rattle.std.proofs.lemmas.Bool.Decides.{eqb_tells}
use Rattle.std.proofs.lemmas.List.Elements.{All-get_or, All-head, All-tail}
use Rattle.std.proofs.lemmas.List.Quantifiers.{position-Some}
use Rattle.std.proofs.lemmas.Nat.{mul-le}
use Rattle.std.proofs.lemmas.Option.{get_or_from_slice_get, same_Some, slice_get_within}
use Rattle.std.specs.List.{position, sum_by}
use Rattle.std.specs.Option.{option_map_or}
use Rattle.law_base.proofs.LocalLemmas.Homes.{begun_local, fit_parts}
use Rattle.law_base.proofs.LocalLemmas.Worlds.{is_ordered}
use Rattle.law_base.proofs.RulesLemmas.Places.{ahead_of_group, placed_on}
use Rattle.law_invariants.proofs.FlowLemmas.Neighbours.{home_below as centre_at, neighbours}
use Rattle.law_invariants.proofs.FlowLemmas.Taken.{in_both}
use Rattle.law_invariants.specs.Ranges.Ranges.{HasPositionRanges}
use Rattle.rbc_spec.proofs.Lists.{each_at, on_line, registrar_below}
use Rattle.rbc_spec.proofs.Runs.{within_from}
use Rattle.rbc_spec.proofs.Sums.{sum_kept, sum_left, sum_up_to}
use Rattle.rbc_spec.specs.Centre.{is_registrar_of}
use Rattle.rbc_spec.specs.Frame.{carried_place, HasPlaceRange, HasRunRange, is_short_distance, IsEngine}
use Rattle.rbc_spec.specs.Frame.{place_with_front, yielded_place, YieldedPlace}
use Rattle.rbc_spec.specs.Line.{group_of, is_centre, is_home, is_linked, IsLine, Line, next_centre, registrar, Section}
use Rattle.rbc_spec.specs.Line.{section, section_of_group, start, Train, train_number}
use Rattle.rbc_spec.specs.Place.{covered, estimated_front, extent, has_place, is_fit, Place, place_ahead, place_on}
use Rattle.rbc_spec.specs.Place.{Position}
use Rattle.rbc_spec.specs.SectionRuns.{is_empty, most_in_hand, SectionRun, shared, within}
use Rattle.rbc_spec.specs.Sections.{home_run, is_on}

-- # The ranges of engines, sections, runs and links that follow from a line's order and its limits.

-- ## Engines

abbrev Registered : Line → Train → Type 0
Registered line p = (p.nid_engine ≤ 16777215) × (p.registrar < length line.centres)

engine_below : (line : Line) (trains : List Train) (t : ℕ) (o : Option ℕ) → position (λ p. p.nid_engine == t) trains ≡ o
    → is_some o ≡ true → All (Registered line) trains → IsEngine t
engine_below line trains t None at is all = cc
engine_below line trains t (Some i) at is all =
    let none : Train = record { nid_engine = 0; registrar = 0 } in
    let found = position-Some (λ p. p.nid_engine == t) trains i none at in
    let low = (All-get_or (Registered line) trains i none found.0 all).0 in
    let same = eqb-true (get_or trains i none).nid_engine t found.1 in
    omega (arith, low, same)

pub known_engine : (line : Line) → IsLine line → (t : ℕ) → is_some (train_number line t) ≡ true → IsEngine t
known_engine line ok t is = engine_below line line.trains t (train_number line t) refl is ok.ranges.trains

-- ## Links

not_same : (a b : ℕ) → not (a == b) ≡ true → not (b == a) ≡ true
not_same a b is =
    elim (eqb_tells b a) [
      | inl e ↦ absurd (let wrong : false ≡ true = sym (ap not (eq-eqb a b (sym e.1))) ∙ is in cc)
      | inr e ↦ ap not e.0
    ]

-- a link is one of both ends
pub linked_back : (line : Line) (a b : ℕ) → is_linked line b a ≡ true → is_linked line a b ≡ true
linked_back line a b is =
    let ends = and_parts (is_centre line b && is_centre line a) (not (b == a)) is in
    let each = and_parts (is_centre line b) (is_centre line a) ends.0 in
    and_from _ _ (and_from _ _ each.1 each.0) (not_same b a ends.1)

pub linked_centre : (line : Line) (c d : ℕ) → is_linked line c d ≡ true → is_centre line c ≡ true
linked_centre line c d is =
    let ends = (and_parts (is_centre line c && is_centre line d) (not (c == d)) is).0 in
    (and_parts (is_centre line c) (is_centre line d) ends).0

-- a property of a value holds of each equal one
pub of_some : {X : Type 0} (P : X → Type 0) (x : X) → P x → (y : X) → Some x ≡ Some y → P y
of_some P x is y same = subst P (same_Some x y same) is

-- a run whose sections are of the line
pub run_range : (least most : ℕ) (r : SectionRun) → least ≤ r.count → r.count ≤ most → 1 ≤ r.count
    → ((s : ℕ) → within r s ≡ true → s < 512) → HasRunRange least most r
run_range least most r low high some each =
    let last : ℕ = r.first + (r.count - 1) in
    let below : last < 512 = each last (within_from r last (omega arith) (omega (arith, some))) in
    record { first = omega (arith, below); count = (low, high); last = omega (arith, below, some) }

module _ (line : Line) (ok : IsLine line) where
  -- a centre has a link with the next of a track
  pub next_linked : (c track d : ℕ) → next_centre line c track ≡ Some d → is_linked line c d ≡ true
  next_linked c track d is = linked_back line c d ((neighbours line ok).linked c d track is)

  -- a centre that is not the registrar of a train has a link with the registrar
  pub registrar_linked : (c t r : ℕ) → is_centre line c ≡ true → is_registrar_of line c t ≡ false
      → registrar line t ≡ Some r → is_linked line c r ≡ true
  registrar_linked c t r centre away at =
      let apart : (r == c) ≡ false = sym (ap (λ (o : Option ℕ). option_map_or (λ x. x == c) o false) at) ∙ away in
      and_from _ _ (and_from _ _ centre (lt-ltb r (length line.centres) (registrar_below line ok t r at)))
      (not_same r c (ap not apart))

  -- each home is this centre, or one that it has a link with
  pub each_home : (c : ℕ) → is_centre line c ≡ true → (s d : ℕ) → is_home line d s ≡ true
      → ((d == c) || is_linked line c d) ≡ true
  each_home c centre s e home = by_same (e == c) refl
    where
      at : (o : Option Section) → section line s ≡ o → option_map_or (λ p. p.home == e) o false ≡ true
          → is_centre line e ≡ true
      at (Some p) there so = ap (is_centre line) (sym (eqb-true p.home e so)) ∙ centre_at line ok s p there
      at None there so = cc

      by_same : (b : Bool) → (e == c) ≡ b → ((e == c) || is_linked line c e) ≡ true
      by_same true same = or_left (e == c) (is_linked line c e) same
      by_same false apart = or_right (e == c) (is_linked line c e)
          (and_from _ _ (and_from _ _ centre (at (section line s) refl home)) (not_same e c (ap not apart)))

  -- ## Sections and runs

  pub on_below : (track s : ℕ) → is_on line track s ≡ true → s < 512
  on_below track s on = let le = ok.limits.sections in omega (arith, le, on_line line track s on)

  pub home_below : (d s : ℕ) → is_home line d s ≡ true → s < 512
  home_below d s is = by_section (section line s) refl is
    where
      by_section : (o : Option Section) → section line s ≡ o → option_map_or (λ p. p.home == d) o false ≡ true → s < 512
      by_section None at h = cc
      by_section (Some p) at h = let le = ok.limits.sections in let there = slice_get_within line.sections s p at in
          omega (arith, le, there)

  -- the part of a run that is of one home on a track
  pub part_range : (most d track : ℕ) (r : SectionRun) → r.count ≤ most
      → is_empty (shared r (home_run line d track)) ≡ false → HasRunRange 1 most (shared r (home_run line d track))
  part_range most d track r few some = run_range 1 most (shared r (home_run line d track)) (omega (arith, filled))
      (omega (arith, few)) (omega (arith, filled))
      (λ s is. home_below d s (home_of s is))
    where
      filled : (shared r (home_run line d track)).count ≢ 0
      filled = eqb-false (shared r (home_run line d track)).count 0 some

      home_of : (s : ℕ) → within (shared r (home_run line d track)) s ≡ true → is_home line d s ≡ true
      home_of s is =
          (and_parts (is_home line d s) (is_on line track s) (sym ((is_ordered line ok).homes_run d track s)
          ∙ (in_both r (home_run line d track) s is).1)).0

-- # The places of reports in range, and of starts that are fit, have their ranges.

-- ## Distances

short_ahead : (n : ℕ) → n ≤ 2147483647 → is_short_distance (pos n) ≡ true
short_ahead n low = le-leb n 2147483647 low

short_back : (n : ℕ) → n ≤ 2147483647 → is_short_distance (negsuc n) ≡ true
short_back n low = and_from _ _ (le-leb n 2147483647 low) refl

short_between : (a b : ℕ) → a ≤ 2147483647 → b ≤ 2147483647 → is_short_distance (pos a -ℤ pos b) ≡ true
short_between a zero one two = short_ahead (a + 0) (omega (arith, one))
short_between a (suc b) one two = by_side (nat_lt a (suc b))
  where
    by_side : (z : Bool) → is_short_distance (cond z (negsuc (suc b - suc a)) (pos (a - suc b))) ≡ true
    by_side true = short_back (suc b - suc a) (omega (arith, two))
    by_side false = short_ahead (a - suc b) (omega (arith, one))

-- ## Sections

module _ (line : Line) (ok : IsLine line) where
  abbrev InRange : Section → Type 0
  InRange q = (q.track < length line.tracks) × (100 ≤ q.metres) × (q.metres ≤ 2000)
      × (q.home < length line.centres) × (q.balise ≤ 16382)

  in_range : (s : ℕ) (q : Section) → section line s ≡ Some q → InRange q
  in_range s q at = each_at InRange line.sections s q ok.ranges.sections at

  metres_few : (test : Section → Bool) (xs : List Section) (i : ℕ) → All InRange xs
      → sum_up_to (λ (q : Section). q.metres) test xs i ≤ length xs * 2000
  metres_few test xs zero all = omega arith
  metres_few test [] (suc i) all = omega arith
  metres_few test (x ∷ xs) (suc i) all =
      let more = metres_few test xs i (All-tail InRange x xs all) in
      let low = (All-head InRange x xs all).2 in
      ⊎_elim
      (λ (is : test x ≡ true). rw (sum_kept (λ (q : Section). q.metres) test x (take i xs) is)
      (omega (arith, more, low)))
      (λ (no : test x ≡ false). rw (sum_left (λ (q : Section). q.metres) test x (take i xs) no) (omega (arith, more)))
      (cases_Bool (test x))

  start_low : (s : ℕ) → start line s ≤ 1024000
  unfolding start
  start_low s = by_section (section line s)
    where
      by_section : (o : Option Section)
          → option_map_or (λ p. sum_by (λ q. q.metres) (filter (λ q. q.track == p.track) (take s line.sections))) o 0
          ≤ 1024000
      by_section (Some p) = let few = metres_few (λ q. q.track == p.track) line.sections s ok.ranges.sections in
          let le = ok.limits.sections in omega (arith, few, le)
      by_section None = omega arith

  -- the group of a section of the line
  group_low : (group s : ℕ) (q : Section) → section_of_group line group ≡ Some s
      → section line s ≡ Some q → group ≤ 16777214
  group_low group s q at is =
      let found = position-Some (λ p. group_of line p == group) line.sections s q at in
      let same : group_of line q ≡ group =
      eqb-true (group_of line q) group
      (subst (λ x. (group_of line x == group) ≡ true) (get_or_from_slice_get line.sections s q q is) found.1) in
      let nid = ok.ranges.nid_c in
      let balise = (in_range s q is).4 in
      omega (arith, same, nid, balise)

  -- ## Places

  module _ (p : Position) (range : HasPositionRanges p) where
    ahead_range : (s : ℕ) (q : Section) → has_place p ≡ true → section_of_group line p.nid_lrbg ≡ Some s
        → section line s ≡ Some q → HasPlaceRange (yielded_place (place_ahead line s q p))
    ahead_range s q known at is =
        let parts = and_parts ((p.is_nominal && p.is_level_2) && nat_lt p.d_lrbg 32767) (nat_lt p.l_doubtover 32767
        && nat_lt p.l_doubtunder 32767) known in
        let d_low =
        ltb-true p.d_lrbg 32767 (and_parts (p.is_nominal && p.is_level_2) (nat_lt p.d_lrbg 32767) parts.0).1 in
        let doubts = and_parts (nat_lt p.l_doubtover 32767) (nat_lt p.l_doubtunder 32767) parts.1 in
        let over = mul-le p.scale p.l_doubtover 100 32767 range.scale
        (omega (arith, ltb-true p.l_doubtover 32767 doubts.0)) in
        let under = mul-le p.scale p.l_doubtunder 100 32767 range.scale
        (omega (arith, ltb-true p.l_doubtunder 32767 doubts.1)) in
        let front = mul-le p.scale p.d_lrbg 100 32767 range.scale (omega (arith, d_low)) in
        let begin = start_low s in
        let track = (in_range s q is).0 in
        let tracks = ok.limits.tracks.1 in
        record {
          track = omega (arith, track, tracks);
          group = group_low p.nid_lrbg s q at is;
          front = short_ahead (estimated_front line s p + p.scale * p.l_doubtunder)
              (omega (arith, begin, front, under));
          rear = by_length p.l_trainint range.length over (omega (arith, begin, front));
        }
      where
        by_length : (o : Option ℕ) → ((l : ℕ) → o ≡ Some l → l ≤ 32767) → p.scale * p.l_doubtover ≤ 100 * 32767
            → estimated_front line s p ≤ 2147483647
            → option_map_or is_short_distance
            (option_map (λ l. pos (estimated_front line s p) -ℤ pos (p.scale * p.l_doubtover + 10 * l)) o) true
            ≡ true
        by_length (Some l) low over front = let few = low l refl in
            short_between (estimated_front line s p) (p.scale * p.l_doubtover + 10 * l) front (omega (arith, over, few))
        by_length None low over front = refl

    pub extent_range : (place : Place) → extent line p ≡ Some place → HasPlaceRange (yielded_place place)
    extent_range place is = let b = ahead_of_group line p place is in
        subst (λ (x : Place). HasPlaceRange (yielded_place x)) b.is (ahead_range b.s b.q b.known b.group b.at)

    pub place_on_range : (track : ℕ) (place : Place) → place_on line track p ≡ Some place
        → HasPlaceRange (yielded_place place)
    place_on_range track place is = extent_range place (placed_on line track p place is).extent_is

  -- the sections that a place fit for a start covers
  pub fit_range : (place : Place) → is_fit line place ≡ true → HasRunRange 1 most_in_hand (covered line place)
  fit_range place fit =
      let local = begun_local line (is_ordered line ok) place (fit_parts line place fit) in
      run_range 1 most_in_hand (covered line place) local.some local.few local.some
      (λ s is. on_below line ok place.track s (local.on_track s is))

-- the place that a Yield carries
pub carried_range : (carried : YieldedPlace) (place : Place) → carried_place carried ≡ Some place
    → HasPlaceRange carried → HasPlaceRange (yielded_place place)
carried_range carried place is range = by_front carried.front refl is
  where
    by_front : (z : ℤ) → carried.front ≡ z → place_with_front carried z ≡ Some place
        → HasPlaceRange (yielded_place place)
    by_front (pos n) at is = subst (λ (x : Place). HasPlaceRange (yielded_place x)) (same_Some _ place is)
        (record {
          track = range.track;
          group = range.group;
          front = subst (λ x. is_short_distance x ≡ true) at range.front;
          rear = range.rear;
        })
    by_front (negsuc n) at is = cc
