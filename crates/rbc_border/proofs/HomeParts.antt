-- Sections of one home on one track, and those of a run that return to a centre.
use Rattle.std.proofs.Common.{[], ◌&&◌, ◌+◌, ◌-◌, ◌<◌, ◌==◌, ◌||◌, ◌∙◌, ◌∷◌, ◌≡◌, ◌≢◌, ◌≤◌, ap, arith, Bool, cond}
use Rattle.std.proofs.Common.{eq-eqb, false, IfSome, is_none, length, None, Option, option_map, refl, Some, sym, true}
use Rattle.std.proofs.Common.{ℕ, ⊎_elim}
use Rattle.std.proofs.lemmas.Bool.{and_from, and_parts, both_ways, cases_eq, cases_lt, false≢true, ne_eqb, or_from}
use Rattle.std.proofs.lemmas.Bool.{or_right}
use Rattle.std.proofs.lemmas.Option.{same_Some, slice_get_within}
use Rattle.std.specs.List.{list_all, range_with_len}
use Rattle.std.specs.Option.{option_map_or}
use Rattle.rbc_border.proofs.Lists.{both_all, full}
use Rattle.rbc_border.specs.Homes.{is_of}
use Rattle.rbc_line.specs.declared.parts.Section.{Section as SectionRow}
use Rattle.rbc_line.specs.declared.section_run.SectionRun.{SectionRun as SectionRunCode}
use Rattle.rbc_line.specs.SectionRuns.{run_of}
use Rattle.rbc_line.specs.Views.{placed_section}
use Rattle.rbc_spec.proofs.Lists.{each_of, on_line}
use Rattle.rbc_spec.proofs.Places.{homes_run}
use Rattle.rbc_spec.proofs.Runs.{longest_each, longest_few, longest_is, run_only, same_tests, some_count, within_from}
use Rattle.rbc_spec.proofs.Runs.{within_shared, within_true}
use Rattle.rbc_spec.specs.Acts.{returned}
use Rattle.rbc_spec.specs.Centre.{Centre}
use Rattle.rbc_spec.specs.Frame.{HasRunRange, RouteReturn}
use Rattle.rbc_spec.specs.Line.{is_home, IsLine, Line, Section, section, start}
use Rattle.rbc_spec.specs.Links.{is_of_line}
use Rattle.rbc_spec.specs.SectionRuns.{all_of, is_empty, longest, SectionRun, shared, within}
use Rattle.rbc_spec.specs.Sections.{home_run, is_on}

-- a section of a home is of the line, below 512
pub of_line : (line : Line) (home track s : ℕ) → IsLine line → is_of line home track s ≡ true → s < 512
of_line line home track s ok of =
    let within_line : s < length line.sections =
    on_line line track s (and_parts (is_home line home s) (is_on line track s) of).1 in
    omega (arith, within_line, ok.limits.sections)

-- this many of them are
pub stretch_within : (line : Line) (home track from most : ℕ) → IsLine line
    → 0 < longest (is_of line home track) from most → from + longest (is_of line home track) from most ≤ 512
stretch_within line home track from most ok some =
    let n = longest (is_of line home track) from most in
    let last : from + n - 1 < 512 =
    of_line line home track (from + n - 1) ok
    (longest_each (is_of line home track) from most (from + n - 1) (omega (arith, some)) (omega (arith, some))) in
    omega (arith, last, some)

-- a section of a home is of the line
pub home_on_line : (line : Line) (home s : ℕ) → is_home line home s ≡ true → s < length line.sections
home_on_line line home s = by_section (section line s) refl
  where
    by_section : (o : Option Section) → section line s ≡ o → option_map_or (λ p. p.home == home) o false ≡ true
        → s < length line.sections
    by_section None at h = absurd (false≢true h)
    by_section (Some p) at h = slice_get_within line.sections s p at

-- the result of a look-up of the line
pub record IsFound (line : Line) (s : ℕ) (row : SectionRow) : Type 0 where
  pub there : Section
  pub at : section line s ≡ Some there
  pub track : there.track ≡ row.track
  pub home : there.home ≡ row.home

pub found : (line : Line) (s : ℕ) (o : Option SectionRow) (row : SectionRow) → o ≡ placed_section line s → o ≡ Some row
    → IsFound line s row
found line s o row is some = by_section (section line s) refl (sym is ∙ some)
  where
    by_section : (p : Option Section) → section line s ≡ p
        → option_map (λ (q : Section). record {
          track = q.track;
          start = start line s;
          metres = q.metres;
          home = q.home;
          balise = q.balise;
        }) p ≡ Some row → IsFound line s row
    by_section None at e = cc
    by_section (Some p) at e =
        let same : record {
          track = p.track;
          start = start line s;
          metres = p.metres;
          home = p.home;
          balise = p.balise;
        } ≡ row = same_Some _ row e in
        record {
          there = p;
          at = at;
          track = ap (λ (r : SectionRow). r.track) same;
          home = ap (λ (r : SectionRow). r.home) same;
        }

-- ## All of one home

-- the sections are of the line, on one track, and of this home
pub one_home_is : (line : Line) (home : ℕ) (r : SectionRun) (p : Section) → section line r.first ≡ Some p
    → ((is_of_line line r && is_home line home r.first) && all_of (is_home line home) r)
    ≡ ((p.home == home) && (longest (is_of line home p.track) r.first r.count == r.count))
one_home_is line home r p at =
    (λ i. (option_map_or (λ q. list_all (is_on line q.track) (range_with_len r.first r.count)) (at i) false
    && option_map_or (λ q. q.home == home) (at i) false) && all_of (is_home line home) r)
    ∙ turned (list_all (is_on line p.track) (range_with_len r.first r.count)) (p.home == home)
    (all_of (is_home line home) r)
    ∙ ap (λ x. (p.home == home) && x)
    (sym (full (is_of line home p.track) r.first r.count
    ∙ both_all (is_home line home) (is_on line p.track) (range_with_len r.first r.count)))
  where
    turned : (on at home : Bool) → ((on && at) && home) ≡ (at && (home && on))
    turned true true true = refl
    turned true true false = refl
    turned true false home = refl
    turned false true true = refl
    turned false true false = refl
    turned false false home = refl

-- the first is of this home
pub first_home : (line : Line) (home : ℕ) (r : SectionRun)
    → ((is_of_line line r && is_home line home r.first) && all_of (is_home line home) r) ≡ true
    → is_home line home r.first ≡ true
first_home line home r is =
    (and_parts (is_of_line line r) (is_home line home r.first)
    (and_parts (is_of_line line r && is_home line home r.first) (all_of (is_home line home) r) is).0).1

-- sections of one home are below 512
pub one_home_below : (line : Line) (home : ℕ) (r : SectionRun) → IsLine line
    → ((is_of_line line r && is_home line home r.first) && all_of (is_home line home) r) ≡ true
    → r.first + r.count ≤ 512
one_home_below line home r ok is =
    let parts = and_parts (is_of_line line r && is_home line home r.first) (all_of (is_home line home) r) is in
    let first_below : r.first < length line.sections = home_on_line line home r.first (first_home line home r is) in
    ⊎_elim
    (λ (some : 0 < r.count).
    let last : r.first + r.count - 1 < length line.sections =
    home_on_line line home (r.first + r.count - 1)
    (each_of (is_home line home) r.first r.count parts.1 (r.first + r.count - 1) (omega (arith, some))
    (omega (arith, some))) in
    omega (arith, last, some, ok.limits.sections))
    (λ (none : r.count ≤ 0). omega (arith, none, first_below, ok.limits.sections))
    (cases_lt 0 r.count)

-- ## The part of one home

-- a section between two sections of a run is one of them
between : (r : SectionRun) (s m e : ℕ) → s ≤ m → m ≤ e → within r s ≡ true → within r e ≡ true → within r m ≡ true
between r s m e from to one two =
    let low = within_true r s one in
    let high = within_true r e two in
    within_from r m (omega arith) (omega arith)

first_within : (r : SectionRun) → r.count ≢ 0 → within r r.first ≡ true
first_within r some = within_from r r.first (omega arith) (omega (arith, some))

module _ (line : Line) (d track : ℕ) (r : SectionRun) (ok : 0 < r.count → IsLine line) where
  abbrev part : SectionRun
  part = shared r (home_run line d track)

  in_part : (s : ℕ) → within part s ≡ true → (within r s ≡ true) × (is_of line d track s ≡ true)
  in_part s is =
      let both =
      and_parts (within r s) (within (home_run line d track) s)
      (sym (within_shared r (home_run line d track) s) ∙ is) in
      let ends = within_true r s both.0 in
      (both.0, sym (homes_run line d track s (ok (omega arith))) ∙ both.1)

  from_part : (s : ℕ) → within r s ≡ true → is_of line d track s ≡ true → within part s ≡ true
  from_part s in_run of =
      let ends = within_true r s in_run in
      within_shared r (home_run line d track) s
      ∙ and_from (within r s) (within (home_run line d track) s) in_run
      (homes_run line d track s (ok (omega arith)) ∙ of)

  -- if no section of the run is of the home, the part is empty
  pub no_part : ((s : ℕ) → r.first ≤ s → s < r.first + r.count → is_of line d track s ≡ false)
      → is_empty (shared r (home_run line d track)) ≡ true
  no_part none = ⊎_elim
      (λ (e : part.count ≡ 0). eq-eqb part.count 0 e)
      (λ (some : part.count ≢ 0).
      let both = in_part part.first (first_within part some) in
      let ends = within_true r part.first both.0 in
      absurd (both_ways (is_of line d track part.first) (none part.first ends.0 ends.1) both.1))
      (cases_eq part.count 0)

  -- the part begins with the first section of the run that is of the home
  module _ (k n s : ℕ) (at : s ≡ r.first + k) (lt : k < r.count)
      (before : (j : ℕ) → r.first ≤ j → j < r.first + k → is_of line d track j ≡ false)
      (of : is_of line d track s ≡ true)
      (long : n ≡ longest (is_of line d track) s (r.count - k)) where
    few : n ≤ r.count - k
    few = omega (arith, long, longest_few (is_of line d track) s (r.count - k))

    each : (j : ℕ) → s ≤ j → j < s + n → is_of line d track j ≡ true
    each j low high = longest_each (is_of line d track) s (r.count - k) j low (omega (arith, long))

    first_in : within part s ≡ true
    first_in = from_part s (within_from r s (omega (arith, at)) (omega (arith, at, lt))) of

    pub some : 1 ≤ n
    some = ⊎_elim
        (λ (none : n < 1).
        let zero_is : longest (is_of line d track) s (r.count - k) ≡ 0 = omega (arith, long, none) in
        let here : s + longest (is_of line d track) s (r.count - k) ≡ s = omega (arith, zero_is) in
        absurd (both_ways (is_of line d track s)
        (ap (is_of line d track) (sym here)
        ∙ (longest_is (is_of line d track) s (r.count - k)).ends (omega (arith, zero_is, lt))) of))
        (λ (h : 1 ≤ n). h)
        (cases_lt n 1)

    to : (j : ℕ) → within (record { first = s; count = n }) j ≡ true → within part j ≡ true
    to j is =
        let ends = within_true (record { first = s; count = n }) j is in
        from_part j (within_from r j (omega (arith, at)) (omega (arith, at, lt, few))) (each j ends.0 ends.1)

    back : (j : ℕ) → within part j ≡ true → within (record { first = s; count = n }) j ≡ true
    back j is =
        let both = in_part j is in
        let ends = within_true r j both.0 in
        ⊎_elim
        (λ (low : j < s). absurd (both_ways (is_of line d track j) (before j ends.0 (omega (arith, at))) both.1))
        (λ (from : s ≤ j). ⊎_elim
        (λ (high : j < s + n). within_from (record { first = s; count = n }) j from high)
        (λ (past : s + n ≤ j).
        let most : longest (is_of line d track) s (r.count - k) < r.count - k = omega (arith, long, at, lt) in
        let ends_at : is_of line d track (s + n) ≡ false =
        ap (λ m. is_of line d track (s + m)) long ∙ (longest_is (is_of line d track) s (r.count - k)).ends most in
        absurd (both_ways (is_of line d track (s + n)) ends_at
        (in_part (s + n) (between part s (s + n) j (omega arith) past first_in is)).1))
        (cases_lt j (s + n)))
        (cases_lt j s)

    pub part_is : shared r (home_run line d track) ≡ record { first = s; count = n }
    part_is =
        sym (run_only (record { first = s; count = n }) part (some_count n some) (λ j. same_tests _ _ (to j) (back j)))

    pub part_range : HasRunRange 1 r.count (record { first = s; count = n })
    part_range =
        let first_below : s < 512 = of_line line d track s (ok (omega arith)) of in
        let last_below : s + n - 1 < 512 =
        of_line line d track (s + n - 1) (ok (omega arith))
        (each (s + n - 1) (omega (arith, some)) (omega (arith, some))) in
        record {
          first = omega (arith, first_below);
          count = (some, omega (arith, few));
          last = omega (arith, last_below, some);
        }

-- ## The frame that returns sections

frames_are : (line : Line) (c to t track : ℕ) (r : SectionRun) (k : Centre) (b : Bool)
    → ((to == c) || is_empty (shared r (home_run line to track))) ≡ b
    → (returned line c t track r k).frames to ≡ cond b [] (RouteReturn t (shared r (home_run line to track)) ∷ [])
frames_are line c to t track r k b is =
    ap (λ (x : Bool). cond x [] (RouteReturn t (shared r (home_run line to track)) ∷ [])) is

pub none_there : (line : Line) (c to t track : ℕ) (r : SectionRun) (k : Centre)
    → is_empty (shared r (home_run line to track)) ≡ true → (returned line c t track r k).frames to ≡ []
none_there line c to t track r k none = frames_are line c to t track r k true (or_right (to == c) _ none)

pub part_there : (line : Line) (c to t track : ℕ) (r q : SectionRun) (k : Centre) → (to ≡ c → ⊥)
    → shared r (home_run line to track) ≡ q → 1 ≤ q.count
    → (returned line c t track r k).frames to ≡ RouteReturn t q ∷ []
part_there line c to t track r q k other is some =
    frames_are line c to t track r k false
    (or_from (to == c) _ (ne_eqb to c other) (ap is_empty is ∙ some_count q.count some))
    ∙ ap (λ (x : SectionRun). RouteReturn t x ∷ []) is

-- the part of a run that was found is returned, unless the centre itself returns it
pub part_goes : (line : Line) (c to t track most : ℕ) (r : SectionRun) (o : Option SectionRunCode) (k : Centre)
    → (to ≡ c → ⊥)
    → is_none o ≡ is_empty (shared r (home_run line to track))
    → IfSome o (λ p. run_of p ≡ shared r (home_run line to track)) → IfSome o (λ p. HasRunRange 1 most (run_of p))
    → (returned line c t track r k).frames to ≡ option_map_or (λ p. RouteReturn t (run_of p) ∷ []) o []
part_goes line c to t track most r None k other none of range = none_there line c to t track r k (sym none)
part_goes line c to t track most r (Some p) k other none of range =
    part_there line c to t track r (run_of p) k other (sym of) range.count.0
