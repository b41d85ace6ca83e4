-- The next centre of a track is linked with the one before it, which does not follow it in turn.
use Rattle.std.proofs.Common.{[], ⊎_elim, ◌&&◌, ◌<◌, ◌==◌, ◌∙◌, ◌∷◌, ◌≡◌, ◌≢◌, ◌≤◌, ap, arith, Bool, cond, drop, false}
use Rattle.std.proofs.Common.{inl, inr, is_some, length, List, None, not, Option, option_map, refl, slice_get, Some}
use Rattle.std.proofs.Common.{suc, sym, true, zero, ℕ}
use Rattle.std.proofs.lemmas.Bool.{and_from, and_parts, cases_lt, eqb-true, lt-ltb}
use Rattle.std.proofs.lemmas.Bool.Decides.{eqb_tells}
use Rattle.std.proofs.lemmas.List.Elements.{All-head, All-tail}
use Rattle.std.proofs.lemmas.Option.{same_Some}
use Rattle.std.specs.List.{All, find, zip}
use Rattle.std.specs.Option.{option_map_or}
use Rattle.law_base.proofs.CountingLemmas.Sums.{one_if_le_one, sum_only, sum_zero}
use Rattle.law_base.specs.Counting.Resource.{allowed}
use Rattle.law_base.specs.Counting.Sums.{one_if, sum_below}
use Rattle.law_invariants.specs.Flow.Counts.{rights}
use Rattle.law_invariants.specs.Flow.Flow.{Flow}
use Rattle.law_invariants.specs.Flow.Neighbours.{AreNeighbours}
use Rattle.law_invariants.specs.Flow.Sound.{HasComeTo}
use Rattle.rbc_spec.proofs.Lists.{one_home}
use Rattle.rbc_spec.proofs.Places.{section_on}
use Rattle.rbc_spec.specs.Acts.{begun}
use Rattle.rbc_spec.specs.Line.{is_centre, is_home, is_joint, is_linked, IsLine, Line, next_centre, registrar, seams}
use Rattle.rbc_spec.specs.Line.{Section, section}
use Rattle.rbc_spec.specs.Place.{covered, Place}
use Rattle.rbc_spec.specs.SectionRuns.{within}
use Rattle.rbc_spec.specs.Sections.{is_on}

abbrev Seam : Type 0
Seam = Section × Section

record Found (test : Seam → Bool) (xs ys : List Section) (seam : Seam) : Type 0 where
  place : ℕ
  first : slice_get xs place ≡ Some seam.0
  second : slice_get ys place ≡ Some seam.1
  passes : test seam ≡ true

find_seam : (test : Seam → Bool) (xs ys : List Section) (seam : Seam) → find test (zip xs ys) ≡ Some seam
    → Found test xs ys seam
find_seam test [] ys seam is = cc
find_seam test (x ∷ xs) [] seam is = cc
find_seam test (x ∷ xs) (y ∷ ys) seam is = by_test (test (x, y)) refl is (find_seam test xs ys seam)
  where
    by_test : (b : Bool) → test (x, y) ≡ b → cond b (Some (x, y)) (find test (zip xs ys)) ≡ Some seam
        → (find test (zip xs ys) ≡ Some seam → Found test xs ys seam) → Found test (x ∷ xs) (y ∷ ys) seam
    by_test true h e later = let same : (x, y) ≡ seam = same_Some (x, y) seam e in
        record {
          place = 0;
          first = ap (λ (s : Seam). Some (s.0)) same;
          second = ap (λ (s : Seam). Some (s.1)) same;
          passes = ap test (sym same) ∙ h;
        }
    by_test false h e later = let more = later e in
        record { place = suc more.place; first = more.first; second = more.second; passes = more.passes }

after_one : {X : Type 0} (xs : List X) (i : ℕ) → slice_get (drop 1 xs) i ≡ slice_get xs (suc i)
after_one [] i = refl
after_one (x ∷ xs) i = refl

differ : (a b : ℕ) → not (a == b) ≡ true → a ≢ b
differ a b is same = elim (eqb_tells a b) [
  | inl e ↦ let wrong : false ≡ true = sym (ap not e.0) ∙ is in
      cc
  | inr e ↦ e.1 same
]

apart_is : (a b : ℕ) → a ≢ b → not (a == b) ≡ true
apart_is a b e = elim (eqb_tells a b) [ inl x ↦ absurd (e x.1) | inr x ↦ ap not x.0 ]

-- the home of a section is a centre of the line
module _ (line : Line) (ok : IsLine line) where
  abbrev InRange : Section → Type 0
  InRange q = (q.track < length line.tracks) × (100 ≤ q.metres) × (q.metres ≤ 2000)
      × (q.home < length line.centres) × (q.balise ≤ 16382)

  pub home_below : (s : ℕ) (p : Section) → section line s ≡ Some p → is_centre line p.home ≡ true
  home_below s p at = each line.sections s ok.ranges.sections at
    where
      each : (xs : List Section) (i : ℕ) → All InRange xs → slice_get xs i ≡ Some p → is_centre line p.home ≡ true
      each [] zero all is = cc
      each [] (suc i) all is = cc
      each (x ∷ xs) zero all is = ap (λ (q : Section). is_centre line q.home) (sym (same_Some x p is))
          ∙ lt-ltb x.home (length line.centres) (All-head InRange x xs all).3
      each (x ∷ xs) (suc i) all is = each xs i (All-tail InRange x xs all) is

module _ (line : Line) (ok : IsLine line) (a track b : ℕ) (next : next_centre line a track ≡ Some b) where
  test : ℕ → Seam → Bool
  test c seam = ((is_joint seam && (seam.0.track == track)) && (seam.0.home == c)) && not (seam.1.home == c)

  abbrev test_of : ℕ → Seam → Bool
  test_of c seam = ((is_joint seam && (seam.0.track == track)) && (seam.0.home == c)) && not (seam.1.home == c)

  -- the border: sections i and i + 1 of the track, of homes c and d
  record Border (c d : ℕ) : Type 0 where
    seam : Seam
    found : find (test_of c) (seams line) ≡ Some seam
    at : ℕ
    first : section line at ≡ Some seam.0
    second : section line (suc at) ≡ Some seam.1
    one_track : seam.0.track ≡ seam.1.track
    track_is : seam.0.track ≡ track
    from : seam.0.home ≡ c
    to : seam.1.home ≡ d
    apart : seam.1.home ≢ c

  border : (c d : ℕ) → next_centre line c track ≡ Some d → Border c d
  border c d is = by_find (find (test_of c) (seams line)) refl is
    where
      by_find : (o : Option Seam) → find (test_of c) (seams line) ≡ o
          → option_map (λ (s : Seam). s.1.home) o ≡ Some d → Border c d
      by_find None e h = cc
      by_find (Some s) e h =
          let found = find_seam (test_of c) line.sections (drop 1 line.sections) s e in
          let parts = and_parts ((is_joint s && (s.0.track == track)) && (s.0.home == c))
          (not (s.1.home == c)) found.passes in
          let more = and_parts (is_joint s && (s.0.track == track)) (s.0.home == c) parts.0 in
          let on = and_parts (is_joint s) (s.0.track == track) more.0 in
          record {
            seam = s;
            found = e;
            at = found.place;
            first = found.first;
            second = sym (after_one line.sections found.place) ∙ found.second;
            one_track = eqb-true s.0.track s.1.track on.0;
            track_is = eqb-true s.0.track track on.1;
            from = eqb-true s.0.home c more.1;
            to = same_Some s.1.home d h;
            apart = differ s.1.home c parts.1;
          }

  pub onward : next_centre line b track ≡ Some a → ⊥
  onward back =
      let one = border a b next in
      let two = border b a back in
      ⊎_elim
      (λ (before : one.at < suc two.at).
      one.apart (ok.homes one.at (suc one.at) (suc two.at) one.seam.0 one.seam.1 two.seam.1 (omega arith)
      (omega (arith, before)) one.first one.second two.second
      (one.track_is ∙ sym two.track_is ∙ two.one_track) (one.from ∙ sym two.to) ∙ one.from))
      (λ (after : suc two.at ≤ one.at).
      two.apart (ok.homes two.at (suc two.at) (suc one.at) two.seam.0 two.seam.1 one.seam.1 (omega arith)
      (omega (arith, after)) two.first two.second one.second
      (two.track_is ∙ sym one.track_is ∙ one.one_track) (two.from ∙ sym one.to) ∙ two.from))
      (cases_lt one.at (suc two.at))

  pub linked : is_linked line b a ≡ true
  linked =
      let one = border a b next in
      let centre_a : is_centre line a ≡ true = ap (is_centre line) (sym one.from)
      ∙ home_below line ok one.at one.seam.0 one.first in
      let centre_b : is_centre line b ≡ true = ap (is_centre line) (sym one.to)
      ∙ home_below line ok (suc one.at) one.seam.1 one.second in
      and_from _ _ (and_from _ _ centre_b centre_a) (apart_is b a (λ e. one.apart (one.to ∙ e)))

  -- a section of the track whose home is c
  home_at : (c s : ℕ) → is_on line track s ≡ true → is_home line c s ≡ true → (p : Section) × (section line s ≡ Some p)
      × (p.track ≡ track) × (p.home ≡ c)
  home_at c s on home =
      let p = section_on line track s on in (
        p.0,
        p.1.at,
        p.1.on,
        eqb-true p.0.home c (sym (ap (λ o. option_map_or (λ (q : Section). q.home == c) o false) p.1.at) ∙ home),
      )

  -- the sections of the next centre have greater numbers
  pub later : (s e : ℕ) → is_on line track s ≡ true → is_home line a s ≡ true → is_on line track e ≡ true
      → is_home line b e ≡ true → s < e
  later s e s_on s_home e_on e_home =
      let one = border a b next in
      let p = home_at a s s_on s_home in
      let q = home_at b e e_on e_home in
      ⊎_elim
      (λ (before : s < e). before)
      (λ (past : e ≤ s). absurd (⊎_elim
      (λ (low : one.at < s).
      one.apart (ok.homes one.at (suc one.at) s one.seam.0 one.seam.1 p.0 (omega arith)
      (omega (arith, low)) one.first one.second p.1
      (one.track_is ∙ sym p.2) (one.from ∙ sym p.3) ∙ one.from))
      (λ (high : s ≤ one.at).
      one.apart (one.to
      ∙ sym (sym p.3 ∙ ok.homes e s (suc one.at) q.0 p.0 one.seam.1 past (omega (arith, high)) q.1 p.1 one.second
      (q.2 ∙ sym one.track_is ∙ one.one_track) (q.3 ∙ sym one.to) ∙ q.3)))
      (cases_lt one.at s)))
      (cases_lt s e)

-- the next centre is another, so no section is of both
pub next_apart : (line : Line) (c d track : ℕ) → next_centre line c track ≡ Some d → d ≢ c
next_apart line c d track is = by_find (find test (seams line)) refl is
  where
    test : Seam → Bool
    test seam = ((is_joint seam && (seam.0.track == track)) && (seam.0.home == c)) && not (seam.1.home == c)

    by_find : (o : Option Seam) → find test (seams line) ≡ o → option_map (λ (s : Seam). s.1.home) o ≡ Some d → d ≢ c
    by_find None e h = cc
    by_find (Some s) e h =
        λ same. differ s.1.home c (and_parts ((is_joint s && (s.0.track == track)) && (s.0.home == c))
        (not (s.1.home == c)) (find_seam test line.sections (drop 1 line.sections) s e).passes).1
        (same_Some s.1.home d h ∙ same)

-- a mission that begins with only sections of home c has not reached the next centre
pub begun_ends : (line : Line) (c d n s : ℕ) (place : Place) → next_centre line c place.track ≡ Some d
    → ((e : ℕ) → within (covered line place) e ≡ true → is_home line c e ≡ true)
    → HasComeTo line d (begun line place) → is_home line n s ≡ false
begun_ends line c d n s place next own come = absurd (⊎_elim
    (λ (stands : is_some (begun line place).handing ≡ true). let wrong : false ≡ true = stands in let no : ⊥ = cc in no)
    (λ (some : (e : ℕ) × (within (covered line place) e ≡ true) × (is_home line d e ≡ true)).
    next_apart line c d place.track next (sym (one_home line c d some.0 (own some.0 some.1) some.2)))
    come)

not_next : (line : Line) → IsLine line → (a b track : ℕ) → next_centre line a track ≡ Some b → (o : Option ℕ)
    → next_centre line b track ≡ o → option_map_or (λ n. n == a) o false ≡ false
not_next line ok a b track next None is = refl
not_next line ok a b track next (Some n) is =
    elim (eqb_tells n a) [ inl e ↦ absurd (onward line ok a track b next (is ∙ ap (λ x. Some x) e.1)) | inr e ↦ e.0 ]

one_at_most : (line : Line) (t n : ℕ) → (o : Option ℕ)
    → sum_below n (λ c. one_if (option_map_or (λ r. r == c) o false)) ≤ 1
one_at_most line t n None = omega (arith, sum_zero n (λ c. one_if false) (λ c at. refl))
one_at_most line t n (Some r) = ⊎_elim
    (λ (at : r < n).
    omega (
      arith,
      sum_only n (λ c. one_if (r == c)) r at
          (λ c below apart. elim (eqb_tells r c) [ inl e ↦ absurd (apart (sym e.1)) | inr e ↦ ap one_if e.0 ]),
      one_if_le_one (r == r),
    ))
    (λ (past : n ≤ r).
    omega (
      arith,
      sum_zero n (λ c. one_if (r == c))
          (λ c below. elim (eqb_tells r c) [
            | inl e ↦ absurd (let no : ⊥ = omega (arith, e.1) in no)
            | inr e ↦ ap one_if e.0
          ]),
    ))
    (cases_lt r n)

pub neighbours : (line : Line) → IsLine line → AreNeighbours line
neighbours line ok = record {
  linked = λ a b track next. linked line ok a track b next;
  onward = λ a b track next. not_next line ok a b track next (next_centre line b track) refl;
  later = λ a b track s e next. later line ok a track b next s e;
}

-- a train has one registrar at most
pub one_registrar : (line : Line) (t n : ℕ) (w : Flow) → allowed (rights line t) n w ≤ 1
unfolding allowed
one_registrar line t n w = one_at_most line t n (registrar line t)
