-- The sections that a place covers, and those in rear of its rear end.
use Rattle.std.proofs.Common.{[], ◌&&◌, ◌*◌, ◌++◌, ◌+◌, ◌-◌, ◌<◌, ◌==◌, ◌||◌, ◌∙◌, ◌∷◌, ◌≡◌, ◌≤◌, ◌⊎◌, ap, arith, Bool}
use Rattle.std.proofs.Common.{cond, eq-eqb, eqb-true, false, get_or, inl, inr, int_lt, le_antisymm, length}
use Rattle.std.proofs.Common.{length-append, List, lt-ltb, ltb-true, nat_lt, negsuc, None, Option, pos, refl, slice_get}
use Rattle.std.proofs.Common.{Some, subst, suc, sym, true, zero, ℕ, ℤ, ⊎_elim}
use Rattle.std.proofs.lemmas.Bool.{and_from, and_parts, both_ways, cases_lt, false_from_ne_true, false≢true, le-leb}
use Rattle.std.proofs.lemmas.Bool.{leb-false, leb-true, ltb-false, or_left, or_right}
use Rattle.std.proofs.lemmas.Bool.Decides.{nat_tests}
use Rattle.std.proofs.lemmas.List.{append-nil}
use Rattle.std.proofs.lemmas.List.Elements.{filter-append}
use Rattle.std.proofs.lemmas.Option.{slice_get_cases, slice_get_past, slice_get_within}
use Rattle.std.specs.List.{filter, range_with_len}
use Rattle.std.specs.Option.{option_map_or}
use Rattle.std.specs.Prelude.{int_le}
use Rattle.rbc_place.specs.Places.{is_in_rear, with_last}
use Rattle.rbc_spec.proofs.Places.{covers_from, covers_parts, ends_rise, on_section, section_on, starts_rise}
use Rattle.rbc_spec.specs.Line.{end, IsLine, Line, Section, section}
use Rattle.rbc_spec.specs.Place.{covered, covers, Place}
use Rattle.rbc_spec.specs.SectionRuns.{run_of, SectionRun}
use Rattle.rbc_spec.specs.Sections.{is_on}

-- # Sections that pass a test, as a run, one section after another.

-- of the first n sections, those that pass the test
abbrev pub IsFound : (ℕ → Bool) → ℕ → SectionRun → Type 0
IsFound test n r = (r ≡ run_of (filter test (range_with_len 0 n))) × (r.first + r.count ≤ n)

grown : (ss : List ℕ) (s : ℕ) → run_of (ss ++ s ∷ []) ≡ with_last (run_of ss) s
grown [] s = refl
grown (x ∷ ss) s =
    let some : ((length ss + 1) == 0) ≡ false = grind (arith, nat_tests) in
    ap (λ (n : ℕ). record { first = x; count = n + 1 }) (length-append ss (s ∷ []))
    ∙ sym
    (ap (λ b. cond {A = SectionRun} b (record { first = s; count = 1 })
    (record { first = x; count = length ss + 1 + 1 })) some)

range_more : (a n j : ℕ) → a + n ≡ j → range_with_len a (n + 1) ≡ range_with_len a n ++ j ∷ []
range_more a zero j is_next = ap (λ (m : ℕ). m ∷ []) (let e : a ≡ j = omega arith in e)
range_more a (suc n) j is_next =
    let e : suc n + 1 ≡ suc (n + 1) = omega arith in
    let next : a + 1 + n ≡ j = omega arith in
    ap (range_with_len a) e ∙ ap (λ xs. a ∷ xs) (range_more (a + 1) n j next)

one_of : (test : ℕ → Bool) (n : ℕ)
    → filter test (range_with_len 0 (n + 1)) ≡ filter test (range_with_len 0 n) ++ cond (test n) (n ∷ []) []
one_of test n =
    let next : 0 + n ≡ n = omega arith in
    ap (filter test) (range_more 0 n n next) ∙ filter-append test (range_with_len 0 n) (n ∷ [])

pub none_found : (test : ℕ → Bool) → IsFound test 0 (record { first = 0; count = 0 })
none_found test = (refl, omega arith)

ends_next : (r : SectionRun) (n : ℕ) → r.first + r.count ≤ n → (with_last r n).first + (with_last r n).count ≤ n + 1
ends_next r n within = by_test (r.count == 0)
  where
    by_test : (b : Bool)
        → (cond {A = SectionRun} b (record { first = n; count = 1 })
        (record { first = r.first; count = r.count + 1 })).first
        + (cond {A = SectionRun} b (record { first = n; count = 1 })
        (record { first = r.first; count = r.count + 1 })).count ≤ n + 1
    by_test true = omega arith
    by_test false = omega arith

pub found_more : (test : ℕ → Bool) (n : ℕ) (r next : SectionRun) → test n ≡ true → next ≡ with_last r n
    → IsFound test n r → IsFound test (n + 1) next
found_more test n r next passes is_next so_far =
    let first : next.first ≡ (with_last r n).first = ap (λ (q : SectionRun). q.first) is_next in
    let count : next.count ≡ (with_last r n).count = ap (λ (q : SectionRun). q.count) is_next in (
      is_next ∙ ap (λ (q : SectionRun). with_last q n) so_far.0 ∙ sym (grown (filter test (range_with_len 0 n)) n)
          ∙ sym (ap run_of (one_of test n ∙ ap (λ b. filter test (range_with_len 0 n) ++ cond b (n ∷ []) []) passes)),
      omega (arith, ends_next r n so_far.1, first, count),
    )

pub found_same : (test : ℕ → Bool) (n : ℕ) (r next : SectionRun) → test n ≡ false → next ≡ r → IsFound test n r
    → IsFound test (n + 1) next
found_same test n r next fails same so_far =
    let first : next.first ≡ r.first = ap (λ (q : SectionRun). q.first) same in
    let count : next.count ≡ r.count = ap (λ (q : SectionRun). q.count) same in (
      same ∙ so_far.0
          ∙ sym (ap run_of (one_of test n ∙ ap (λ b. filter test (range_with_len 0 n) ++ cond b (n ∷ []) []) fails
          ∙ append-nil (filter test (range_with_len 0 n)))),
      omega (arith, so_far.1, first, count),
    )

-- if none of the first n sections passes, none is found
pub none_up_to : (test : ℕ → Bool) (n : ℕ) → ((s : ℕ) → s < n → test s ≡ false)
    → IsFound test n (record { first = 0; count = 0 })
none_up_to test zero fail = none_found test
none_up_to test (suc n) fail =
    let e : suc n ≡ n + 1 = omega arith in
    subst (λ m. IsFound test m (record { first = 0; count = 0 })) (sym e)
    (found_same test n (record { first = 0; count = 0 }) (record { first = 0; count = 0 }) (fail n (omega arith)) refl
    (none_up_to test n (λ s lt. fail s (omega arith))))

-- if none of the sections after it passes, the result stays
pub found_all : (test : ℕ → Bool) (n k : ℕ) (r : SectionRun) → ((s : ℕ) → n ≤ s → test s ≡ false) → IsFound test n r
    → IsFound test (n + k) r
found_all test n zero r fail so_far = let e : n + zero ≡ n = omega arith in rw e so_far
found_all test n (suc k) r fail so_far =
    let e : n + suc k ≡ n + k + 1 = omega arith in
    rw e (found_same test (n + k) r r (fail (n + k) (omega arith)) refl (found_all test n k r fail so_far))

-- # Sections in rear of a rear end, and those in advance of it.

-- ---- rear ends

-- an end at or before a rear end
abbrev ends_by : Option ℤ → ℕ → Bool
ends_by rear n = option_map_or (λ r. int_le (pos n) r) rear true

-- an end past the rear end
abbrev ends_past : Option ℤ → ℕ → Bool
ends_past rear n = option_map_or (λ r. int_lt r (pos n)) rear false

earlier_by : (rear : Option ℤ) (a b : ℕ) → a ≤ b → ends_by rear b ≡ true → ends_by rear a ≡ true
earlier_by (Some (pos r)) a b le by = le-leb a r (omega (arith, leb-true b r by))
earlier_by (Some (negsuc r)) a b le by = by
earlier_by None a b le by = refl

not_both : (rear : Option ℤ) (n : ℕ) → ends_by rear n ≡ true → ends_past rear n ≡ true → ⊥
not_both (Some (pos r)) n by past = omega (arith, leb-true n r by, ltb-true r n past)
not_both (Some (negsuc r)) n by past = false≢true by
not_both None n by past = false≢true past

past_from : (rear : Option ℤ) (n : ℕ) → ends_by rear n ≡ false → ends_past rear n ≡ true
past_from (Some (pos r)) n off = lt-ltb r n (omega (arith, leb-false n r off))
past_from (Some (negsuc r)) n off = refl
past_from None n off = absurd (false≢true (sym off))

-- ---- tests

or_cases : (a b : Bool) → (a || b) ≡ true → (a ≡ true) ⊎ (b ≡ true)
or_cases true b h = inl refl
or_cases false b h = inr h

or_fails : (a b : Bool) → (a || b) ≡ false → (a ≡ false) × (b ≡ false)
or_fails true b h = absurd (false≢true (sym h))
or_fails false b h = (refl, h)

and_fails : (a b : Bool) → a ≡ true → (a && b) ≡ false → b ≡ false
and_fails true b is h = h
and_fails false b is h = absurd (false≢true is)

-- ---- sections

-- the test of a section in rear
abbrev tells : Line → ℕ → Option ℤ → ℕ → Section → Bool
tells line track rear s p = nat_lt p.track track || ((p.track == track) && ends_by rear (10 * end line s))

some_of : (f : Section → Bool) (o : Option Section) → option_map_or f o false ≡ true
    → (p : Section) × (o ≡ Some p) × (f p ≡ true)
some_of f (Some p) h = (p, refl, h)
some_of f None h = absurd (false≢true h)

-- a number before one of a section is one of a section
there : (line : Line) (s e : ℕ) (q : Section) → s ≤ e → section line e ≡ Some q
    → (p : Section) × (section line s ≡ Some p)
there line s e q le at =
    let bound : e < length line.sections = slice_get_within line.sections e q at in
    ⊎_elim
    (λ (h : (x : Section) × (s < length line.sections) × (slice_get line.sections s ≡ Some x)
    × (get_or line.sections s x ≡ x)).
    (h.0, h.2))
    (λ (h : (length line.sections ≤ s) × (slice_get line.sections s ≡ None)). absurd (omega arith))
    (slice_get_cases line.sections s).1

-- a section before one that is in rear is in rear
pub in_rear_before : (line : Line) → IsLine line → (track : ℕ) (rear : Option ℤ) (s e : ℕ) → s ≤ e
    → is_in_rear line track rear e ≡ true → is_in_rear line track rear s ≡ true
in_rear_before line ok track rear s e le h =
    let q = some_of (tells line track rear e) (section line e) h in
    let p = there line s e q.0 le q.1 in
    let order : p.0.track ≤ q.0.track = ok.tracks.in_order s e p.0 q.0 le p.1 q.1 in
    ap (λ o. option_map_or (tells line track rear s) o false) p.1 ∙ ⊎_elim
    (λ (earlier : nat_lt q.0.track track ≡ true).
    or_left _ _ (lt-ltb p.0.track track (omega (arith, ltb-true q.0.track track earlier, order))))
    (λ (same : ((q.0.track == track) && ends_by rear (10 * end line e)) ≡ true).
    let both = and_parts (q.0.track == track) (ends_by rear (10 * end line e)) same in
    let there_on : q.0.track ≡ track = eqb-true q.0.track track both.0 in
    ⊎_elim
    (λ (before : p.0.track < track). or_left _ _ (lt-ltb p.0.track track before))
    (λ (after : track ≤ p.0.track).
    let here : p.0.track ≡ track = le_antisymm (omega (arith, order, there_on)) after in
    let rises =
    ends_rise line track s e (on_section line track s p.0 (record { at = p.1; on = here }))
    (on_section line track e q.0 (record { at = q.1; on = there_on })) le in
    or_right _ _
    (and_from _ _ (eq-eqb p.0.track track here)
    (earlier_by rear (10 * end line s) (10 * end line e) (omega (arith, rises)) both.1)))
    (cases_lt p.0.track track))
    (or_cases (nat_lt q.0.track track) _ q.2)

-- a section after one that is ahead is ahead
pub ahead_after : (line : Line) → IsLine line → (track : ℕ) (rear : Option ℤ) (s e : ℕ) → s ≤ e
    → is_in_rear line track rear s ≡ false → is_in_rear line track rear e ≡ false
ahead_after line ok track rear s e le ahead = false_from_ne_true (is_in_rear line track rear e)
    (λ (is : is_in_rear line track rear e ≡ true).
    both_ways (is_in_rear line track rear s) ahead (in_rear_before line ok track rear s e le is))

-- after the last section all numbers are
pub ahead_past : (line : Line) (track : ℕ) (rear : Option ℤ) (s : ℕ) → length line.sections ≤ s
    → is_in_rear line track rear s ≡ false
ahead_past line track rear s past =
    ap (λ o. option_map_or (tells line track rear s) o false) (slice_get_past line.sections s past)

-- a section that is in rear is not covered
pub in_rear_not_covered : (line : Line) (place : Place) (s : ℕ) → is_in_rear line place.track place.rear s ≡ true
    → covers line place s ≡ false
in_rear_not_covered line place s h = false_from_ne_true (covers line place s) (λ (is : covers line place s ≡ true).
    let c = covers_parts line place s is in
    let p = section_on line place.track s c.on in
    let told : tells line place.track place.rear s p.0 ≡ true =
    sym (ap (λ o. option_map_or (tells line place.track place.rear s) o false) p.1.at) ∙ h in
    ⊎_elim
    (λ (earlier : nat_lt p.0.track place.track ≡ true).
    absurd (omega (arith, ltb-true p.0.track place.track earlier, p.1.on)))
    (λ (same : ((p.0.track == place.track) && ends_by place.rear (10 * end line s)) ≡ true).
    not_both place.rear (10 * end line s)
    (and_parts (p.0.track == place.track) (ends_by place.rear (10 * end line s)) same).1 c.ends)
    (or_cases (nat_lt p.0.track place.track) _ told))

-- after one that is ahead and not covered none is covered
pub ahead_not_covered : (line : Line) → IsLine line → (place : Place) (s e : ℕ) → s ≤ e
    → is_in_rear line place.track place.rear s ≡ false → covers line place s ≡ false → covers line place e ≡ false
ahead_not_covered line ok place s e le ahead off =
    false_from_ne_true (covers line place e) (λ (is : covers line place e ≡ true).
    let track = place.track in
    let c = covers_parts line place e is in
    let q = section_on line track e c.on in
    let p = there line s e q.0 le q.1.at in
    let order : p.0.track ≤ q.0.track = ok.tracks.in_order s e p.0 q.0 le p.1 q.1.at in
    let told : tells line track place.rear s p.0 ≡ false =
    sym (ap (λ o. option_map_or (tells line track place.rear s) o false) p.1) ∙ ahead in
    let fails = or_fails (nat_lt p.0.track track) ((p.0.track == track) && ends_by place.rear (10 * end line s)) told in
    let here : p.0.track ≡ track = le_antisymm (omega (arith, order, q.1.on)) (ltb-false p.0.track track fails.0) in
    let on : is_on line track s ≡ true = on_section line track s p.0 (record { at = p.1; on = here }) in
    let past =
    past_from place.rear (10 * end line s)
    (and_fails (p.0.track == track) (ends_by place.rear (10 * end line s)) (eq-eqb p.0.track track here) fails.1) in
    both_ways (covers line place s) off (covers_from line place s (record {
      on = on;
      begins = omega (arith, starts_rise line track s e on c.on le, c.begins);
      ends = past;
    })))

-- ---- the end of a track: without a rear end all of it is in rear

-- a section that is ahead is not on the track
pub ahead_off : (line : Line) (track s : ℕ) → is_in_rear line track None s ≡ false → is_on line track s ≡ false
ahead_off line track s ahead = false_from_ne_true (is_on line track s) (λ (on : is_on line track s ≡ true).
    let p = section_on line track s on in
    let told : tells line track None s p.0 ≡ false =
    sym (ap (λ o. option_map_or (tells line track None s) o false) p.1.at) ∙ ahead in
    let fails = or_fails (nat_lt p.0.track track) ((p.0.track == track) && true) told in
    false≢true (sym (and_fails (p.0.track == track) true (eq-eqb p.0.track track p.1.on) fails.1)))

-- if the last section in rear is not on the track, none before it is
pub earlier_off : (line : Line) → IsLine line → (track s e : ℕ) → s ≤ e → is_in_rear line track None e ≡ true
    → is_on line track e ≡ false → is_on line track s ≡ false
earlier_off line ok track s e le in_rear off =
    false_from_ne_true (is_on line track s) (λ (on : is_on line track s ≡ true).
    let q = some_of (tells line track None e) (section line e) in_rear in
    let p = section_on line track s on in
    let order : p.0.track ≤ q.0.track = ok.tracks.in_order s e p.0 q.0 le p.1.at q.1 in
    ⊎_elim
    (λ (earlier : nat_lt q.0.track track ≡ true).
    absurd (omega (arith, ltb-true q.0.track track earlier, order, p.1.on)))
    (λ (same : ((q.0.track == track) && true) ≡ true).
    both_ways (is_on line track e) off
    (on_section line track e q.0
    (record { at = q.1; on = eqb-true q.0.track track (and_parts (q.0.track == track) true same).0 })))
    (or_cases (nat_lt q.0.track track) _ q.2))

-- # The sections that a place covers, from the first that is ahead of its rear end to the first that is not covered.

-- nothing that is in rear is covered
pub covers_none : (line : Line) (place : Place) (first : ℕ)
    → ((s : ℕ) → s < first → is_in_rear line place.track place.rear s ≡ true)
    → IsFound (covers line place) first (record { first = 0; count = 0 })
covers_none line place first in_rear =
    none_up_to (covers line place) first (λ s lt. in_rear_not_covered line place s (in_rear s lt))

-- nothing is covered after the first section ahead that is not
pub covers_no_more : (line : Line) → IsLine line → (place : Place) (s : ℕ) (r : SectionRun) → s ≤ length line.sections
    → is_in_rear line place.track place.rear s ≡ false → covers line place s ≡ false → IsFound (covers line place) s r
    → r ≡ covered line place
covers_no_more line ok place s r bound ahead off so_far =
    let all : s + (length line.sections - s) ≡ length line.sections = omega arith in
    (found_all (covers line place) s (length line.sections - s) r
    (λ e le. ahead_not_covered line ok place s e le ahead off) so_far).0
    ∙ ap (λ n. run_of (filter (covers line place) (range_with_len 0 n))) all
