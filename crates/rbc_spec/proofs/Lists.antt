-- Laws of lists, of sections, homes and trains of a line, and of functions with another value at one place.
use Rattle.std.proofs.Common.{[], ⊎_elim, ◌++◌, ◌+◌, ◌<◌, ◌==◌, ◌||◌, ◌∙◌, ◌∷◌, ◌≡◌, ◌≤◌, ◌⊎◌, ap, arith, Bool, cond}
use Rattle.std.proofs.Common.{eq-eqb, eqb-true, false, if◌then◌else◌, inl, inr, is_none, length, List, None, Option}
use Rattle.std.proofs.Common.{option_map, refl, slice_get, Some, subst, suc, sym, true, zero, ℕ}
use Rattle.std.proofs.lemmas.Bool.{and_from, and_parts, cond-false, cond-true, ne_eqb, or_left, or_right}
use Rattle.std.proofs.lemmas.Bool.Decides.{eqb_tells}
use Rattle.std.proofs.lemmas.List.Elements.{All-get_or, All-head, All-tail}
use Rattle.std.proofs.lemmas.Option.{get_or_from_slice_get, same_Some, slice_get_within}
use Rattle.std.specs.List.{All, filter, find, list_all, list_any, range_with_len}
use Rattle.std.specs.Option.{option_map_or}
use Rattle.rbc_spec.proofs.Places.{section_on}
use Rattle.rbc_spec.specs.Centre.{Entry, is_taken_for, Open, Out, Shut, Taken}
use Rattle.rbc_spec.specs.Line.{is_home, IsLine, Line, registrar, Section, section, Train}
use Rattle.rbc_spec.specs.Maps.{put, put_pair}
use Rattle.rbc_spec.specs.Sections.{is_on}

-- # Laws of lists, and of ranges of numbers under a test.

pub none_is : {X : Type 0} (o : Option X) → is_none o ≡ true → o ≡ None
none_is None is = refl
none_is (Some x) is = cc

-- a property of each item holds of the item at a position
pub each_at : {X : Type 0} (P : X → Type 0) (xs : List X) (i : ℕ) (x : X) → All P xs → slice_get xs i ≡ Some x → P x
each_at P xs i x all at = subst P (get_or_from_slice_get xs i x x at)
    (All-get_or P xs i x (slice_get_within xs i x at) all)

-- an item of a joined list is an item of the first list or of the second
pub get_append : {X : Type 0} (xs ys : List X) (i : ℕ) (x : X) → slice_get (xs ++ ys) i ≡ Some x
    → (slice_get xs i ≡ Some x) ⊎ ((j : ℕ) × (i ≡ length xs + j) × (slice_get ys j ≡ Some x))
get_append [] ys i x is = inr (i, omega arith, is)
get_append (y ∷ xs) ys zero x is = inl is
get_append (y ∷ xs) ys (suc i) x is = ⊎_elim
    (λ (front : slice_get xs i ≡ Some x). inl front)
    (λ (back : (j : ℕ) × (i ≡ length xs + j) × (slice_get ys j ≡ Some x)). inr (back.0, omega (arith, back.1), back.2))
    (get_append xs ys i x is)

pub there_is : {X : Type 0} (o : Option X) → is_none o ≡ false → (x : X) × (o ≡ Some x)
there_is None is = cc
there_is (Some x) is = (x, refl)

-- ## Found items

first_fails : {X : Type 0} (b : Bool) (x : X) (o : Option X) → (if b then Some x else o) ≡ None
    → (b ≡ false) × (o ≡ None)
first_fails true x o none = cc
first_fails false x o none = (refl, none)

-- if none is found, no item passes
pub none_passes : {X : Type 0} (test : X → Bool) (xs : List X) (n : ℕ) (x : X) → find test xs ≡ None
    → slice_get xs n ≡ Some x → test x ≡ false
none_passes test [] n x none at = cc
none_passes test (y ∷ ys) zero x none at =
    let here : y ≡ x = cc in
    ap test (sym here) ∙ (first_fails (test y) y (find test ys) none).0
none_passes test (y ∷ ys) (suc n) x none at = none_passes test ys n x (first_fails (test y) y (find test ys) none).1 at

-- a property of each item holds of the found one
pub find_gives : {X : Type 0} (P : X → Type 0) (test : X → Bool) (xs : List X) (x : X) → All P xs
    → find test xs ≡ Some x → P x
find_gives P test [] x all is = cc
find_gives P test (y ∷ ys) x all is = by_test (test y) is (λ e. find_gives P test ys x (All-tail P y ys all) e)
  where
    by_test : (b : Bool) → (if b then Some y else find test ys) ≡ Some x → (find test ys ≡ Some x → P x) → P x
    by_test true e later = subst P (same_Some y x e) (All-head P y ys all)
    by_test false e later = later e

-- ## Ranges

-- a test that nothing passes leaves an empty list
pub filter-none : {X : Type 0} (xs : List X) → filter (λ _. false) xs ≡ []
filter-none [] = refl
filter-none (x ∷ xs) = filter-none xs

-- the numbers of a longer range
pub range-append : (a n m : ℕ) → range_with_len a (n + m) ≡ range_with_len a n ++ range_with_len (a + n) m
range-append a zero m =
    let at : 0 + m ≡ m = omega arith in
    let from : a ≡ a + 0 = omega arith in
    ap (range_with_len a) at ∙ ap (λ k. range_with_len k m) from
range-append a (suc n) m =
    let at : suc n + m ≡ suc (n + m) = omega arith in
    let from : a + 1 + n ≡ a + suc n = omega arith in
    ap (range_with_len a) at ∙ ap (λ ss. a ∷ ss) (range-append (a + 1) n m
    ∙ ap (λ k. range_with_len (a + 1) n ++ range_with_len k m) from)

-- a test that fails all along a range leaves nothing of it
pub filter-range_none : (test : ℕ → Bool) (a n : ℕ) → ((s : ℕ) → a ≤ s → s < a + n → test s ≡ false)
    → filter test (range_with_len a n) ≡ []
filter-range_none test a zero none = refl
filter-range_none test a (suc n) none =
    rw (none a (omega arith) (omega arith))
    (filter-range_none test (a + 1) n (λ s low high. none s (omega arith) (omega arith)))

-- whether a number of the range passes
pub any-range_none : (test : ℕ → Bool) (a n : ℕ) → ((s : ℕ) → a ≤ s → s < a + n → test s ≡ false)
    → list_any test (range_with_len a n) ≡ false
any-range_none test a zero none = refl
any-range_none test a (suc n) none =
    rw (none a (omega arith) (omega arith))
    (any-range_none test (a + 1) n (λ s low high. none s (omega arith) (omega arith)))

pub any-range : (test : ℕ → Bool) (a n s : ℕ) → a ≤ s → s < a + n → test s ≡ true
    → list_any test (range_with_len a n) ≡ true
any-range test a zero s low high passes = absurd (let no : ⊥ = omega arith in no)
any-range test a (suc n) s low high passes = elim (eqb_tells s a) [
  | inl e ↦ or_left (test a) (list_any test (range_with_len (a + 1) n)) (ap test (sym (e.1)) ∙ passes)
  | inr e ↦ let apart = e.1 in or_right (test a) (list_any test (range_with_len (a + 1) n))
      (any-range test (a + 1) n s (omega (arith, apart)) (omega arith) passes)
]

-- if some number of a range passes, here is one
pub any-range_some : (test : ℕ → Bool) (a n : ℕ) → list_any test (range_with_len a n) ≡ true → (s : ℕ) × (a ≤ s)
    × (s < a + n) × (test s ≡ true)
any-range_some test a zero is = cc
any-range_some test a (suc n) is = by_test (test a) refl is (any-range_some test (a + 1) n)
  where
    by_test : (b : Bool) → test a ≡ b → (b || list_any test (range_with_len (a + 1) n)) ≡ true
        → (list_any test (range_with_len (a + 1) n) ≡ true → (s : ℕ) × (a + 1 ≤ s) × (s < a + 1 + n) × (test s ≡ true))
        → (s : ℕ) × (a ≤ s) × (s < a + suc n) × (test s ≡ true)
    by_test true passes is later = (a, omega arith, omega arith, passes)
    by_test false fails is later = let it = later is in let low = it.1 in let high = it.2 in
        (it.0, omega (arith, low), omega (arith, high), it.3)

-- the only number of a range that passes is found
pub find-range : (test : ℕ → Bool) (a n s : ℕ) → a ≤ s → s < a + n → test s ≡ true
    → ((e : ℕ) → a ≤ e → e < s → test e ≡ false) → find test (range_with_len a n) ≡ Some s
find-range test a zero s low high passes first = absurd (let no : ⊥ = omega arith in no)
find-range test a (suc n) s low high passes first = elim (eqb_tells s a) [
  | inl e ↦ rw (ap test (sym (e.1)) ∙ passes) (ap (λ x. Some x) (sym (e.1)))
  | inr e ↦ let apart = e.1 in rw (first a (omega arith) (omega (arith, apart)))
      (find-range test (a + 1) n s (omega (arith, apart)) (omega arith) passes (λ k l h. first k (omega arith) h))
]

-- if all numbers of a range pass, each does
pub each_of : (test : ℕ → Bool) (first count : ℕ) → list_all test (range_with_len first count) ≡ true → (s : ℕ)
    → first ≤ s → s < first + count → test s ≡ true
each_of test first zero all s low high = absurd (let no : ⊥ = omega arith in no)
each_of test first (suc count) all s low high =
    let parts = and_parts (test first) (list_all test (range_with_len (first + 1) count)) all in
    elim (eqb_tells s first) [
      | inl e ↦ ap test (e.1) ∙ parts.0
      | inr e ↦ let apart = e.1 in each_of test (first + 1) count parts.1 s (omega (arith, apart)) (omega arith)
    ]

pub all_from : (test : ℕ → Bool) (first count : ℕ) → ((s : ℕ) → first ≤ s → s < first + count → test s ≡ true)
    → list_all test (range_with_len first count) ≡ true
all_from test first zero each = refl
all_from test first (suc count) each =
    and_from (test first) (list_all test (range_with_len (first + 1) count)) (each first (omega arith) (omega arith))
    (all_from test (first + 1) count (λ s low high. each s (omega arith) (omega arith)))

-- # Laws of sections, homes and trains of a line, and of the book's entries.

-- a section has one home
pub one_home : (line : Line) (c d s : ℕ) → is_home line c s ≡ true → is_home line d s ≡ true → c ≡ d
one_home line c d s = by_section (section line s)
  where
    by_section : (o : Option Section) → option_map_or (λ p. p.home == c) o false ≡ true
        → option_map_or (λ p. p.home == d) o false ≡ true → c ≡ d
    by_section None a b = cc
    by_section (Some p) a b = sym (eqb-true p.home c a) ∙ eqb-true p.home d b

-- a section of a track is of the line
pub on_line : (line : Line) (track s : ℕ) → is_on line track s ≡ true → s < length line.sections
on_line line track s on = let p = section_on line track s on in slice_get_within line.sections s p.0 p.1.at

-- two tracks of one section are one
pub one_track : (line : Line) (s a b : ℕ) → is_on line a s ≡ true → is_on line b s ≡ true → a ≡ b
one_track line s a b one two =
    let p = section_on line a s one in
    let q = section_on line b s two in
    sym p.1.on ∙ ap (λ (x : Section). x.track) (same_Some p.0 q.0 (sym p.1.at ∙ q.1.at)) ∙ q.1.on

-- a train's registrar is a centre of the line
pub registrar_below : (line : Line) → IsLine line → (t r : ℕ) → registrar line t ≡ Some r → r < length line.centres
registrar_below line ok t r is = by_train (find (λ p. p.nid_engine == t) line.trains) refl is
  where
    by_train : (o : Option Train) → find (λ p. p.nid_engine == t) line.trains ≡ o
        → option_map (λ p. p.registrar) o ≡ Some r → r < length line.centres
    by_train None found h = cc
    by_train (Some p) found h =
        let fits = find_gives (λ q. (q.nid_engine ≤ 16777215) × (q.registrar < length line.centres))
        (λ q. q.nid_engine == t) line.trains p ok.ranges.trains found in
        omega (arith, fits.1, same_Some p.registrar r h)

-- ## Entries of the book

pub taken_is : (t : ℕ) (e : Entry) → is_taken_for t e ≡ true → e ≡ Taken t
taken_is t Shut h = cc
taken_is t Open h = cc
taken_is t (Taken u) h = ap (λ (x : ℕ). Taken x) (eqb-true u t h)
taken_is t (Out u) h = cc

-- # Laws of functions with another value at one place, or at one pair.

-- a value that a change of one centre keeps is kept at every centre
pub put_keeps : {X Y : Type 0} (f : X → Y) (at : ℕ → X) (c : ℕ) (new : X) → f new ≡ f (at c) → (d : ℕ)
    → f (put at c new d) ≡ f (at d)
put_keeps f at c new same d = elim (eqb_tells d c) as (λ _. f (put at c new d) ≡ f (at d)) [
  | inl e ↦ rw (e.0) (same ∙ ap (λ k. f (at k)) (sym e.1))
  | inr e ↦ rw (e.0) refl
]

-- a change of one train at one centre is a change at one pair
pub put_at_pair : {X Y : Type 0} (f : X → ℕ → Y) (at : ℕ → X) (c : ℕ) (new : X) (t : ℕ) (value : Y)
    → ((u : ℕ) → f new u ≡ put (f (at c)) t value u) → (u d : ℕ)
    → f (put at c new d) u ≡ put_pair (λ v b. f (at b) v) t c value u d
put_at_pair f at c new t value changed u d =
    elim (eqb_tells d c) as (λ _. f (put at c new d) u ≡ put_pair (λ v b. f (at b) v) t c value u d) [
      | inl e ↦ elim (eqb_tells u t) as (λ _. f (put at c new d) u ≡ put_pair (λ v b. f (at b) v) t c value u d) [
        | inl g ↦ rw (e.0, g.0) (changed u ∙ rw (g.0) (rw (e.0) refl))
        | inr g ↦ rw (e.0, g.0) (changed u ∙ rw (g.0) (ap (λ k. f (at k) u) (sym e.1)))
      ]
      | inr e ↦ elim (eqb_tells u t) as (λ _. f (put at c new d) u ≡ put_pair (λ v b. f (at b) v) t c value u d) [
        | inl g ↦ rw (e.0, g.0) (rw (e.0) (ap (λ k. f (at d) k) (g.1)))
        | inr g ↦ rw (e.0, g.0) refl
      ]
    ]

-- the function at the changed number, and elsewhere
pub put_here : {X : Type 0} (f : ℕ → X) (t u : ℕ) (x : X) → u ≡ t → put f t x u ≡ x
put_here f t u x e = cond-true (u == t) x (f u) (eq-eqb u t e)

pub put_other : {X : Type 0} (f : ℕ → X) (t u : ℕ) (x : X) → (u ≡ t → ⊥) → put f t x u ≡ f u
put_other f t u x apart = cond-false (u == t) x (f u) (ne_eqb u t apart)

pub put_there : {X : Type 0} (f : ℕ → X) (t : ℕ) (x : X) → put f t x t ≡ x
put_there f t x = put_here f t t x refl

-- putting twice is putting the last
pub put_over : {X : Type 0} (t : ℕ) (x y : X) (f : ℕ → X) (u : ℕ) → put (put f t y) t x u ≡ put f t x u
put_over t x y f u = elim (u == t) as (λ b. cond b x (cond b y (f u)) ≡ cond b x (f u)) [ true ↦ refl | false ↦ refl ]

-- to put the value that is there changes nothing
pub put_same : {X : Type 0} (t : ℕ) (x : X) (f : ℕ → X) → f t ≡ x → (u : ℕ) → put f t x u ≡ f u
put_same t x f there u = elim (eqb_tells u t) as (λ _. put f t x u ≡ f u) [
  | inl e ↦ rw (e.0) (sym there ∙ ap f (sym e.1))
  | inr e ↦ rw (e.0) refl
]

-- to put the value that is there at a pair changes nothing
pub put_pair_there : {X : Type 0} (f : ℕ → ℕ → X) (t c : ℕ) (x : X) → put_pair f t c x t c ≡ x
put_pair_there f t c x = elim (eqb_tells t t) as (λ _. put_pair f t c x t c ≡ x) [
  | inl e ↦ elim (eqb_tells c c) as (λ _. put_pair f t c x t c ≡ x) [
    | inl g ↦ rw (e.0, g.0) refl
    | inr g ↦ absurd (g.1 refl)
  ]
  | inr e ↦ absurd (e.1 refl)
]

-- a number is itself
pub itself : (t : ℕ) → (t == t) ≡ true
itself t = eq-eqb t t refl

-- a property of each value of a function holds after a change at one number, if the new value has it
pub put_holds : {X : Type 0} (P : ℕ → X → Type 0) (f : ℕ → X) (t : ℕ) (x : X) → ((u : ℕ) → P u (f u)) → P t x
    → (u : ℕ) → P u (put f t x u)
put_holds P f t x old new u = elim (eqb_tells u t) as (λ _. P u (put f t x u)) [
  | inl e ↦ rw (e.0) (subst (λ v. P v x) (sym e.1) new)
  | inr e ↦ rw (e.0) (old u)
]
