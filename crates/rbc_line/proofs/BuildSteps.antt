-- The lists of a line, one item at a time.
use Rattle.std.proofs.Common.{[], ◌*◌, ◌++◌, ◌+◌, ◌<◌, ◌==◌, ◌||◌, ◌∙◌, ◌∷◌, ◌≡◌, ◌≢◌, ◌≤◌, ap, arith, Bool, Bor, cond}
use Rattle.std.proofs.Common.{false, get_or, get_or-set_other, get_or-set_same, inl, inr, length, List, map, None, not}
use Rattle.std.proofs.Common.{option_map, refl, set, Some, subst, suc, sym, take, true, unwrap_or, zero, ℕ}
use Rattle.std.proofs.lemmas.Bool.{cases_Bool, cases_eq, cases_lt, false≢true}
use Rattle.std.proofs.lemmas.Bool.Decides.{nat_tests}
use Rattle.std.proofs.lemmas.List.{length-map, map-append, map_more, take-append-le, take_all}
use Rattle.std.proofs.lemmas.List.Sums.{sum_by-cons}
use Rattle.std.proofs.lemmas.Option.{none-some, same_Some, slice_get-get_or, slice_get-map}
use Rattle.std.specs.List.{filter, list_any, position, slice_get, sum_by}
use Rattle.std.specs.Str.{bytes_eq}
use Rattle.rbc_line.proofs.FileFacts.{none_at, position_found}
use Rattle.rbc_line.proofs.Numbered.{Ascends-at}
use Rattle.rbc_line.specs.declared.draft.DraftSection.{DraftSection}
use Rattle.rbc_line.specs.declared.parts.Section.{Section}
use Rattle.rbc_line.specs.DraftViews.{section_view}
use Rattle.rbc_line.specs.Homes.{HasOwnStarts}
use Rattle.rbc_line.specs.LineFile.{centre_number, FileCentre}
use Rattle.rbc_line.specs.Tested.{Ascends, IsKnown}

-- a test that no element passes fails at each item of a slice
pub item_fails : {X Y : Type 0} (f : X → Y) (p : Y → Bool) (xs ys : List X) (i : ℕ) (d : X) → ys ≡ xs
    → list_any p (map f xs) ≡ false → i < length ys → p (f (get_or ys i d)) ≡ false
item_fails f p xs ys i d same none within =
    none_at p (map f ys) i (f (get_or ys i d)) (rw same none)
    (slice_get-map f ys i ∙ ap (option_map f) (slice_get-get_or ys i d within))

pub true_of_not : (b : Bool) → not b ≡ false → b ≡ true
true_of_not true h = refl
true_of_not false h = absurd (false≢true (sym h))

pub first_fails : (a b : Bool) → (a || b) ≡ false → a ≡ false
first_fails true b h = absurd (false≢true (sym h))
first_fails false b h = refl

-- ## The number of a centre

pub known_has_place : (centres : List FileCentre) (name : List ℕ) → IsKnown centres name
    → None ≡ position (λ c. bytes_eq c.name name) centres → ⊥
known_has_place centres name known none =
    let found = position_found (λ c. bytes_eq c.name name) centres known in
    none-some found.0 (none ∙ found.2)

pub centre_number-at : (centres : List FileCentre) (name : List ℕ) (c : ℕ)
    → Some c ≡ position (λ c. bytes_eq c.name name) centres → c ≡ centre_number centres name
centre_number-at centres name c found = ap (λ o. unwrap_or o 0) found

-- ## Items

-- one more item, which is made from the next one of the file
pub made_more : {R A B C : Type 0} (f : R → C) (g : B → C) (h : A → B) (rows more : List R) (row : R) (xs : List A)
    (i : ℕ) (d : A)
    → i < length xs → more ≡ rows ++ row ∷ [] → f row ≡ g (h (get_or xs i d)) → map f rows ≡ map g (map h (take i xs))
    → map f more ≡ map g (map h (take (i + 1) xs))
made_more f g h rows more row xs i d within pushed same before =
    ap (map f) pushed ∙ map-append f rows (row ∷ [])
    ∙ (λ j. before j ++ same j ∷ [])
    ∙ sym (ap (map g) (map_more h xs i d within) ∙ map-append g (map h (take i xs)) (h (get_or xs i d) ∷ []))

sum_filter-push : {X : Type 0} (f : X → ℕ) (p : X → Bool) (xs : List X) (x : X)
    → sum_by f (filter p (xs ++ x ∷ [])) ≡ sum_by f (filter p xs) + cond (p x) (f x) 0
sum_filter-push f p [] x =
    elim (cases_Bool (p x)) [
      | inl passes ↦ rw passes (rw (sum_by-cons f x []) (omega arith))
      | inr fails ↦ rw fails (omega arith)
    ]
sum_filter-push f p (y ∷ ys) x =
    let rest = sum_filter-push f p ys x in
    elim (cases_Bool (p y)) [
      | inl passes ↦
          rw passes
          (rw (sum_by-cons f y (filter p (ys ++ x ∷ [])), sum_by-cons f y (filter p ys)) (omega (arith, rest)))
      | inr fails ↦ rw fails rest
    ]

slice_get-push : {X : Type 0} (xs : List X) (x y : X) (s : ℕ) → slice_get (xs ++ x ∷ []) s ≡ Some y → length xs ≤ s
    → (s ≡ length xs) × (x ≡ y)
slice_get-push [] x y zero at past = (refl, same_Some x y at)
slice_get-push [] x y (suc s) at past = absurd (none-some y at)
slice_get-push (z ∷ zs) x y zero at past = absurd (omega arith)
slice_get-push (z ∷ zs) x y (suc s) at past = let rest = slice_get-push zs x y s at (omega arith) in
    (omega (arith, rest.0), rest.1)

slice_get-before : {X : Type 0} (xs ys : List X) (s : ℕ) → s < length xs → slice_get (xs ++ ys) s ≡ slice_get xs s
slice_get-before [] ys s within = absurd (omega arith)
slice_get-before (z ∷ zs) ys zero within = refl
slice_get-before (z ∷ zs) ys (suc s) within = slice_get-before zs ys s (omega arith)

-- one more section, which starts at the end of those of its track
pub starts_more : (rows more : List Section) (row : Section) → more ≡ rows ++ row ∷ [] → HasOwnStarts rows
    → row.start ≡ sum_by (λ q. q.metres) (filter (λ q. q.track == row.track) rows) → HasOwnStarts more
starts_more rows more row pushed before own = subst HasOwnStarts (sym pushed) (λ s r at.
    elim (cases_lt s (length rows)) [
      | inl earlier ↦
          let front : take s (rows ++ row ∷ []) ≡ take s rows = take-append-le s rows (row ∷ []) (omega arith) in
          before s r (sym (slice_get-before rows (row ∷ []) s earlier) ∙ at)
          ∙ ap (λ xs. sum_by (λ q. q.metres) (filter (λ q. q.track == r.track) xs)) (sym front)
      | inr past ↦
          let last = slice_get-push rows row r s at past in
          let all : take s (rows ++ row ∷ []) ≡ rows = take-append-le s rows (row ∷ []) (omega (arith, last.0))
          ∙ take_all s rows (omega (arith, last.0)) in
          subst (λ v. v.start ≡ sum_by (λ q. q.metres) (filter (λ q. q.track == v.track) (take s (rows ++ row ∷ []))))
          last.1
          (own ∙ ap (λ xs. sum_by (λ q. q.metres) (filter (λ q. q.track == row.track) xs)) (sym all))
    ])

-- the ends of the tracks after one more section
pub ends_more : (rows more : List Section) (row : Section) (ends : List ℕ) → more ≡ rows ++ row ∷ [] → length ends ≡ 4
    → row.track < 4
    → ((k : ℕ) → k < 4 → get_or ends k 0 ≡ sum_by (λ q. q.metres) (filter (λ q. q.track == k) rows))
    → (k : ℕ) → k < 4 → get_or (set ends row.track (get_or ends row.track 0 + row.metres)) k 0
    ≡ sum_by (λ q. q.metres) (filter (λ q. q.track == k) more)
ends_more rows more row ends pushed count within before k lt =
    rw (pushed, sum_filter-push (λ q. q.metres) (λ q. q.track == k) rows row)
    (elim (cases_eq row.track k) [
      | inl same ↦
          let test : (row.track == k) ≡ true = grind (arith, nat_tests) in
          let inside : row.track < length ends = omega arith in
          rw (test, ← same) (rw get_or-set_same (ap (λ n. n + row.metres) (before row.track within)))
      | inr other ↦
          let test : (row.track == k) ≡ false = grind (arith, nat_tests) in
          let apart : k ≢ row.track = λ e. other (sym e) in
          rw test (rw get_or-set_other (before k lt ∙ omega arith))
    ])

pub small_more : (ends : List ℕ) (t m i : ℕ) → length ends ≡ 4 → t < 4 → m ≤ 2000
    → ((k : ℕ) → k < 4 → get_or ends k 0 ≤ 2000 * i)
    → (k : ℕ) → k < 4 → get_or (set ends t (get_or ends t 0 + m)) k 0 ≤ 2000 * (i + 1)
small_more ends t m i count within small before k lt =
    elim (cases_eq t k) [
      | inl same ↦
          let inside : t < length ends = omega arith in
          rw (← same) (rw get_or-set_same (omega (arith, before t within)))
      | inr other ↦
          let apart : k ≢ t = λ e. other (sym e) in
          rw get_or-set_other (omega (arith, before k lt))
    ]

pub ends_after : (rows more : List Section) (row : Section) (ends : List ℕ) (t m : ℕ) → t ≡ row.track → m ≡ row.metres
    → more ≡ rows ++ row ∷ [] → length ends ≡ 4 → t < 4
    → ((k : ℕ) → k < 4 → get_or ends k 0 ≡ sum_by (λ q. q.metres) (filter (λ q. q.track == k) rows))
    → (k : ℕ) → k < 4 → get_or (set ends t (get_or ends t 0 + m)) k 0
    ≡ sum_by (λ q. q.metres) (filter (λ q. q.track == k) more)
ends_after rows more row ends t m e f pushed count within before k lt =
    (λ i. get_or (set ends (e i) (get_or ends (e i) 0 + f i)) k 0)
    ∙ ends_more rows more row ends pushed count (omega (arith, e)) before k lt

-- the track of an item is one of four
pub track_below : (names : List (Bor (List ℕ))) (xs ys : List DraftSection) (i : ℕ) (d : DraftSection) → ys ≡ xs
    → Ascends 0 (length names) (map section_view xs)
    → length (map (λ name. name.now) names) ≤ 4 → i < length ys → (get_or ys i d).track < 4
track_below names xs ys i d same order few within =
    let at = slice_get-map section_view ys i ∙ ap (option_map section_view) (slice_get-get_or ys i d within) in
    let own = Ascends-at 0 (length names) (map section_view ys) i (section_view (get_or ys i d)) (rw same order) at in
    omega (arith, own.1, length-map names (λ name. name.now))
