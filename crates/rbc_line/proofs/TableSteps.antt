-- The look-up tables, one entry at a time.
use Rattle.std.proofs.Common.{◌%◌, ◌&&◌, ◌+◌, ◌<◌, ◌==◌, ◌∙◌, ◌≡◌, ◌≢◌, ap, arith, cond, drop, get_or, get_or-set_other}
use Rattle.std.proofs.Common.{get_or-set_same, inl, inr, length, length-set, List, nat_eq, None, not, Option}
use Rattle.std.proofs.Common.{option_map, refl, set, Some, suc, sym, take, true, ℕ}
use Rattle.std.proofs.lemmas.Bool.{cases_Bool}
use Rattle.std.proofs.lemmas.Bool.Decides.{nat_tests}
use Rattle.std.proofs.lemmas.List.{drop-map}
use Rattle.std.proofs.lemmas.Option.{same_Some, slice_get-get_or}
use Rattle.std.specs.HashMap.{get, Updates}
use Rattle.std.specs.List.{find, position, slice_get, zip}
use Rattle.rbc_line.proofs.Lists.{find-map, position_at, position_more, position_none, slice_get_take, zip-map}
use Rattle.rbc_line.specs.declared.parts.Rows.{Rows}
use Rattle.rbc_line.specs.declared.parts.Section.{Section as SectionRow}
use Rattle.rbc_line.specs.Tables.{HasGuessesOf, Numbers}
use Rattle.rbc_line.specs.Views.{line_of_rows, section_of}
use Rattle.rbc_spec.specs.Line.{AreDistinct, next_centre, Section}

-- the elements before a place have other keys
none_before : {X : Type 0} (key : X → ℕ) (xs : List X) (i : ℕ) (x : X) (q : ℕ) → AreDistinct key xs
    → slice_get xs i ≡ Some x → (key x == q) ≡ true → position (λ p. key p == q) (take i xs) ≡ None
none_before key xs i x q apart at same =
    position_none (λ p. key p == q) (take i xs) (λ j y found.
    let place = slice_get_take i xs j y found in
    elim (cases_Bool (key y == q)) [
      | inl equal ↦
          absurd (let keys : key y ≡ key x = grind (arith, nat_tests) in
          omega (arith, apart j i y x place.1 at keys, place.0))
      | inr other ↦ other
    ])

-- the element that has the key is the first that has it
pub key_at : {X : Type 0} (key : X → ℕ) (xs : List X) (i : ℕ) (x : X) (q : ℕ) → AreDistinct key xs
    → slice_get xs i ≡ Some x → key x ≡ q → position (λ p. key p == q) xs ≡ Some i
key_at key xs i x q apart at same =
    position_at (λ p. key p == q) xs i x at (grind (arith, nat_tests)) (λ j y lt found.
    elim (cases_Bool (key y == q)) [
      | inl equal ↦
          absurd (let keys : key y ≡ key x = grind (arith, nat_tests) in omega (arith, apart j i y x found at keys))
      | inr other ↦ other
    ])

-- one more key, which no key before it is equal to
pub key_more : {X : Type 0} (key : X → ℕ) (xs : List X) (i : ℕ) (d : X) (m n : Numbers) → AreDistinct key xs
    → i < length xs
    → ((q : ℕ) → get nat_eq m q ≡ position (λ p. key p == q) (take i xs))
    → Updates nat_eq m n (key (get_or xs i d)) (Some i)
    → (q : ℕ) → get nat_eq n q ≡ position (λ p. key p == q) (take (i + 1) xs)
key_more key xs i d m n apart within before put q =
    let next : suc i ≡ i + 1 = omega arith in
    let at = slice_get-get_or xs i d within in
    put.0 q
    ∙ ap (cond (key (get_or xs i d) == q) (Some i)) (before q)
    ∙ position_more (λ p. key p == q) xs i (get_or xs i d) at (none_before key xs i (get_or xs i d) q apart at)
    ∙ ap (λ k. position (λ p. key p == q) (take k xs)) next

-- one more guess
pub guess_more : {X : Type 0} (key : X → ℕ) (xs : List X) (i : ℕ) (d : X) (guesses : List ℕ) → length guesses ≡ 1024
    → i < length xs → HasGuessesOf i key xs guesses
    → (length (set guesses (key (get_or xs i d) % 1024) i) ≡ 1024)
    × HasGuessesOf (i + 1) key xs (set guesses (key (get_or xs i d) % 1024) i)
guess_more {X} key xs i d guesses len within before =
    let here : slice_get xs i ≡ Some (get_or xs i d) = slice_get-get_or xs i d within in
    let room : key (get_or xs i d) % 1024 < length guesses = omega arith in (
      length-set guesses (key (get_or xs i d) % 1024) i ∙ len,
      λ j x lt at alone.
          elim (cases_Bool (key (get_or xs i d) % 1024 == key x % 1024)) [
            | inl same ↦
                let equal : key (get_or xs i d) % 1024 ≡ key x % 1024 = grind (arith, nat_tests) in
                let own : i ≡ j = alone i (get_or xs i d) (omega arith) here equal in
                rw (← equal) (rw get_or-set_same own)
            | inr other ↦
                let differ : key x % 1024 ≢ key (get_or xs i d) % 1024 = λ equal. absurd (grind (arith, nat_tests)) in
                let earlier : j < i = elim (cases_Bool (j == i)) [
                  | inl equal ↦
                      absurd (let place : j ≡ i = grind (arith, nat_tests) in
                      differ (ap (λ y. key y % 1024)
                      (same_Some x (get_or xs i d) (sym at ∙ ap (slice_get xs) place ∙ here))))
                  | inr apart ↦ grind (arith, nat_tests)
                ] in
                rw get_or-set_other (before j x earlier at (λ k y less found keys. alone k y (omega arith) found keys))
          ],
    )

-- two sections in memory, as plain data
abbrev pair_of : SectionRow × SectionRow → Section × Section
pair_of seam = (section_of seam.0, section_of seam.1)

home_of_next : (o : Option (SectionRow × SectionRow))
    → option_map (λ seam. seam.1.home) (option_map pair_of o)
    ≡ option_map (λ (seam : SectionRow × SectionRow). seam.1.home) o
home_of_next None = refl
home_of_next (Some seam) = refl

-- the next centre, by the lists in memory
pub next_centre_of_rows : (rows : Rows) (c k : ℕ)
    → option_map (λ seam. seam.1.home)
    (find (λ seam. (((seam.0.track == seam.1.track) && (seam.0.track == k)) && (seam.0.home == c))
    && not (seam.1.home == c)) (zip rows.sections.items (drop 1 rows.sections.items)))
    ≡ next_centre (line_of_rows rows) c k
next_centre_of_rows rows c k =
    sym (rw (
      drop-map section_of 1 rows.sections.items,
      zip-map section_of rows.sections.items (drop 1 rows.sections.items),
      find-map (λ seam. (((seam.0.track == seam.1.track) && (seam.0.track == k)) && (seam.0.home == c))
          && not (seam.1.home == c)) pair_of (zip rows.sections.items (drop 1 rows.sections.items)),
    )
    (home_of_next _))
