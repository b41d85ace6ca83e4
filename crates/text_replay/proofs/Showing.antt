-- The view that stretches show of an event, and lists with one more element.
use Rattle.std.proofs.Common.{[], ◌&&◌, ◌++◌, ◌+◌, ◌<◌, ◌∙◌, ◌∷◌, ◌≡◌, ◌≤◌, ap, arith, Bool, false, length, List, None}
use Rattle.std.proofs.Common.{Option, refl, slice_get, Some, suc, true, zero, ℕ}
use Rattle.std.proofs.lemmas.Bool.Decides.{nat_tests}
use Rattle.std.proofs.lemmas.List.{length-append}
use Rattle.std.specs.Prelude.{if◌then◌else◌, nat_le, nat_lt}
use Rattle.text_replay.specs.declared.stretch.Stretch.{Stretch}
use Rattle.text_replay.specs.Stretches.{IsSeen, shown_at}
use Rattle.text_script.specs.rbc_book.declared.mark.SectionView.{SectionView}

-- the first of the two that exists
abbrev first_of_two : Option SectionView → Option SectionView → Option SectionView
first_of_two (Some v) other = Some v
first_of_two None other = other

shown_step : (t : Bool) (v : SectionView) (a b c : Option SectionView) → a ≡ first_of_two b c
    → (if t then Some v else a) ≡ first_of_two (if t then Some v else b) c
shown_step true v a b c h = refl
shown_step false v a b c h = h

shown-append : (e : ℕ) (xs ys : List Stretch) → shown_at e (xs ++ ys) ≡ first_of_two (shown_at e xs) (shown_at e ys)
shown-append e [] ys = refl
shown-append e (x ∷ xs) ys =
    shown_step (nat_le x.since e && nat_lt e x.until) x.seen (shown_at e (xs ++ ys)) (shown_at e xs) (shown_at e ys)
    (shown-append e xs ys)

pub over : (since until e : ℕ) (v : SectionView) → since ≤ e → e < until
    → (if nat_le since e && nat_lt e until then Some v else None) ≡ Some v
over since until e v a b = grind (arith, nat_tests)

pub past : (since until e : ℕ) (v : SectionView) → until ≤ e
    → (if nat_le since e && nat_lt e until then Some v else None) ≡ None
past since until e v a = grind (arith, nat_tests)

pub before : (xs ys : List Stretch) (e : ℕ) (v : SectionView) → shown_at e xs ≡ Some v → shown_at e (xs ++ ys) ≡ Some v
before xs ys e v h = shown-append e xs ys ∙ ap (λ o. first_of_two o (shown_at e ys)) h

pub after_all : (xs ys : List Stretch) (e : ℕ) → shown_at e xs ≡ None → shown_at e (xs ++ ys) ≡ shown_at e ys
after_all xs ys e h = shown-append e xs ys ∙ ap (λ o. first_of_two o (shown_at e ys)) h

pub seen_at : (seen : List SectionView) (e : ℕ) → e < length seen → (v : SectionView) × (slice_get seen e ≡ Some v)
seen_at (v ∷ seen) zero h = (v, refl)
seen_at (v ∷ seen) (suc e) h = seen_at seen e (omega arith)
seen_at [] e h = absurd (let no : ⊥ = omega arith in no)

-- one more element changes no earlier one
pub earlier : {A : Type 0} → (xs : List A) (y : A) (e : ℕ) → e < length xs → slice_get (xs ++ y ∷ []) e ≡ slice_get xs e
earlier (x ∷ xs) y zero h = refl
earlier (x ∷ xs) y (suc e) h = earlier xs y e (omega arith)
earlier [] y e h = absurd (let no : ⊥ = omega arith in no)

pub latest : {A : Type 0} → (xs : List A) (y : A) → slice_get (xs ++ y ∷ []) (length xs) ≡ Some y
latest [] y = refl
latest (x ∷ xs) y = latest xs y

pub more : (seen : List SectionView) (w : SectionView) → length (seen ++ w ∷ []) ≡ length seen + 1
more seen w = length-append seen (w ∷ [])

pub seen_more : (seen : List SectionView) (w : SectionView) (b : Stretch) → b.until ≤ length seen → IsSeen seen b
    → IsSeen (seen ++ w ∷ []) b
seen_more seen w b within h e a z = earlier seen w e (omega arith) ∙ h e a z
