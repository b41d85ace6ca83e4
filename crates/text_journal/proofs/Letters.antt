-- The bytes that the parts of a line do not contain.
use Rattle.std.proofs.Common.{[], ◌%◌, ◌++◌, ◌/◌, ◌<◌, ◌^◌, ◌∙◌, ◌∷◌, ◌≡◌, ◌≢◌, ap, arith, Bool, cond, drop, false}
use Rattle.std.proofs.Common.{get_or, inl, inr, length, List, refl, rules, suc, sym, true, zero, ℕ}
use Rattle.std.proofs.lemmas.Bool.{cases_Bool, ne_eqb}
use Rattle.std.proofs.lemmas.Fmt.{decimal_by_steps}
use Rattle.std.proofs.lemmas.List.Splits.{slice_split_at, slice_split_none}
use Rattle.std.specs.Char.{is_ascii_alphanumeric}
use Rattle.std.specs.Fmt.{decimal}
use Rattle.std.specs.List.{All, slice_split}
use Rattle.std.specs.Prelude.{◌==◌, IsTrue, slice_index}
use Rattle.hex.specs.Hex.{encode_with, lower_digits, upper_digits}
use Rattle.text_journal.specs.Reading.{Lacks}

pub lacks_append : (c : ℕ) (xs ys : List ℕ) → Lacks c xs → Lacks c ys → Lacks c (xs ++ ys)
lacks_append c [] ys h k = k
lacks_append c (x ∷ xs) ys h k = (h.0, lacks_append c xs ys h.1 k)

pub lacks_at : (c : ℕ) (xs : List ℕ) → Lacks c xs → (i : ℕ) → i < length xs → get_or xs i 0 ≢ c
lacks_at c [] h i l = absurd (omega arith)
lacks_at c (x ∷ xs) h zero l = h.0
lacks_at c (x ∷ xs) h (suc i) l = lacks_at c xs h.1 i (omega arith)

pub lacks_from : (c : ℕ) (xs : List ℕ) → ((i : ℕ) → i < length xs → get_or xs i 0 ≢ c) → Lacks c xs
lacks_from c [] h = tt
lacks_from c (x ∷ xs) h = (h 0 (omega arith), lacks_from c xs (λ i l. h (suc i) (omega arith)))

first_or : (P : ℕ → Type 0) (x : ℕ) (xs : List ℕ) → P x → All P xs → All P (x ∷ xs)
first_or P x xs h k zero d l = h
first_or P x xs h k (suc i) d l = k i d (omega arith)

none_passes : (c : ℕ) (xs : List ℕ) → Lacks c xs → All (λ x. (x == c) ≡ false) xs
none_passes c [] h = λ k d l. absurd (omega arith)
none_passes c (x ∷ xs) h = λ k d l. first_or (λ b. (b == c) ≡ false) x xs (ne_eqb x c h.0) (none_passes c xs h.1) k d l

-- ## Blanks cut a text

pub cut_once : (c : ℕ) (a r : List ℕ) → Lacks c a
    → slice_split (λ x. x == c) (a ++ c ∷ r) ≡ a ∷ slice_split (λ x. x == c) r
cut_once c a r h = slice_split_at (λ x. x == c) a c r (none_passes c a h) (search rules)

pub cut_last : (c : ℕ) (a : List ℕ) → Lacks c a → slice_split (λ x. x == c) a ≡ a ∷ []
cut_last c a h = slice_split_none (λ x. x == c) a (none_passes c a h)

-- ## A text is cut at a byte in one way

cons_head : (p q : ℕ) (xs ys : List ℕ) → p ∷ xs ≡ q ∷ ys → p ≡ q
cons_head p q xs ys e = cc

cons_tail : (p q : ℕ) (xs ys : List ℕ) → p ∷ xs ≡ q ∷ ys → xs ≡ ys
cons_tail p q xs ys e = ap (drop 1) e

pub one_cut : (c : ℕ) (a b x y : List ℕ) → Lacks c a → Lacks c b → a ++ c ∷ x ≡ b ++ c ∷ y → (a ≡ b) × (x ≡ y)
one_cut c [] [] x y h k e = (refl, cons_tail c c x y e)
one_cut c [] (q ∷ b) x y h k e = absurd (k.0 (sym (cons_head c q _ _ e)))
one_cut c (p ∷ a) [] x y h k e = absurd (h.0 (cons_head p c _ _ e))
one_cut c (p ∷ a) (q ∷ b) x y h k e =
    let more = one_cut c a b x y h.1 k.1 (cons_tail p q _ _ e) in
    (λ i. cons_head p q _ _ e i ∷ more.0 i, more.1)

pub no_cut : (c : ℕ) (a x : List ℕ) → Lacks c (a ++ c ∷ x) → ⊥
no_cut c [] x h = h.0 refl
no_cut c (p ∷ a) x h = no_cut c a x h.1

-- ## Digits and names

clash : (b : Bool) → IsTrue b → b ≡ false → ⊥
clash b h e = search rules

-- the text contains no blank and no line feed
pub record IsWord (text : List ℕ) : Type 0 where
  pub blank : Lacks 32 text
  pub feed : Lacks 10 text

pub word_append : (xs ys : List ℕ) → IsWord xs → IsWord ys → IsWord (xs ++ ys)
word_append xs ys h k =
    record { blank = lacks_append 32 xs ys h.blank k.blank; feed = lacks_append 10 xs ys h.feed k.feed }

decimal_words : (n : ℕ) → n < 2 ^ 64 → IsWord (decimal n)
decimal_words = decimal_by_steps (λ n ds. IsWord ds)
    (λ n l. record { blank = (λ e. omega arith, tt); feed = (λ e. omega arith, tt) })
    (λ n ds l h. word_append ds _ h (record { blank = (λ e. omega arith, tt); feed = (λ e. omega arith, tt) }))

pub word_of_number : (n : ℕ) → n < 2 ^ 64 → IsWord (decimal n)
word_of_number n h = decimal_words n h

-- a byte that is looked up in a table of such digits
looked_up : (c : ℕ) (t : List ℕ) (k : ℕ) → 0 ≢ c → Lacks c t → slice_index t k ≢ c
looked_up c [] k z h = z
looked_up c (x ∷ t) zero z h = h.0
looked_up c (x ∷ t) (suc k) z h = looked_up c t k z h.1

pub hex_lacks : (c : ℕ) (t bytes : List ℕ) → 0 ≢ c → Lacks c t → Lacks c (encode_with t bytes)
unfolding encode_with
hex_lacks c t [] z h = tt
hex_lacks c t (b ∷ bytes) z h = (looked_up c t (b / 16) z h, (looked_up c t (b % 16) z h, hex_lacks c t bytes z h))

-- letters and digits
pub name_lacks : (c : ℕ) (name : List ℕ) → is_ascii_alphanumeric c ≡ false
    → All (λ x. IsTrue (is_ascii_alphanumeric x)) name → Lacks c name
name_lacks c name other h = lacks_from c name (λ i l e. clash _ (h i 0 l) (ap is_ascii_alphanumeric e ∙ other))

-- each byte is a letter or a digit
abbrev pub alphanumeric : List ℕ → Bool
alphanumeric [] = true
alphanumeric (x ∷ xs) = cond (is_ascii_alphanumeric x) (alphanumeric xs) false

pub lacks_alphanumeric : (c : ℕ) (xs : List ℕ) → is_ascii_alphanumeric c ≡ false → alphanumeric xs ≡ true → Lacks c xs
lacks_alphanumeric c [] bad h = tt
lacks_alphanumeric c (x ∷ xs) bad h = elim (cases_Bool (is_ascii_alphanumeric x)) [
  | inl found ↦ (
    λ e. cc (sym found ∙ ap is_ascii_alphanumeric e ∙ bad),
    lacks_alphanumeric c xs bad (sym (ap (λ b. cond b (alphanumeric xs) false) found) ∙ h),
  )
  | inr other ↦ cc (sym (ap (λ b. cond b (alphanumeric xs) false) other) ∙ h)
]

pub lower_hex_is_word : (bytes : List ℕ) → IsWord (encode_with lower_digits bytes)
lower_hex_is_word bytes = record {
  blank = hex_lacks 32 lower_digits bytes (λ e. omega arith) (lacks_alphanumeric 32 lower_digits refl refl);
  feed = hex_lacks 10 lower_digits bytes (λ e. omega arith) (lacks_alphanumeric 10 lower_digits refl refl);
}

pub upper_hex_is_word : (bytes : List ℕ) → IsWord (encode_with upper_digits bytes)
upper_hex_is_word bytes = record {
  blank = hex_lacks 32 upper_digits bytes (λ e. omega arith) (lacks_alphanumeric 32 upper_digits refl refl);
  feed = hex_lacks 10 upper_digits bytes (λ e. omega arith) (lacks_alphanumeric 10 upper_digits refl refl);
}

-- the sign of an event has no blank
abbrev pub sign : List ℕ
sign = 62 ∷ []

pub sign_at : (i : ℕ) → i < length sign → get_or sign i 0 ≢ 32
sign_at i l = lacks_at 32 sign (λ e. omega arith, tt) i l
