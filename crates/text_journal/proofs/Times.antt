-- The time of a line.
use Rattle.std.proofs.Common.{[], ◌++◌, ◌<◌, ◌^◌, ◌∙◌, ◌∷◌, ◌≡◌, ap, append_assoc, arith, List, None, Ok, Option, refl}
use Rattle.std.proofs.Common.{Result, Some, sym, ℕ}
use Rattle.std.proofs.lemmas.Fmt.{decimal_by_steps, digits_value-decimal}
use Rattle.std.specs.Fmt.{decimal}
use Rattle.std.specs.Prelude.{◌≢◌, codes, drop}
use Rattle.std.specs.Str.Parse.{digits_value}
use Rattle.text_journal.proofs.Asking.{own}
use Rattle.text_journal.proofs.Letters.{lacks_append, one_cut, word_of_number}
use Rattle.text_journal.specs.Journal.{time_text}
use Rattle.text_journal.specs.Reading.{IsTime, Lacks}

-- a number does not contain the sign of an event
number_lacks_sign : (n : ℕ) → n < 2 ^ 64 → Lacks 62 (decimal n)
number_lacks_sign = decimal_by_steps (λ n ds. Lacks 62 ds)
    (λ n l. (λ e. omega arith, tt))
    (λ n ds l h. lacks_append 62 ds _ h (λ e. omega arith, tt))

pub time_lacks_sign : (time : Option ℕ) → IsTime time → Lacks 62 (time_text time)
time_lacks_sign None h = tt
time_lacks_sign (Some ms) h = lacks_append 62 (decimal ms) (codes " ") (number_lacks_sign ms h) (λ e. omega arith, tt)

pub time_feed : (time : Option ℕ) → IsTime time → Lacks 10 (time_text time)
time_feed None h = tt
time_feed (Some ms) h = lacks_append 10 (decimal ms) (codes " ") (word_of_number ms h).feed (λ e. omega arith, tt)

-- ## A text has one time

pub same_number : (m n : ℕ) → m < 2 ^ 64 → n < 2 ^ 64 → decimal m ≡ decimal n → m ≡ n
same_number m n h k e = sym (digits_value-decimal own m h) ∙ ap (digits_value 10) e ∙ digits_value-decimal own n k

not_empty : (xs : List ℕ) (c : ℕ) → [] ≡ xs ++ c ∷ [] → ⊥
not_empty [] c e = cc
not_empty (x ∷ xs) c e = cc

one_time : (p q : Option ℕ) → IsTime p → IsTime q → time_text p ≡ time_text q → p ≡ q
one_time None None h k e = refl
one_time None (Some n) h k e = absurd (not_empty (decimal n) 32 e)
one_time (Some m) None h k e = absurd (not_empty (decimal m) 32 (sym e))
one_time (Some m) (Some n) h k e =
    ap Some (same_number m n h k
    (one_cut 32 (decimal m) (decimal n) [] [] (word_of_number m h).blank (word_of_number n k).blank e).0)

pub same_time : (p q : Option ℕ) (x y : List ℕ) → IsTime p → IsTime q → time_text p ++ 62 ∷ x ≡ time_text q ++ 62 ∷ y
    → (p ≡ q) × (x ≡ y)
same_time p q x y h k e =
    let cut = one_cut 62 (time_text p) (time_text q) x y (time_lacks_sign p h) (time_lacks_sign q k) e in
    (one_time p q h k cut.0, cut.1)

-- ## The text after a stamp

-- it begins with the sign of an event, and so it has no time
pub no_time : (text words found : List ℕ) (time : Option ℕ) → IsTime time → text ≡ time_text time ++ 62 ∷ 32 ∷ words
    → text ≡ codes "> " ++ found → (None ≡ time) × (found ≡ words)
no_time text words found time h e f =
    let same = same_time None time (32 ∷ found) (32 ∷ words) tt h (sym f ∙ e) in
    (same.0, ap (drop 1) same.1)

-- it does not: there is a time
pub some_time : (text words : List ℕ) (time : Option ℕ) → IsTime time → text ≡ time_text time ++ 62 ∷ 32 ∷ words
    → ((found : List ℕ) → text ≢ codes "> " ++ found) →
    (ms : ℕ) × (Some ms ≡ time) × (ms < 2 ^ 64) × (text ≡ decimal ms ++ 32 ∷ 62 ∷ 32 ∷ words)
some_time text words None h e other = absurd (other words e)
some_time text words (Some ms) h e other =
    (ms, refl, h, e ∙ append_assoc (decimal ms) (32 ∷ []) (62 ∷ 32 ∷ words))

pub ok_same : {E : Type 0} (x y : ℕ) (r : Result ℕ E) → r ≡ Ok x → r ≡ Ok y → x ≡ y
ok_same x y r h k = cc
