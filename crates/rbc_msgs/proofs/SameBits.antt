-- Two lists of bits compared word by word.
use Rattle.std.proofs.Common.{◌++◌, ◌<◌, ◌^◌, ◌∙◌, ◌≡◌, ◌≢◌, ap, arith, Bool, drop, length, length-append, List, min}
use Rattle.std.proofs.Common.{sym, take, ℕ}
use Rattle.std.proofs.lemmas.List.{drop_at, take_at}
use Rattle.rbc_bits.proofs.Fields.{field-injective, length-field}
use Rattle.rbc_bits.specs.Bits.{field}

-- the rests of both have one length, and are equal if and only if the whole lists are
pub record AreSame (all-a all-b a b : List Bool) : Type 0 where
  pub lengths : length a ≡ length b
  pub onward : all-a ≡ all-b → a ≡ b
  pub back : a ≡ b → all-a ≡ all-b

-- lists of one length that begin with a word of n bits
words-same : (a b a-rest b-rest : List Bool) (n x y : ℕ) → a ≡ field n x ++ a-rest → b ≡ field n y ++ b-rest → x < 2 ^ n
    → y < 2 ^ n → a ≡ b → (x ≡ y) × (a-rest ≡ b-rest)
words-same a b a-rest b-rest n x y a-is b-is x-fits y-fits e =
    let same : field n x ++ a-rest ≡ field n y ++ b-rest = sym a-is ∙ e ∙ b-is in
    let words : field n x ≡ field n y =
    sym (take_at (field n x) a-rest n (length-field n x)) ∙ ap (take n) same
    ∙ take_at (field n y) b-rest n (length-field n y) in (
      field-injective n x y x-fits y-fits words,
      sym (drop_at (field n x) a-rest n (length-field n x)) ∙ ap (drop n) same
          ∙ drop_at (field n y) b-rest n (length-field n y),
    )

-- another word is the same
pub one-more : (all-a all-b a b a-rest b-rest : List Bool) (m n x y : ℕ) → AreSame all-a all-b a b
    → m ≡ min 64 (length a) → n ≡ min 64 (length b)
    → a ≡ field m x ++ a-rest → b ≡ field n y ++ b-rest → x < 2 ^ m → y < 2 ^ n → x ≡ y
    → AreSame all-a all-b a-rest b-rest
one-more all-a all-b a b a-rest b-rest m n x y h m-is n-is a-is b-is x-fits y-fits e =
    let l = h.lengths in
    let widths : n ≡ m = omega arith in
    let b-at : b ≡ field m y ++ b-rest = b-is ∙ ap (λ k. field k y ++ b-rest) widths in
    let y-here : y < 2 ^ m = rw (← widths) y-fits in
    record {
      lengths =
          omega (
            arith,
            ap length a-is,
            ap length b-at,
            length-append (field m x) a-rest,
            length-append (field m y) b-rest,
            length-field m x,
            length-field m y,
          );
      onward = λ same. (words-same a b a-rest b-rest m x y a-is b-at x-fits y-here (h.onward same)).1;
      back = λ same. h.back (a-is ∙ ap (λ v. field m v ++ a-rest) e ∙ ap (λ r. field m y ++ r) same ∙ sym b-at);
    }

-- another word differs
pub one-differs : (all-a all-b a b a-rest b-rest : List Bool) (m n x y : ℕ) → AreSame all-a all-b a b
    → m ≡ min 64 (length a) → n ≡ min 64 (length b)
    → a ≡ field m x ++ a-rest → b ≡ field n y ++ b-rest → x < 2 ^ m → y < 2 ^ n → x ≢ y → all-a ≢ all-b
one-differs all-a all-b a b a-rest b-rest m n x y h m-is n-is a-is b-is x-fits y-fits ne same =
    let l = h.lengths in
    let widths : n ≡ m = omega arith in
    let b-at : b ≡ field m y ++ b-rest = b-is ∙ ap (λ k. field k y ++ b-rest) widths in
    let y-here : y < 2 ^ m = rw (← widths) y-fits in
    ne (words-same a b a-rest b-rest m x y a-is b-at x-fits y-here (h.onward same)).0

-- a word was taken
pub shorter : (a rest : List Bool) (n x : ℕ) → n ≡ min 64 (length a) → a ≡ field n x ++ rest → 0 < length a
    → length rest < length a
shorter a rest n x n-is a-is some =
    omega (arith, ap length a-is, length-append (field n x) rest, length-field n x)
