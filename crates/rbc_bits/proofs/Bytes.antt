-- The bits of bytes, and the bits that are left to a reader.
use Rattle.std.proofs.Common.{[], ◌%◌, ◌*◌, ◌++◌, ◌+◌, ◌-◌, ◌/◌, ◌<◌, ◌^◌, ◌∙◌, ◌∷◌, ◌≡◌, ◌≤◌, ap, append_assoc, arith}
use Rattle.std.proofs.Common.{Bool, drop, Err, false, get_or, length, List, ltb, Ok, refl, suc, sym, take, zero, ℕ}
use Rattle.std.proofs.lemmas.Bool.{le-ltb, lt-ltb}
use Rattle.std.proofs.lemmas.List.{append-nil, drop-drop, drop-take, drop_at, length-append, length-drop}
use Rattle.std.proofs.lemmas.List.{length-take-le, take-append-drop, take-take, take_at, take_more}
use Rattle.std.proofs.lemmas.List.Concat.{flat_map-append}
use Rattle.std.proofs.lemmas.Nat.{be_bytes_8, mod_below, pow-add}
use Rattle.std.proofs.Math.Nat.{div-one, pow-suc}
use Rattle.std.specs.Int.{byte_at, bytes_high_first, from_be_bytes, to_be_bytes, w64}
use Rattle.std.specs.List.{AllByRecursion}
use Rattle.rbc_bits.proofs.Fields.{field-add, field-append, field-injective, field-mod, field-none, field-value_of}
use Rattle.rbc_bits.proofs.Fields.{length-field}
use Rattle.rbc_bits.specs.Bits.{bits_of, field, value_of}
use Rattle.rbc_bits.specs.Reading.{part_at}

-- # The laws of the bits of bytes: their length, their division into parts, and that bytes of equal bits are equal.

pub bits_of-nil : bits_of [] ≡ []
unfolding bits_of
bits_of-nil = refl

pub bits_of-cons : (b : ℕ) (bytes : List ℕ) → bits_of (b ∷ bytes) ≡ field 8 b ++ bits_of bytes
unfolding bits_of
bits_of-cons b bytes = refl

pub bits_of-append : (xs ys : List ℕ) → bits_of (xs ++ ys) ≡ bits_of xs ++ bits_of ys
unfolding bits_of
bits_of-append xs ys = flat_map-append (field 8) xs ys

pub bits_of-single : (b : ℕ) → bits_of (b ∷ []) ≡ field 8 b
unfolding bits_of
bits_of-single b = append-nil (field 8 b)

pub length-bits_of : (bytes : List ℕ) → length (bits_of bytes) ≡ 8 * length bytes
length-bits_of [] = ap length bits_of-nil
length-bits_of (b ∷ bytes) =
    let l = length-append (field 8 b) (bits_of bytes) in
    let h = length-field 8 b in
    let t = length-bits_of bytes in
    rw (bits_of-cons b bytes) (omega (arith, l, h, t))

-- ---- whole bytes

-- the bits of bytes are those of the first k bytes, and then those of the others
bits_of-parts : (k : ℕ) (bytes : List ℕ) → bits_of (take k bytes) ++ bits_of (drop k bytes) ≡ bits_of bytes
bits_of-parts k bytes = sym (bits_of-append (take k bytes) (drop k bytes)) ∙ ap bits_of (take-append-drop k bytes)

length-front : (k : ℕ) (bytes : List ℕ) → k ≤ length bytes → length (bits_of (take k bytes)) ≡ 8 * k
length-front k bytes le = length-bits_of (take k bytes) ∙ ap (λ n. 8 * n) (length-take-le k bytes le)

pub drop-bits_of : (k : ℕ) (bytes : List ℕ) → k ≤ length bytes → drop (8 * k) (bits_of bytes) ≡ bits_of (drop k bytes)
drop-bits_of k bytes le =
    ap (drop (8 * k)) (sym (bits_of-parts k bytes))
    ∙ drop_at (bits_of (take k bytes)) (bits_of (drop k bytes)) (8 * k) (length-front k bytes le)

pub take-bits_of : (k : ℕ) (bytes : List ℕ) → k ≤ length bytes → take (8 * k) (bits_of bytes) ≡ bits_of (take k bytes)
take-bits_of k bytes le =
    ap (take (8 * k)) (sym (bits_of-parts k bytes))
    ∙ take_at (bits_of (take k bytes)) (bits_of (drop k bytes)) (8 * k) (length-front k bytes le)

-- ---- bytes of equal bits are equal

pub bits_of-injective : (xs ys : List ℕ) → AllByRecursion (λ b. b < 256) xs → AllByRecursion (λ b. b < 256) ys
    → bits_of xs ≡ bits_of ys → xs ≡ ys
bits_of-injective [] [] xs-fit ys-fit e = refl
bits_of-injective [] (y ∷ ys) xs-fit ys-fit e =
    absurd (omega (arith, ap length e, length-bits_of [], length-bits_of (y ∷ ys)))
bits_of-injective (x ∷ xs) [] xs-fit ys-fit e =
    absurd (omega (arith, ap length e, length-bits_of [], length-bits_of (x ∷ xs)))
bits_of-injective (x ∷ xs) (y ∷ ys) xs-fit ys-fit e =
    let both : field 8 x ++ bits_of xs ≡ field 8 y ++ bits_of ys = sym (bits_of-cons x xs) ∙ e ∙ bits_of-cons y ys in
    let first : field 8 x ≡ field 8 y = sym (take_at (field 8 x) (bits_of xs) 8 (length-field 8 x)) ∙ ap (take 8) both
    ∙ take_at (field 8 y) (bits_of ys) 8 (length-field 8 y) in
    let others : bits_of xs ≡ bits_of ys = sym (drop_at (field 8 x) (bits_of xs) 8 (length-field 8 x))
    ∙ ap (drop 8) both ∙ drop_at (field 8 y) (bits_of ys) 8 (length-field 8 y) in
    let head : x ≡ y = field-injective 8 x y xs-fit.0 ys-fit.0 first in
    let tail : xs ≡ ys = bits_of-injective xs ys xs-fit.1 ys-fit.1 others in
    ap (λ b. b ∷ xs) head ∙ ap (λ bs. y ∷ bs) tail

-- ---- a number as bytes

pow-256 : (k : ℕ) → 256 ^ k ≡ 2 ^ (8 * k)
pow-256 zero = refl
pow-256 (suc k) =
    let e : 8 * suc k ≡ 8 * k + 8 = omega arith in
    rw (e, pow-add 2 (8 * k) 8, pow-suc 256 k) (ap (λ p. p * 256) (pow-256 k))

byte_at-is : (k n : ℕ) → byte_at k n ≡ n / 2 ^ (8 * k) % 2 ^ 8
byte_at-is zero n = sym (ap (λ x. x % 256) (div-one n))
byte_at-is (suc k) n = ap (λ p. n / p % 256) (pow-256 (suc k))

-- the bits of the lowest k bytes of a number, the highest of them first, are its lowest 8 * k bits
pub bits_of-bytes_high_first : (k n : ℕ) → bits_of (bytes_high_first k n) ≡ field (8 * k) n
bits_of-bytes_high_first zero n = bits_of-nil ∙ sym (field-none n)
bits_of-bytes_high_first (suc k) n =
    let e : 8 * suc k ≡ 8 + 8 * k = omega arith in
    let head : field 8 (byte_at k n) ≡ field 8 (n / 2 ^ (8 * k)) = ap (field 8) (byte_at-is k n)
    ∙ field-mod 8 (n / 2 ^ (8 * k)) in
    rw (bits_of-cons (byte_at k n) (bytes_high_first k n), head, bits_of-bytes_high_first k n, e)
    (sym (field-add 8 (8 * k) n))

-- ---- bytes of given bits

pub length-bytes_high_first : (k n : ℕ) → length (bytes_high_first k n) ≡ k
length-bytes_high_first zero n = refl
length-bytes_high_first (suc k) n = ap suc (length-bytes_high_first k n)

byte_at-fits : (k n : ℕ) → byte_at k n < 256
byte_at-fits zero n = mod_below n 256 (omega arith)
byte_at-fits (suc k) n = mod_below (n / 256 ^ suc k) 256 (omega arith)

pub bytes_high_first-fit : (k n : ℕ) → AllByRecursion (λ b. b < 256) (bytes_high_first k n)
bytes_high_first-fit zero n = tt
bytes_high_first-fit (suc k) n = (byte_at-fits k n, bytes_high_first-fit k n)

-- bits of whole bytes are the bits of the bytes of their value
pub bits_of-made : (bits : List Bool) (k : ℕ) → length bits ≡ 8 * k
    → bits_of (bytes_high_first k (value_of bits)) ≡ bits
bits_of-made bits k len =
    bits_of-bytes_high_first k (value_of bits) ∙ ap (λ n. field n (value_of bits)) (sym len) ∙ field-value_of bits

-- ---- a number of 16 bytes as two of 8

all-fit : (xs ys : List ℕ) → AllByRecursion (λ b. b < 256) xs → AllByRecursion (λ b. b < 256) ys
    → AllByRecursion (λ b. b < 256) (xs ++ ys)
all-fit [] ys xs-fit ys-fit = ys-fit
all-fit (x ∷ xs) ys xs-fit ys-fit = (xs-fit.0, all-fit xs ys xs-fit.1 ys-fit)

halves-bytes : (n : ℕ) → bytes_high_first 8 (n / 2 ^ 64) ++ bytes_high_first 8 (n % 2 ^ 64) ≡ bytes_high_first 16 n
halves-bytes n =
    let high = bytes_high_first 8 (n / 2 ^ 64) in
    let low = bytes_high_first 8 (n % 2 ^ 64) in
    bits_of-injective (high ++ low) (bytes_high_first 16 n)
    (all-fit high low (bytes_high_first-fit 8 (n / 2 ^ 64)) (bytes_high_first-fit 8 (n % 2 ^ 64)))
    (bytes_high_first-fit 16 n)
    (bits_of-append high low ∙ ap (λ t. t ++ bits_of low) (bits_of-bytes_high_first 8 (n / 2 ^ 64))
    ∙ ap (λ t. field 64 (n / 2 ^ 64) ++ t) (bits_of-bytes_high_first 8 (n % 2 ^ 64) ∙ field-mod 64 n)
    ∙ sym (field-add 64 64 n) ∙ sym (bits_of-bytes_high_first 16 n))

pub words-bytes : (n high low : ℕ) → high ≡ n / 2 ^ 64 → low ≡ n % 2 ^ 64
    → bytes_high_first 8 high ++ bytes_high_first 8 low ≡ bytes_high_first 16 n
words-bytes n high low high-is low-is =
    ap (λ x. bytes_high_first 8 x ++ bytes_high_first 8 low) high-is
    ∙ ap (λ x. bytes_high_first 8 (n / 2 ^ 64) ++ bytes_high_first 8 x) low-is ∙ halves-bytes n

-- # The bits of a reader: those after the used ones, up to its end.

-- the reader's bits
abbrev pub window : ℕ → ℕ → List Bool → List Bool
window used left bits = take left (drop used bits)

pub length-window : (used left : ℕ) (bits : List Bool) → used + left ≤ length bits
    → length (window used left bits) ≡ left
length-window used left bits le = length-take-le left (drop used bits) (omega (arith, length-drop used bits))

drop-window : (used left n : ℕ) (bits : List Bool) → n ≤ left
    → drop n (window used left bits) ≡ window (used + n) (left - n) bits
drop-window used left n bits le =
    let e : left ≡ n + (left - n) = omega arith in
    ap (λ l. drop n (take l (drop used bits))) e ∙ drop-take n (left - n) (drop used bits)
    ∙ ap (take (left - n)) (drop-drop n used bits)

pub part_at-window : {F : Type 0} (short : F) (used left n : ℕ) (bits : List Bool)
    → used + left ≤ length bits → n ≤ left
    → part_at short n (window used left bits) ≡ Ok (window used n bits, window (used + n) (left - n) bits)
unfolding part_at
part_at-window short used left n bits within le =
    let long : ltb (length (window used left bits)) n ≡ false =
    le-ltb _ _ (omega (arith, length-window used left bits within)) in
    rw (long, take-take n left (drop used bits) le, drop-window used left n bits le) refl

pub part_at-short : {F : Type 0} (short : F) (n : ℕ) (bits : List Bool) → length bits < n
    → part_at short n bits ≡ Err short
unfolding part_at
part_at-short short n bits lt = rw (lt-ltb (length bits) n lt) refl

-- a part of n bits is the field that follows the used bits
pub window-field : (used n v : ℕ) (bits : List Bool) → drop used bits ≡ field n v ++ drop (used + n) bits
    → window used n bits ≡ field n v
window-field used n v bits e = ap (take n) e ∙ take_at (field n v) (drop (used + n) bits) n (length-field n v)

-- ---- a field out of the bytes that contain it

parts : (s n after number : ℕ) → field (s + (n + after)) number ≡ field s (number / 2 ^ (n + after))
    ++ (field n (number / 2 ^ after) ++ field after number)
parts s n after number = field-add s (n + after) number
    ∙ ap (λ t. field s (number / 2 ^ (n + after)) ++ t) (field-add n after number)

pub window-number : (bytes : List ℕ) (first count used n after number : ℕ) → first + count ≤ length bytes
    → 8 * first ≤ used → 8 * first + 8 * count ≡ used + (n + after)
    → bits_of (take count (drop first bytes)) ≡ field (8 * count) number
    → drop used (bits_of bytes) ≡ field n (number / 2 ^ after) ++ drop (used + n) (bits_of bytes)
window-number bytes first count used n after number within le whole e =
    let s = used - 8 * first in
    let bits = bits_of bytes in
    let others = bits_of (drop count (drop first bytes)) in
    let value = number / 2 ^ after in
    let width : 8 * count ≡ s + (n + after) = omega arith in
    let following : bits_of (drop first bytes) ≡ field (8 * count) number ++ others =
    ap bits_of (sym (take-append-drop count (drop first bytes)))
    ∙ bits_of-append (take count (drop first bytes)) (drop count (drop first bytes)) ∙ ap (λ t. t ++ others) e in
    let cut : field (8 * count) number ++ others ≡ field s (number / 2 ^ (n + after))
    ++ ((field n value ++ field after number) ++ others) =
    ap (λ w. field w number ++ others) width ∙ ap (λ t. t ++ others) (parts s n after number)
    ∙ append_assoc (field s (number / 2 ^ (n + after))) (field n value ++ field after number) others in
    let from : drop used bits ≡ drop s (bits_of (drop first bytes)) =
    ap (λ u. drop u bits) (let k : used ≡ 8 * first + s = omega arith in k) ∙ sym (drop-drop s (8 * first) bits)
    ∙ ap (drop s) (drop-bits_of first bytes (omega arith)) in
    let there : drop used bits ≡ field n value ++ (field after number ++ others) =
    from ∙ ap (drop s) (following ∙ cut)
    ∙ drop_at (field s (number / 2 ^ (n + after))) ((field n value ++ field after number) ++ others) s
    (length-field s _) ∙ append_assoc (field n value) (field after number) others in
    let rest : drop (used + n) bits ≡ field after number ++ others =
    sym (drop-drop n used bits) ∙ ap (drop n) there
    ∙ drop_at (field n value) (field after number ++ others) n (length-field n value) in
    there ∙ ap (λ t. field n value ++ t) (sym rest)

-- ---- the number of bytes

pub number-more : (bytes : List ℕ) (i number : ℕ) → i < length bytes → get_or bytes i 0 < 256
    → bits_of (take i bytes) ≡ field (8 * i) number
    → bits_of (take (i + 1) bytes) ≡ field (8 * (i + 1)) (number * 256 + get_or bytes i 0)
number-more bytes i number lt fits e =
    let b = get_or bytes i 0 in
    let width : 8 * i + 8 ≡ 8 * (i + 1) = omega arith in
    ap bits_of (take_more bytes i 0 lt) ∙ bits_of-append (take i bytes) (b ∷ []) ∙ ap (λ t. t ++ bits_of (b ∷ [])) e
    ∙ ap (λ t. field (8 * i) number ++ t) (bits_of-single b) ∙ field-append (8 * i) 8 number b fits
    ∙ ap (λ w. field w (number * 256 + b)) width

pub number-fits : (i number b : ℕ) → b < 256 → number < 2 ^ (8 * i) → number * 256 + b < 2 ^ (8 * (i + 1))
number-fits i number b fits lt =
    let width : 8 * (i + 1) ≡ 8 * i + 8 = omega arith in
    rw (width, pow-add 2 (8 * i) 8) (omega arith)

-- ---- eight bytes at once

take-fits : (n : ℕ) (bytes : List ℕ) → ((i : ℕ) → get_or bytes i 0 < 256) → (i : ℕ) → get_or (take n bytes) i 0 < 256
take-fits zero bytes fit i = omega arith
take-fits (suc n) [] fit i = omega arith
take-fits (suc n) (b ∷ bytes) fit zero = fit zero
take-fits (suc n) (b ∷ bytes) fit (suc i) = take-fits n bytes (λ j. fit (suc j)) i

-- the number of eight bytes has their bits
pub number-at_once : (bytes : List ℕ) (number : ℕ) → 8 ≤ length bytes → ((i : ℕ) → get_or bytes i 0 < 256)
    → number ≡ from_be_bytes w64 (take 8 bytes) → bits_of (take 8 bytes) ≡ field 64 number
number-at_once bytes number le fit e =
    let spelled : to_be_bytes w64 number ≡ take 8 bytes =
    be_bytes_8 (take 8 bytes) number (length-take-le 8 bytes le) (take-fits 8 bytes fit) e in
    ap bits_of (sym spelled) ∙ bits_of-bytes_high_first 8 number
