-- Bits at the front of a word, and the bits of a writer.
use Rattle.std.proofs.Common.{◌%◌, ◌*◌, ◌++◌, ◌+◌, ◌-◌, ◌/◌, ◌<◌, ◌^◌, ◌∙◌, ◌≡◌, ◌≤◌, ap, append_assoc, arith, Bool}
use Rattle.std.proofs.Common.{drop, false, length, length-append, List, replicate, sym, take, ℕ}
use Rattle.std.proofs.lemmas.List.{append-nil, length-take-le, take-append-drop, take-append-le, take_at}
use Rattle.std.proofs.lemmas.Nat.{and_mask, mul-add-lt, one_shl, or_shifted, pow-add, pow_pos, shl-shr, shl_whole}
use Rattle.std.proofs.lemmas.Nat.{shr-shr, shr_below, shr_high}
use Rattle.std.proofs.Math.Nat.{div-lt_iff_lt-mul, mul_assoc}
use Rattle.std.proofs.Math.Seq.{take-append-add}
use Rattle.std.specs.Int.{bytes_high_first, to_be_bytes, w64}
use Rattle.std.specs.Prelude.{bit_and, bit_or}
use Rattle.rbc_bits.proofs.Bytes.{bits_of-append, bits_of-bytes_high_first, length-bits_of, length-bytes_high_first}
use Rattle.rbc_bits.proofs.Bytes.{take-bits_of}
use Rattle.rbc_bits.proofs.Fields.{field-add, field-append, field-mod, field-none, field-zero, length-field}
use Rattle.rbc_bits.specs.Bits.{bits_of, field, filled, filling}

-- # Bits at the front of a word of 128 bits.

pub length-front : (word left : ℕ) → left ≤ 128 → length (take left (field 128 word)) ≡ left
length-front word left le =
    let width : 128 ≡ left + (128 - left) = omega arith in
    ap (λ k. length (take left (field k word))) width
    ∙ ap (λ bits. length (take left bits)) (field-add left (128 - left) word)
    ∙ ap length (take_at (field left (word / 2 ^ (128 - left))) (field (128 - left) word) left (length-field left _))
    ∙ length-field left _

-- the bits of a number before some others, moved to the front
pub moved : (number n after : ℕ) → n + after ≤ 128 → take n (field 128 (number * 2 ^ (128 - n - after) % 2 ^ 128))
    ≡ field n (number / 2 ^ after)
moved number n after le =
    let s = 128 - n - after in
    let x = number * 2 ^ s in
    let width : 128 ≡ n + (s + after) = omega arith in
    let value : x / 2 ^ (s + after) ≡ number / 2 ^ after = sym (shr-shr x s after)
    ∙ ap (λ v. v / 2 ^ after) (shl-shr number s) in
    ap (take n) (field-mod 128 x ∙ ap (λ k. field k x) width ∙ field-add n (s + after) x)
    ∙ take_at (field n (x / 2 ^ (s + after))) (field (s + after) x) n (length-field n _) ∙ ap (field n) value

-- the field of the first n bits, and the bits after it
pub taken : (word left n : ℕ) → n ≤ left → left ≤ 128
    → take left (field 128 word) ≡ field n (word / 2 ^ (128 - n))
    ++ take (left - n) (field 128 (word * 2 ^ n % 2 ^ 128))
taken word left n le few =
    let m = 128 - n in
    let k = left - n in
    let head = field n (word / 2 ^ m) in
    let front : 128 ≡ n + m = omega arith in
    let back : 128 ≡ m + n = omega arith in
    let whole : left ≡ length head + k = omega (arith, length-field n (word / 2 ^ m)) in
    let fit : k ≤ length (field m word) = omega (arith, length-field m word) in
    let split : field 128 word ≡ head ++ field m word = ap (λ w. field w word) front ∙ field-add n m word in
    let following : field 128 (word * 2 ^ n % 2 ^ 128) ≡ field m word ++ field n (word * 2 ^ n) =
    field-mod 128 (word * 2 ^ n) ∙ ap (λ w. field w (word * 2 ^ n)) back ∙ field-add m n (word * 2 ^ n)
    ∙ ap (λ v. field m v ++ field n (word * 2 ^ n)) (shl-shr word n) in
    ap (take left) split ∙ ap (λ l. take l (head ++ field m word)) whole ∙ take-append-add head (field m word) k
    ∙ ap (λ t. head ++ t) (sym (ap (take k) following ∙ take-append-le k (field m word) (field n (word * 2 ^ n)) fit))

-- two numbers of eight bytes, one after the other
pub joined_words : (bytes : List ℕ) (high low : ℕ) → 8 ≤ length bytes → low < 2 ^ 64
    → bits_of (take 8 bytes) ≡ field 64 high → bits_of (take 8 (drop 8 bytes)) ≡ field 64 low
    → bits_of (take 16 bytes) ≡ field 128 (high * 2 ^ 64 + low)
joined_words bytes high low enough fits first second =
    let xs = take 8 bytes in
    let ys = drop 8 bytes in
    let sixteen : 16 ≡ length xs + 8 = omega (arith, length-take-le 8 bytes enough) in
    let parts : take 16 bytes ≡ xs ++ take 8 ys = ap (take 16) (sym (take-append-drop 8 bytes))
    ∙ ap (λ n. take n (xs ++ ys)) sixteen ∙ take-append-add xs ys 8 in
    ap bits_of parts ∙ bits_of-append xs (take 8 ys) ∙ ap (λ t. t ++ bits_of (take 8 ys)) first
    ∙ ap (λ t. field 64 high ++ t) second ∙ field-append 64 64 high low fits

-- how many bits are after a field
pub length-following : (bits rest : List Bool) (n v : ℕ) → bits ≡ field n v ++ rest → length bits ≡ n + length rest
length-following bits rest n v e = omega (arith, ap length e, length-append (field n v) rest, length-field n v)

-- the number of the first n bits has n binary digits
pub high : (word n : ℕ) → word < 2 ^ 128 → n ≤ 128 → word / 2 ^ (128 - n) < 2 ^ n
high word n fits le =
    let whole : 128 ≡ n + (128 - n) = omega arith in
    let split : 2 ^ 128 ≡ 2 ^ n * 2 ^ (128 - n) = ap (λ k. 2 ^ k) whole ∙ pow-add 2 n (128 - n) in
    (div-lt_iff_lt-mul (pow_pos (128 - n))).1 (rw (← split) fits)

-- # The bits of a writer: whole bytes, and fewer than 64 bits after them.

-- ---- shifts and masks

-- the lowest n bits of a number
pub masked : (n number : ℕ) → n < 128 → bit_and number ((1 * 2 ^ n) % 2 ^ 128 - 1) ≡ number % 2 ^ n
masked n number lt = rw (one_shl n 128 lt) (and_mask number n)

pub masked_64 : (n number : ℕ) → n < 64 → bit_and number ((1 * 2 ^ n) % 2 ^ 64 - 1) ≡ number % 2 ^ n
masked_64 n number lt = rw (one_shl n 64 lt) (and_mask number n)

-- a number of n bits after one of `count` bits, if both have room in a word
pub joined : (w held count n value : ℕ) → held < 2 ^ count → count + n ≤ w → value < 2 ^ n
    → bit_or (held * 2 ^ n % 2 ^ w) value ≡ held * 2 ^ n + value
joined w held count n value held-fits room fits =
    rw (shl_whole held count n w held-fits room) (or_shifted held n value fits)

pub joined_fits : (w held count n value : ℕ) → held < 2 ^ count → count + n ≤ w → value < 2 ^ n
    → bit_or (held * 2 ^ n % 2 ^ w) value < 2 ^ (count + n)
joined_fits w held count n value held-fits room fits =
    rw (joined w held count n value held-fits room fits, pow-add 2 count n)
    (omega (arith, mul-add-lt held (2 ^ n) value (2 ^ count) held-fits fits))

-- ---- the written bits

-- bits that are held back
pub held_back : (bytes : List ℕ) (held count n value : ℕ) → held < 2 ^ count → count + n < 64 → value < 2 ^ n
    → bits_of bytes ++ field (count + n) (bit_or (held * 2 ^ n % 2 ^ 64) value)
    ≡ (bits_of bytes ++ field count held) ++ field n value
held_back bytes held count n value held-fits room fits =
    rw (joined 64 held count n value held-fits (omega arith) fits)
    (ap (λ t. bits_of bytes ++ t) (sym (field-append count n held value fits))
    ∙ sym (append_assoc (bits_of bytes) (field count held) (field n value)))

-- eight bytes, and the bits after them
pub word_fits : (held count n value : ℕ) → held < 2 ^ count → count < 64 → n ≤ 64 → 64 ≤ count + n → value < 2 ^ n
    → bit_or (held * 2 ^ n % 2 ^ 128) value / 2 ^ (count + n - 64) < 2 ^ 64
word_fits held count n value held-fits small width full fits =
    let number = bit_or (held * 2 ^ n % 2 ^ 128) value in
    let e : count + n ≡ 64 + (count + n - 64) = omega arith in
    let below : number < 2 ^ (64 + (count + n - 64)) =
    rw (← e) (joined_fits 128 held count n value held-fits (omega arith) fits) in
    shr_below number 64 (count + n - 64) below

pub word_writes : (bytes new : List ℕ) (held count n value : ℕ) → held < 2 ^ count → count < 64 → n ≤ 64
    → 64 ≤ count + n → value < 2 ^ n
    → new ≡ bytes ++ to_be_bytes w64 (bit_or (held * 2 ^ n % 2 ^ 128) value / 2 ^ (count + n - 64))
    → bits_of new ++ field (count + n - 64)
    (bit_and (bit_or (held * 2 ^ n % 2 ^ 128) value) (1 * 2 ^ (count + n - 64) % 2 ^ 128 - 1))
    ≡ (bits_of bytes ++ field count held) ++ field n value
word_writes bytes new held count n value held-fits small width full fits new-is =
    let after = count + n - 64 in
    let number = held * 2 ^ n + value in
    let top = number / 2 ^ after in
    let number-is : bit_or (held * 2 ^ n % 2 ^ 128) value ≡ number =
    joined 128 held count n value held-fits (omega arith) fits in
    let e : count + n ≡ 64 + after = omega arith in
    let whole : bits_of (to_be_bytes w64 top) ≡ field 64 top = bits_of-bytes_high_first 8 top in
    let both : field count held ++ field n value ≡ field 64 top ++ field after number =
    field-append count n held value fits ∙ ap (λ k. field k number) e ∙ field-add 64 after number in
    rw (
      new-is,
      number-is,
      masked after number (omega arith),
      field-mod after number,
      bits_of-append bytes (to_be_bytes w64 top),
      whole,
    )
    (append_assoc (bits_of bytes) (field 64 top) (field after number) ∙ ap (λ t. bits_of bytes ++ t) (sym both)
    ∙ sym (append_assoc (bits_of bytes) (field count held) (field n value)))

-- ---- the filling bits

pub filled-whole : (bytes : List ℕ) (held count : ℕ) → count ≤ 0
    → bits_of bytes ≡ filled (bits_of bytes ++ field count held)
unfolding filled
filled-whole bytes held count none_held =
    let bits = bits_of bytes in
    let count-is : count ≡ 0 = omega arith in
    let none : bits ++ field count held ≡ bits = ap (λ k. bits ++ field k held) count-is
    ∙ ap (λ t. bits ++ t) (field-none held) ∙ append-nil bits in
    let whole : filling (length bits) ≡ 0 = omega (arith, length-bits_of bytes) in
    rw (none, whole) (sym (append-nil bits))

-- the bits that are held, moved to the top of a word of b bytes, begin its bytes
top_bytes : (b held count k : ℕ) → k ≤ b → count ≤ 8 * k
    → bits_of (take k (bytes_high_first b (held * 2 ^ (8 * b - count) + 0))) ≡ field count held
    ++ replicate (8 * k - count) false
top_bytes b held count k few room =
    let r = 8 * k - count in
    let low = 8 * b - 8 * k in
    let number = held * 2 ^ (8 * b - count) + 0 in
    let high = held * 2 ^ r + 0 in
    let split : 8 * b - count ≡ r + low = omega arith in
    let number-is : number ≡ high * 2 ^ low + 0 = rw (split, pow-add 2 r low)
    (ap (λ x. x + 0) (sym (mul_assoc held (2 ^ r) (2 ^ low))
    ∙ ap (λ x. x * 2 ^ low) (let z : held * 2 ^ r ≡ held * 2 ^ r + 0 = omega arith in z))) in
    let shifted : number / 2 ^ low ≡ high = ap (λ x. x / 2 ^ low) number-is ∙ shr_high high low 0 (pow_pos low) in
    let whole : 8 * b ≡ 8 * k + low = omega arith in
    let e8 : 8 * k ≡ count + r = omega arith in
    let word : bits_of (bytes_high_first b number) ≡ field (8 * k) high ++ field low number =
    bits_of-bytes_high_first b number ∙ ap (λ w. field w number) whole ∙ field-add (8 * k) low number
    ∙ ap (λ x. field (8 * k) x ++ field low number) shifted in
    sym (take-bits_of k (bytes_high_first b number) (omega (arith, length-bytes_high_first b number)))
    ∙ ap (take (8 * k)) word
    ∙ take_at (field (8 * k) high) (field low number) (8 * k) (length-field (8 * k) high)
    ∙ ap (λ w. field w high) e8 ∙ sym (field-append count r held 0 (pow_pos r))
    ∙ ap (λ t. field count held ++ t) (field-zero r)

pub filled-part : (b : ℕ) (bytes new : List ℕ) (held count : ℕ) → 0 < count → count ≤ 8 * b → held < 2 ^ count
    → new ≡ bytes ++ take ((count + 7) / 8) (bytes_high_first b (held * 2 ^ (8 * b - count) % 2 ^ (8 * b)))
    → bits_of new ≡ filled (bits_of bytes ++ field count held)
unfolding filled
filled-part b bytes new held count some small fits new-is =
    let bits = bits_of bytes in
    let k = (count + 7) / 8 in
    let r = 8 * k - count in
    let kept : held * 2 ^ (8 * b - count) % 2 ^ (8 * b) ≡ held * 2 ^ (8 * b - count) + 0 =
    shl_whole held count (8 * b - count) (8 * b) fits (omega arith) ∙ (omega arith) in
    let l : length (bits ++ field count held) ≡ 8 * length bytes + count =
    omega (arith, length-append bits (field count held), length-bits_of bytes, length-field count held) in
    let fill : filling (length (bits ++ field count held)) ≡ r = rw l (omega arith) in
    rw (
      new-is,
      kept,
      bits_of-append bytes (take k (bytes_high_first b (held * 2 ^ (8 * b - count) + 0))),
      top_bytes b held count k (omega arith) (omega arith),
      fill,
    )
    (sym (append_assoc bits (field count held) (replicate r false)))
