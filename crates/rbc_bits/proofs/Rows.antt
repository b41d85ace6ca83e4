-- The bits of a `BitRow`: up to 128 in a word, and up to 128 after them in another.
use Rattle.std.proofs.Common.{[], ◌%◌, ◌*◌, ◌++◌, ◌+◌, ◌-◌, ◌/◌, ◌<◌, ◌^◌, ◌∙◌, ◌≡◌, ◌≤◌, ◌⊎◌, ap, append_assoc, arith}
use Rattle.std.proofs.Common.{Bool, false, inl, inr, length, length-append, List, refl, replicate, subst, sym, take, ℕ}
use Rattle.std.proofs.lemmas.List.{append-nil, length-replicate, replicate-append-replicate, take_at}
use Rattle.std.proofs.lemmas.Nat.{mod_below, pow_pos, shl_whole, shr_below}
use Rattle.std.specs.Int.{bytes_high_first}
use Rattle.std.specs.Prelude.{bit_and, bit_or}
use Rattle.rbc_bits.proofs.Bytes.{bits_of-append, bits_of-bytes_high_first, length-bytes_high_first, take-bits_of}
use Rattle.rbc_bits.proofs.Fields.{field-add, field-append, field-mod, field-none, field-zero, length-field}
use Rattle.rbc_bits.proofs.Words.{joined, joined_fits, masked}
use Rattle.rbc_bits.specs.Bits.{bits_of, field, filled, filling}
use Rattle.rbc_bits.specs.RowView.{IsRow}

module _ (front back first second : ℕ) (row : IsRow front back first second) where
  pub length-row : length (field first front ++ field second back) ≡ first + second
  length-row = length-append (field first front) (field second back)
      ∙ ap (λ k. k + length (field second back)) (length-field first front)
      ∙ ap (λ k. first + k) (length-field second back)

  no_back : (n : ℕ) → 1 ≤ n → first + n ≤ 128 → (second ≡ 0) ⊎ (first ≡ 128) → second ≡ 0
  no_back n some room (inl none) = none
  no_back n some room (inr whole) = absurd (omega (arith, whole))

  -- ---- a field that has room in the first word

  module _ (n value : ℕ) (some : 1 ≤ n) (room : first + n ≤ 128) (fits : value < 2 ^ n) where
    pub near-row : IsRow (bit_or (front * 2 ^ n % 2 ^ 128) value) back (first + n) second
    near-row = record {
      first-few = room;
      second-few = row.second-few;
      front-fits = joined_fits 128 front first n value row.front-fits room fits;
      back-fits = row.back-fits;
      full = inl (no_back n some room row.full);
    }

    pub near-written : field (first + n) (bit_or (front * 2 ^ n % 2 ^ 128) value) ++ field second back
        ≡ (field first front ++ field second back) ++ field n value
    near-written =
        let e : field second back ≡ [] = ap (λ k. field k back) (no_back n some room row.full) ∙ field-none back in
        let word : field (first + n) (bit_or (front * 2 ^ n % 2 ^ 128) value) ≡ field first front ++ field n value =
        ap (field (first + n)) (joined 128 front first n value row.front-fits room fits)
        ∙ sym (field-append first n front value fits) in
        ap (λ t. field (first + n) (bit_or (front * 2 ^ n % 2 ^ 128) value) ++ t) e ∙ append-nil _ ∙ word
        ∙ ap (λ t. t ++ field n value) (sym (append-nil (field first front))
        ∙ ap (λ t. field first front ++ t) (sym e))

  -- ---- a field that has not

  swapped : (a b c d : List Bool) → (c ≡ []) ⊎ (b ≡ []) → (a ++ b) ++ (c ++ d) ≡ (a ++ c) ++ (b ++ d)
  swapped a b c d (inl none) = rw (none, append-nil a) (append_assoc a b d)
  swapped a b c d (inr none) = rw (none, append-nil a) (sym (append_assoc a c d))

  one_empty : (room high : ℕ) → first + room ≡ 128 → (second ≡ 0) ⊎ (first ≡ 128)
      → (field second back ≡ []) ⊎ (field room high ≡ [])
  one_empty room high whole (inl none) = inl (ap (λ k. field k back) none ∙ field-none back)
  one_empty room high whole (inr full) =
      let none : room ≡ 0 = omega (arith, whole, full) in
      inr (ap (λ k. field k high) none ∙ field-none high)

  module _ (n value : ℕ) (width : n ≤ 64) (over : 128 < first + n) (enough : first + second + n ≤ 256)
      (fits : value < 2 ^ n) where
    abbrev pub room : ℕ
    room = 128 - first

    abbrev pub after : ℕ
    after = n - room

    whole : first + room ≡ 128
    whole = let h = row.first-few in omega arith

    split : n ≡ room + after
    split = omega (arith, row.first-few)

    high-fits : value / 2 ^ after < 2 ^ room
    high-fits = shr_below value room after (rw (← split) fits)

    low-fits : value % 2 ^ after < 2 ^ after
    low-fits = mod_below value (2 ^ after) (pow_pos after)

    back-room : (second ≡ 0) ⊎ (first ≡ 128) → second + after ≤ 128
    back-room (inl none) = omega (arith, none)
    back-room (inr full) = omega (arith, full)

    low-is : bit_and value (1 * 2 ^ after % 2 ^ 128 - 1) ≡ value % 2 ^ after
    low-is = masked after value (omega arith)

    pub far-row : IsRow (bit_or (front * 2 ^ room % 2 ^ 128) (value / 2 ^ after))
        (bit_or (back * 2 ^ after % 2 ^ 128) (bit_and value (1 * 2 ^ after % 2 ^ 128 - 1))) 128 (second + after)
    far-row = record {
      first-few = omega arith;
      second-few = back-room row.full;
      front-fits = subst (λ k. bit_or (front * 2 ^ room % 2 ^ 128) (value / 2 ^ after) < 2 ^ k) whole
          (joined_fits 128 front first room (value / 2 ^ after) row.front-fits (omega (arith, whole)) high-fits);
      back-fits =
          rw low-is (joined_fits 128 back second after (value % 2 ^ after) row.back-fits (back-room row.full) low-fits);
      full = inr refl;
    }

    pub far-written : field 128 (bit_or (front * 2 ^ room % 2 ^ 128) (value / 2 ^ after))
        ++ field (second + after) (bit_or (back * 2 ^ after % 2 ^ 128) (bit_and value (1 * 2 ^ after % 2 ^ 128 - 1)))
        ≡ (field first front ++ field second back) ++ field n value
    far-written =
        let high = value / 2 ^ after in
        let low = value % 2 ^ after in
        let one : field 128 (bit_or (front * 2 ^ room % 2 ^ 128) high) ≡ field first front ++ field room high =
        ap (λ k. field k (bit_or (front * 2 ^ room % 2 ^ 128) high)) (sym whole)
        ∙ ap (field (first + room))
        (joined 128 front first room high row.front-fits (omega (arith, whole)) high-fits)
        ∙ sym (field-append first room front high high-fits) in
        let two : field (second + after)
        (bit_or (back * 2 ^ after % 2 ^ 128) (bit_and value (1 * 2 ^ after % 2 ^ 128 - 1)))
        ≡ field second back ++ field after value =
        ap (λ v. field (second + after) (bit_or (back * 2 ^ after % 2 ^ 128) v)) low-is
        ∙ ap (field (second + after)) (joined 128 back second after low row.back-fits (back-room row.full) low-fits)
        ∙ sym (field-append second after back low low-fits)
        ∙ ap (λ t. field second back ++ t) (field-mod after value) in
        let all : field n value ≡ field room high ++ field after value = ap (λ k. field k value) split
        ∙ field-add room after value in
        ap (λ t. t ++ field (second + after)
        (bit_or (back * 2 ^ after % 2 ^ 128) (bit_and value (1 * 2 ^ after % 2 ^ 128 - 1)))) one
        ∙ ap (λ t. (field first front ++ field room high) ++ t) two
        ∙ swapped (field first front) (field room high) (field second back) (field after value)
        (one_empty room high whole row.full) ∙ ap (λ t. (field first front ++ field second back) ++ t) (sym all)

  -- ---- the bytes

  -- the zero bits after both words
  following : (field first front ++ field (128 - first) 0) ++ (field second back ++ field (128 - second) 0)
      ≡ (field first front ++ field second back) ++ replicate (256 - (first + second)) false
  following =
      let a = 128 - first in
      let b = 128 - second in
      let count : a + b ≡ 256 - (first + second) = omega (arith, row.first-few, row.second-few) in
      let zeros : field a 0 ++ field b 0 ≡ replicate (256 - (first + second)) false =
      ap (λ t. t ++ field b 0) (field-zero a) ∙ ap (λ t. replicate a false ++ t) (field-zero b)
      ∙ replicate-append-replicate a b false ∙ ap (λ n. replicate n false) count in
      swapped (field first front) (field a 0) (field second back) (field b 0)
      (one_empty a 0 (omega (arith, row.first-few)) row.full)
      ∙ ap (λ t. (field first front ++ field second back) ++ t) zeros

  -- the first bytes of both words, each moved to its top
  pub row-filled : (bytes : List ℕ) (one two k : ℕ) → field 128 one ≡ field first front ++ field (128 - first) 0
      → field 128 two ≡ field second back ++ field (128 - second) 0
      → k ≡ (first + second + 7) / 8 → bytes ≡ take k (bytes_high_first 16 one ++ bytes_high_first 16 two)
      → bits_of bytes ≡ filled (field first front ++ field second back)
  unfolding filled
  row-filled bytes one two k one-is two-is k-is bytes-are =
      let bits = field first front ++ field second back in
      let all = bytes_high_first 16 one ++ bytes_high_first 16 two in
      let fill = filling (length bits) in
      let rest = 256 - (first + second) - fill in
      let l = length-row in
      let size : length all ≡ 32 =
      omega (
        arith,
        length-append (bytes_high_first 16 one) (bytes_high_first 16 two),
        length-bytes_high_first 16 one,
        length-bytes_high_first 16 two,
      ) in
      let zeros : replicate (256 - (first + second)) false ≡ replicate fill false ++ replicate rest false =
      ap (λ n. replicate n false) (let e : 256 - (first + second) ≡ fill
      + rest = omega (arith, row.first-few, row.second-few, l) in
      e) ∙ sym (replicate-append-replicate fill rest false) in
      let text : bits_of all ≡ (bits ++ replicate fill false) ++ replicate rest false =
      bits_of-append (bytes_high_first 16 one) (bytes_high_first 16 two)
      ∙ ap (λ t. t ++ bits_of (bytes_high_first 16 two)) (bits_of-bytes_high_first 16 one ∙ one-is)
      ∙ ap (λ t. (field first front ++ field (128 - first) 0) ++ t) (bits_of-bytes_high_first 16 two ∙ two-is)
      ∙ following ∙ ap (λ t. bits ++ t) zeros
      ∙ sym (append_assoc bits (replicate fill false) (replicate rest false)) in
      ap bits_of bytes-are ∙ sym (take-bits_of k all (omega (arith, k-is, size, row.first-few, row.second-few)))
      ∙ ap (take (8 * k)) text
      ∙ take_at (bits ++ replicate fill false) (replicate rest false) (8 * k)
      (omega (arith, k-is, l, length-append bits (replicate fill false), length-replicate fill false))

-- the bits of a number at the top of a word
pub topped : (held count : ℕ) → held < 2 ^ count → count ≤ 128
    → field 128 (held * 2 ^ (128 - count) % 2 ^ 128) ≡ field count held ++ field (128 - count) 0
topped held count fits few =
    let r = 128 - count in
    let kept : held * 2 ^ r % 2 ^ 128 ≡ held * 2 ^ r + 0 = shl_whole held count r 128 fits (omega arith)
    ∙ (omega arith) in
    let whole : 128 ≡ count + r = omega arith in
    ap (field 128) kept ∙ ap (λ w. field w (held * 2 ^ r + 0)) whole ∙ sym (field-append count r held 0 (pow_pos r))

pub topped-none : (held count : ℕ) → count ≡ 0 → field 128 0 ≡ field count held ++ field (128 - count) 0
topped-none held count none = rw (none, field-none held) refl
