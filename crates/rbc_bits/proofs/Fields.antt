-- Laws of fields, of a field at the front of bits, and of parts of a message's bits.
use Rattle.std.proofs.Common.{[], ◌%◌, ◌*◌, ◌++◌, ◌+◌, ◌/◌, ◌<◌, ◌^◌, ◌∙◌, ◌∷◌, ◌≡◌, ◌≤◌, ◌⊎◌, ap, append_assoc, arith}
use Rattle.std.proofs.Common.{Bool, cond, drop, eqb, Err, false, inl, inr, length, length-append, List, ltb, Ok, refl}
use Rattle.std.proofs.Common.{replicate, suc, sym, take, true, zero, ℕ}
use Rattle.std.proofs.lemmas.Bool.{le-ltb, lt-ltb, ltb-false, ltb-true}
use Rattle.std.proofs.lemmas.List.{drop_at, length-take-le, take-append-drop, take_at}
use Rattle.std.proofs.lemmas.Nat.{field_of, mod-pow-add, mod_below, mod_low, pow_pos, shr-shr, shr_high}
use Rattle.std.proofs.Math.Nat.{mod-eq_of_lt, mod-mod, mod-one, pow-suc, zero-div}
use Rattle.rbc_bits.specs.Bits.{field, is_odd, value_of}
use Rattle.rbc_bits.specs.Reading.{field_at, part_at}

-- # The laws of fields: their length, how a field splits, the value that one spells, and when two are equal.

pub length-field : (n v : ℕ) → length (field n v) ≡ n
unfolding field
length-field zero v = refl
length-field (suc n) v = ap suc (length-field n v)

pub field-none : (v : ℕ) → field 0 v ≡ []
unfolding field
field-none v = refl

pub field-zero : (n : ℕ) → field n 0 ≡ replicate n false
unfolding field
field-zero zero = refl
field-zero (suc n) = rw (zero-div (2 ^ n)) (ap (λ t. false ∷ t) (field-zero n))

-- ---- how a field splits

-- a field is its high bits and then its low bits
pub field-add : (m n v : ℕ) → field (m + n) v ≡ field m (v / 2 ^ n) ++ field n v
unfolding field
field-add zero n v = let e : zero + n ≡ n = omega arith in rw e refl
field-add (suc m) n v =
    let e : suc m + n ≡ suc (m + n) = omega arith in
    let k : n + m ≡ m + n = omega arith in
    let head : v / 2 ^ n / 2 ^ m ≡ v / 2 ^ (m + n) = shr-shr v n m ∙ ap (λ x. v / 2 ^ x) k in
    rw (e, head) (ap (λ t. is_odd (v / 2 ^ (m + n)) ∷ t) (field-add m n v))

mod-pow_less : (v n : ℕ) → v % 2 ^ (1 + n) % 2 ^ n ≡ v % 2 ^ n
mod-pow_less v n =
    rw (mod-pow-add v 1 n) (mod_low (v / 2 ^ n % 2 ^ 1) n (v % 2 ^ n) (mod_below v (2 ^ n) (pow_pos n)))

-- a field of n bits depends only on its value below 2 ^ n
pub field-mod : (n v : ℕ) → field n (v % 2 ^ n) ≡ field n v
unfolding field
field-mod zero v = refl
field-mod (suc n) v =
    let k : suc n ≡ 1 + n = omega arith in
    let head : v % 2 ^ suc n / 2 ^ n % 2 ≡ v / 2 ^ n % 2 =
    rw k (ap (λ x. x % 2) (field_of v 1 n) ∙ mod-mod (v / 2 ^ n) 2) in
    let tail : field n (v % 2 ^ suc n) ≡ field n v = sym (field-mod n (v % 2 ^ suc n))
    ∙ ap (field n) (rw k (mod-pow_less v n)) ∙ field-mod n v in
    ap (λ x. eqb x 1 ∷ field n (v % 2 ^ suc n)) head ∙ ap (λ t. is_odd (v / 2 ^ n) ∷ t) tail

-- bits above a field's width do not matter
pub field-low : (n high low : ℕ) → low < 2 ^ n → field n (high * 2 ^ n + low) ≡ field n low
field-low n high low fits = sym (field-mod n (high * 2 ^ n + low)) ∙ ap (field n) (mod_low high n low fits)

-- two fields, one after the other, are one field
pub field-append : (m n high low : ℕ) → low < 2 ^ n → field m high ++ field n low ≡ field (m + n) (high * 2 ^ n + low)
field-append m n high low fits =
    sym (field-add m n (high * 2 ^ n + low)
    ∙ ap (λ h. field m h ++ field n (high * 2 ^ n + low)) (shr_high high n low fits)
    ∙ ap (λ t. field m high ++ t) (field-low n high low fits))

-- ---- the value of bits

digit : (d p : ℕ) → d < 2 → cond (eqb d 1) p 0 ≡ d * p
digit zero p h = omega arith
digit (suc zero) p h = omega arith
digit (suc (suc d)) p h = absurd (omega arith)

pub value_of-field : (n v : ℕ) → value_of (field n v) ≡ v % 2 ^ n
unfolding field value_of
value_of-field zero v = sym (mod-one v)
value_of-field (suc n) v =
    let k : suc n ≡ 1 + n = omega arith in
    let q = v / 2 ^ n in
    rw (length-field n v, digit (v / 2 ^ n % 2) (2 ^ n) (mod_below (v / 2 ^ n) 2 (omega arith)), value_of-field n v, k)
    (sym (mod-pow-add v 1 n))

pub value_of-fits : (bits : List Bool) → value_of bits < 2 ^ length bits
unfolding value_of
value_of-fits [] = omega arith
value_of-fits (true ∷ bits) = omega (arith, value_of-fits bits, pow-suc 2 (length bits))
value_of-fits (false ∷ bits) = omega (arith, value_of-fits bits, pow-suc 2 (length bits))

pub field-value_of : (bits : List Bool) → field (length bits) (value_of bits) ≡ bits
unfolding field value_of
field-value_of [] = refl
field-value_of (true ∷ bits) =
    let n = length bits in
    let v = value_of bits in
    let fits : value_of bits < 2 ^ length bits = value_of-fits bits in
    let e : 2 ^ n + v ≡ 1 * 2 ^ n + v = omega arith in
    let head : (1 * 2 ^ n + v) / 2 ^ n ≡ 1 = shr_high 1 n v fits in
    rw (e, head, field-low n 1 v fits, field-value_of bits) refl
field-value_of (false ∷ bits) =
    let n = length bits in
    let v = value_of bits in
    let fits : value_of bits < 2 ^ length bits = value_of-fits bits in
    let e : 0 + v ≡ 0 * 2 ^ n + v = omega arith in
    let head : (0 * 2 ^ n + v) / 2 ^ n ≡ 0 = shr_high 0 n v fits in
    rw (e, head, field-low n 0 v fits, field-value_of bits) refl

-- ---- equal fields

-- fields of one width are equal if and only if their values are
pub field-injective : (n v w : ℕ) → v < 2 ^ n → w < 2 ^ n → field n v ≡ field n w → v ≡ w
field-injective n v w v-fits w-fits e =
    sym (mod-eq_of_lt v-fits) ∙ sym (value_of-field n v) ∙ ap value_of e ∙ value_of-field n w ∙ mod-eq_of_lt w-fits

pub value_of-field_fits : (n v : ℕ) → v < 2 ^ n → value_of (field n v) ≡ v
value_of-field_fits n v fits = value_of-field n v ∙ mod-eq_of_lt fits

-- # A field or a part at the front of bits is taken, and the taken one was there.

-- a part at the front of bits is taken
pub part_at-part : {F : Type 0} (short : F) (n : ℕ) (part rest : List Bool) → length part ≡ n
    → part_at short n (part ++ rest) ≡ Ok (part, rest)
unfolding part_at
part_at-part short n part rest len =
    let long : ltb (length (part ++ rest)) n ≡ false = le-ltb _ _ (omega (arith, length-append part rest)) in
    rw (long, take_at part rest n len, drop_at part rest n len) refl

-- a field at the front of bits is taken
pub field_at-field : {F : Type 0} (short : F) (n v : ℕ) (rest : List Bool) → v < 2 ^ n
    → field_at short n (field n v ++ rest) ≡ Ok (v, rest)
unfolding field_at
field_at-field short n v rest fits =
    let long : ltb (length (field n v ++ rest)) n ≡ false =
    le-ltb _ _ (omega (arith, length-append (field n v) rest, length-field n v)) in
    rw (
      long,
      take_at (field n v) rest n (length-field n v),
      drop_at (field n v) rest n (length-field n v),
      value_of-field_fits n v fits,
    ) refl

guard_ok : {A F : Type 0} (b : Bool) (e : F) (x y : A) → cond b (Err e) (Ok x) ≡ Ok y → (b ≡ false) × (x ≡ y)
guard_ok true e x y h = absurd cc
guard_ok false e x y h = (refl, cc)

guard_err : {A B F : Type 0} (b : Bool) (d e : F) (x : A) (y : B) → cond b (Err d) (Ok x) ≡ Err e
    → cond b (Err d) (Ok y) ≡ Err e
guard_err true d e x y h = cc
guard_err false d e x y h = absurd cc

-- the part that was taken was at the front
pub part_at_ok : {F : Type 0} (short : F) (n : ℕ) (bits part rest : List Bool) → part_at short n bits ≡ Ok (part, rest)
    → (bits ≡ part ++ rest) × (length part ≡ n)
unfolding part_at
part_at_ok short n bits part rest h =
    let g = guard_ok (ltb (length bits) n) short (take n bits, drop n bits) (part, rest) h in
    let long : n ≤ length bits = ltb-false _ _ g.0 in
    let part-is : take n bits ≡ part = ap (λ (p : List Bool × List Bool). p.0) g.1 in
    let rest-is : drop n bits ≡ rest = ap (λ (p : List Bool × List Bool). p.1) g.1 in
    rw (← part-is, ← rest-is) (sym (take-append-drop n bits), length-take-le n bits long)

-- the field that was taken was at the front
pub field_at_ok : {F : Type 0} (short : F) (n : ℕ) (bits : List Bool) (v : ℕ) (rest : List Bool)
    → field_at short n bits ≡ Ok (v, rest) → (bits ≡ field n v ++ rest) × (v < 2 ^ n)
unfolding field_at
field_at_ok short n bits v rest h =
    let g = guard_ok (ltb (length bits) n) short (value_of (take n bits), drop n bits) (v, rest) h in
    let long : n ≤ length bits = ltb-false _ _ g.0 in
    let len : length (take n bits) ≡ n = length-take-le n bits long in
    let v-is : value_of (take n bits) ≡ v = ap (λ (p : ℕ × List Bool). p.0) g.1 in
    let rest-is : drop n bits ≡ rest = ap (λ (p : ℕ × List Bool). p.1) g.1 in
    let front : field n (value_of (take n bits)) ≡ take n bits = ap (λ k. field k (value_of (take n bits))) (sym len)
    ∙ field-value_of (take n bits) in
    let fits : value_of (take n bits) < 2 ^ n = rw (ap (λ k. 2 ^ k) len) at (value_of-fits (take n bits)) in
    rw (← v-is, ← rest-is, front) (sym (take-append-drop n bits), fits)

-- if no part is taken, no field is
pub field_at-short : {F : Type 0} (short e : F) (n : ℕ) (bits : List Bool) → part_at short n bits ≡ Err e
    → field_at short n bits ≡ Err e
unfolding field_at part_at
field_at-short short e n bits h = guard_err (ltb (length bits) n) short e (take n bits, drop n bits)
    (value_of (take n bits), drop n bits) h

-- no field is taken if and only if too few bits are left
pub field_at-few : {F : Type 0} (short : F) (n : ℕ) (bits : List Bool) → length bits < n
    → field_at short n bits ≡ Err short
unfolding field_at
field_at-few short n bits few = rw (lt-ltb (length bits) n few) refl

few : {A F : Type 0} (b : Bool) (d e : F) (x : A) → cond b (Err d) (Ok x) ≡ Err e → b ≡ true
few true d e x h = refl
few false d e x h = absurd cc

pub field_at_err : {F : Type 0} (short e : F) (n : ℕ) (bits : List Bool)
    → field_at short n bits ≡ Err e → length bits < n
unfolding field_at
field_at_err short e n bits h =
    ltb-true (length bits) n (few (ltb (length bits) n) short e (value_of (take n bits), drop n bits) h)

-- # A part of a message's bits: in a word, or after it.

module _ (word others : List Bool) (one : (word ≡ []) ⊎ (others ≡ [])) where
  none_after : (xs ys : List Bool) → (xs ≡ []) ⊎ (ys ≡ []) → 0 < length xs → ys ≡ []
  none_after xs ys (inl e) more = absurd (omega (arith, ap length e, more))
  none_after xs ys (inr e) more = e

  -- if the word has some bits, these are the last
  pub too_few : {F : Type 0} (short : F) (n : ℕ) → 0 < length word → length word < n
      → field_at short n (word ++ others) ≡ Err short
  too_few short n more few =
      field_at-few short n (word ++ others)
      (omega (arith, length-append word others, ap length (none_after word others one more), few))

  -- a field of the word is the field of all
  pub taken_of : {F : Type 0} (short : F) (n v : ℕ) (new : List Bool) → v < 2 ^ n → word ≡ field n v ++ new
      → field_at short n (word ++ others) ≡ Ok (v, new ++ others)
  taken_of short n v new fits e =
      ap (λ t. field_at short n (t ++ others)) e ∙ ap (field_at short n) (append_assoc (field n v) new others)
      ∙ field_at-field short n v (new ++ others) fits

pub still_one : (word others new : List Bool) (n v : ℕ) → (word ≡ []) ⊎ (others ≡ []) → word ≡ field n v ++ new
    → (new ≡ []) ⊎ (others ≡ [])
still_one word others [] n v one e = inl refl
still_one word others (b ∷ new) n v (inl none) e =
    absurd (omega (arith, ap length e, ap length none, length-append (field n v) (b ∷ new)))
still_one word others (b ∷ new) n v (inr none) e = inr none
