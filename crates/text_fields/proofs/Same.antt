-- Fields to be written, and those that are shown.
use Rattle.std.proofs.Common.{[], ◌*◌, ◌++◌, ◌+◌, ◌/◌, ◌<◌, ◌^◌, ◌∙◌, ◌∷◌, ◌≡◌, ◌≤◌, ap, arith, drop, drop-cons, get_or}
use Rattle.std.proofs.Common.{length, List, pow_pos, suc, sym, ℕ}
use Rattle.std.proofs.Math.Nat.{lt-mul-div-succ}
use Rattle.rbc_bits.specs.Bits.{field}
use Rattle.rbc_packets.proofs.Again.{joined-cons, joined-nil}
use Rattle.rbc_packets.specs.Layout.{joined}
use Rattle.text_fields.proofs.Along.{drop_all}
use Rattle.text_fields.specs.declared.shown.Shown.{Shown}
use Rattle.text_fields.specs.declared.written.Written.{Written}
use Rattle.text_fields.specs.Named.{all_named, fields_in, Named, named}
use Rattle.text_fields.specs.Shown.{bits_shown}
use Rattle.text_fields.specs.Written.{all_written, written_named}

pub bits-shown : (list : List Shown) → bits_shown list ≡ joined (fields_in (all_named list))
bits-shown [] = sym joined-nil
bits-shown (s ∷ list) =
    ap (λ t. field s.width s.value ++ t) (bits-shown list)
    ∙ sym (joined-cons (s.width, s.value) (fields_in (all_named list)))

cut_at : {X : Type 0} (xs : List X) (i : ℕ) (d : X) → i < length xs → drop i xs ≡ get_or xs i d ∷ drop (i + 1) xs
cut_at xs i d h =
    let next : suc i ≡ i + 1 = omega arith in
    drop-cons xs i d h ∙ ap (λ (k : ℕ). get_or xs i d ∷ drop k xs) next

-- a consequence of equal fields from this place on is one of equal fields after it
pub goes_back : {A : Type 0} (shown : List Shown) (written : List Written) (i : ℕ) (d : Shown) (e : Written)
    → i < length shown → i < length written → named (get_or shown i d) ≡ written_named (get_or written i e)
    → (all_named (drop i shown) ≡ all_written (drop i written) → A)
    → all_named (drop (i + 1) shown) ≡ all_written (drop (i + 1) written) → A
goes_back shown written i d e h k same from rest =
    from (ap all_named (cut_at shown i d h)
    ∙ (ap (λ (f : Named). f ∷ all_named (drop (i + 1) shown)) same
    ∙ (ap (λ (fields : List Named). written_named (get_or written i e) ∷ fields) rest
    ∙ sym (ap all_written (cut_at written i e k)))))

-- past the end of both nothing is left
pub none_left : (shown : List Shown) (written : List Written) (i : ℕ) → length shown ≤ i → length written ≤ i
    → all_named (drop i shown) ≡ all_written (drop i written)
none_left shown written i h k = ap all_named (drop_all shown i h) ∙ sym (ap all_written (drop_all written i k))

-- a number whose bits above n are zero
pub has_few : (v n : ℕ) → v / 2 ^ n ≡ 0 → v < 2 ^ n
has_few v n e = omega (arith, lt-mul-div-succ v (pow_pos n), ap (λ k. 2 ^ n * (k + 1)) e)
