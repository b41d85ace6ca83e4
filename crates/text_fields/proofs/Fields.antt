-- Fields before other bits.
use Rattle.std.proofs.Common.{◌≡◌, ◌∙◌, sym, ap, ℕ, ◌+◌, ◌^◌, ◌<◌, ◌≤◌, Bool, List, [], ◌∷◌, ◌++◌, length}
use Rattle.std.proofs.Common.{append_assoc, length-append, arith}
use Rattle.std.specs.Prelude.{Result, Ok, Err}
use Rattle.std.proofs.lemmas.List.{map-append}
use Rattle.rbc_bits.specs.Bits.{field}
use Rattle.rbc_bits.specs.Reading.{field_at}
use Rattle.rbc_bits.proofs.Fields.{length-field, field_at-field}
use Rattle.rbc_packets.specs.Layout.{joined}
use Rattle.rbc_packets.proofs.Again.{joined-cons, joined-nil}
use Rattle.text_fields.specs.Named.{Named, named, all_named, fields_in}
use Rattle.text_fields.specs.Walks.{Next, Shows}
use Rattle.text_fields.specs.declared.shown.Shown.{Shown}

abbrev read_in : Result (ℕ × List Bool) (Unit {0}) → ℕ × List Bool
read_in (Ok x) = x
read_in (Err e) = (0, [])

-- a field of n bits before others is one field only
pub one_field : (n v w : ℕ) (x y : List Bool) → v < 2 ^ n → w < 2 ^ n → field n v ++ x ≡ field n w ++ y → (v ≡ w)
    × (x ≡ y)
one_field n v w x y a b e =
    let same : read_in (field_at tt n (field n v ++ x)) ≡ read_in (field_at tt n (field n w ++ y)) = ap
    (λ bits. read_in (field_at tt n bits)) e in
    let both : (v, x) ≡ (w, y) = ap read_in (sym (field_at-field tt n v x a))
    ∙ (same ∙ ap read_in (field_at-field tt n w y b)) in
    (ap (λ p. p.0) both, ap (λ p. p.1) both)

-- the bits of the first field ahead, and those after it
pub first_field : (f : Named) (fields : List Named) (rest : List Bool)
    → joined (fields_in (f ∷ fields)) ++ rest ≡ field f.field.0 f.field.1 ++ (joined (fields_in fields) ++ rest)
first_field f fields rest =
    ap (λ bits. bits ++ rest) (joined-cons f.field (fields_in fields))
    ∙ append_assoc (field f.field.0 f.field.1) (joined (fields_in fields)) rest

-- the bits of a field that is next are there
pub is_there : (name : List ℕ) (width v : ℕ) (rest : List Bool) (look : List Shown × List Bool) (end : ℕ)
    → Next (record { name = name; field = (width, v) } ∷ []) rest look end → (width ≤ 64)
    × (end + width ≤ length look.1)
is_there name width v rest look end n =
    let one : Named = record { name = name; field = (width, v) } in
    let long : length look.1 ≡ width + (length (joined []) + length rest)
    = ap length (n.bits ∙ first_field one [] rest)
    ∙ (length-append (field width v) (joined [] ++ rest)
    ∙ (ap (λ k. k + length (joined [] ++ rest)) (length-field width v)
    ∙ ap (λ k. width + k) (length-append (joined []) rest))) in
    (n.fit.0.0, omega (arith, long, n.within))

-- the field that is next is shown
pub takes_one : (name : List ℕ) (width v : ℕ) (rest : List Bool) (old new : List Shown
    × List Bool) (end : ℕ) (x : Shown)
    → Next (record { name = name; field = (width, v) } ∷ []) rest old end
    → named x ≡ record { name = name; field = (width, x.value) } → x.value < 2 ^ width
    → old.1 ≡ field width x.value ++ new.1 → new.0 ≡ old.0 ++ x ∷ []
    → (x.value ≡ v) × Shows (record { name = name; field = (width, v) } ∷ []) rest old new
takes_one name width v rest old new end x n is_named small read shown =
    let one : Named = record { name = name; field = (width, v) } in
    let split : field width v ++ (joined [] ++ rest) ≡ field width x.value ++ new.1 = sym (n.bits
    ∙ first_field one [] rest) ∙ read in
    let same = one_field width v x.value (joined [] ++ rest) new.1 n.fit.0.1 small split in (
      sym same.0,
      record {
        shown = ap (λ (list : List Shown). all_named list) shown
            ∙ (map-append named old.0 (x ∷ [])
            ∙ ap (λ (y : Named). all_named old.0 ++ (y ∷ [])) (is_named
            ∙ ap (λ (w : ℕ). record { name = name; field = (width, w) }) (sym same.0)));
        left = sym same.1 ∙ ap (λ bits. bits ++ rest) joined-nil;
      },
    )
