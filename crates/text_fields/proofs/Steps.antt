-- The steps of a walk, one after another.
use Rattle.std.proofs.Common.{◌≡◌, ◌∙◌, sym, ap, refl, subst, ℕ, zero, suc, ◌<◌, ◌≤◌, Bool, false, List, []}
use Rattle.std.proofs.Common.{◌∷◌, ◌++◌, length, replicate, codes, ◌-◌, append_assoc, append-nil, length-append, true}
use Rattle.std.proofs.Common.{true≢false, arith}
use Rattle.std.specs.List.{AllByRecursion}
use Rattle.std.proofs.lemmas.List.{map-append, length-replicate}
use Rattle.rbc_bits.specs.Bits.{field}
use Rattle.rbc_bits.proofs.Fields.{field-zero}
use Rattle.rbc_packets.specs.Layout.{Field, joined}
use Rattle.rbc_packets.proofs.Again.{joined-cons, joined-nil, joined-append}
use Rattle.text_fields.specs.Named.{Named, NamedFits, all_named, fields_in, with_names}
use Rattle.text_fields.specs.Walks.{Next, Shows, Takes, after}
use Rattle.text_fields.specs.Messages.{filling_fields}
use Rattle.text_fields.specs.declared.shown.Shown.{Shown}

first_fit : (a b : List Named) → AllByRecursion NamedFits (a ++ b) → AllByRecursion NamedFits a
first_fit [] b h = tt
first_fit (f ∷ a) b h = (h.0, first_fit a b h.1)

last_fit : (a b : List Named) → AllByRecursion NamedFits (a ++ b) → AllByRecursion NamedFits b
last_fit [] b h = h
last_fit (f ∷ a) b h = last_fit a b h.1

pub both_fit : (a b : List Named) → AllByRecursion NamedFits a → AllByRecursion NamedFits b
    → AllByRecursion NamedFits (a ++ b)
both_fit [] b h k = k
both_fit (f ∷ a) b h k = (h.0, both_fit a b h.1 k)

pub bits_then : (a b : List Named) (rest : List Bool) → joined (fields_in (a ++ b)) ++ rest ≡ joined (fields_in a) ++
    after b rest
bits_then a b rest =
    ap (λ fields. joined fields ++ rest) (map-append (λ (f : Named). f.field) a b)
    ∙ (ap (λ bits. bits ++ rest) (joined-append (fields_in a) (fields_in b))
    ∙ append_assoc (joined (fields_in a)) (joined (fields_in b)) rest)

-- the first of two runs of fields is next
pub first : (a b : List Named) (rest : List Bool) (look : List Shown × List Bool) (end : ℕ)
    → Next (a ++ b) rest look end → Next a (after b rest) look end
first a b rest look end n =
    record {
      bits = n.bits ∙ bits_then a b rest;
      fit = first_fit a b n.fit;
      within = omega (arith, n.within, length-append (joined (fields_in b)) rest);
    }

-- once it is shown, the other is next
pub second : (a b : List Named) (rest : List Bool) (old new : List Shown × List Bool) (end other : ℕ)
    → Next (a ++ b) rest old end → Shows a (after b rest) old new → other ≤ length rest → Next b rest new other
second a b rest old new end other n s within =
    record { bits = s.left; fit = last_fit a b n.fit; within = within }

-- both are shown
pub both : (a b : List Named) (rest : List Bool) (x y z : List Shown × List Bool)
    → Shows a (after b rest) x y → Shows b rest y z → Shows (a ++ b) rest x z
both a b rest x y z s t =
    record {
      shown = t.shown ∙ (ap (λ list. list ++ b) s.shown ∙ append_assoc (all_named x.0) a b);
      left = t.left;
    }

-- a step that shows the first run, and one that shows the second
pub takes_both : (a b : List Named) (x y z : List Shown × List Bool) (end mid last : ℕ) (there : Bool)
    → Takes a x end y mid true → Takes b y mid z last there → Takes (a ++ b) x end z last there
takes_both a b x y z end mid last there f g rest n =
    let s = f (after b rest) (first a b rest x end n) in
    let t = g rest (second a b rest x y end mid n s.1 (omega (arith, s.2, n.within))) in
    (t.0, both a b rest x y z s.1 t.1, t.2 ∙ s.2)

-- if the first run is not there, none of the second is shown
pub not_taken : (a b : List Named) (x y z : List Shown × List Bool) (end mid last : ℕ)
    → Takes a x end y mid false → Takes (a ++ b) x end z last false
not_taken a b x y z end mid last f rest n = absurd (true≢false (sym (f (after b rest) (first a b rest x end n)).0))

-- without a field nothing is shown
pub none : (look : List Shown × List Bool) (end : ℕ) → Takes [] look end look end true
none look end rest n = (
  refl,
  record {
    shown = sym (append-nil (all_named look.0));
    left = n.bits
        ∙ ap (λ bits. bits ++ rest) joined-nil;
  },
  refl,
)

-- zero bits are the filling
pub filling_bits : (n : ℕ) → joined (fields_in (filling_fields n)) ≡ replicate n false
filling_bits zero = joined-nil
filling_bits (suc n) =
    joined-cons (suc n, 0) [] ∙ (ap (λ bits. field (suc n) 0 ++ bits) joined-nil
    ∙ (append-nil (field (suc n) 0) ∙ field-zero (suc n)))

-- named fields have the widths and values that they were given
pub fields-with_names : (names : List (List ℕ)) (fields : List Field) → fields_in (with_names names fields) ≡ fields
fields-with_names names [] = refl
fields-with_names [] (f ∷ fields) = ap (λ list. f ∷ list) (fields-with_names [] fields)
fields-with_names (n ∷ names) (f ∷ fields) = ap (λ list. f ∷ list) (fields-with_names names fields)

-- the state at the same place
pub at_end : (fields : List Named) (rest : List Bool) (look : List Shown × List Bool) (end : ℕ) → end ≡ 0
    → Next fields rest look 0 → Next fields rest look end
at_end fields rest look end e n = record { bits = n.bits; fit = n.fit; within = omega (arith, e) }

length-filling : (n : ℕ) → length (joined (fields_in (filling_fields n))) ≡ n
length-filling n = ap length (filling_bits n) ∙ length-replicate n false

pub filling-long : (fill : ℕ) (look : List Shown × List Bool) → Next (filling_fields fill) [] look 0
    → length look.1 ≡ fill
filling-long fill look n = ap length (n.bits ∙ append-nil (joined (fields_in (filling_fields fill))))
    ∙ length-filling fill

abbrev pub filling_field : ℕ → Named
filling_field n = record { name = codes "filling"; field = (n, 0) }

pub filling_shown : (fill width end new_end : ℕ) (old new : List Shown × List Bool) (there : Bool) → end ≡ 0
    → width ≡ length old.1 - end → 0 < width
    → Next (filling_fields fill) [] old 0
    → ((v : ℕ) → Takes (record { name = codes "filling"; field = (width, v) } ∷ []) old end new new_end there)
    → Shows (filling_fields fill) [] old new
filling_shown zero width end new_end old new there e w positive n take = absurd (omega (
  arith,
  e,
  w,
  positive,
  filling-long zero old n,
))
filling_shown (suc k) width end new_end old new there e w positive n take =
    let same : width ≡ suc k = omega (arith, e, w, filling-long (suc k) old n) in
    let its : Next (filling_field width ∷ []) [] old end = subst (λ (x : ℕ). Next (filling_field x ∷ []) [] old end)
    (sym same) (at_end (filling_fields (suc k)) [] old end e n) in
    subst (λ (x : ℕ). Shows (filling_field x ∷ []) [] old new) same (take 0 [] its).1

pub no_filling : (fill width end : ℕ) (old : List Shown × List Bool) → end ≡ 0 → width ≡ length old.1 - end → width ≤ 0
    → Next (filling_fields fill) [] old 0 → Shows (filling_fields fill) [] old old
no_filling zero width end old e w few n = (none old 0 [] n).1
no_filling (suc k) width end old e w few n = absurd (omega (arith, e, w, few, filling-long (suc k) old n))

-- the result of a step is known
pub taken_as : (fields : List Named) (x y : List Shown × List Bool) (end mid : ℕ) (there is : Bool) → there ≡ is
    → Takes fields x end y mid there → Takes fields x end y mid is
taken_as fields x y end mid there is e t = subst (λ (b : Bool). Takes fields x end y mid b) e t

pub after_filling : (n : ℕ) → length (after (filling_fields n) []) ≡ n
after_filling n = ap length (append-nil (joined (fields_in (filling_fields n)))) ∙ length-filling n
