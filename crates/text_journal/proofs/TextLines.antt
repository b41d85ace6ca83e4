-- The values of a line as text lines, one after another.
use Rattle.std.proofs.Common.{[], ◌++◌, ◌+◌, ◌<◌, ◌∙◌, ◌∷◌, ◌≡◌, ap, arith, Bor, get_or, length, List, None, Option}
use Rattle.std.proofs.Common.{option_map, refl, slice_get, Some, sym, take, ℕ}
use Rattle.std.proofs.lemmas.List.{flat_map_more, take_more}
use Rattle.std.proofs.lemmas.Option.{get_or_from_slice_get, slice_get-get_or, slice_get_within}
use Rattle.std.specs.List.{flat_map}
use Rattle.std.specs.Option.{unwrap_or}
use Rattle.rbc_line.specs.Views.{listed_train, placed_section}
use Rattle.rbc_spec.specs.Line.{Centre, Line, Section, section, Train}

-- the text of the next item, after those of the first i
pub lines_next :
    {X : Type 0} (one : X → List ℕ) (xs : List X) (i : ℕ) (x : X) (old now text : List ℕ)
    → slice_get xs i ≡ Some x → now ≡ old ++ flat_map one (take i xs) → text ≡ now ++ one x
    → text ≡ old ++ flat_map one (take (i + 1) xs)
lines_next one xs i x old now text at before after =
    after ∙ ap (λ (t : List ℕ). t ++ one x) before ∙ flat_map_more one old (take i xs) x
    ∙ ap (λ t. old ++ flat_map one t)
    (ap (λ y. take i xs ++ y ∷ []) (sym (get_or_from_slice_get xs i x x at))
    ∙ sym (take_more xs i x (slice_get_within xs i x at)))

pub not_within : {X : Type 0} (xs : List X) (i : ℕ) → i < length xs → slice_get xs i ≡ None → ⊥
not_within [] i low none = omega (arith, low)
not_within (x ∷ xs) i low none = cc (sym (slice_get-get_or (x ∷ xs) i x low) ∙ none)

-- an item whose copy is known
some_same : {X : Type 0} (a b : X) → Some a ≡ Some b → a ≡ b
some_same a b e = cc

pub item_at :
    {X Y : Type 0} (copy : X → Y) (back : Y → X) (found : Option X) (y : Y)
    → ((x : X) → back (copy x) ≡ x) → option_map copy found ≡ Some y → found ≡ Some (back y)
item_at copy back None y inverse e = cc
item_at copy back (Some x) y inverse e =
    let same : copy x ≡ y = cc in ap Some (sym (inverse x) ∙ ap back same)

pub none_at : {X Y : Type 0} (copy : X → Y) (found : Option X) → option_map copy found ≡ None → found ≡ None
none_at copy None e = refl
none_at copy (Some x) e = cc

pub centre_at :
    (found : Option Centre) (names : Option (Bor (List ℕ))) (name other : Bor (List ℕ)) (nid_rbc : ℕ)
    → option_map (λ n. n.now) names ≡ option_map (λ p. p.name) found → name ≡ unwrap_or names other
    → option_map (λ p. p.nid_rbc) found ≡ Some nid_rbc
    → found ≡ Some (record { name = name.now; nid_rbc = nid_rbc })
centre_at None names name other nid_rbc e u f = cc
centre_at (Some p) None name other nid_rbc e u f = cc
centre_at (Some p) (Some n) name other nid_rbc e u f =
    let same : p.name ≡ name.now = some_same _ _ (sym e) ∙ ap (λ (n : Bor (List ℕ)). n.now) (sym u) in
    let number : p.nid_rbc ≡ nid_rbc = some_same _ _ f in
    λ i. Some (record { name = same i; nid_rbc = number i })
