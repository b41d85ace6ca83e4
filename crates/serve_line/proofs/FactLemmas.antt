-- Facts that are added, in order.
use Rattle.std.proofs.Common.{[], ◌++◌, ◌+◌, ◌<◌, ◌∙◌, ◌∷◌, ◌≡◌}
use Rattle.std.proofs.Common.{◌≤◌, ap, append-nil, append_assoc, get_or, length, List}
use Rattle.std.proofs.Common.{map, refl, subst, sym, take, ℕ}
use Rattle.std.proofs.lemmas.List.{take_all, take_more}
use Rattle.std.proofs.lemmas.List.Concat.{flat_map-append}
use Rattle.std.specs.List.{flat_map}
use Rattle.serve_line.specs.declared.fact_notes.Facts.{Facts}
use Rattle.serve_line.specs.declared.status.facts.Fact.{Fact}
use Rattle.serve_line.specs.Facts.{Adds}

pub adds_none : (a : Facts) → Adds [] a a
adds_none a = λ none. (none, sym (append-nil a.found.items))

pub adds_then : (xs ys : List Fact) (a b c : Facts) → Adds xs a b → Adds ys b c → Adds (xs ++ ys) a c
adds_then xs ys a b c first next = λ none.
    let later = next none in
    let before = first later.0 in
    (before.0, later.1 ∙ ap (λ (zs : List Fact). zs ++ ys) before.1 ∙ append_assoc a.found.items xs ys)

-- the facts of the next element, after those of the first i
pub adds_next :
    {X : Type 0} (f : X → List Fact) (xs : List X) (i : ℕ) (x : X) (a b c : Facts)
    → i < length xs → x ≡ get_or xs i x → Adds (flat_map f (take i xs)) a b → Adds (f x) b c
    → Adds (flat_map f (take (i + 1) xs)) a c
adds_next {X} f xs i x a b c low is so_far next =
    let front : take (i + 1) xs ≡ take i xs ++ x ∷ [] =
    take_more xs i x low ∙ ap (λ (y : X). take i xs ++ y ∷ []) (sym is)
    in
    let whole : flat_map f (take i xs) ++ f x ≡ flat_map f (take (i + 1) xs) =
    sym
    (ap (flat_map f) front ∙ flat_map-append f (take i xs) (x ∷ [])
    ∙ ap (λ (zs : List Fact). flat_map f (take i xs) ++ zs) (append-nil (f x)))
    in
    subst (λ (zs : List Fact). Adds zs a c) whole (adds_then (flat_map f (take i xs)) (f x) a b c so_far next)

-- the facts of all elements
pub adds_whole :
    {X : Type 0} (f : X → List Fact) (xs : List X) (i : ℕ) (a b : Facts)
    → length xs ≤ i → Adds (flat_map f (take i xs)) a b → Adds (flat_map f xs) a b
adds_whole {X} f xs i a b past so_far = subst (λ (ys : List X). Adds (flat_map f ys) a b) (take_all i xs past) so_far

pub flat_map-map : {X Y Z : Type 0} (f : Y → List Z) (g : X → Y) (xs : List X)
    → flat_map (λ x. f (g x)) xs ≡ flat_map f (map g xs)
flat_map-map f g [] = refl
flat_map-map {X} {Y} {Z} f g (x ∷ xs) = ap (λ (zs : List Z). f (g x) ++ zs) (flat_map-map f g xs)
