-- Changes of one element of a list.
use Rattle.std.proofs.Common.{[], ◌∙◌, ◌∷◌, ◌≡◌, ap, arith, get_or, List, map, refl, set, suc, zero, ℕ}
use Rattle.std.proofs.lemmas.Option.{slice_get-get_or, slice_get_within}
use Rattle.cli_drive.specs.Changes.{ChangesAt}

-- one change after the other
pub changes_then : {T : Type 0} (P Q R : T → T → Type 0) → ((a b c : T) → P a b → Q b c → R a c)
    → (xs ys zs : List T) (i : ℕ) → ChangesAt P i xs ys → ChangesAt Q i ys zs → ChangesAt R i xs zs
changes_then P Q R joined xs ys zs i first next = record {
  count = next.count ∙ first.count;
  others = λ k ne. next.others k ne ∙ first.others k ne;
  changed = λ a c was is.
      let within = slice_get_within xs i a was in
      let here = slice_get-get_or ys i a (omega (arith, first.count)) in
      joined a (get_or ys i a) c (first.changed a _ was here) (next.changed _ c here is);
}

-- an element is replaced by one that looks the same
pub map_kept : {T U : Type 0} (f : T → U) (xs : List T) (i : ℕ) (e w : T) → e ≡ get_or xs i e → f w ≡ f e
    → map f (set xs i w) ≡ map f xs
map_kept f [] i e w at same = refl
map_kept f (x ∷ xs) zero e w at same = ap (λ y. y ∷ map f xs) (same ∙ ap f at)
map_kept f (x ∷ xs) (suc i) e w at same = ap (λ ys. f x ∷ ys) (map_kept f xs i e w at same)
