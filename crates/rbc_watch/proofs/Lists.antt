-- The items of a list from a place on, and up to a place, under a function of each.
use Rattle.std.proofs.Common.{[], ◌++◌, ◌+◌, ◌<◌, ◌∙◌, ◌∷◌, ◌≡◌, ◌≤◌, ap, arith, drop, get_or, length, List, map, refl}
use Rattle.std.proofs.Common.{suc, sym, take, zero, ℕ}

pub map_drop_at : {X Y : Type 0} (f : X → Y) (xs : List X) (i : ℕ) (d : X) → i < length xs
    → map f (drop i xs) ≡ f (get_or xs i d) ∷ map f (drop (i + 1) xs)
map_drop_at f [] i d h = absurd (let never : ⊥ = omega arith in never)
map_drop_at f (y ∷ ys) zero d h = refl
map_drop_at f (y ∷ ys) (suc i) d h =
    let next : suc i + 1 ≡ suc (i + 1) = omega arith in
    rw next (map_drop_at f ys i d (omega arith))

pub map_drop : {X Y : Type 0} (f : X → Y) (xs : List X) (i : ℕ) (x : X) → i < length xs → x ≡ get_or xs i x
    → map f (drop i xs) ≡ f x ∷ map f (drop (i + 1) xs)
map_drop f xs i x h e = map_drop_at f xs i x h ∙ ap (λ z. f z ∷ map f (drop (i + 1) xs)) (sym e)

pub map_drop_all : {X Y : Type 0} (f : X → Y) (xs : List X) (i : ℕ) → length xs ≤ i → map f (drop i xs) ≡ []
map_drop_all f [] zero h = refl
map_drop_all f [] (suc i) h = refl
map_drop_all f (y ∷ ys) zero h = absurd (let never : ⊥ = omega arith in never)
map_drop_all f (y ∷ ys) (suc i) h = map_drop_all f ys i (omega arith)

pub take_more : {X : Type 0} (xs : List X) (i : ℕ) (x : X) → i < length xs → x ≡ get_or xs i x
    → take (i + 1) xs ≡ take i xs ++ x ∷ []
take_more [] i x h e = absurd (let never : ⊥ = omega arith in never)
take_more (y ∷ ys) zero x h e = ap (λ z. z ∷ []) (sym e)
take_more (y ∷ ys) (suc i) x h e =
    let next : suc i + 1 ≡ suc (i + 1) = omega arith in
    rw next (ap (λ zs. y ∷ zs) (take_more ys i x (omega arith) e))
