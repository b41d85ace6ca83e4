-- Lists: the elements from a position on move up by one.
use Rattle.std.proofs.Common.{[], ◌+◌, ◌-◌, ◌∙◌, ◌∷◌, ◌≡◌, ◌≤◌, ◌++◌, ap, arith, drop, get_or, length, List, set}
use Rattle.std.proofs.Common.{take, ℕ}
use Rattle.std.proofs.lemmas.List.{append-nil, append_assoc, drop_all, drop-append-le, length-append, length-drop}
use Rattle.std.proofs.lemmas.List.{length-take-le, set_at, take_at, take-append-le, take_more}
use Rattle.std.specs.List.{copy_within, insert}

-- an element that is written at the place that they left is inserted there
pub moved_up : {X : Type 0} (xs : List X) (i : ℕ) (x : X) → i ≤ length xs
    → set (copy_within (xs ++ x ∷ []) i (length xs) (i + 1)) i x ≡ insert xs i x
moved_up {X} xs i x within =
    let ys : List X = xs ++ x ∷ [] in
    let most : ℕ = length xs - i in
    let many : length ys ≡ length xs + 1 = length-append xs (x ∷ []) in
    let first : take (i + 1) ys ≡ take i xs ++ get_or ys i x ∷ [] =
    take_more ys i x (omega (arith, many, within))
    ∙ ap (λ l. l ++ get_or ys i x ∷ []) (take-append-le i xs (x ∷ []) within) in
    let moved : take most (drop i ys) ≡ drop i xs =
    ap (take most) (drop-append-le i xs (x ∷ []) within) ∙ take_at (drop i xs) (x ∷ []) most (length-drop i xs) in
    let none : drop (i + 1 + most) ys ≡ [] = drop_all (i + 1 + most) ys (omega (arith, many, within)) in
    let row : copy_within ys i (length xs) (i + 1) ≡ take i xs ++ get_or ys i x ∷ drop i xs =
    ap (λ l. l ++ take most (drop i ys) ++ drop (i + 1 + most) ys) first
    ∙ ap (λ l. (take i xs ++ get_or ys i x ∷ []) ++ l ++ drop (i + 1 + most) ys) moved
    ∙ ap (λ l. (take i xs ++ get_or ys i x ∷ []) ++ drop i xs ++ l) none
    ∙ append-nil ((take i xs ++ get_or ys i x ∷ []) ++ drop i xs)
    ∙ append_assoc (take i xs) (get_or ys i x ∷ []) (drop i xs) in
    ap (λ l. set l i x) row ∙ set_at (take i xs) (get_or ys i x) (drop i xs) x i (length-take-le i xs within)
