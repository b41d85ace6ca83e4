use Rattle.std.proofs.Common.{[], ◌+◌, ◌∙◌, ◌∷◌, ◌≡◌, ap, arith, drop, inl, List, map, option_map, refl, Some, suc}
use Rattle.std.proofs.Common.{sym, unwrap_or, zero, ℕ}
use Rattle.std.specs.List.{slice_get}
use Rattle.cli_commands.proofs.nearest.nearest_centre.Goals as goal
use Rattle.rbc_spec.specs.Line.{Centre}

-- the names from a place on begin with the name there
names_at :
    {X : Type 0} (name_of : X → List ℕ) (xs : List X) (n : ℕ) (name : List ℕ)
    → Some name ≡ option_map name_of (slice_get xs n)
    → map name_of (drop n xs) ≡ name ∷ map name_of (drop (n + 1) xs)
names_at name_of [] n name found = absurd (grind (arith, found))
names_at name_of (x ∷ xs) zero name found =
    ap (λ first. first ∷ map name_of xs) (ap (λ o. unwrap_or o name) (sym found))
names_at name_of (x ∷ xs) (suc n) name found =
    let next : suc (n + 1) ≡ suc n + 1 = omega arith in
    names_at name_of xs n name found ∙ ap (λ k. name ∷ map name_of (drop k (x ∷ xs))) next

pub returns-in-loop-c : goal.returns-in-loop-c
returns-in-loop-c c =
    let name = c.in-Some.name.now in
    c.loop-c.invariant (Some name)
    (rw (names_at (λ (p : Centre). p.name) c.args.line.now.centres c.loop-c.c name c.in-Some.ensures)
    (inl (c.in_ok-is_like.ensures.0 c.if-branch.true, refl)))
