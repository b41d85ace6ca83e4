-- Two lines are the same if all getters return the same at each number.
use Rattle.std.proofs.Common.{[], ◌+◌, ◌<◌, ◌==◌, ◌∙◌, ◌∷◌, ◌≡◌, ap, arith, below_more, length, List, None, Option}
use Rattle.std.proofs.Common.{option_map, refl, slice_get, Some, suc, sym, take, ℕ}
use Rattle.std.proofs.lemmas.Option.{same_Some}
use Rattle.std.specs.List.{filter, sum_by}
use Rattle.std.specs.Option.{option_map_or}
use Rattle.rbc_line.specs.declared.parts.Section.{Section as SectionRow}
use Rattle.rbc_line.specs.Views.{placed_section, section_of}
use Rattle.rbc_spec.specs.Line.{Line, Section, section, start}

-- ## Lists

pub same_list : {X : Type 0} (xs ys : List X) → length ys ≡ length xs
    → ((k : ℕ) → k < length xs → slice_get xs k ≡ slice_get ys k) → xs ≡ ys
same_list [] [] long each = refl
same_list [] (y ∷ ys) long each = absurd (let wrong : ⊥ = omega (arith, long) in wrong)
same_list (x ∷ xs) [] long each = absurd (let wrong : ⊥ = omega (arith, long) in wrong)
same_list (x ∷ xs) (y ∷ ys) long each =
    let first : x ≡ y = same_Some x y (each 0 (omega arith)) in
    let rest : xs ≡ ys = same_list xs ys (omega (arith, long)) (λ k within. each (suc k) (omega (arith, within))) in
    ap (λ z. z ∷ xs) first ∙ ap (λ zs. y ∷ zs) rest

-- one item more that is the same
pub same_more : {X : Type 0} (xs ys : List X) (n : ℕ) → ((k : ℕ) → k < n → slice_get xs k ≡ slice_get ys k)
    → slice_get xs n ≡ slice_get ys n
    → (k : ℕ) → k < n + 1 → slice_get xs k ≡ slice_get ys k
same_more xs ys n below here = below_more (λ k. slice_get xs k ≡ slice_get ys k) n below here

-- ## Parts

abbrev placed_at : ℕ → Section → SectionRow
placed_at n p = record { track = p.track; start = n; metres = p.metres; home = p.home; balise = p.balise }

bare : (n : ℕ) (o : Option Section) → option_map section_of (option_map (placed_at n) o) ≡ o
bare n None = refl
bare n (Some p) = refl

same_start : (a b : Line) (s : ℕ) → a.sections ≡ b.sections → start a s ≡ start b s
unfolding start
same_start a b s e =
    ap (λ (ps : List Section). option_map_or
    (λ (p : Section). sum_by (λ (q : Section). q.metres) (filter (λ (q : Section). q.track == p.track) (take s ps)))
    (slice_get ps s) 0) e

-- the getter of a section determines the section, and the sections of the line determine its result
pub same_section : (a b : Line) (s : ℕ) → placed_section a s ≡ placed_section b s
    → slice_get a.sections s ≡ slice_get b.sections s
same_section a b s e =
    sym (bare (start a s) (section a s)) ∙ ap (option_map section_of) e ∙ bare (start b s) (section b s)

pub same_placed : (a b : Line) (s : ℕ) → a.sections ≡ b.sections → placed_section a s ≡ placed_section b s
same_placed a b s e = λ i. option_map (placed_at (same_start a b s e i)) (slice_get (e i) s)

-- ## The whole line
