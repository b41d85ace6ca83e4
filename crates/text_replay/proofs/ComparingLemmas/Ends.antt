-- The first line of a text ends at its first line feed.
use Rattle.std.proofs.Common.{[], ◌+◌, ◌<◌, ◌==◌, ◌∙◌, ◌∷◌, ◌≡◌, ap, arith, Bool, cond, drop, false, length, List, None}
use Rattle.std.proofs.Common.{Option, refl, rules, Some, subst, sym, take, true, ℕ}
use Rattle.std.specs.List.{position_from}
use Rattle.text_replay.specs.Comparing.Lines.{Ends, lines_of, with_byte}

-- the lines of a text; the first ends at this count from n
abbrev pub EndsFrom : ℕ → List ℕ → List (List ℕ) → Option ℕ → Type 0
EndsFrom n text rows None = rows ≡ []
EndsFrom n text rows (Some k) =
    (j : ℕ) × (k ≡ n + j) × (j < length text) × (rows ≡ take j text ∷ lines_of (drop (j + 1) text))

-- one more byte that is not a line feed
pub ends_later : (n b : ℕ) (bs : List ℕ) (found : Option ℕ) → EndsFrom (n + 1) bs (lines_of bs) found
    → EndsFrom n (b ∷ bs) (with_byte b (lines_of bs)) found
ends_later n b bs None ends = ap (with_byte b) ends
ends_later n b bs (Some k) ends =
    (ends.0 + 1, omega (ends.1, arith), omega (ends.2, arith), ap (with_byte b) ends.3 ∙ search rules)

pub ends_at : (n b : ℕ) (bs : List ℕ) (t : Bool) (found : Option ℕ) → EndsFrom (n + 1) bs (lines_of bs) found →
    EndsFrom n (b ∷ bs) (cond t ([] ∷ lines_of bs) (with_byte b (lines_of bs))) (cond t (Some n) found)
ends_at n b bs true found ends = (0, omega arith, omega arith, search rules)
ends_at n b bs false found ends = ends_later n b bs found ends

pub ends_from : (n : ℕ) (text : List ℕ) → EndsFrom n text (lines_of text) (position_from (λ b. b == 10) n text)
ends_from n [] = refl
ends_from n (b ∷ bs) = ends_at n b bs (b == 10) (position_from (λ b. b == 10) (n + 1) bs) (ends_from (n + 1) bs)

pub ends_by : (text : List ℕ) (found : Option ℕ) → EndsFrom 0 text (lines_of text) found → Ends text found
ends_by text None ends = ends
ends_by text (Some k) ends = (
  omega (ends.1, ends.2, arith),
  ends.3 ∙ ap (λ j. take j text ∷ lines_of (drop (j + 1) text)) (omega (ends.1, arith)),
)

pub ends_where : (text : List ℕ) (found : Option ℕ) → found ≡ position_from (λ b. b == 10) 0 text → Ends text found
ends_where text found is =
    ends_by text found (subst (λ o. EndsFrom 0 text (lines_of text) o) (sym is) (ends_from 0 text))
