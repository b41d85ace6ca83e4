-- The sections of a run, as a list.
use Rattle.std.specs.Prelude.{◌≡◌, ℕ, Bool, false, ◌||◌, ◌==◌, ⊤, List, [], ◌∷◌}
use Rattle.std.specs.List.{range_with_len}
use Rattle.rbc_spec.specs.SectionRuns.{SectionRun}

-- the sections of a run, in order
abbrev pub sections : SectionRun → List ℕ
sections r = range_with_len r.first r.count

-- s is one of these
abbrev pub is_among : List ℕ → ℕ → Bool
is_among [] s = false
is_among (k ∷ ks) s = s == k || is_among ks s

-- no number is in the list twice
abbrev pub AreApart : List ℕ → Type 0
AreApart [] = ⊤
AreApart (k ∷ ks) = (is_among ks k ≡ false) × AreApart ks
