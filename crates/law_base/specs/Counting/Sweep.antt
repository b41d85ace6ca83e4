-- Steps in order, with the list of all their outputs. Changes of single sections are put together to one change of a
-- run.
use Rattle.std.specs.Prelude.{ℕ, List, [], ◌∷◌, ◌++◌, flat_map, if◌then◌else◌}
use Rattle.law_base.specs.Counting.Sums.{put}
use Rattle.law_base.specs.Counting.Sections.{is_among}

-- a state, and the outputs on the way to it
pub record Spoken (V W : Type 0) : Type 0 where
  pub state : V
  pub words : List W

-- a step for each of these, in order, from the state that the one before it left
unfoldable pub sweep : {Q V W : Type 0} → (Q → V → Spoken V W) → List Q → V → Spoken V W
sweep step [] v = record { state = v; words = [] }
sweep step (q ∷ qs) v =
    record {
      state = (sweep step qs (step q v).state).state;
      words = (step q v).words ++ (sweep step qs (step q v).state).words;
    }

-- the step that changes the entry of one section, with an output that depends on the old entry
abbrev pub at_section : {A W : Type 0} → (ℕ → A → A) → (ℕ → A → List W) → ℕ → (ℕ → A) → Spoken (ℕ → A) W
at_section change say s f = record { state = put f s (change s (f s)); words = say s (f s) }

-- the entries of these sections are changed
abbrev pub changed : {A : Type 0} → List ℕ → (ℕ → A → A) → (ℕ → A) → ℕ → A
changed ss change f s = if is_among ss s then change s (f s) else f s

-- the outputs for these sections, in order
abbrev pub said : {A W : Type 0} → List ℕ → (ℕ → A → List W) → (ℕ → A) → List W
said ss say f = flat_map (λ s. say s (f s)) ss
