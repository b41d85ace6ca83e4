-- A state that follows the frames of a queue: each frame has an effect on it, or must not arrive in it.
use Rattle.std.specs.Prelude.{◌≡◌, List, [], ◌∷◌, Option, Some, option_and_then}

-- the state after all frames, in order, if each may arrive in the state that it finds
unfoldable pub after_all : {F S : Type 0} → (F → S → Option S) → List F → S → Option S
after_all step [] s = Some s
after_all step (f ∷ fs) s = option_and_then (after_all step fs) (step f s)

-- these frames, in order, lead from the first state to the last
pub record Chain {F S : Type 0} (step : F → S → Option S) (frames : List F) (start end : S) : Type 0 where
  pub leads : after_all step frames start ≡ Some end
