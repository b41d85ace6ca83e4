-- Changes of one element of a list.
use Rattle.std.specs.Prelude.{◌≡◌, ◌≢◌, length, List, slice_get, Some, ℕ}

-- Only the element at this place may have changed, and this is so of it before and after.
pub record ChangesAt {T : Type 0} (Changed : T → T → Type 0) (place : ℕ) (old new : List T) : Type 0 where
  pub count : length new ≡ length old
  pub others : (k : ℕ) → k ≢ place → slice_get new k ≡ slice_get old k
  pub changed : (a b : T) → slice_get old place ≡ Some a → slice_get new place ≡ Some b → Changed a b
