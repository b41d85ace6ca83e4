-- Short names for optional values and for functions of numbers. The states of centres and of the line are built from
-- them.
use Rattle.std.specs.Prelude.{ℕ, ◌==◌, Bool, false, Option, if◌then◌else◌}
use Rattle.std.specs.Option.{option_map_or}

-- there is a value, and it passes the test
abbrev pub has : {X : Type 0} → (X → Bool) → Option X → Bool
has test value = option_map_or test value false

-- the function, changed at one number
abbrev pub put : {X : Type 0} → (ℕ → X) → ℕ → X → ℕ → X
put f k value j = if j == k then value else f j

-- the function of two numbers, changed at one pair
abbrev pub put_pair : {X : Type 0} → (ℕ → ℕ → X) → ℕ → ℕ → X → ℕ → ℕ → X
put_pair f j k value = put f j (put (f j) k value)
