-- The drawn numbers of a storm.
use Rattle.std.specs.Prelude.{ℕ, ◌+◌, ◌*◌, ◌/◌, ◌%◌, ◌^◌}

-- the state after a draw, from the state before it or the seed
abbrev pub next : ℕ → ℕ
next x = (x * 6364136223846793005 + 1442695040888963407) % (2 ^ 64)

-- the drawn number for this state after the draw
abbrev pub drawn : ℕ → ℕ
drawn x = x / (2 ^ 33)
