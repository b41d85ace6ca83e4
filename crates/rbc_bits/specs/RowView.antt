-- The bits of a `BitRow` in its two words.
use Rattle.std.specs.Prelude.{◌≡◌, ◌⊎◌, ℕ, ◌^◌, ◌<◌, ◌≤◌}

-- each word has its bits and none above them; the second has some only if the first is full
pub record IsRow (front back first second : ℕ) : Type 0 where
  pub first-few : first ≤ 128
  pub second-few : second ≤ 128
  pub front-fits : front < 2 ^ first
  pub back-fits : back < 2 ^ second
  pub full : (second ≡ 0) ⊎ (first ≡ 128)
