-- The bytes of a file on a disk, as far as they are known. `None` is a file whose bytes no contract knows.
use Rattle.std.specs.Prelude.{◌≡◌, ℕ, ◌≤◌, List, length, take, Option, option_map, IfSome}

-- the first n bytes
abbrev pub cut_to : ℕ → Option (List ℕ) → Option (List ℕ)
cut_to n bytes = option_map (λ xs. take n xs) bytes

-- the file has n bytes at least, and keeps the first n
pub record IsCut (n : ℕ) (old new : Option (List ℕ)) : Type 0 where
  pub within : IfSome old (λ xs. n ≤ length xs)
  pub kept : new ≡ cut_to n old
