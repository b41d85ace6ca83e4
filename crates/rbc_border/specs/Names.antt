-- Names of lent sections, as tokens in a hand.
use Rattle.std.specs.Prelude.{◌≡◌, ℕ, ◌+◌, ◌++◌, take, drop}
use Rattle.std.specs.List.{All}
use Rattle.rbc_hand.specs.Tokens.{Held, Own, Name}
use Rattle.rbc_hand.specs.Hands.{Holding}

-- the token is the name of a section that another home has lent
abbrev pub IsName : Held → Type 0
IsName (Own t) = ⊥
IsName (Name t home) = Unit {0}

abbrev pub IsAllNames : Holding → Type 0
IsAllNames hand = All IsName hand.holds

-- the first `count` sections of one hand were added after the last of another
pub record PassesOn (count : ℕ) (old_from old_to new_from new_to : Holding) : Type 0 where
  pub left : new_from ≡ record { first = old_from.first + count; holds = drop count old_from.holds }
  pub came : new_to ≡ record old_to { holds = old_to.holds ++ take count old_from.holds }
