-- The values of a thing, noted event by event.
use Rattle.std.specs.Prelude.{[], ◌++◌, ◌-◌, ◌∷◌, Bool, false, if◌then◌else◌, length, List, None, Option, slice_get}
use Rattle.std.specs.Prelude.{Some, ℕ}
use Rattle.text_replay.specs.declared.turns.Turn.{Turn}

-- whether the value equals that of the turn
abbrev pub is_value : {T : Type 0} → (T → T → Bool) → T → Option (Turn T) → Bool
is_value eq v (Some turn) = eq turn.value v
is_value eq v None = false

-- the turns with the value after event e: one more, if the value differs from that of the last turn
abbrev pub turned : {T : Type 0} → (T → T → Bool) → ℕ → T → List (Turn T) → List (Turn T)
turned eq e v turns =
    if is_value eq v (slice_get turns (length turns - 1)) then turns
    else turns ++ record { value = v; since = e } ∷ []
