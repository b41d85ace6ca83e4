-- The messages on the way between trains and centres.
use Rattle.std.specs.Bool.{beq}
use Rattle.std.specs.List.{position, remove}
use Rattle.std.specs.Prelude.{◌&&◌, ◌≡◌, Bool, List, nat_le, None, Option, slice_index_or, Some, ℕ}
use Rattle.cli_drive.specs.declared.trains.radio.Letter.{Letter}

-- the message is due by this time, in this direction
abbrev pub is_due : ℕ → Bool → Letter → Bool
is_due now is_up letter = beq letter.is_up is_up && nat_le letter.due now

-- The first message that is due arrives, and the others stay. If none is due, none arrives, and all stay.
abbrev pub Arrives : ℕ → Bool → List Letter → List Letter → Option Letter → Type 0
Arrives now is_up old new None = (position (is_due now is_up) old ≡ None) × (new ≡ old)
Arrives now is_up old new (Some letter) =
    (k : ℕ) × (position (is_due now is_up) old ≡ Some k) × (letter ≡ slice_index_or old k letter)
    × (new ≡ remove old k)
