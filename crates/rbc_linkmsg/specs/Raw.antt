-- The numbers of a Yield in its bytes.
use Rattle.std.specs.Int.{cast_signed, w32}
use Rattle.std.specs.Prelude.{[], if◌then◌else◌, ◌%◌, ◌++◌, ◌/◌, ◌==◌, ◌∷◌, Bool, drop, List, nat_lt, None, Option}
use Rattle.std.specs.Prelude.{Some, ℕ, ℤ}
use Rattle.byteorder.specs.Endian.{big_number}
use Rattle.rbc_linkmsg.specs.Spelling.{Field}

-- the number in the n bytes from this place on
unfoldable pub number_at : ℕ → ℕ → List ℕ → ℕ
number_at n place bytes = big_number n (drop place bytes)

abbrev pub raw_place_fields : List ℕ → List Field
raw_place_fields bytes =
    (1, number_at 1 21 bytes) ∷ (1, number_at 1 22 bytes) ∷ (4, number_at 4 23 bytes) ∷ (4, number_at 4 27 bytes)
    ∷ (4, number_at 4 31 bytes) ∷ []

abbrev pub raw_run_fields : List ℕ → List Field
raw_run_fields bytes = (2, number_at 2 35 bytes) ∷ (1, number_at 1 37 bytes) ∷ []

abbrev pub raw_fields : List ℕ → List Field
raw_fields bytes =
    (4, number_at 4 9 bytes) ∷ (4, number_at 4 13 bytes) ∷ (4, number_at 4 17 bytes)
    ∷ (raw_place_fields bytes ++ raw_run_fields bytes)

-- the flags: whether the data of the train are known, and whether its mission has ended
abbrev pub has_data_at : List ℕ → Bool
has_data_at bytes = number_at 1 22 bytes % 2 == 1

abbrev pub is_ended_at : List ℕ → Bool
is_ended_at bytes = number_at 1 22 bytes / 2 % 2 == 1

-- the rear, if the flags mark it as known
abbrev pub rear_from : ℕ → ℕ → Option ℤ
rear_from n rear = if nat_lt n 4 then None else Some (cast_signed w32 rear)
