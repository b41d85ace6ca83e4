-- The packets whose fields are shown by the table; those of others are shown as bits.
use Rattle.std.specs.Prelude.{◌==◌, ◌||◌, Bool, ℕ}
use Rattle.text_fields.specs.declared.messages.Side.{Side}
use Rattle.text_fields.specs.declared.messages.Side.TheVariants.{Centre, Train}

abbrev pub has_table : Side → ℕ → Bool
has_table Train number = number == 0
has_table Centre number = number == 15 || number == 42 || number == 131
