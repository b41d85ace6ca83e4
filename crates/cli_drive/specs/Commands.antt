-- The commands of the interlocking.
use Rattle.std.specs.Fmt.{decimal}
use Rattle.std.specs.Option.{option_map_or}
use Rattle.std.specs.Prelude.{[], ◌&&◌, ◌++◌, ◌∷◌, Bool, codes, false, List, nat_le, not, Option, option_map, slice_get}
use Rattle.std.specs.Prelude.{unwrap_or, ℕ}
use Rattle.rbc_spec.specs.Line.{Line}
use Rattle.cli_drive.specs.declared.trains.interlocking.Known.{Known}

-- a command to release the section may be sent: it is not released, and it is time
abbrev pub is_due : Known → ℕ → Bool
is_due known now = not known.is_released && nat_le known.next now

-- the same of a section, if there is one
abbrev pub may_ask : Option Known → ℕ → Bool
may_ask known now = option_map_or (λ known. is_due known now) known false

-- the command to release a section, to its home; `?` for a home that the line does not have
abbrev pub set_command : Line → ℕ → ℕ → List ℕ
set_command line home section =
    codes "set " ++ unwrap_or (option_map (λ centre. centre.name) (slice_get line.centres home)) (codes "?")
    ++ 32 ∷ (decimal section ++ 10 ∷ [])
