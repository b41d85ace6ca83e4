-- The address of the interlocking's endpoint.
use Rattle.std.specs.Prelude.{◌<◌, ◌≡◌, List, ℕ}
use Rattle.std.specs.Str.Parse.{digits_value, without_leading_plus}
use Rattle.rbc_cli.specs.declared.tell.Address.{Address}
use Rattle.rbc_cli.specs.declared.tell.Address.TheVariants.{Path, Port}

-- a port of this host is the number that the text spells, and is not 0; a path is the text
abbrev pub IsAddress : List ℕ → Address → Type 0
IsAddress endpoint (Port port) = (0 < port) × (port ≡ digits_value 10 (without_leading_plus endpoint))
IsAddress endpoint (Path path) = path.now ≡ endpoint
