use Rattle.std.proofs.Common.{◌≡◌}
use Rattle.std.specs.Option.{option_map_or}
use Rattle.cli_commands.proofs.picture.metres_of.Given as goal
use Rattle.cli_commands.specs.Pictures.{last_section, section_end}

abbrev pub invariant-loop-number : goal.invariant-loop-number
invariant-loop-number l = l.metres ≡ option_map_or section_end (last_section l.line l.track l.number) 0
