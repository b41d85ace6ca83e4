use Rattle.cli_commands.proofs.inspecting.finding.FlawDisplay.fmt.Goals as goal

pub returns-in-OtherType-clause-writes : goal.returns-in-OtherType-clause-writes
returns-in-OtherType-clause-writes g c = rw c.in-OtherType.is c.write-in-OtherType.ensures.writes
