use Rattle.std.proofs.Common.{refl, rules}
use Rattle.cli_commands.proofs.inspecting.homes.Homes.comes_again.Goals as goal
use Rattle.cli_commands.proofs.HomeLemmas.{added_again, added_new}

pub returns-then-eq-clause-added : goal.returns-then-eq-clause-added
returns-then-eq-clause-added c homes are = added_again homes _ c.args.home.now are (search (rules, c.if-eq.ensures))

pub returns-clause-added : goal.returns-clause-added
returns-clause-added c homes are =
    added_new homes c.args.self.now _ c.args.home are refl c.in_ok-insert.ensures.updates.0
