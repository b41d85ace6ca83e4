use Rattle.std.proofs.Common.{rules}
use Rattle.std.proofs.lemmas.List.Sorted.{IsNonDecreasingBy-from_sort_by_key}
use Rattle.cli_commands.proofs.explaining.order.findings_in.Goals as goal
use Rattle.cli_commands.specs.Explaining.Lowest.{fault_number}

pub returns : goal.returns
returns c =
    IsNonDecreasingBy-from_sort_by_key fault_number _ c.in_ok-sort_by_key.ensures.sorted (λ a r q k. search rules)
