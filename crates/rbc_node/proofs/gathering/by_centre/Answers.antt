use Rattle.std.proofs.Common.{rules}
use Rattle.std.proofs.lemmas.List.Sorted.{IsNonDecreasingBy-from_sort_by_key}
use Rattle.rbc_centre.specs.States.{number_of}
use Rattle.rbc_log.specs.Log.{LogValue}
use Rattle.rbc_node.proofs.gathering.by_centre.Goals as goal

pub returns-clause-ordered : goal.returns-clause-ordered
returns-clause-ordered c = record {
  same = c.in_ok-sort_by_key.ensures.permutation;
  by_centre =
      IsNonDecreasingBy-from_sort_by_key (λ (l : LogValue). number_of l.core) _ c.in_ok-sort_by_key.ensures.sorted
      (λ a r q k. search rules);
}
