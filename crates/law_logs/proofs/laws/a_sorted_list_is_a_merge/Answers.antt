use Rattle.law_logs.proofs.laws.a_sorted_list_is_a_merge.Goals as goal
use Rattle.law_logs.proofs.Sorted.{merges}

pub returns : goal.returns
returns ctx line logs ends together sorted are given moved up = merges line logs ends are together sorted given moved up
