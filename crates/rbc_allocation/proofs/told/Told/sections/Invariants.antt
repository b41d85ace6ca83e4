use Rattle.std.proofs.Common.{◌-◌, ◌/◌, ◌^◌, ◌≡◌, ◌≤◌}
use Rattle.arrayvec.specs.ArrayVec.{array_vec_len}
use Rattle.rbc_allocation.proofs.told.Told.sections.Given as goal
use Rattle.rbc_allocation.specs.Marks.{marked}

abbrev pub invariant-loop-k : goal.invariant-loop-k
invariant-loop-k l = record {
  items : l.sections.items ≡ marked l.first l.k (l.marks / 2 ^ (l.count - l.k));
  count : array_vec_len l.sections ≤ l.k;
}
