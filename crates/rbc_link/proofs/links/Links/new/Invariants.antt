use Rattle.std.proofs.Common.{◌≡◌}
use Rattle.std.specs.Vec.{vec_capacity, vec_len}
use Rattle.rbc_link.proofs.links.Links.new.Given as goal
use Rattle.rbc_link.proofs.Posted.{HasLinks}

abbrev pub invariant-loop-d : goal.invariant-loop-d
invariant-loop-d g l = record {
  len : vec_len l.links ≡ l.d;
  room : vec_capacity l.links ≡ l.count;
  made : HasLinks l.line l.centre l.d l.links.items;
}
