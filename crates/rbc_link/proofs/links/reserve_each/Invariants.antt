use Rattle.std.proofs.Common.{◌<◌, ◌≡◌, ◌≤◌, true, ℕ}
use Rattle.rbc_link.proofs.links.reserve_each.Given as goal
use Rattle.rbc_link.specs.Links.{has_link, KeepsLinks, room_to}

abbrev pub invariant-loop-i : goal.invariant-loop-i
invariant-loop-i g l = record {
  keeps : KeepsLinks l.fn.links.items l.links.items;
  room : (d : ℕ) → d < l.i → has_link l.links.items d ≡ true → l.count ≤ room_to l.links.items d;
}
