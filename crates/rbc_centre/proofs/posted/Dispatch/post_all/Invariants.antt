use Rattle.std.proofs.Common.{[], ◌*◌, ◌≤◌, length, vec_capacity}
use Rattle.rbc_centre.proofs.posted.Dispatch.post_all.Given as goal
use Rattle.rbc_centre.proofs.Posts.{below}
use Rattle.rbc_centre.specs.Dispatches.{bodies_to}
use Rattle.rbc_centre.specs.Posts.{HasSent}
use Rattle.rbc_centre.specs.Rooms.{HasFrameRoom}

abbrev pub invariant-loop-to : goal.invariant-loop-to
invariant-loop-to l = record {
  sent : HasSent l.self.stamp (below (bodies_to l.self) l.to) l.fn.links l.links [] l.list.items;
  count : length l.list.items ≤ 4 * l.to;
  most : length l.list.items ≤ 32;
  room : HasFrameRoom l.fn.room → 32 ≤ vec_capacity l.list;
}
