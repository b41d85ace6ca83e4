use Rattle.std.proofs.Common.{[], ◌≤◌, length, vec_capacity}
use Rattle.rbc_centre.proofs.posted.Broadcast.post.Given as goal
use Rattle.rbc_centre.proofs.Posts.{below}
use Rattle.rbc_centre.specs.Dispatches.{told_by}
use Rattle.rbc_centre.specs.Posts.{HasSent}
use Rattle.rbc_centre.specs.Rooms.{HasFrameRoom}

abbrev pub invariant-loop-to : goal.invariant-loop-to
invariant-loop-to l = record {
  sent : HasSent l.self.stamp (below (told_by l.self) l.to) l.fn.links l.links [] l.list.items;
  count : length l.list.items ≤ l.to;
  room : HasFrameRoom l.fn.room → 32 ≤ vec_capacity l.list;
}
