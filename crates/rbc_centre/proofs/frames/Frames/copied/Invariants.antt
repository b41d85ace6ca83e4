use Rattle.std.proofs.Common.{◌≡◌, ◌≤◌, length, take, vec_capacity}
use Rattle.rbc_centre.proofs.frames.Frames.copied.Given as goal

abbrev pub invariant-loop-frame : goal.invariant-loop-frame
invariant-loop-frame l = record {
  items : l.list.items ≡ take l.frame-index l.frames;
  room : length l.frames ≤ vec_capacity l.list;
}
