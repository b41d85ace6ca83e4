use Rattle.std.proofs.Common.{◌≡◌, drop}
use Rattle.rbc_world.specs.World.{line_of, state_of}
use Rattle.text_script.proofs.play.play.Given as goal
use Rattle.text_script.proofs.Playing.{Goes}

abbrev pub invariant-loop-entry : goal.invariant-loop-entry
invariant-loop-entry g l = record {
  line : line_of l.world ≡ line_of l.fn.world;
  goes : Goes g.T.Observer.tells (line_of l.fn.world) (state_of l.fn.world) l.fn.observer l.entries
      (drop l.entry-index l.entries) (state_of l.world) l.observer;
}
