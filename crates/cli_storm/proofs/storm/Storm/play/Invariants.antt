use Rattle.std.proofs.Common.{◌≡◌, drop}
use Rattle.cli_storm.proofs.storm.Storm.play.Given as goal
use Rattle.cli_storm.specs.Storm.{Passes, storm}
use Rattle.text_script.specs.rbc_world.World.{line_of, state_of}

abbrev pub invariant-loop-entry : goal.invariant-loop-entry
invariant-loop-entry g l = record {
  line : line_of l.self.world ≡ line_of l.fn.self.world;
  goes : Passes g.T.Observer.tells (line_of l.fn.self.world) (state_of l.fn.self.world) l.fn.observer
      (storm (line_of l.fn.self.world) (state_of l.fn.self.world) l.fn.self.draws.x l.entries)
      (state_of l.self.world) l.observer
      (storm (line_of l.fn.self.world) (state_of l.self.world) l.self.draws.x (drop l.entry-index l.entries));
}
