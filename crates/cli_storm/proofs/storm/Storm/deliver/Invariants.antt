use Rattle.std.proofs.Common.{◌-◌, ◌≡◌}
use Rattle.cli_storm.proofs.storm.Storm.deliver.Given as goal
use Rattle.cli_storm.specs.Storm.{deliveries, Passes, Rest}
use Rattle.text_script.specs.rbc_world.World.{line_of, state_of}

abbrev pub invariant-loop : goal.invariant-loop
invariant-loop g l = record {
  line : line_of l.self.world ≡ line_of l.fn.self.world;
  goes : (rest : Rest)
      → Passes g.T.Observer.tells (line_of l.fn.self.world) (state_of l.fn.self.world) l.fn.observer
      (deliveries 4 (line_of l.fn.self.world) (state_of l.fn.self.world) l.fn.self.draws.x rest)
      (state_of l.self.world) l.observer
      (deliveries (4 - l.counter) (line_of l.fn.self.world) (state_of l.self.world) l.self.draws.x rest);
}
