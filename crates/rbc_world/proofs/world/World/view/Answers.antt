use Rattle.rbc_world.proofs.Known.{world_missions, world_stands}
use Rattle.rbc_world.proofs.Shown.{trains_shown}
use Rattle.rbc_world.proofs.world.World.view.Goals as goal
use Rattle.rbc_world.specs.World.{line_of, state_of}

pub returns-clause-shows : goal.returns-clause-shows
returns-clause-shows c =
    let w = c.args.self.now in
    record {
      sections = c.in_ok-sections.ensures;
      trains =
          trains_shown (line_of w) (state_of w) (world_missions (line_of w) (state_of w) c.known_line.ensures w.reached)
          c.in_ok-trains.trains.items c.in_ok-trains.ensures;
    }

pub returns-clause-stands : goal.returns-clause-stands
returns-clause-stands c = let w = c.args.self.now in
    world_stands (line_of w) (state_of w) c.known_line.ensures w.reached

pub returns-in_err-trains-clause-stands : goal.returns-in_err-trains-clause-stands
returns-in_err-trains-clause-stands c = let w = c.args.self.now in
    world_stands (line_of w) (state_of w) c.known_line.ensures w.reached

pub returns-in_err-sections-clause-stands : goal.returns-in_err-sections-clause-stands
returns-in_err-sections-clause-stands c = let w = c.args.self.now in
    world_stands (line_of w) (state_of w) c.known_line.ensures w.reached
