use Rattle.rbc_spec.specs.ReadOff.{read_off}
use Rattle.rbc_world.specs.World.{line_of, state_of}
use Rattle.text_scenario.proofs.judge.train_meets.Goals as goal
use Rattle.text_scenario.proofs.Seen.{seat_seen}

pub returns : goal.returns
returns c =
    seat_seen (line_of c.args.world.now) (read_off (line_of c.args.world.now) (state_of c.args.world.now))
    c.in_ok-view.view c.in_ok-view.ensures.shows c.args.nid_engine c.args.supervisor c.is_supervised.result
    c.is_supervised.ensures
