use Rattle.std.proofs.Common.{append_assoc, rules}
use Rattle.cli_picture.proofs.grid.draw_homes.Goals as goal

pub loop-track-preserved : goal.loop-track-preserved
loop-track-preserved c = search (rules, append_assoc)
