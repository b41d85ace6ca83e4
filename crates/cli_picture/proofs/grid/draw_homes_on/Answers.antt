use Rattle.std.proofs.Common.{append_assoc, rules}
use Rattle.cli_picture.proofs.grid.draw_homes_on.Goals as goal

pub loop-home-preserved : goal.loop-home-preserved
loop-home-preserved c = search (rules, append_assoc)
