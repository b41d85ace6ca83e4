use Rattle.cli_picture.specs.Homes.{homes_text}
use Rattle.cli_picture.specs.Texts.{all_below, Draws}
use Rattle.cli_picture.proofs.grid.draw_homes.Given as goal

abbrev pub invariant-loop-track : goal.invariant-loop-track
invariant-loop-track l = Draws l.initial.svg l.svg (all_below (homes_text l.scale l.axis) l.track)
