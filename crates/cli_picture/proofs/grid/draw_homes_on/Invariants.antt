use Rattle.cli_picture.specs.Homes.{home_text}
use Rattle.cli_picture.specs.Texts.{all_below, Draws}
use Rattle.cli_picture.proofs.grid.draw_homes_on.Given as goal

abbrev pub invariant-loop-home : goal.invariant-loop-home
invariant-loop-home l = Draws l.initial.svg l.svg (all_below (home_text l.scale l.axis l.track) l.home)
