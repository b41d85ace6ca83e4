use Rattle.std.proofs.Common.{◌≡◌, drop}
use Rattle.cli_demo.proofs.links.last_number.Given as goal
use Rattle.cli_storm.specs.Links.{last_number}

abbrev pub invariant-loop-frame : goal.invariant-loop-frame
invariant-loop-frame l = last_number l.number (drop l.frame-index l.frames) ≡ last_number l.before l.frames
