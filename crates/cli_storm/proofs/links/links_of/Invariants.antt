use Rattle.std.proofs.Common.{◌≡◌, length, map}
use Rattle.std.specs.List.{range_with_len}
use Rattle.cli_storm.proofs.links.links_of.Given as goal
use Rattle.cli_storm.specs.Links.{link_at}
use Rattle.rbc_spec.specs.World.{new_world}

abbrev pub invariant-loop-place : goal.invariant-loop-place
invariant-loop-place l =
    l.links.items ≡ map (link_at (length l.line.centres) (new_world l.line)) (range_with_len 0 l.place)
