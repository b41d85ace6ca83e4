use Rattle.std.proofs.Common.{◌++◌, ◌≡◌, drop, map, take}
use Rattle.cli_storm.proofs.links.count_frames.Given as goal
use Rattle.cli_storm.specs.Links.{counted}
use Rattle.text_script.specs.rbc_centre.Sent.{frames_to}

abbrev pub invariant-loop-link : goal.invariant-loop-link
invariant-loop-link l =
    l.link-items ≡ map (counted l.from (frames_to l.frames)) (take l.link-index l.fn.links.items)
    ++ drop l.link-index l.fn.links.items
