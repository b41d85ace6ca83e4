use Rattle.std.proofs.Common.{◌++◌, ◌≡◌, drop, map, take}
use Rattle.serve_line.proofs.looking.seen.see_links.Given as goal
use Rattle.serve_line.specs.Pages.{with_frames}

abbrev pub invariant-loop-link : goal.invariant-loop-link
invariant-loop-link l =
    l.links ≡ map (with_frames l.centre) (take l.link-index l.fn.links) ++ drop l.link-index l.fn.links
