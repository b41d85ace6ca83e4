use Rattle.std.proofs.Common.{◌++◌, ◌≡◌, drop, map, take}
use Rattle.cli_demo.proofs.links.send_on.Given as goal
use Rattle.cli_demo.specs.Deliveries.{sent_from}
use Rattle.text_script.specs.rbc_centre.Sent.{frames_to}

abbrev pub invariant-loop-link : goal.invariant-loop-link
invariant-loop-link l =
    l.link-items ≡ map (sent_from l.from (frames_to l.frames)) (take l.link-index l.fn.links.items)
    ++ drop l.link-index l.fn.links.items
