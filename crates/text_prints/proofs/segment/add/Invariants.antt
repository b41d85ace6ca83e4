use Rattle.std.proofs.Common.{◌++◌, ◌≡◌, drop}
use Rattle.text_prints.proofs.segment.add.Given as goal
use Rattle.text_prints.specs.Capture.{all_bytes}

abbrev pub invariant-loop-part : goal.invariant-loop-part
invariant-loop-part l =
    l.out.items ++ all_bytes (drop l.part-index l.parts) ≡ l.fn.out.items ++ all_bytes l.parts
