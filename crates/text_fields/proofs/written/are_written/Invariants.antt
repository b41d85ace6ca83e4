use Rattle.std.proofs.Common.{◌≡◌, drop}
use Rattle.text_fields.proofs.written.are_written.Given as goal
use Rattle.text_fields.specs.Named.{all_named}
use Rattle.text_fields.specs.Written.{all_written}

abbrev pub invariant-loop-place : goal.invariant-loop-place
invariant-loop-place l =
    all_named (drop l.place l.shown) ≡ all_written (drop l.place l.written) → all_named l.shown ≡ all_written l.written
