use Rattle.std.proofs.Common.{◌≡◌, drop, map}
use Rattle.std.specs.Str.{bytes_eq}
use Rattle.rbc_line.proofs.faults.has_name_twice.Given as goal
use Rattle.rbc_line.specs.Faults.{has_twice}

abbrev pub invariant-loop-i : goal.invariant-loop-i
invariant-loop-i l =
    has_twice bytes_eq (map (λ name. name.now) l.names) ≡ has_twice bytes_eq (map (λ name. name.now) (drop l.i l.names))
