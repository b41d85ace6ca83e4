use Rattle.std.proofs.Common.{◌*◌, ◌+◌, ◌==◌, ◌≡◌, nat_eq, position, take, ℕ}
use Rattle.std.specs.HashMap.{get}
use Rattle.rbc_line.proofs.tables.groups_of.Given as goal

abbrev pub invariant-loop-s : goal.invariant-loop-s
invariant-loop-s l = (q : ℕ)
    → get nat_eq l.groups q ≡ position (λ p. l.fn.nid_c * 16384 + p.balise == q) (take l.s l.sections)
