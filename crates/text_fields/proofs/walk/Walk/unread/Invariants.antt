use Rattle.std.proofs.Common.{◌++◌, ◌≡◌, ◌≤◌, Bool, length, List}
use Rattle.text_fields.proofs.Unread.{Unread}
use Rattle.text_fields.proofs.walk.Walk.unread.Given as goal
use Rattle.text_fields.specs.Shown.{all_bits}

abbrev pub invariant-loop : goal.invariant-loop
invariant-loop l = record {
  bits : all_bits l.self.look ≡ all_bits l.fn.self.look;
  none : length l.fn.self.look.1 ≤ l.fn.self.end → (l.self.look ≡ l.fn.self.look) × (l.self.end ≡ l.fn.self.end);
  unread : (bits rest : List Bool) → l.fn.self.look.1 ≡ bits ++ rest → l.fn.self.end ≡ length rest
      → Unread bits rest l.fn.self.look l.self.look l.self.end l.counter;
}
