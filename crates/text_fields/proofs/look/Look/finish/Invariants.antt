use Rattle.std.proofs.Common.{◌≡◌, length, []}
use Rattle.text_fields.specs.Shown.{all_bits}
use Rattle.text_fields.proofs.look.Look.finish.Given as goal

abbrev pub invariant-loop-look : goal.invariant-loop-look
invariant-loop-look l = record {
  bits : all_bits l.look ≡ all_bits l.fn.self;
  none : l.fn.self.1 ≡ [] → l.look ≡ l.fn.self;
}

abbrev pub decreases-loop-look : goal.decreases-loop-look
decreases-loop-look l = length l.look.1
