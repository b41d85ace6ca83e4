use Rattle.std.proofs.Common.{◌≡◌, Bool, drop, List}
use Rattle.text_fields.proofs.Along.{Along}
use Rattle.text_fields.proofs.walk.Walk.rows.Given as goal
use Rattle.text_fields.specs.Named.{Named}
use Rattle.text_fields.specs.Senses.{AreKinds}
use Rattle.text_fields.specs.Shown.{all_bits}
use Rattle.text_fields.specs.Walks.{AreRows, Next}

abbrev pub invariant-loop-name : goal.invariant-loop-name
invariant-loop-name l = record {
  kinds : AreKinds (drop l.name-index l.rows);
  bits : all_bits l.self.look ≡ all_bits l.fn.self.look;
  along : (fields : List Named) (rest : List Bool) → AreRows l.rows fields
      → Next fields rest l.fn.self.look l.fn.self.end
      → Along (drop l.name-index l.rows) fields rest l.fn.self.look l.fn.self.end l.fn.self.last
      l.self.look l.self.end l.self.last;
}
