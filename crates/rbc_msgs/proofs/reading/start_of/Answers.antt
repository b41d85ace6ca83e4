use Rattle.std.proofs.Common.{◌*◌, ◌++◌, ◌+◌, ◌/◌, ◌∙◌, ◌≡◌, append_assoc, arith, sym, take}
use Rattle.rbc_bits.specs.Bits.{bits_of, field}
use Rattle.rbc_msgs.proofs.reading.start_of.Goals as goal
use Rattle.rbc_msgs.proofs.reading.start_of.Goals.{After-from-3}
use Rattle.rbc_msgs.proofs.Spelled.{start_fields, start_read}

fields : (c : After-from-3)
    → bits_of (take 3 c.args.bytes.now)
    ≡ field 8 c.from-3.result ++ (field 10 (c.from.result * 4 + c.from-2.result / 64) ++ field 6 c.from-2.result)
fields c =
    rw (c.from-3.ensures, c.from.ensures, c.from-2.ensures)
    (start_fields c.args.bytes.now (omega (arith, c.if-bytes-lt3.false)) (λ i. omega (arith, c.type_inv.bytes i)))

pub returns-clause-exact : goal.returns-clause-exact
returns-clause-exact c =
    start_read c.args.bytes.now c.from-3.result (c.from.result * 4 + c.from-2.result / 64) (field 6 c.from-2.result)
    (omega (arith, c.if-bytes-lt3.false))
    (omega (arith, c.from-3.ensures, c.type_inv.bytes 0))
    (omega (arith, c.from.ensures, c.from-2.ensures, c.type_inv.bytes 1, c.type_inv.bytes 2)) (fields c)

pub returns-clause-taken : goal.returns-clause-taken
returns-clause-taken c = (
  field 6 c.from-2.result,
  fields c
      ∙ sym (append_assoc (field 8 c.from-3.result) (field 10 (c.from.result * 4 + c.from-2.result / 64))
      (field 6 c.from-2.result)),
)
