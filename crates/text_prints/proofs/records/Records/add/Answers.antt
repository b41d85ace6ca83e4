use Rattle.std.proofs.Common.{refl}
use Rattle.text_prints.proofs.records.Records.add.Goals as goal

pub returns-clause-bytes : goal.returns-clause-bytes
returns-clause-bytes c =
    rw (
      c.in_ok-add.ensures,
      c.to_le_bytes.ensures,
      c.to_le_bytes-2.ensures,
      c.to_le_bytes-3.ensures,
      c.to_le_bytes-4.ensures,
      c.deref.ensures.value,
      c.in_ok-packet.ensures,
    ) refl
