use Rattle.std.proofs.Common.{[], ◌++◌, ◌∙◌, ◌∷◌, ap, arith, length, length-append}
use Rattle.rbc_packets.proofs.Again.{length-joined, written-then}
use Rattle.rbc_packets.proofs.position.Position.write_packet.Goals as goal
use Rattle.rbc_packets.specs.Layout.{joined, train_packet}
use Rattle.rbc_packets.specs.PositionSpelling.{level_fields, location_fields, position_fields, running_fields}
use Rattle.rbc_packets.specs.PositionSpelling.{train_length_fields}

pub returns-clause-ok : goal.returns-clause-ok
returns-clause-ok c =
    let w = c.args.row.now in
    let p = c.args.self.now in
    let header = c.put_header.ensures.ok ∙ ap (λ n. w ++ joined ((8, 0) ∷ (13, n) ∷ [])) c.l_packet.ensures.value in
    let running = written-then c.write-2.new.row c.write_running.new.row c.write-3.new.row (running_fields p)
    (level_fields p.level) c.write_running.ensures.ok c.write-3.ensures.ok in
    let length = written-then c.write.new.row c.write-2.new.row c.write-3.new.row (train_length_fields p.train_length)
    (running_fields p ++ level_fields p.level) c.write-2.ensures.ok running in
    let location = written-then c.put_header.new.row c.write.new.row c.write-3.new.row (location_fields p.location)
    (train_length_fields p.train_length ++ (running_fields p ++ level_fields p.level)) c.write.ensures.ok length in
    written-then w c.put_header.new.row c.write-3.new.row _ _ header location

pub returns-clause-length : goal.returns-clause-length
returns-clause-length c =
    let fields = (8, 0) ∷ train_packet (position_fields c.args.self.now) in
    omega (
      arith,
      ap length (returns-clause-ok c),
      length-append c.args.row.now (joined fields),
      length-joined fields,
      c.l_packet.ensures.value,
      c.l_packet.ensures.range,
    )
