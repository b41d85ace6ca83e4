use Rattle.std.proofs.Common.{◌∙◌, sym}
use Rattle.rbc_packets.proofs.Again.{train_found}
use Rattle.rbc_packets.proofs.position.Position.read.Goals as goal
use Rattle.rbc_packets.proofs.position.Position.read.Goals.{in-None+in_ok-position-in-None}
use Rattle.rbc_packets.proofs.position.Position.read.Goals.{in-Some+in_ok-position-in-Some}
use Rattle.rbc_packets.specs.PositionSpelling.{position_fields}

pub returns-clause-taken : goal.returns-clause-taken
returns-clause-taken c =
    train_found c.args.reader.now c.in_ok-bits.bits c.train_part.new.reader (position_fields c.match-in_word.position)
    c.in_ok-bits.ensures.taken
    (elim c.match-in_word.branch [
      | in-Some+in_ok-position-in-Some w ↦ rw w.position-is (sym w.in-Some.ensures
          ∙ w.in_ok-position-in-Some.ensures.taken)
      | in-None+in_ok-position-in-None w ↦ rw w.position-is w.in_ok-position-in-None.ensures.taken
    ])
