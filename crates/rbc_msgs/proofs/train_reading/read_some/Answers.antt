use Rattle.std.proofs.Common.{ap, arith, length, length-append}
use Rattle.std.proofs.lemmas.Result.{err_from_is_err_and}
use Rattle.rbc_msgs.proofs.Further.{all-read, none-more, none-read, one-more}
use Rattle.rbc_msgs.proofs.Kept.{further-kept}
use Rattle.rbc_msgs.proofs.train_reading.read_some.Goals as goal
use Rattle.rbc_msgs.proofs.TrainParts.{length-packet}
use Rattle.rbc_msgs.specs.TrainSpelling.{packet_bits}

pub loop-further-init : goal.loop-further-init
loop-further-init c = rw c.new-further.ensures.items (none-read c.args.reader.now)

pub loop-further-preserved : goal.loop-further-preserved
loop-further-preserved c =
    rw c.in_ok-push.ensures.items
    (one-more c.args.reader.now c.loop-further.reader c.further_packet.new.reader c.loop-further.further.items
    c.in_ok-further_packet.field-0 c.loop-further.invariant
    (omega (arith, c.remaining.ensures)) c.in_ok-further_packet.ensures.taken c.in_ok-further_packet.ensures.exact
    c.in_ok-further_packet.ensures.fits)

pub loop-further-smaller : goal.loop-further-smaller
loop-further-smaller c =
    let p = c.in_ok-further_packet.field-0 in
    omega (
      arith,
      ap length c.in_ok-further_packet.ensures.taken,
      length-append (packet_bits p) c.further_packet.new.reader,
      length-packet p,
    )

pub returns-in_err-further_packet-clause-exact : goal.returns-in_err-further_packet-clause-exact
returns-in_err-further_packet-clause-exact c =
    let p = err_from_is_err_and c.from_residual.result c.from_residual.ensures.1 in
    rw (p.1, p.2)
    (λ ne. none-more c.args.reader.now c.loop-further.reader c.loop-further.further.items _ c.loop-further.invariant
    (omega (arith, c.remaining.ensures)) (c.in_err-further_packet.ensures.exact ne))

pub returns-clause-exact : goal.returns-clause-exact
returns-clause-exact c =
    rw c.in_ok-of.ensures.ok
    (all-read c.args.reader.now c.loop-further.reader c.loop-further.further.items c.loop-further.invariant
    (omega (arith, c.remaining.ensures)))

pub returns-in_err-of-clause-memory : goal.returns-in_err-of-clause-memory
returns-in_err-of-clause-memory c =
    let p = err_from_is_err_and c.from_residual-in_err-of.result c.from_residual-in_err-of.ensures.1 in
    rw p.1
    (λ e.
    rw (all-read c.args.reader.now c.loop-further.reader c.loop-further.further.items c.loop-further.invariant
    (omega (arith, c.remaining.ensures))) c.in_err-of.ensures.memory)

pub returns-in_err-further_packet-clause-memory : goal.returns-in_err-further_packet-clause-memory
returns-in_err-further_packet-clause-memory c =
    let p = err_from_is_err_and c.from_residual.result c.from_residual.ensures.1 in
    rw p.1
    (λ e. further-kept c.args.reader.now c.loop-further.reader c.loop-further.further.items c.loop-further.invariant
    (omega (arith, c.remaining.ensures)))

pub returns-in_err-push-clause-memory : goal.returns-in_err-push-clause-memory
returns-in_err-push-clause-memory c =
    let p = err_from_is_err_and c.from_residual-in_err-push.result c.from_residual-in_err-push.ensures.1 in
    rw p.1
    (λ e. further-kept c.args.reader.now c.loop-further.reader c.loop-further.further.items c.loop-further.invariant
    (omega (arith, c.remaining.ensures)))
