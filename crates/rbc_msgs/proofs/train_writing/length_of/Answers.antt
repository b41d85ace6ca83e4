use Rattle.std.proofs.Common.{◌+◌, ◌<◌, arith, length}
use Rattle.std.proofs.lemmas.Result.{err_from_is_err_and}
use Rattle.std.specs.List.{flat_map}
use Rattle.rbc_msgs.proofs.Needed.{counted, too-long}
use Rattle.rbc_msgs.proofs.train_writing.length_of.Goals as goal
use Rattle.rbc_msgs.specs.TrainSpelling.{packet_bits}

pub returns-in_err-bits-clause-too_long : goal.returns-in_err-bits-clause-too_long
returns-in_err-bits-clause-too_long c =
    let p = err_from_is_err_and c.from_residual.result c.from_residual.ensures.1 in
    rw (p.1)
    (too-long c.args.message.now c.body.result.now c.further.result.now c.body_bits-bits.result c.body.ensures.value
    c.further.ensures.value c.body_bits-bits.ensures.value c.in_err-bits.ensures.too_long)

pub returns-then-bits-gt-MOST_BITS-clause-too_long : goal.returns-then-bits-gt-MOST_BITS-clause-too_long
returns-then-bits-gt-MOST_BITS-clause-too_long c =
    let many : 8184 < 74 + c.body_bits-bits.result + length (flat_map packet_bits c.further.result.now) =
    omega (arith, c.in_ok-bits.ensures.ok) in
    too-long c.args.message.now c.body.result.now c.further.result.now c.body_bits-bits.result c.body.ensures.value
    c.further.ensures.value c.body_bits-bits.ensures.value many

pub returns-clause-ok : goal.returns-clause-ok
returns-clause-ok c =
    counted c.args.message.now c.body.result.now c.further.result.now c.body_bits-bits.result c.in_ok-bits.bits
    c.body.ensures.value c.further.ensures.value c.body_bits-bits.ensures.value c.in_ok-bits.ensures.ok
