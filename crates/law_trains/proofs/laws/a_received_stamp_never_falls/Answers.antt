use Rattle.std.proofs.Common.{arith}
use Rattle.law_trains.proofs.Received.{goes_rises}
use Rattle.law_trains.proofs.laws.a_received_stamp_never_falls.Goals as goal

pub returns : goal.returns
returns ctx line v new event answer t c n h is =
    let r = goes_rises line v event answer new h t c n (record { last = n; is = is; le = (omega arith) }) in
    (r.last, r.is, r.le)
