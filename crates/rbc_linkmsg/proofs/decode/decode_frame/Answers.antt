use Rattle.std.proofs.Common.{◌∙◌}
use Rattle.rbc_linkmsg.proofs.decode.decode_frame.Goals as goal
use Rattle.rbc_linkmsg.proofs.Readings.{no_fault}

pub returns-in_err-kind-clause-found : goal.returns-in_err-kind-clause-found
returns-in_err-kind-clause-found c =
    let e = c.in_err-kind.ensures in
    λ f p. absurd (e.other (e.fault ∙ no_fault c.args.bytes.now f p))
