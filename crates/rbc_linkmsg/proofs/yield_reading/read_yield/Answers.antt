use Rattle.std.proofs.Common.{rules}
use Rattle.rbc_linkmsg.proofs.Readings.{yielding_fields}
use Rattle.rbc_linkmsg.proofs.yield_reading.read_yield.Goals as goal

pub returns-in_err-yielding-clause-found : goal.returns-in_err-yielding-clause-found
returns-in_err-yielding-clause-found c = λ number t heard d e p hand h s.
    let parts = yielding_fields c.args.bytes.now number t heard d e p hand s in
    let found = c.read_yielding.ensures.found heard d e p hand h.2 h.3 h.4 parts.0 parts.1 parts.2 in
    search rules
