use Rattle.std.proofs.Common.{◌-◌, ◌<◌, arith, length, refl}
use Rattle.rbc_book.proofs.parts.ahead_of.Goals as goal
use Rattle.rbc_book.proofs.Rows.{at_get, at_is, at_within}
use Rattle.rbc_book.specs.Runs.{GoesOn}

pub returns-in_err-ahead-clause-none : goal.returns-in_err-ahead-clause-none
returns-in_err-ahead-clause-none c _ _ on =
    let stands : c.args.i - 1 < length c.args.runs.now =
    at_within (λ r. GoesOn r c.args.next) c.args.runs.now (c.args.i - 1) on in
    let no : ⊥ = omega (arith, stands, c.in_err-ahead.ensures.none refl) in
    no

pub returns-then-goes_on-clause-some : goal.returns-then-goes_on-clause-some
returns-then-goes_on-clause-some c = (
  omega (arith, c.if-i-eq0.false),
  at_get c.args.runs.now (c.args.i - 1) c.in_ok-ahead.ahead
      c.in_ok-ahead.ensures.value,
  c.if-goes_on.ensures,
)

pub returns-else-goes_on-clause-none : goal.returns-else-goes_on-clause-none
returns-else-goes_on-clause-none c _ _ on =
    c.if-goes_on.ensures (at_is (λ r. GoesOn r c.args.next) c.args.runs.now (c.args.i - 1) c.in_ok-ahead.ahead on
    (at_get c.args.runs.now (c.args.i - 1) c.in_ok-ahead.ahead c.in_ok-ahead.ensures.value))
