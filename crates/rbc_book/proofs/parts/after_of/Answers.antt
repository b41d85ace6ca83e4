use Rattle.std.proofs.Common.{◌<◌, arith, length, refl}
use Rattle.rbc_book.proofs.parts.after_of.Goals as goal
use Rattle.rbc_book.proofs.Rows.{at_get, at_is, at_within}
use Rattle.rbc_book.specs.Runs.{GoesOn}

pub returns-in_err-next-clause-none : goal.returns-in_err-next-clause-none
returns-in_err-next-clause-none c _ on =
    let stands : c.args.i < length c.args.runs.now = at_within (λ r. GoesOn c.args.run r) c.args.runs.now c.args.i on in
    let no : ⊥ = omega (arith, stands, c.in_err-next.ensures.none refl) in
    no

pub returns-then-goes_on-clause-some : goal.returns-then-goes_on-clause-some
returns-then-goes_on-clause-some c =
    (at_get c.args.runs.now c.args.i c.in_ok-next.next c.in_ok-next.ensures.value, c.if-goes_on.ensures)

pub returns-else-goes_on-clause-none : goal.returns-else-goes_on-clause-none
returns-else-goes_on-clause-none c _ on =
    c.if-goes_on.ensures (at_is (λ r. GoesOn c.args.run r) c.args.runs.now c.args.i c.in_ok-next.next on
    (at_get c.args.runs.now c.args.i c.in_ok-next.next c.in_ok-next.ensures.value))
