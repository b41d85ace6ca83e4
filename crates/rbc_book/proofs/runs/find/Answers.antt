use Rattle.std.proofs.Common.{◌+◌, ◌/◌, ◌<◌, ◌≡◌, ◌≤◌, arith, subst, true}
use Rattle.rbc_book.proofs.Rows.{at_holds, found_none, lower, raise}
use Rattle.rbc_book.proofs.runs.find.Goals as goal
use Rattle.rbc_book.specs.Runs.{sections_of}
use Rattle.rbc_spec.proofs.Runs.{within_from}
use Rattle.rbc_spec.specs.SectionRuns.{within}

pub loop-low-preserved-then-s-run : goal.loop-low-preserved-then-s-run
loop-low-preserved-then-s-run c = lower c.args.runs.now c.args.s c.loop-low.low c.loop-low.high
    ((c.loop-low.low + c.loop-low.high) / 2) _ c.requires c.loop-low.invariant
    (omega (arith, c.loop-low-test.true)) (omega (arith, c.loop-low-test.true)) c.if-s-run.true

pub returns-then-from-next_after-clause-some : goal.returns-then-from-next_after-clause-some
returns-then-from-next_after-clause-some c =
    let ends = subst (λ n. c.args.s < n) c.next_after.ensures
    (subst (λ n. n < c.next_after.result) c.from.ensures c.if-from-next_after.true) in
    at_holds (λ r. within (sections_of r) c.args.s ≡ true) c.args.runs.now ((c.loop-low.low + c.loop-low.high) / 2) _
    (omega (arith, c.loop-low-test.true, c.loop-low.invariant.bound)) (within_from _ c.args.s c.if-s-run.false ends)

pub loop-low-preserved : goal.loop-low-preserved
loop-low-preserved c =
    let ends = subst (λ n. n ≤ c.args.s) c.next_after.ensures
    (subst (λ n. c.next_after.result ≤ n) c.from.ensures c.if-from-next_after.false) in
    raise c.args.runs.now c.args.s c.loop-low.low c.loop-low.high ((c.loop-low.low + c.loop-low.high) / 2) _
    c.requires c.loop-low.invariant
    (omega (arith, c.loop-low-test.true)) (omega (arith, c.loop-low-test.true)) ends

pub returns-clause-none : goal.returns-clause-none
returns-clause-none c _ = found_none c.args.runs.now c.args.s c.loop-low.low c.loop-low.high
    c.loop-low.invariant c.loop-low-test.false
