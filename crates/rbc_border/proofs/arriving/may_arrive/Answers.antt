use Rattle.std.proofs.Common.{◌+◌, ◌<◌, ◌∙◌, ◌≡◌, ◌≤◌, ap, arith, sym, ⊎_elim}
use Rattle.std.proofs.lemmas.Bool.{cases_lt}
use Rattle.rbc_border.proofs.arriving.may_arrive.Goals as goal
use Rattle.rbc_border.proofs.Hands.{one_fails}
use Rattle.rbc_line.specs.SectionRuns.{run_of}
use Rattle.rbc_spec.proofs.Lists.{all_from}
use Rattle.rbc_spec.specs.Links.{may_arrive}

pub returns-then-not-arrives : goal.returns-then-not-arrives
returns-then-not-arrives c k has =
    sym (one_fails (may_arrive c.args.line.now c.args.centre k c.args.train.nid_engine c.args.train.track)
    (run_of c.args.hand) (c.from.result + c.from-in-loop-k.result)
    (omega (arith, c.from.ensures)) (omega (arith, c.from.ensures, c.from-in-loop-k.ensures, c.loop-k-test.true))
    (sym (c.arrives.ensures k has) ∙ c.if-not-arrives.true))

pub loop-k-preserved : goal.loop-k-preserved
loop-k-preserved c k has s low high = ⊎_elim
    (λ (before : s < c.args.hand.first + c.loop-k.k). c.loop-k.invariant k has s low before)
    (λ (last : c.args.hand.first + c.loop-k.k ≤ s).
    let same : s ≡ c.from.result + c.from-in-loop-k.result =
    omega (arith, last, high, c.from.ensures, c.from-in-loop-k.ensures) in
    ap (may_arrive c.args.line.now c.args.centre k c.args.train.nid_engine c.args.train.track) same
    ∙ sym (c.arrives.ensures k has) ∙ c.if-not-arrives.false)
    (cases_lt s (c.args.hand.first + c.loop-k.k))

pub returns : goal.returns
returns c k has =
    sym (all_from (may_arrive c.args.line.now c.args.centre k c.args.train.nid_engine c.args.train.track)
    c.args.hand.first c.args.hand.count
    (λ s low high. c.loop-k.invariant k has s low (omega (arith, high, c.loop-k-test.false))))
