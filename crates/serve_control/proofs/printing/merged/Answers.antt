use Rattle.std.proofs.Common.{◌∙◌, ap, arith, List, map, subst}
use Rattle.std.proofs.lemmas.List.{take_all}
use Rattle.rbc_log.specs.Log.{LogValue}
use Rattle.rbc_log.specs.Merge.{MakesOneRun}
use Rattle.serve_control.proofs.printing.merged.Goals as goal

pub returns-clause-run : goal.returns-clause-run
returns-clause-run c =
    let all = ap (map (λ r. r.now)) c.deref.ensures.value ∙ c.loop-log.invariant
    ∙ take_all c.loop-log.log-index c.args.logs.now (omega (c.loop-log-test.false, arith)) in
    subst (λ (logs : List LogValue). MakesOneRun logs c.in_ok-merge.field-0.items) all c.in_ok-merge.ensures.run
