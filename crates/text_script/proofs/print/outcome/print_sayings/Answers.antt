use Rattle.std.proofs.Common.{◌++◌, subst, sym}
use Rattle.text_script.proofs.print.outcome.print_sayings.Goals as goal
use Rattle.text_script.proofs.PrintLemmas.After.{Appends-trans}
use Rattle.text_script.proofs.PrintLemmas.Rows.{one_taken, saying_more}
use Rattle.text_script.specs.Print.Answers.{AreSayingRows}

pub loop-saying-preserved : goal.loop-saying-preserved
loop-saying-preserved g c =
    let before = c.loop-saying.invariant in
    let row = c.in_ok-print_saying.ensures in (
      before.0 ++ row.0,
      subst (λ sayings. AreSayingRows c.args.centre.now sayings (before.0 ++ row.0))
          (sym (one_taken c.args.sayings.now c.loop-saying.saying-index c.saying-item.result c.loop-saying-test.true
          c.saying-item.is))
          (saying_more c.args.centre.now _ _ before.0 row.0 before.1 row.1),
      Appends-trans _ _ _ before.0 row.0 before.2 row.2,
    )
