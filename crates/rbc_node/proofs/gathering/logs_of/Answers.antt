use Rattle.std.proofs.Common.{[], ◌∷◌, All, arith, subst, sym}
use Rattle.std.proofs.lemmas.List.Elements.{All-append, All-cons, All-nil}
use Rattle.rbc_log.specs.Log.{IsReplaying}
use Rattle.rbc_node.proofs.gathering.logs_of.Goals as goal

pub loop-node-preserved : goal.loop-node-preserved
loop-node-preserved c =
    let was = c.loop-node.invariant.0 in
    let pushed = c.in_ok-push.ensures.len in
    let popped = c.in-Some.ensures.len in
    let log = c.into_log.result in (
      omega (arith, was, pushed, popped),
      subst (All IsReplaying) (sym c.in_ok-push.ensures.items)
          (All-append IsReplaying c.loop-node.logs.items (log ∷ []) c.loop-node.invariant.1
          (All-cons IsReplaying log [] c.into_log.ensures (All-nil IsReplaying))),
    )
