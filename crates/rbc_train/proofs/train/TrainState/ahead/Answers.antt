use Rattle.std.proofs.Common.{◌+◌, ◌-◌, ◌∙◌, arith, sym}
use Rattle.rbc_line.specs.SectionRuns.{run_of}
use Rattle.rbc_train.proofs.Cuts.{keeps_some}
use Rattle.rbc_train.proofs.train.TrainState.ahead.Goals as goal

pub overflow_add-cleared : goal.overflow_add-cleared
overflow_add-cleared c =
    let few =
    keeps_some c.args.line.now
    (run_of (record {
      first = c.hand-hand.result.first + c.cleared-cleared.result;
      count = c.hand-hand.result.count - c.cleared-cleared.result;
    })) c.in_ok-place.place.front c.in-Keep.keep (sym c.cut_at_standstill.ensures ∙ c.in-Keep.is) in
    omega (arith, few.1, c.cleared-cleared.ensures.bound, c.hand-hand.ensures.most)

pub wished_around-told-requires-clause-keep : goal.wished_around-told-requires-clause-keep
wished_around-told-requires-clause-keep c =
    let few =
    keeps_some c.args.line.now
    (run_of (record {
      first = c.hand-hand.result.first + c.cleared-cleared.result;
      count = c.hand-hand.result.count - c.cleared-cleared.result;
    })) c.in_ok-place.place.front c.in-Keep.keep (sym c.cut_at_standstill.ensures ∙ c.in-Keep.is) in
    omega (arith, few.1, c.cleared-cleared.ensures.bound)
