use Rattle.std.proofs.Common.{map}
use Rattle.rbc_log.proofs.Merged.{merged, one_run}
use Rattle.rbc_log.proofs.merging.merge.Goals as goal
use Rattle.rbc_log.specs.Merge.{IsMerged}

pub returns-clause-merged : goal.returns-clause-merged
returns-clause-merged c =
    merged (map (λ l. l.now) c.args.logs.now) c.in_ok-in_order.field-0.items
    (c.are_of_centres.ensures.0 c.if-not-are_of_centres.false)
    (c.are_of_one_line.ensures.0 c.if-not-are_of_one_line.false) c.in_ok-in_order.ensures.replays
    c.in_ok-in_order.ensures.once c.in_ok-in_order.ensures.in_order

pub returns-clause-run : goal.returns-clause-run
returns-clause-run c =
    let is : IsMerged (map (λ l. l.now) c.args.logs.now) c.in_ok-in_order.field-0.items =
    merged (map (λ l. l.now) c.args.logs.now) c.in_ok-in_order.field-0.items
    (c.are_of_centres.ensures.0 c.if-not-are_of_centres.false)
    (c.are_of_one_line.ensures.0 c.if-not-are_of_one_line.false) c.in_ok-in_order.ensures.replays
    c.in_ok-in_order.ensures.once c.in_ok-in_order.ensures.in_order in
    one_run (map (λ l. l.now) c.args.logs.now) c.in_ok-in_order.field-0.items c.in_ok-in_order.ensures.replays is
