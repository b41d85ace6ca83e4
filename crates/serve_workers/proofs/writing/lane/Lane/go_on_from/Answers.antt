use Rattle.std.proofs.Common.{rules}
use Rattle.std.proofs.lemmas.Fn.{filter_same}
use Rattle.serve_workers.proofs.writing.lane.Lane.go_on_from.Goals as goal
use Rattle.serve_workers.specs.Writing.Lane.{is_due}

pub returns-clause-early : goal.returns-clause-early
returns-clause-early c =
    filter_same _ (is_due c.args.t_train) _ (λ x b f k. search rules) _ _ c.retain.ensures.filtered
