use Rattle.std.proofs.Common.{map, not}
use Rattle.std.specs.List.{list_any}
use Rattle.std.specs.Str.{bytes_eq}
use Rattle.rbc_line.proofs.build.train_rows.Goals as goal
use Rattle.rbc_line.proofs.BuildSteps.{item_fails, true_of_not}
use Rattle.rbc_line.specs.DraftViews.{centre_view, train_view}
use Rattle.rbc_line.specs.Faults.{is_outside}

pub train_row-requires-clause-engine : goal.train_row-requires-clause-engine
train_row-requires-clause-engine c =
    item_fails train_view (λ t. is_outside 0 16777215 t.engine) c.args.draft.now.trains.items
    c.as_slice-trains.result.now c.loop-train.train-index _ c.as_slice-trains.ensures.value c.requires.engines
    c.loop-train-test.true

pub train_row-requires-clause-registrar : goal.train_row-requires-clause-registrar
train_row-requires-clause-registrar c =
    rw c.as_slice-centres.ensures.value (true_of_not _
    (item_fails train_view
    (λ t. not (list_any (λ p. bytes_eq p.name t.registrar) (map centre_view c.args.draft.now.centres.items)))
    c.args.draft.now.trains.items c.as_slice-trains.result.now c.loop-train.train-index _
    c.as_slice-trains.ensures.value c.requires.registrars c.loop-train-test.true))
