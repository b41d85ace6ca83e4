use Rattle.std.proofs.Common.{◌∙◌, ◌≡◌, ap, arith, refl, Some, sym}
use Rattle.std.proofs.lemmas.Option.{slice_get_read}
use Rattle.std.specs.List.{slice_get}
use Rattle.rbc_line.proofs.layout.Line.train_number.Goals as goal
use Rattle.rbc_line.proofs.Rows.{train_number-at}
use Rattle.rbc_spec.specs.Line.{train_number}

pub returns-in-Some-clause-value : goal.returns-in-Some-clause-value
returns-in-Some-clause-value c =
    let row = c.in-Some.ensures.lookup in
    let at : slice_get c.self.inside.rows.trains.items c.of-guess.result ≡ Some c.in-Some.train.now =
    ap (λ rows. slice_get rows c.of-guess.result) (sym c.deref.ensures.value)
    ∙ slice_get_read c.deref.result.now _ c.of-guess.result _ refl row.3.0 row.1 in
    let engine : c.in-Some.train.now.nid_engine ≡ c.args.nid_engine = omega arith in
    train_number-at _ c.self.inside.rows.trains.items c.of-guess.result c.args.nid_engine c.in-Some.train.now
    c.self.invariant.rules refl at engine
    ∙ ap (λ line. train_number line c.args.nid_engine) c.self.view_is
