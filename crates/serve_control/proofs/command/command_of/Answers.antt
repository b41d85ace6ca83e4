use Rattle.std.proofs.Common.{IfErr, IfOk, rules, subst, sym}
use Rattle.serve_control.proofs.Bidden.{bids, bids_nothing}
use Rattle.serve_control.proofs.command.command_of.Goals as goal
use Rattle.serve_control.specs.Commands.{Bids, IsNoCommand}
use Rattle.text_script.specs.Entries.{AreAsked}
use Rattle.text_script.specs.Script.{rows}

pub returns-in-Ok-clause-ok : goal.returns-in-Ok-clause-ok
returns-in-Ok-clause-ok c =
    subst
    (λ r. IfOk r (Bids c.args.line.now c.args.row.now))
    (sym c.ok_or.ensures.value)
    (bids c.args.line.now c.args.row.now _ c.command_in.result c.command_in.ensures
    (subst (AreAsked c.args.line.now (rows c.args.row.now)) (sym c.deref.ensures.value) c.in-Ok.ensures.asked))

pub returns-in-Ok-clause-err : goal.returns-in-Ok-clause-err
returns-in-Ok-clause-err c =
    subst
    (λ r. IfErr r (IsNoCommand c.args.line.now c.args.row.now))
    (sym c.ok_or.ensures.value)
    (bids_nothing c.args.line.now c.args.row.now _ c.command_in.result (search rules) (search rules)
    c.command_in.ensures
    (subst (AreAsked c.args.line.now (rows c.args.row.now)) (sym c.deref.ensures.value) c.in-Ok.ensures.asked))
