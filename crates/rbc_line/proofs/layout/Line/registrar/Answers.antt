use Rattle.std.proofs.Common.{◌∙◌, ap, option_map}
use Rattle.rbc_line.proofs.layout.Line.registrar.Goals as goal
use Rattle.rbc_line.proofs.Rows.{registrar-at, registrar-none}

pub returns : goal.returns
returns c = ap (option_map (λ row. row.registrar)) c.in_ok-train.ensures
    ∙ registrar-at c.args.self.now c.args.nid_engine c.in_ok-i.i c.in_ok-i.ensures.value

pub returns-in_err-train : goal.returns-in_err-train
returns-in_err-train c = c.from_residual-in_err-train.ensures
    ∙ ap (option_map (λ row. row.registrar)) c.in_err-train.ensures
    ∙ registrar-at c.args.self.now c.args.nid_engine c.in_ok-i.i c.in_ok-i.ensures.value

pub returns-in_err-i : goal.returns-in_err-i
returns-in_err-i c = c.from_residual.ensures ∙ registrar-none c.args.self.now c.args.nid_engine c.in_err-i.ensures.value
