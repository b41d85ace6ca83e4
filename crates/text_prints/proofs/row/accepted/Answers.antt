use Rattle.std.proofs.Common.{◌∙◌, sym}
use Rattle.std.proofs.lemmas.Bool.{true≢false}
use Rattle.std.proofs.lemmas.Slice.Eq.{bytes_eq-Decides}
use Rattle.std.specs.Prelude.{codes}
use Rattle.text_prints.proofs.Parts.{accepted_row}
use Rattle.text_prints.proofs.row.accepted.Goals as goal

pub returns-else-eq : goal.returns-else-eq
returns-else-eq c =
    accepted_row c.args.centre.now c.args.row.now c.in_ok-refuse_said.ensures c.in_ok-refuse_sign.ensures
    (λ same.
    true≢false (sym (c.eq.ensures ∙ (bytes_eq-Decides c.args.row.now (codes "not sent")).1 same) ∙ c.if-eq.false))
