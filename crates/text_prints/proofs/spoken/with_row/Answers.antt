use Rattle.std.proofs.Common.{[], ◌++◌, ◌∙◌, ◌∷◌, ap, List, refl, subst, ℕ}
use Rattle.text_script.specs.Print.Rows.{name_at}
use Rattle.text_prints.proofs.spoken.with_row.Goals as goal
use Rattle.text_prints.specs.Parts.{IsRowOf}

pub returns : goal.returns
returns c = (
  c.in_ok-part.part,
  subst (λ (name : List ℕ). IsRowOf name c.in_ok-part.part (c.args.row.now ++ 10 ∷ []))
      (c.name_of.ensures ∙ ap (name_at c.args.line.now) c.centre.ensures) c.in_ok-part.ensures,
  refl,
  c.in_ok-spoken.ensures,
)
