use Rattle.std.proofs.Common.{◌++◌, ◌∙◌, ap, List, sym, ℕ}
use Rattle.std.proofs.lemmas.Bool.{true≢false}
use Rattle.std.proofs.lemmas.Bool.Decides.{Decides-eqb}
use Rattle.std.proofs.lemmas.Slice.Eq.{ends_is}
use Rattle.text_prints.proofs.row.refuse_end.Goals as goal

pub returns-else-ends_with : goal.returns-else-ends_with
returns-else-ends_with c = λ front e.
    true≢false (sym ((ends_is Decides-eqb c.as_bytes.result.now c.as_bytes-2.result.now c.ends_with.result
    c.ends_with.ensures.value).1 front
    (c.as_bytes.ensures.value ∙ e ∙ ap (λ (w : List ℕ). front ++ w) (sym c.as_bytes-2.ensures.value)))
    ∙ c.if-ends_with.false)
