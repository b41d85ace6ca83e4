use Rattle.std.proofs.Common.{◌++◌, ◌∙◌, ap, List, sym, ℕ}
use Rattle.std.proofs.lemmas.Bool.{true≢false}
use Rattle.std.proofs.lemmas.Bool.Decides.{Decides-eqb}
use Rattle.std.proofs.lemmas.Slice.Eq.{starts_is}
use Rattle.text_prints.proofs.row.refuse_sign.Goals as goal

pub returns : goal.returns
returns c = λ rest e.
    true≢false (sym ((starts_is Decides-eqb c.as_bytes.result.now c.as_bytes-2.result.now c.starts_with.result
    c.starts_with.ensures.value).1 rest
    (c.as_bytes.ensures.value ∙ e ∙ ap (λ (w : List ℕ). w ++ rest)
    (sym (c.as_bytes-2.ensures.value ∙ c.in_ok-beginning.ensures.ok)))) ∙ c.if-starts_with.false)
