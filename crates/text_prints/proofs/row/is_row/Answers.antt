use Rattle.std.proofs.Common.{◌∙◌, ap, sym}
use Rattle.std.specs.Str.{bytes_eq}
use Rattle.text_prints.proofs.Parts.{ended}
use Rattle.text_prints.proofs.row.is_row.Goals as goal

pub returns-then-last-eq10 : goal.returns-then-last-eq10
returns-then-last-eq10 c = λ same.
    ended c.args.text.now c.in-Some.front.now c.args.row.now c.in-Some.last.now c.in-Some.ensures.cases.0
    c.if-last-eq10.true
    (sym (c.eq.ensures ∙ ap (bytes_eq c.in-Some.front.now) c.as_bytes.ensures.value) ∙ same)
