use Rattle.std.proofs.Common.{◌∙◌, ◌≡◌, ap, false, List, sym, ℕ}
use Rattle.std.proofs.lemmas.Str.Pattern.{starts_text}
use Rattle.std.proofs.Math.Dec.{eqb}
use Rattle.std.specs.List.{starts_with}
use Rattle.text_journal.proofs.first.begins_first_line.Goals as goal
use Rattle.text_journal.proofs.Starts.{starts_old}
use Rattle.text_journal.specs.Journal.{first_line, V2}

pub returns : goal.returns
returns c =
    let other : starts_with eqb (first_line V2 c.args.line.now c.args.centre c.args.file.now) c.args.text.now ≡ false =
    ap (λ (s : List ℕ). starts_with eqb s c.args.text.now) (sym (c.as_str.ensures.value ∙ c.in_ok-first.ensures))
    ∙ sym (starts_text c.starts_with.result c.args.text.now c.as_str.result.now c.starts_with.ensures.cases)
    ∙ c.if-starts_with.false in
    starts_old c.args.line.now c.args.centre c.args.file.now c.args.text.now c.starts_with-2.result other
    (starts_text c.starts_with-2.result c.args.text.now c.as_str-2.result.now c.starts_with-2.ensures.cases
    ∙ ap (λ (s : List ℕ). starts_with eqb s c.args.text.now) (c.as_str-2.ensures.value ∙ c.in_ok-old.ensures))
