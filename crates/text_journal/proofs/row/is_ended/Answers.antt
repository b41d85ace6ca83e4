use Rattle.std.proofs.Common.{◌∙◌, ap}
use Rattle.std.specs.Str.{bytes_eq}
use Rattle.text_journal.proofs.Entries.{ended}
use Rattle.text_journal.proofs.row.is_ended.Goals as goal

pub returns-then-last-eq10 : goal.returns-then-last-eq10
returns-then-last-eq10 c =
    ended c.args.text.now c.in-Some.front.now c.args.row.now c.in-Some.last.now c.eq.result c.in-Some.ensures.cases.0
    c.if-last-eq10.true
    (c.eq.ensures ∙ ap (bytes_eq c.in-Some.front.now) c.as_bytes.ensures.value)
