use Rattle.std.proofs.Common.{◌++◌, ◌<◌, ◌∙◌, ◌≡◌, refl, rules, slice_get, string_bytes, subst, sym}
use Rattle.rbc_line.specs.Views.{train_of}
use Rattle.text_journal.proofs.TextLines.{item_at, lines_next, none_at, not_within}
use Rattle.text_journal.proofs.values.add_trains.Goals as goal
use Rattle.text_journal.proofs.values.add_trains.Goals.{in-Some+in_ok-row+in_ok-push_str, in_default}
use Rattle.text_journal.specs.LineText.{train_line}

pub loop-i-preserved : goal.loop-i-preserved
loop-i-preserved c = elim c.match-train.branch [
  | in-Some+in_ok-row+in_ok-push_str w ↦ lines_next train_line c.args.line.now.trains c.loop-i.i
      (train_of w.in-Some.train)
      (string_bytes c.args.text.now) (string_bytes c.loop-i.text) (string_bytes c.match-train.text)
      (item_at _ train_of (slice_get c.args.line.now.trains c.loop-i.i) _ (λ x. refl)
      (sym c.train.ensures ∙ w.in-Some.is))
      c.loop-i.invariant (search rules)
  | in_default w ↦ absurd (not_within c.args.line.now.trains c.loop-i.i
      (subst (λ n. c.loop-i.i < n) c.train_count-i-end.ensures.value c.loop-i-test.true)
      (none_at _ (slice_get c.args.line.now.trains c.loop-i.i) (sym c.train.ensures ∙ w.in_default.is)))
]
