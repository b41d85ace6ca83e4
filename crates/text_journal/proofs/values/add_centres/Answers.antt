use Rattle.std.proofs.Common.{◌++◌, ◌<◌, ◌∙◌, ◌≡◌, ap, option_map, refl, rules, slice_get, string_bytes, subst, sym}
use Rattle.text_journal.proofs.TextLines.{centre_at, lines_next, none_at, not_within}
use Rattle.text_journal.proofs.values.add_centres.Goals as goal
use Rattle.text_journal.proofs.values.add_centres.Goals.{in-Some+in_ok-row+in_ok-push_str, in_default}
use Rattle.text_journal.specs.LineText.{centre_line}

pub loop-c-preserved : goal.loop-c-preserved
loop-c-preserved c = elim c.match-nid_rbc.branch [
  | in-Some+in_ok-row+in_ok-push_str w ↦ lines_next centre_line c.args.line.now.centres c.loop-c.c
      (record { name = c.unwrap_or-name.result.now; nid_rbc = w.in-Some.nid_rbc })
      (string_bytes c.args.text.now) (string_bytes c.loop-c.text) (string_bytes c.match-nid_rbc.text)
      (centre_at (slice_get c.args.line.now.centres c.loop-c.c) _ _ _ _ c.centre_name.ensures c.unwrap_or-name.ensures
      (sym c.nid_rbc.ensures ∙ w.in-Some.is))
      c.loop-c.invariant (search rules)
  | in_default w ↦ absurd (not_within c.args.line.now.centres c.loop-c.c
      (subst (λ n. c.loop-c.c < n) c.centre_count-c-end.ensures.value c.loop-c-test.true)
      (none_at _ (slice_get c.args.line.now.centres c.loop-c.c) (sym c.nid_rbc.ensures ∙ w.in_default.is)))
]
