use Rattle.std.proofs.Common.{[], ◌*◌, ◌++◌, ◌+◌, ◌-◌, ◌<◌, ◌∙◌, ◌∷◌, ◌≡◌, ◌≤◌, Bor, IfOk, length, List, MutBor, OnOk}
use Rattle.std.proofs.Common.{option_map, refl, rules, slice_get, string_bytes, subst, sym, ℕ}
use Rattle.std.specs.List.{flat_map}
use Rattle.rbc_line.specs.Views.{section_of}
use Rattle.rbc_spec.specs.Line.{section}
use Rattle.text_journal.proofs.TextLines.{item_at, lines_next, none_at, not_within}
use Rattle.text_journal.proofs.values.add_sections.Goals as goal
use Rattle.text_journal.proofs.values.add_sections.Goals.{in-Some+in_ok-row+in_ok-push_str, in_default}
use Rattle.text_journal.specs.LineText.{centre_line, line_text, section_line, track_line, train_line}

pub loop-s-preserved : goal.loop-s-preserved
loop-s-preserved c = elim c.match-section.branch [
  | in-Some+in_ok-row+in_ok-push_str w ↦ lines_next section_line c.args.line.now.sections c.loop-s.s
      (section_of w.in-Some.section)
      (string_bytes c.args.text.now) (string_bytes c.loop-s.text) (string_bytes c.match-section.text)
      (item_at _ section_of (section c.args.line.now c.loop-s.s) _ (λ x. refl)
      (sym c.section.ensures.value ∙ w.in-Some.is))
      c.loop-s.invariant (search rules)
  | in_default w ↦ absurd (not_within c.args.line.now.sections c.loop-s.s
      (subst (λ n. c.loop-s.s < n) c.section_count-s-end.ensures.value c.loop-s-test.true)
      (none_at _ (section c.args.line.now c.loop-s.s) (sym c.section.ensures.value ∙ w.in_default.is)))
]
