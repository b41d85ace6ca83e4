use Rattle.std.proofs.Common.{◌++◌, ◌<◌, ◌∙◌, ◌≡◌, ap, option_map, refl, rules, slice_get, string_bytes, subst, sym}
use Rattle.text_journal.proofs.TextLines.{lines_next, not_within}
use Rattle.text_journal.proofs.values.add_tracks.Goals as goal
use Rattle.text_journal.proofs.values.add_tracks.Goals.{in-Some+in_ok-row+in_ok-push_str, in_default}
use Rattle.text_journal.specs.LineText.{track_line}

pub loop-track-preserved : goal.loop-track-preserved
loop-track-preserved c = elim c.match-track_name.branch [
  | in-Some+in_ok-row+in_ok-push_str w ↦ lines_next track_line c.args.line.now.tracks c.loop-track.track
      w.in-Some.name.now
      (string_bytes c.args.text.now) (string_bytes c.loop-track.text) (string_bytes c.match-track_name.text)
      (sym c.track_name.ensures ∙ ap (option_map (λ name. name.now)) w.in-Some.is)
      c.loop-track.invariant (search rules)
  | in_default w ↦ absurd (not_within c.args.line.now.tracks c.loop-track.track
      (subst (λ n. c.loop-track.track < n) c.track_count-track-end.ensures.value c.loop-track-test.true)
      (sym c.track_name.ensures ∙ ap (option_map (λ name. name.now)) w.in_default.is))
]
