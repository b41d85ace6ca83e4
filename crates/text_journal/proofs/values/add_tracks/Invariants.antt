use Rattle.std.proofs.Common.{◌++◌, ◌≡◌, take}
use Rattle.std.specs.List.{flat_map}
use Rattle.std.specs.Prelude.{string_bytes}
use Rattle.text_journal.proofs.values.add_tracks.Given as goal
use Rattle.text_journal.specs.LineText.{track_line}

abbrev pub invariant-loop-track : goal.invariant-loop-track
invariant-loop-track l =
    string_bytes l.text ≡ string_bytes l.initial.text ++ flat_map track_line (take l.track l.line.tracks)
