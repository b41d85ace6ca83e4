use Rattle.std.proofs.Common.{◌≡◌, drop, map}
use Rattle.rbc_line.proofs.read.read_tracks.Given as goal
use Rattle.rbc_line.proofs.ReadSteps.{joined_tracks}
use Rattle.rbc_line.specs.DraftViews.{section_view}
use Rattle.rbc_line.specs.LineFile.{tracks_from}
use Rattle.toml.specs.View.{items_view}

abbrev pub invariant-loop-k : goal.invariant-loop-k
invariant-loop-k l =
    tracks_from 0 (items_view l.items)
    ≡ joined_tracks (map (λ name. name.now) l.names.items) (map section_view l.sections.items)
    (tracks_from l.k (items_view (drop l.k l.items)))
