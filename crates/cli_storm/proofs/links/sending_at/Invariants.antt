use Rattle.std.proofs.Common.{◌<◌, ◌≡◌, drop, length, slice_get}
use Rattle.std.specs.List.{filter}
use Rattle.cli_storm.proofs.links.sending_at.Given as goal
use Rattle.cli_storm.specs.Links.{has_sent}

abbrev pub invariant-loop-link : goal.invariant-loop-link
invariant-loop-link l = record {
  left : l.left < length (filter has_sent (drop l.link-index l.links));
  same : slice_get (filter has_sent (drop l.link-index l.links)) l.left ≡ slice_get (filter has_sent l.links) l.place;
}
