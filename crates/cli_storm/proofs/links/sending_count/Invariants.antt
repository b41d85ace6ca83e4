use Rattle.std.proofs.Common.{◌+◌, ◌≡◌, ◌≤◌, drop, length}
use Rattle.std.specs.List.{filter}
use Rattle.cli_storm.proofs.links.sending_count.Given as goal
use Rattle.cli_storm.specs.Links.{has_sent}

abbrev pub invariant-loop-link : goal.invariant-loop-link
invariant-loop-link l = record {
  counted : l.count + length (filter has_sent (drop l.link-index l.links)) ≡ length (filter has_sent l.links);
  few : l.count ≤ l.link-index;
}
