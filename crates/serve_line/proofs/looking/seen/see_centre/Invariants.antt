use Rattle.std.proofs.Common.{◌≡◌}
use Rattle.serve_line.proofs.looking.seen.see_centre.Given as goal

abbrev pub invariant-loop-i : goal.invariant-loop-i
invariant-loop-i l = record {
  centres : l.now.centres.items ≡ l.initial.now.centres.items;
  links : l.now.links.items ≡ l.initial.now.links.items;
}
