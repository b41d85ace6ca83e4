use Rattle.std.proofs.Common.{append_assoc, rules}
use Rattle.cli_demo.proofs.links.add_links.Goals as goal

pub loop-to-preserved : goal.loop-to-preserved
loop-to-preserved c = search (rules, append_assoc)
