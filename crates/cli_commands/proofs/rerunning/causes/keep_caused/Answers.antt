use Rattle.std.proofs.Common.{rules}
use Rattle.cli_commands.proofs.rerunning.causes.keep_caused.Goals as goal
use Rattle.cli_commands.proofs.RerunningLemmas.Causes.{cut_next}

pub loop-entry-preserved : goal.loop-entry-preserved
loop-entry-preserved c =
    cut_next c.in-Some.entry _ _ _ c.loop-entry.caused c.keep_one.new.caused (search rules)
    c.loop-entry.invariant.2 c.in_ok-keep_one.ensures.entries c.in_ok-keep_one.ensures.counted
