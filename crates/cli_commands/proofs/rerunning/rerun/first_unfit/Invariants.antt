use Rattle.std.proofs.Common.{◌≡◌, take}
use Rattle.cli_commands.proofs.rerunning.rerun.first_unfit.Given as goal
use Rattle.cli_commands.specs.Rerunning.Rerun.{IsRerun}
use Rattle.text_script.specs.rbc_world.World.{line_of, state_of}

abbrev pub invariant-loop-entry : goal.invariant-loop-entry
invariant-loop-entry l = record {
  at : l.at ≡ l.entry-index;
  line : line_of l.world ≡ l.line;
  run : IsRerun l.line (take l.entry-index l.entries) (state_of l.world);
}
