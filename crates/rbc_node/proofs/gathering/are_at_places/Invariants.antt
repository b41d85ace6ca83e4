use Rattle.std.proofs.Common.{◌<◌, ◌≡◌, All, slice_get, Some, take, ℕ}
use Rattle.rbc_centre.specs.States.{number_of}
use Rattle.rbc_log.specs.Log.{IsReplaying, LogValue}
use Rattle.rbc_log.specs.Merge.{AreOfLine}
use Rattle.rbc_node.proofs.gathering.are_at_places.Given as goal

abbrev pub invariant-loop-c : goal.invariant-loop-c
invariant-loop-c l = record {
  of_line : AreOfLine l.line (take l.c l.logs);
  replays : All IsReplaying (take l.c l.logs);
  each : (k : ℕ) → k < l.c → (v : LogValue) → slice_get l.logs k ≡ Some v → number_of v.core ≡ k;
}
