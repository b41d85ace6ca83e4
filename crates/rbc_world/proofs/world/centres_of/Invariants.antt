use Rattle.std.proofs.Common.{◌≡◌, length, slice_get, Some, ℕ}
use Rattle.rbc_centre.specs.declared.centre.Centre.{Centre}
use Rattle.rbc_world.proofs.world.centres_of.Given as goal
use Rattle.rbc_world.specs.States.{AtBeginning}

abbrev pub invariant-loop-c : goal.invariant-loop-c
invariant-loop-c l = record {
  count : length l.centres.items ≡ l.c;
  each : (d : ℕ) → (k : Centre) → slice_get l.centres.items d ≡ Some k → AtBeginning l.line d k;
}
