use Rattle.std.proofs.Common.{◌<◌, ◌≡◌, length, slice_get, ℕ}
use Rattle.rbc_line.specs.Views.{placed_section}
use Rattle.cli_drive.proofs.trains.interlocking.sections_of.Given as goal

abbrev pub invariant-loop-s : goal.invariant-loop-s
invariant-loop-s l = record {
  count : length l.sections.items ≡ l.s;
  each : (k : ℕ) → k < l.s → slice_get l.sections.items k ≡ placed_section l.line k;
}
