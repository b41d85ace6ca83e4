use Rattle.std.proofs.Common.{◌≡◌, ◌≤◌, length, slice_get, Some, ℕ}
use Rattle.std.specs.Vec.{vec_capacity, vec_len}
use Rattle.rbc_centre.proofs.keeping.unknown_trains.Given as goal
use Rattle.rbc_centre.specs.State.{IsUnknown}
use Rattle.rbc_train.specs.declared.train.TrainState.{TrainState}

abbrev pub invariant-loop-i : goal.invariant-loop-i
invariant-loop-i l = record {
  each : (i : ℕ) (p : TrainState) → slice_get l.trains.items i ≡ Some p → IsUnknown l.line i p;
  room : l.count ≤ vec_capacity l.trains;
  made : vec_len l.trains ≡ l.i;
  count : length l.trains.items ≡ l.i;
  sessions : l.sessions ≡ l.fn.sessions;
  book : l.book ≡ l.fn.book;
}
