use Rattle.std.proofs.Common.{◌<◌, ◌≡◌, slice_get, Some, ℕ}
use Rattle.rbc_railway.specs.History.{name_of}
use Rattle.rbc_railway.specs.declared.train.RunningTrain.{RunningTrain}
use Rattle.rbc_railway.proofs.find.index_of.Given as goal

abbrev pub invariant-loop-i : goal.invariant-loop-i
invariant-loop-i l = (j : ℕ) (x : RunningTrain) → j < l.i → slice_get l.trains j ≡ Some x
    → name_of x ≡ l.nid_engine → ⊥
