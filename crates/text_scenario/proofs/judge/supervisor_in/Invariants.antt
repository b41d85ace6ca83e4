use Rattle.std.proofs.Common.{◌==◌, ◌≡◌, None, take}
use Rattle.std.specs.List.{find}
use Rattle.text_scenario.proofs.judge.supervisor_in.Given as goal

abbrev pub invariant-loop-train : goal.invariant-loop-train
invariant-loop-train l = find (λ x. x.nid_engine == l.nid_engine) (take l.train-index l.train-items) ≡ None
