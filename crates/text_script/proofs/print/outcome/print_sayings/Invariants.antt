use Rattle.std.proofs.Common.{List, map, take, ℕ}
use Rattle.std.specs.Io.KnownBytes.{Appends}
use Rattle.rbc_world.specs.rbc_train.Sayings.{saying_of}
use Rattle.text_script.proofs.print.outcome.print_sayings.Given as goal
use Rattle.text_script.specs.Print.Answers.{AreSayingRows}

abbrev pub invariant-loop-saying : goal.invariant-loop-saying
invariant-loop-saying g l =
    (text : List ℕ) × AreSayingRows l.centre (map saying_of (take l.saying-index l.sayings)) text
    × Appends (g.W.Write.contents l.initial.out) (g.W.Write.contents l.out) text
