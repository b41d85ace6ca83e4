use Rattle.std.proofs.Common.{◌++◌, ◌+◌, ◌≡◌, ◌≤◌, map, take}
use Rattle.arrayvec.specs.ArrayVec.{array_vec_len}
use Rattle.rbc_centre.proofs.outcome.Outcome.words.Given as goal
use Rattle.rbc_centre.specs.Views.{word_of, words_of}
use Rattle.rbc_spec.specs.Outcome.{Told}

abbrev pub invariant-loop-s : goal.invariant-loop-s
invariant-loop-s l =
    (map word_of l.words.items ≡ words_of l.self.word ++ map (λ s. Told s) (take l.s-index l.s-items))
    × (array_vec_len l.words ≤ l.s-index + 1)
