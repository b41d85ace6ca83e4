use Rattle.std.proofs.Common.{◌≡◌, drop}
use Rattle.text_words.proofs.meanings.meaning_of.Given as goal
use Rattle.text_words.specs.Meanings.{listed, meaning_of}

abbrev pub invariant-loop-one : goal.invariant-loop-one
invariant-loop-one l =
    meaning_of (listed (drop l.one-index l.meanings)) l.number
    ≡ meaning_of (listed l.meanings) l.number
