use Rattle.std.proofs.Common.{◌≡◌, drop}
use Rattle.text_words.proofs.meanings.meaning_of_name.Given as goal
use Rattle.text_words.specs.Meanings.{named, meaning_of_name}

abbrev pub invariant-loop-one : goal.invariant-loop-one
invariant-loop-one l =
    meaning_of_name (named (drop l.one-index l.meanings)) l.name
    ≡ meaning_of_name (named l.meanings) l.name
