use Rattle.std.proofs.Common.{◌≡◌, drop}
use Rattle.text_fields.proofs.kind.words_or.Given as goal
use Rattle.text_fields.specs.Senses.{listed}
use Rattle.text_fields.specs.Words.{words_or}

abbrev pub invariant-loop-one : goal.invariant-loop-one
invariant-loop-one l =
    words_or (listed (drop l.one-index l.words)) l.value l.other
    ≡ words_or (listed l.words) l.value l.other
