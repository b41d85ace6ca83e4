use Rattle.std.proofs.Common.{take}
use Rattle.std.specs.List.{flat_map}
use Rattle.serve_line.proofs.fact_notes.Facts.add_words.Given as goal
use Rattle.serve_line.specs.Facts.{Adds, fact_list, fact_of_word}
use Rattle.text_script.specs.rbc_centre.Views.{word_of}

abbrev pub invariant-loop-word : goal.invariant-loop-word
invariant-loop-word l =
    Adds (flat_map (λ w. fact_list (fact_of_word (word_of w))) (take l.word-index l.words)) l.initial.self l.self
