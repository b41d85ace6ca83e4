use Rattle.std.proofs.Common.{map, take}
use Rattle.std.specs.Io.KnownBytes.{Appends}
use Rattle.std.specs.List.{flat_map}
use Rattle.rbc_world.specs.rbc_centre.Views.{word_of}
use Rattle.text_script.proofs.print.outcome.print_words.Given as goal
use Rattle.text_script.specs.Print.Rows.{word_row}

abbrev pub invariant-loop-word : goal.invariant-loop-word
invariant-loop-word g l =
    Appends (g.W.Write.contents l.initial.out) (g.W.Write.contents l.out)
    (flat_map (word_row l.centre) (map word_of (take l.word-index l.word-items)))
