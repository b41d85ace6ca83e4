use denote.Shadow.{shadow}
use denote.Text.{Utf8}
use Rattle.std.proofs.Common.{◌≡◌, drop, map}
use Rattle.cli_commands.proofs.decode.faulty_word.Given as goal
use Rattle.cli_commands.specs.DecodeWords.{faulty_of, faulty_word, plain_words}

-- the last word is text; the faulty word is that of the rest, or else the last word
abbrev pub invariant-loop-word : goal.invariant-loop-word
invariant-loop-word g l =
    shadow (Utf8 l.last)
    × (faulty_of (plain_words (map g.S.AsStr.text (drop l.word-index l.word-items))) l.last
    ≡ faulty_word (map g.S.AsStr.text l.word-items))
