use Rattle.std.proofs.Common.{◌++◌, ◌≡◌, drop, map, string_bytes}
use Rattle.cli_commands.proofs.decode.joined.Given as goal
use Rattle.cli_commands.specs.DecodeWords.{joined}

abbrev pub invariant-loop-word : goal.invariant-loop-word
invariant-loop-word g l =
    string_bytes l.text ++ joined (map g.S.AsStr.text (drop l.word-index l.word-items))
    ≡ joined (map g.S.AsStr.text l.word-items)
