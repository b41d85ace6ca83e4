use Rattle.std.proofs.Common.{◌+◌, ◌-◌, ◌^◌, ◌≡◌, ◌≤◌, drop, map, min}
use Rattle.cli_commands.proofs.decode.count_of.Given as goal
use Rattle.cli_commands.specs.DecodeWords.{plain_count}

abbrev pub invariant-loop-word : goal.invariant-loop-word
invariant-loop-word g l =
    (l.count ≤ 2 ^ 32 - 1)
    × (min (l.count + plain_count (map g.S.AsStr.text (drop l.word-index l.word-items))) (2 ^ 32 - 1)
    ≡ min (plain_count (map g.S.AsStr.text l.word-items)) (2 ^ 32 - 1))
