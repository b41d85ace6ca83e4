use Rattle.std.proofs.Common.{arith, rules, tests}
use Rattle.std.proofs.lemmas.Iterator.Search.{all_from_yields_List}
use Rattle.std.proofs.lemmas.Iterator.Splits.{YieldsList-from_str_split}
use Rattle.cli_commands.proofs.decode.is_hexadecimal.Goals as goal
use Rattle.cli_commands.specs.DecodeWords.{has_only_digits}

pub returns : goal.returns
returns c =
    all_from_yields_List has_only_digits _ _ _ c.all.ensures.ran
    (YieldsList-from_str_split 58 c.args.word.now (omega arith) c.split.ensures.text c.split.ensures.has_more
    c.split.ensures.pattern)
    (λ x b q k. search (rules, tests))
