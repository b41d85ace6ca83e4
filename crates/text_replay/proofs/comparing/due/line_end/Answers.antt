use Rattle.std.proofs.Common.{◌==◌, ◌∙◌, rules, tests}
use Rattle.std.proofs.lemmas.Iterator.{YieldsList-from_slice}
use Rattle.std.proofs.lemmas.Iterator.Adapters.{position_from-zero}
use Rattle.std.proofs.lemmas.Iterator.Search.{position_from_yields_List}
use Rattle.text_replay.proofs.comparing.due.line_end.Goals as goal
use Rattle.text_replay.proofs.ComparingLemmas.Ends.{ends_where}

pub returns : goal.returns
returns c =
    ends_where c.args.text.now c.position.result
    (position_from_yields_List (λ b. b == 10) _ _ _ c.position.ensures.ran (YieldsList-from_slice c.args.text.now cc)
    (λ x b q k. search (rules, tests))
    ∙ position_from-zero (λ b. b == 10) c.args.text.now)
