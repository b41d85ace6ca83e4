use Rattle.std.proofs.Common.{◌∙◌, ap, rules, sym, tests}
use Rattle.std.proofs.lemmas.Iterator.{YieldsList-from_slice}
use Rattle.std.proofs.lemmas.Iterator.Search.{any_from_yields_List}
use Rattle.std.specs.List.{list_any}
use Rattle.rbc_world.specs.rbc_centre.Views.{word_of}
use Rattle.text_scenario.proofs.judge.replies.Goals as goal
use Rattle.text_scenario.proofs.Seen.{replied_any}
use Rattle.text_scenario.specs.Meets.{is_reply}

pub returns : goal.returns
returns c =
    any_from_yields_List (λ x. is_reply c.args.word (word_of x)) _ _ _ c.any.ensures.ran
    (YieldsList-from_slice c.deref.result.now cc) (λ x b q k. search (rules, tests))
    ∙ ap (list_any (λ x. is_reply c.args.word (word_of x))) c.deref.ensures.0
    ∙ sym (replied_any c.args.word c.words.result.items _ c.words.ensures)
