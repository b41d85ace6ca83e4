use Rattle.std.proofs.Common.{rules}
use Rattle.rbc_centre.proofs.Alike.{alike, words_apart}
use Rattle.rbc_centre.proofs.same.same_words.Goals as goal
use Rattle.rbc_centre.specs.contracts.outcome.WordPartialEq.TheImpl as words
use Rattle.rbc_centre.specs.Views.{word_of}

pub returns : goal.returns
returns c =
    alike word_of words.eq-value.it (λ a b. search rules) words_apart c.args.words.now c.args.others.now c.eq.result
    c.eq.ensures
