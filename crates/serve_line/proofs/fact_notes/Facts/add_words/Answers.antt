use Rattle.std.proofs.Common.{arith, List, subst}
use Rattle.serve_line.proofs.FactLemmas.{adds_whole, flat_map-map}
use Rattle.serve_line.proofs.fact_notes.Facts.add_words.Goals as goal
use Rattle.serve_line.specs.declared.status.facts.Fact.{Fact}
use Rattle.serve_line.specs.Facts.{Adds, fact_list, fact_of_word}
use Rattle.text_script.specs.rbc_centre.Views.{word_of}

pub returns : goal.returns
returns c =
    subst (λ (facts : List Fact). Adds facts c.args.self.now c.loop-word.self)
    (flat_map-map (λ w. fact_list (fact_of_word w)) word_of c.args.words.now)
    (adds_whole (λ w. fact_list (fact_of_word (word_of w))) c.args.words.now c.loop-word.word-index c.args.self.now
    c.loop-word.self (omega arith) c.loop-word.invariant)
