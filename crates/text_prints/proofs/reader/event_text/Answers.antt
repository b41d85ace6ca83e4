use Rattle.std.proofs.Common.{◌∷◌, arith, None, Some}
use Rattle.std.proofs.lemmas.Str.Pattern.{strip_prefix_char}
use Rattle.text_prints.proofs.Parts.{event_cut}
use Rattle.text_prints.proofs.reader.event_text.Goals as goal

pub returns-in-None : goal.returns-in-None
returns-in-None c = λ text.
    strip_prefix_char 62 c.args.row.now None c.in-None.ensures.cases (omega arith) (32 ∷ text)

pub returns-in-Some : goal.returns-in-Some
returns-in-Some c =
    event_cut c.args.row.now c.in-Some.rest.now c.strip_prefix-in-Some.result
    (strip_prefix_char 62 c.args.row.now (Some c.in-Some.rest) c.in-Some.ensures.cases (omega arith))
    (strip_prefix_char 32 c.in-Some.rest.now c.strip_prefix-in-Some.result c.strip_prefix-in-Some.ensures.cases
    (omega arith))
