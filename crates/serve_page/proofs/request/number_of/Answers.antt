use Rattle.std.proofs.lemmas.Fmt.{IsAscii-from_digits}
use Rattle.std.proofs.lemmas.Str.{IsUtf8-from_ascii}
use Rattle.serve_page.proofs.request.number_of.Goals as goal

pub returns-in-Err : goal.returns-in-Err
returns-in-Err c = λ decimal. c.in-Err.ensures.cases.0 (IsUtf8-from_ascii _ (IsAscii-from_digits _ decimal.0.1))
