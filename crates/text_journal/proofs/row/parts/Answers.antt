use Rattle.std.proofs.Common.{◌++◌, ◌∷◌, ◌≡◌, arith, None, Some}
use Rattle.std.proofs.lemmas.Fmt.{parse-decimal}
use Rattle.std.proofs.lemmas.Str.Pattern.{split_after}
use Rattle.std.specs.Fmt.{decimal}
use Rattle.text_journal.proofs.Letters.{lacks_at, word_of_number}
use Rattle.text_journal.proofs.row.parts.Goals as goal
use Rattle.text_journal.proofs.Times.{ok_same}
use Rattle.text_journal.specs.Journal.{time_text}

pub returns-in_err-told : goal.returns-in_err-told
returns-in_err-told c = λ sum words stamp time h low small e.
    absurd (split_after 32 c.args.row.now sum (decimal stamp ++ 32 ∷ (time_text time ++ 62 ∷ 32 ∷ words)) None
    c.in_err-told.ensures.cases (omega arith) e (lacks_at 32 sum h))

pub returns-in_err-digits : goal.returns-in_err-digits
returns-in_err-digits c = λ sum words stamp time h low small e.
    let first = split_after 32 c.args.row.now sum (decimal stamp ++ 32 ∷ (time_text time ++ 62 ∷ 32 ∷ words))
    (Some (c.in_ok-told.field-0-0, c.in_ok-told.told)) c.in_ok-told.ensures.cases (omega arith) e (lacks_at 32 sum h) in
    absurd (split_after 32 c.in_ok-told.told.now (decimal stamp) (time_text time ++ 62 ∷ 32 ∷ words) None
    c.in_err-digits.ensures.cases (omega arith) first.1
    (lacks_at 32 (decimal stamp) (word_of_number stamp (omega (arith, low))).blank))

pub returns-in_default : goal.returns-in_default
returns-in_default c = λ sum words stamp time h low small e.
    let first = split_after 32 c.args.row.now sum (decimal stamp ++ 32 ∷ (time_text time ++ 62 ∷ 32 ∷ words))
    (Some (c.in_ok-told.field-0-0, c.in_ok-told.told)) c.in_ok-told.ensures.cases (omega arith) e (lacks_at 32 sum h) in
    let second = split_after 32 c.in_ok-told.told.now (decimal stamp) (time_text time ++ 62 ∷ 32 ∷ words)
    (Some (c.in_ok-digits.digits, c.in_ok-digits.rest)) c.in_ok-digits.ensures.cases (omega arith) first.1
    (lacks_at 32 (decimal stamp) (word_of_number stamp (omega (arith, low))).blank) in
    absurd (c.in_default.not-Ok stamp
    (parse-decimal 32 stamp c.in_ok-digits.digits.now c.parse.result low (omega (arith, low)) second.0
    c.parse.ensures.value.0))

pub returns-in_err-time_ms : goal.returns-in_err-time_ms
returns-in_err-time_ms c = λ sum words stamp time h low small e.
    let first = split_after 32 c.args.row.now sum (decimal stamp ++ 32 ∷ (time_text time ++ 62 ∷ 32 ∷ words))
    (Some (c.in_ok-told.field-0-0, c.in_ok-told.told)) c.in_ok-told.ensures.cases (omega arith) e (lacks_at 32 sum h) in
    let second = split_after 32 c.in_ok-told.told.now (decimal stamp) (time_text time ++ 62 ∷ 32 ∷ words)
    (Some (c.in_ok-digits.digits, c.in_ok-digits.rest)) c.in_ok-digits.ensures.cases (omega arith) first.1
    (lacks_at 32 (decimal stamp) (word_of_number stamp (omega (arith, low))).blank) in
    absurd (c.in_err-time_ms.ensures time words small second.1)

pub returns : goal.returns
returns c = λ sum words stamp time h low small e.
    let first = split_after 32 c.args.row.now sum (decimal stamp ++ 32 ∷ (time_text time ++ 62 ∷ 32 ∷ words))
    (Some (c.in_ok-told.field-0-0, c.in_ok-told.told)) c.in_ok-told.ensures.cases (omega arith) e (lacks_at 32 sum h) in
    let second = split_after 32 c.in_ok-told.told.now (decimal stamp) (time_text time ++ 62 ∷ 32 ∷ words)
    (Some (c.in_ok-digits.digits, c.in_ok-digits.rest)) c.in_ok-digits.ensures.cases (omega arith) first.1
    (lacks_at 32 (decimal stamp) (word_of_number stamp (omega (arith, low))).blank) in
    let number : c.in-Ok.stamp ≡ stamp =
    ok_same c.in-Ok.stamp stamp c.parse.result c.in-Ok.is
    (parse-decimal 32 stamp c.in_ok-digits.digits.now c.parse.result low (omega (arith, low)) second.0
    c.parse.ensures.value.0) in
    let after = c.in_ok-time_ms.ensures time words small second.1 in
    (number, after.0, after.1)
