use Rattle.std.proofs.Common.{◌∙◌, ◌∷◌, ◌≡◌, ap, arith, drop, List, None, Some, sym, ℕ}
use Rattle.std.proofs.lemmas.Fmt.{parse-decimal}
use Rattle.std.proofs.lemmas.Str.Pattern.{split_after}
use Rattle.std.specs.Fmt.{decimal}
use Rattle.text_journal.proofs.Letters.{lacks_at, word_of_number}
use Rattle.text_journal.proofs.row.time_and_words.Goals as goal
use Rattle.text_journal.proofs.Times.{no_time, ok_same, some_time}

pub returns-in-Some : goal.returns-in-Some
returns-in-Some c = λ time words small e.
    no_time c.args.text.now words c.in-Some.words.now time small e
    (c.in-Some.ensures.cases.1.1 ∙ ap (λ (t : List ℕ). 62 ∷ 32 ∷ t) (sym c.in-Some.ensures.cases.2))

pub returns-in_err-digits : goal.returns-in_err-digits
returns-in_err-digits c = λ time words small e.
    let t = some_time c.args.text.now words time small e c.in_default.ensures.cases in
    absurd (split_after 32 c.args.text.now (decimal t.0) (62 ∷ 32 ∷ words) None c.in_err-digits.ensures.cases
    (omega arith) t.3 (lacks_at 32 (decimal t.0) (word_of_number t.0 t.2).blank))

pub returns-in_default-parse : goal.returns-in_default-parse
returns-in_default-parse c = λ time words small e.
    let t = some_time c.args.text.now words time small e c.in_default.ensures.cases in
    let cut = split_after 32 c.args.text.now (decimal t.0) (62 ∷ 32 ∷ words)
    (Some (c.in_ok-digits.digits, c.in_ok-digits.event)) c.in_ok-digits.ensures.cases (omega arith) t.3
    (lacks_at 32 (decimal t.0) (word_of_number t.0 t.2).blank) in
    c.in_default-parse.not-Ok t.0
    (parse-decimal 64 t.0 c.in_ok-digits.digits.now c.parse.result t.2 t.2 cut.0 c.parse.ensures.value.0)

pub returns-in_err-words : goal.returns-in_err-words
returns-in_err-words c = λ time words small e.
    let t = some_time c.args.text.now words time small e c.in_default.ensures.cases in
    let cut = split_after 32 c.args.text.now (decimal t.0) (62 ∷ 32 ∷ words)
    (Some (c.in_ok-digits.digits, c.in_ok-digits.event)) c.in_ok-digits.ensures.cases (omega arith) t.3
    (lacks_at 32 (decimal t.0) (word_of_number t.0 t.2).blank) in
    absurd (c.in_err-words.ensures.cases words cut.1)

pub returns : goal.returns
returns c = λ time words small e.
    let t = some_time c.args.text.now words time small e c.in_default.ensures.cases in
    let cut = split_after 32 c.args.text.now (decimal t.0) (62 ∷ 32 ∷ words)
    (Some (c.in_ok-digits.digits, c.in_ok-digits.event)) c.in_ok-digits.ensures.cases (omega arith) t.3
    (lacks_at 32 (decimal t.0) (word_of_number t.0 t.2).blank) in
    let ms : c.in-Ok.ms ≡ t.0 =
    ok_same c.in-Ok.ms t.0 c.parse.result c.in-Ok.is
    (parse-decimal 64 t.0 c.in_ok-digits.digits.now c.parse.result t.2 t.2 cut.0 c.parse.ensures.value.0) in (
      ap Some ms ∙ t.1,
      ap (drop 2)
          (sym (c.in_ok-words.ensures.cases.1.1
          ∙ ap (λ (t : List ℕ). 62 ∷ 32 ∷ t) (sym c.in_ok-words.ensures.cases.2)) ∙ cut.1),
    )
