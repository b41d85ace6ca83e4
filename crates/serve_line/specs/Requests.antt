-- The requests of browsers, and their answers.
use Rattle.std.specs.List.{starts_with}
use Rattle.std.specs.Prelude.{◌≡◌, ◌≢◌, Bool, codes, List, nat_eq, not, ℕ}
use Rattle.serve_page.specs.declared.request.Asked.{Asked}
use Rattle.serve_page.specs.declared.request.Asked.TheVariants.{More}
use Rattle.serve_page.specs.Replies.{IsAnswer}
use Rattle.serve_page.specs.Requests.{IsAsked}
use Rattle.text_page.specs.declared.view.LineNow.{LineNow}

-- the method of a request is HEAD: its answer has no body
abbrev pub is_head : List ℕ → Bool
is_head bytes = starts_with nat_eq bytes (codes "HEAD ")

-- a request that is complete or refused, and whether its answer has a body
abbrev pub IsRequest : List ℕ → Asked → Bool → Type 0
IsRequest bytes asked has_body = IsAsked bytes asked × (asked ≢ More) × (has_body ≡ not (is_head bytes))

-- the answer to a request, if the line is shown in some state and version
abbrev pub IsAnswerOfPage : Asked → List ℕ → Type 0
IsAnswerOfPage asked text = (now : LineNow) × (version : ℕ) × IsAnswer now version asked text
