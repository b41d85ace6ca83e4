-- The bytes of an answer.
use Rattle.std.specs.Prelude.{◌≡◌, ◌≢◌, ◌⊎◌, ℕ, Some, List, [], ◌++◌, length, false, true}
use Rattle.std.specs.Fmt.{decimal}
use Rattle.serve_page.specs.declared.request.Asked.{Asked}
use Rattle.serve_page.specs.declared.request.Asked.TheVariants as asked
use Rattle.serve_page.specs.declared.request.Refusal.{Refusal}
use Rattle.serve_page.specs.declared.request.Refusal.TheVariants as refusal
use Rattle.serve_page.specs.declared.reply.TheConstants as constants
use Rattle.text_page.specs.declared.view.LineNow.{LineNow}
use Rattle.text_page.specs.Health.{is_healthy}

-- the answer to a refused request, in any state of the line
abbrev pub refusal_text : Refusal → List ℕ
refusal_text refusal.Form = constants.FORM.now
refusal_text refusal.Host = constants.HOST.now
refusal_text refusal.Method = constants.METHOD.now
refusal_text refusal.Address = constants.ADDRESS.now
refusal_text refusal.Size = constants.SIZE.now
refusal_text refusal.Time = constants.TIME.now
refusal_text refusal.Crowd = constants.CROWD.now

-- a head, which ends in the length of the body, an empty line, and the body
abbrev pub answer_of : List ℕ → List ℕ → List ℕ
answer_of head body = head ++ decimal (length body) ++ constants.END.now ++ body

-- a text is an answer with this head
abbrev pub HasBody : List ℕ → List ℕ → Type 0
HasBody head text = (body : List ℕ) × (text ≡ answer_of head body)

-- the answer to a request for the metrics
abbrev pub IsMetrics : List ℕ → Type 0
IsMetrics text = HasBody constants.METRICS.now text

-- The answer to a request if the line is shown in this state and version. The answer to a refused request is a fixed
-- text. The answer for the current state reports no change if and only if the request names this version. The answer
-- for the health is the fixed text that each centre answers, if and only if each does. Any other answer has the length
-- of its body in its head.
abbrev pub IsAnswer : LineNow → ℕ → Asked → List ℕ → Type 0
IsAnswer now version asked.More text = text ≡ []
IsAnswer now version (asked.Refused why) text = text ≡ refusal_text why
IsAnswer now version asked.Page text = HasBody constants.HTML.now text
IsAnswer now version asked.Line text = HasBody constants.JSON.now text
IsAnswer now version (asked.Now since) text =
    ((since ≡ Some version) × (text ≡ constants.SAME.now)) ⊎ ((since ≢ Some version) × HasBody constants.JSON.now text)
IsAnswer now version asked.Health text =
    ((is_healthy now ≡ true) × (text ≡ constants.HEALTHY.now))
    ⊎ ((is_healthy now ≡ false) × HasBody constants.UNHEALTHY.now text)
IsAnswer now version asked.Metrics text = IsMetrics text
