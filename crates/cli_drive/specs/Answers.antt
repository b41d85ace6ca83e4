-- The lines for the interlocking's endpoint, and the verdict on the answers to them. All texts are bytes.
use Rattle.std.specs.List.{list_any, starts_with}
use Rattle.std.specs.Prelude.{[], ◌++◌, ◌+◌, ◌<◌, ◌==◌, ◌||◌, ◌∷◌, ◌≡◌, ◌≤◌, Bool, codes, count_by, flat_map}
use Rattle.std.specs.Prelude.{if◌then◌else◌, length, List, nat_lt, None, not, option_map, position, Some, ℕ, ⊤}
use Rattle.std.specs.Str.{bytes_eq}
use Rattle.cli_drive.specs.declared.telling.LinesFault.{LinesFault}
use Rattle.cli_drive.specs.declared.telling.LinesFault.TheVariants.{Control, Long, Memory, Stop}
use Rattle.cli_drive.specs.declared.telling.Verdict.{Verdict}
use Rattle.cli_drive.specs.declared.telling.Verdict.TheVariants.{Done, JournalFault, Refused, ScriptFault, Short}

-- the lines, each with a line feed
abbrev pub request : List (List ℕ) → List ℕ
request lines = flat_map (λ line. line ++ 10 ∷ []) lines

-- a line has a control character
abbrev pub has_control : List ℕ → Bool
has_control line = list_any (λ byte. nat_lt byte 32 || byte == 127) line

-- the line stops the centres
abbrev pub is_stop : List ℕ → Bool
is_stop line = bytes_eq line (codes "stop") || bytes_eq line (codes "stop now")

-- Lines may be sent: none has a control character, none is after one that stops, and they are not too long.
abbrev pub AreSendable : List (List ℕ) → Type 0
AreSendable lines =
    (position has_control lines ≡ None)
    × ((i : ℕ) → position is_stop lines ≡ Some i → length lines ≤ i + 1)
    × (length (request lines) ≤ 65536)

-- the reason why lines are not sent: the first line of this kind, from 1
abbrev pub IsFaultOf : List (List ℕ) → LinesFault → Type 0
IsFaultOf lines Memory = ⊤
IsFaultOf lines (Control n) = option_map (λ i. i + 1) (position has_control lines) ≡ Some n
IsFaultOf lines (Stop n) = (option_map (λ i. i + 1) (position is_stop lines) ≡ Some n) × (n < length lines)
IsFaultOf lines Long = 65536 < length (request lines)

-- a line has an answer: it is not empty, not a comment, and does not stop the centres
abbrev pub is_answered : List ℕ → Bool
is_answered line = not (length line == 0 || starts_with (λ a b. a == b) line (codes "#") || is_stop line)

-- the answer to a line without a valid form
abbrev pub is_script_fault : List ℕ → Bool
is_script_fault row = bytes_eq row (codes "script fault")

-- the answer if a journal can't be written
abbrev pub is_journal_fault : List ℕ → Bool
is_journal_fault row = bytes_eq row (codes "journal fault")

-- the answer to a refused commit
abbrev pub is_refusal : List ℕ → Bool
is_refusal row =
    bytes_eq row (codes "refused 1") || bytes_eq row (codes "refused 2") || bytes_eq row (codes "refused 3")
    || bytes_eq row (codes "refused 4")

-- a line of the answers is the first of an answer
abbrev pub is_answer : List ℕ → Bool
is_answer row =
    starts_with (λ a b. a == b) row (codes "> ") || is_script_fault row || is_journal_fault row || is_refusal row

-- the verdict if too few answers came, and if these faults are among them
abbrev pub verdict_of : Bool → Bool → Bool → Bool → Verdict
verdict_of short journal refusal script =
    if short then Short else if journal then JournalFault else if refusal then Refused
    else if script then ScriptFault else Done

-- the verdict on the lines of the answers to these lines, by the text of each
abbrev pub judged_by : {A : Type 0} → (A → List ℕ) → List A → List A → Verdict
judged_by text lines rows =
    verdict_of
    (nat_lt (count_by (λ row. is_answer (text row)) rows) (count_by (λ line. is_answered (text line)) lines))
    (list_any (λ row. is_journal_fault (text row)) rows)
    (list_any (λ row. is_refusal (text row)) rows)
    (list_any (λ row. is_script_fault (text row)) rows)

-- the verdict on the lines of the answers to these lines
abbrev pub judged : List (List ℕ) → List (List ℕ) → Verdict
judged lines rows = judged_by (λ row. row) lines rows

-- the exit status
abbrev pub status_of : Verdict → ℕ
status_of Done = 0
status_of ScriptFault = 3
status_of Refused = 5
status_of JournalFault = 6
status_of Short = 6
