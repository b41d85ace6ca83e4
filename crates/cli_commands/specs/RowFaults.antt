-- The reasons why a line of a script is refused.
use Rattle.cli_commands.specs.declared.script_faults.RowFault.{RowFault}
use Rattle.cli_commands.specs.declared.script_faults.RowFault.TheVariants.{Blank, Bytes, CarriageReturn, Centre}
use Rattle.cli_commands.specs.declared.script_faults.RowFault.TheVariants.{Comment, Form, Frame, OddDigits, Printed}
use Rattle.cli_commands.specs.declared.script_faults.RowFault.TheVariants.{Section, Tab, Verb}
use Rattle.cli_commands.specs.Forms.{form_of}
use Rattle.cli_commands.specs.Nearest.{IsNearest}
use Rattle.rbc_spec.specs.Line.{Line}
use Rattle.std.specs.Char.{is_ascii_hexdigit}
use Rattle.std.specs.List.{slice_split}
use Rattle.std.specs.Prelude.{[], ◌++◌, ◌==◌, ◌∷◌, ◌≡◌, ◌≢◌, ◌⊎◌, All, bytes_eq, codes, IsTrue, length, List, map}
use Rattle.std.specs.Prelude.{MatchOption, None, Option, option_map, position, Some, ℕ}

-- the centre of this name
abbrev pub centre_at : Line → List ℕ → Option ℕ
centre_at line name = position (λ p. bytes_eq p.name name) line.centres

-- the names of the events of a script, and `show`
abbrev pub verbs : List (List ℕ)
verbs = codes "show" ∷ codes "train" ∷ codes "set" ∷ codes "unset" ∷ codes "deliver" ∷ []

-- The fault of a line with another form than its event has. It has the form, or the name if no event has this name, and
-- the first name that is like it.
abbrev pub IsByForm : Option (List ℕ) → List ℕ → RowFault → Type 0
IsByForm (Some form) verb (Form text) = text.now ≡ form
IsByForm None verb (Verb name nearest) =
    (name.now ≡ verb) × IsNearest verb verbs (option_map (λ known. known.now) nearest.0)
IsByForm form verb fault = ⊥

-- no centre has the name: the fault has it, and the first name of a centre that is like it
abbrev pub IsUnknown : Line → List ℕ → RowFault → Type 0
IsUnknown line name (Centre named nearest) =
    (named.now ≡ name)
    × IsNearest name (map (λ p. p.name) line.centres) (option_map (λ known. known.now) nearest.0)
IsUnknown line name fault = ⊥

-- the fault of a line that names a centre: no centre has the name, or else another fault
abbrev pub IsByCentre : Line → List ℕ → RowFault → RowFault → Type 0
IsByCentre line name other fault = MatchOption (centre_at line name) (IsUnknown line name fault) (λ c. fault ≡ other)

-- the same, with this condition of the other fault
abbrev pub IsAtCentre : Line → List ℕ → (RowFault → Type 0) → RowFault → Type 0
IsAtCentre line name IsOther fault = (other : RowFault) × IsOther other × IsByCentre line name other fault

-- ## Bytes in hexadecimal

-- the fault of these digits: one of them is not hexadecimal, or else their number is odd
abbrev pub IsByBytes : List ℕ → RowFault → Type 0
IsByBytes digits (OddDigits n) = All (λ d. IsTrue (is_ascii_hexdigit d)) digits × (n ≡ length digits)
IsByBytes digits (Bytes text) = ¬ (All (λ d. IsTrue (is_ascii_hexdigit d)) digits) × (text.now ≡ digits)
IsByBytes digits fault = ⊥

-- ## The words of a line

abbrev pub IsBySection : List ℕ → RowFault → Type 0
IsBySection word (Section text) = text.now ≡ word
IsBySection word fault = ⊥

abbrev pub IsByFrame : List ℕ → RowFault → Type 0
IsByFrame word (Frame text) = text.now ≡ word
IsByFrame word fault = ⊥

-- the fault of three words: an event that reaches a centre, or a line with another form than its event has
pub record IsByThree (line : Line) (verb centre word : List ℕ) (fault : RowFault) : Type 0 where
  pub train : verb ≡ codes "train" → IsAtCentre line centre (IsByBytes word) fault
  pub set : verb ≡ codes "set" → IsAtCentre line centre (IsBySection word) fault
  pub unset : verb ≡ codes "unset" → IsAtCentre line centre (IsBySection word) fault
  pub other :
      verb ≢ codes "train" → verb ≢ codes "set" → verb ≢ codes "unset" → IsByForm (form_of verb) verb fault

-- the fault of four words: a delivery, or a line with another form than its event has
pub record IsByFour (line : Line) (verb from to number : List ℕ) (fault : RowFault) : Type 0 where
  pub delivery : verb ≡ codes "deliver" → IsAtCentre line from (IsAtCentre line to (IsByFrame number)) fault
  pub other : verb ≢ codes "deliver" → IsByForm (form_of verb) verb fault

-- the fault of a line with these words
abbrev pub IsByWords : Line → List (List ℕ) → RowFault → Type 0
IsByWords line [] fault = fault ≡ Blank
IsByWords line (verb ∷ centre ∷ word ∷ []) fault = IsByThree line verb centre word fault
IsByWords line (verb ∷ from ∷ to ∷ number ∷ []) fault = IsByFour line verb from to number fault
IsByWords line (verb ∷ words) fault = IsByForm (form_of verb) verb fault

-- ## The characters of a line

-- a text holds these bytes, side by side
abbrev pub Holds : List ℕ → List ℕ → Type 0
Holds bytes text = (front : List ℕ) × (rest : List ℕ) × (text ≡ front ++ (bytes ++ rest))

abbrev pub Begins : List ℕ → List ℕ → Type 0
Begins bytes text = (rest : List ℕ) × (text ≡ bytes ++ rest)

abbrev pub Ends : List ℕ → List ℕ → Type 0
Ends bytes text = (front : List ℕ) × (text ≡ front ++ bytes)

-- this fault, if the line has its mark; or else the result of the others
abbrev pub FirstOf : Type 0 → RowFault → (Option RowFault → Type 0) → Option RowFault → Type 0
FirstOf Mark fault others found = (Mark × (found ≡ Some fault)) ⊎ (¬ Mark × others found)

abbrev pub HasOuterBlank : List ℕ → Type 0
HasOuterBlank row = Begins (codes " ") row ⊎ Ends (codes " ") row

-- a blank begins or ends the line, or two of them are side by side
abbrev pub HasBlank : List ℕ → Type 0
HasBlank row = HasOuterBlank row ⊎ Holds (codes "  ") row

-- the first of these faults that the characters of a line have
abbrev pub IsByBlanks : List ℕ → Option RowFault → Type 0
IsByBlanks row =
    FirstOf (Holds (codes "\r") row) CarriageReturn
    (FirstOf (Holds (codes "\t") row) Tab
    (FirstOf (Begins (codes "> ") row) Printed
    (FirstOf (Holds (codes " #") row) Comment
    (FirstOf (HasBlank row) Blank (λ found. found ≡ None)))))

-- the fault of a refused line: that of its characters, or else that of its words
abbrev pub IsReason : Line → List ℕ → RowFault → Type 0
IsReason line row fault =
    (found : Option RowFault) × IsByBlanks row found
    × MatchOption found (IsByWords line (slice_split (λ b. b == 32) row) fault) (λ first. fault ≡ first)
