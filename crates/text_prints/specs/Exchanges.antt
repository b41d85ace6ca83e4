-- The exchanges of a print, line by line.
use Rattle.std.specs.Prelude.{[], ◌++◌, ◌∷◌, ◌≡◌, ◌≢◌, codes, IfSome, List, None, Option, option_map, Some, ℕ}
use Rattle.rbc_spec.specs.Line.{Line}
use Rattle.rbc_watch.specs.declared.event.Exchange.{Exchange}
use Rattle.rbc_watch.specs.Events.{event_of, spoken_of}
use Rattle.text_script.specs.Script.{row_asks}
use Rattle.text_prints.specs.Events.{event_asked}
use Rattle.text_prints.specs.Parts.{AddsRow}

-- the exchange of an event begins; after `show` there is none
pub record IsBegun (line : Line) (text : List ℕ) (last : Option Exchange) : Type 0 where
  pub event : option_map event_asked (row_asks line text) ≡ Some (option_map (λ x. event_of x.event) last)
  pub nothing : IfSome last (λ x. option_map spoken_of x.spoken ≡ None)

-- the exchange has one more line; there is none for the lines about the state of the centres
abbrev pub IsAdded : Line → Option Exchange → List ℕ → Option Exchange → Type 0
IsAdded line None text after = after ≡ None
IsAdded line (Some x) text after = (y : Exchange) × (after ≡ Some y) × AddsRow line x text y

-- A line after `> ` completes an exchange, and begins one. Any other line adds to the exchange.
pub data IsRead (line : Line) (before : Option Exchange) (row : List ℕ) (complete after : Option Exchange)
    : Type 0 where
  Begins : (text : List ℕ) → row ≡ codes "> " ++ text → complete ≡ before → IsBegun line text after
      → IsRead line before row complete after
  Adds : ((text : List ℕ) → row ≢ codes "> " ++ text) → complete ≡ None
      → IsAdded line before (row ++ 10 ∷ []) after → IsRead line before row complete after
