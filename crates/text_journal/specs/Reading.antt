-- The reading of a journal that may end anywhere.
use Rattle.std.specs.Fmt.{decimal}
use Rattle.std.specs.List.{AllByRecursion, flat_map}
use Rattle.std.specs.Prelude.{[], ◌++◌, ◌<◌, ◌^◌, ◌∷◌, ◌≡◌, ◌≢◌, Err, IfSome, length, List, MatchOption, Ok, Option}
use Rattle.std.specs.Prelude.{Result, slice_index, take, true, ℕ}
use denote.Ref.{Bor}
use Rattle.rbc_spec.specs.Line.{is_centre, Line}
use Rattle.text_journal.specs.declared.entry.Entry.{Entry}
use Rattle.text_journal.specs.Journal.{entry_line, first_line, time_text, Version}
use Rattle.text_script.specs.declared.script.EntryFault.{EntryFault}
use Rattle.text_script.specs.declared.script.EntryFault.TheVariants as refused
use Rattle.text_script.specs.Entries.{event_of}
use Rattle.text_script.specs.Script.{Asked, Deliver, Set, Show, Train, Unset}

-- the text does not contain the byte
abbrev pub Lacks : ℕ → List ℕ → Type 0
Lacks c text = AllByRecursion (λ b. b ≢ c) text

-- ## Entries

-- the content of an entry in memory. It has a stamp, a time or none, and the event as a line of a script asks for it.
pub record Noted : Type 0 where
  pub stamp : ℕ
  pub time : Option ℕ
  pub event : Asked

abbrev pub noted_of : Entry → Noted
noted_of e = record { stamp = e.stamp; time = e.time_ms; event = event_of e.event }

-- an event that reaches centre c, and that a line of a script can ask for
abbrev pub IsAt : Line → ℕ → Asked → Type 0
IsAt line c Show = ⊥
IsAt line c (Train d bytes) = (d ≡ c) × (0 < length bytes) × ((i : ℕ) → slice_index bytes i < 256)
IsAt line c (Set d s) = (d ≡ c) × (s < 2 ^ 16)
IsAt line c (Unset d s) = (d ≡ c) × (s < 2 ^ 16)
IsAt line c (Deliver from d number) = (d ≡ c) × (is_centre line from ≡ true) × (number < 2 ^ 32)

-- no time, or a time of 64 bits
abbrev pub IsTime : Option ℕ → Type 0
IsTime time = IfSome time (λ ms. ms < 2 ^ 64)

-- an entry that the journal of centre c may contain
pub record IsNote (line : Line) (c : ℕ) (x : Noted) : Type 0 where
  pub stamp : x.stamp < 2 ^ 32
  pub time : IsTime x.time
  pub centre : is_centre line c ≡ true
  pub at : IsAt line c x.event

-- ## Texts

-- The text is the lines of these entries, and then bytes without a line feed
pub record Follows (line : Line) (c : ℕ) (text : List ℕ) (es : List Entry) : Type 0 where
  pub rest : List ℕ
  pub each : AllByRecursion (λ e. IsNote line c (noted_of e)) es
  pub unended : Lacks 10 rest
  pub whole : text ≡ flat_map (entry_line line) es ++ rest

-- The text is a journal of these entries, of this version. Its last line may be cut short. Or it is the first line, cut
-- short.
pub data Begins (v : Version) (line : Line) (c : ℕ) (file text : List ℕ) (es : List Entry) : Type 0 where
  torn : (rest : List ℕ) → text ≡ first_line v line c file ++ 10 ∷ rest → Follows line c rest es
      → Begins v line c file text es
  early : (n : ℕ) → text ≡ take n (first_line v line c file) → es ≡ [] → Begins v line c file text es

-- ## A line

-- the parts of such a line after its stamp: a time if there is one, the sign of an event and its words
abbrev pub AreTimeAndWords : List ℕ → Option (Option ℕ × Bor (List ℕ)) → Type 0
AreTimeAndWords text found =
    (time : Option ℕ) (words : List ℕ) → IsTime time → text ≡ time_text time ++ 62 ∷ 32 ∷ words
    → MatchOption found ⊥ (λ x. (x.0 ≡ time) × (x.1.now ≡ words))

-- the parts of such a line: a checksum, a stamp, and those after it
abbrev pub ArePartsOf : List ℕ → Option (ℕ × Option ℕ × Bor (List ℕ)) → Type 0
ArePartsOf row found =
    (sum words : List ℕ) (stamp : ℕ) (time : Option ℕ) → Lacks 32 sum → stamp < 2 ^ 32 → IsTime time
    → row ≡ sum ++ 32 ∷ (decimal stamp ++ 32 ∷ (time_text time ++ 62 ∷ 32 ∷ words))
    → MatchOption found ⊥ (λ x. (x.0 ≡ stamp) × (x.1 ≡ time) × (x.2.now ≡ words))

-- the entry has this line; a refusal for the form means that no entry has it
abbrev pub Finds : Line → ℕ → List ℕ → Result Entry EntryFault → Type 0
Finds line c row (Ok e) = IsNote line c (noted_of e) × (entry_line line e ≡ row ++ 10 ∷ [])
Finds line c row (Err why) =
    why ≡ refused.Form → (e : Entry) → IsNote line c (noted_of e) → entry_line line e ≡ row ++ 10 ∷ [] → ⊥

-- if an entry has this line, it is guessed, or memory ran out
abbrev pub Guesses : Line → List ℕ → Result Entry EntryFault → Type 0
Guesses line row (Ok found) =
    (c : ℕ) (e : Entry) → IsNote line c (noted_of e) → entry_line line e ≡ row ++ 10 ∷ [] → noted_of found ≡ noted_of e
Guesses line row (Err why) =
    why ≡ refused.Form → (c : ℕ) (e : Entry) → IsNote line c (noted_of e) → entry_line line e ≡ row ++ 10 ∷ [] → ⊥

-- the result has this line; a refusal for the form means that the given entry does not have it
abbrev pub Tells : Line → ℕ → List ℕ → Entry → Result Entry EntryFault → Type 0
Tells line c row given (Ok e) = IsNote line c (noted_of e) × (entry_line line e ≡ row ++ 10 ∷ [])
Tells line c row given (Err why) =
    why ≡ refused.Form → IsNote line c (noted_of given) → entry_line line given ≡ row ++ 10 ∷ [] → ⊥
