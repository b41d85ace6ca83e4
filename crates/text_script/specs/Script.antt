-- Scripts as bytes: the lines of a script, and the request of each.
use Rattle.std.specs.List.{slice_split}
use Rattle.std.specs.Prelude.{[], ◌&&◌, ◌==◌, ◌^◌, ◌∷◌, Bool, codes, if◌then◌else◌, is_none, length, List, nat_lt, None}
use Rattle.std.specs.Prelude.{not, Option, option_and_then, option_map, position, slice_index, Some, ℕ}
use Rattle.std.specs.Result.{result_ok}
use Rattle.std.specs.Str.{all_ascii_digits, bytes_eq}
use Rattle.std.specs.Str.Parse.{digits_value}
use Rattle.hex.specs.Hex.{decode_of}
use Rattle.rbc_spec.specs.Line.{Line}

-- the request of a line: to show the line, or an event
pub data Asked : Type 0 where
  Show : Asked
  Train : (centre : ℕ) → (bytes : List ℕ) → Asked
  Set : (centre section : ℕ) → Asked
  Unset : (centre section : ℕ) → Asked
  Deliver : (from to number : ℕ) → Asked

-- the centre of this name
abbrev pub centre_named : Line → List ℕ → Option ℕ
centre_named line word = position (λ p. bytes_eq p.name word) line.centres

-- the bytes of pairs of hexadecimal digits in either case, at least one
abbrev pub bytes_of : List ℕ → Option (List ℕ)
bytes_of word = if length word == 0 then None else result_ok (decode_of word)

-- the number of decimal digits without a sign, if it fits in this many bits
abbrev pub number_of : ℕ → List ℕ → Option ℕ
number_of bits word =
    if nat_lt 0 (length word) && all_ascii_digits word && nat_lt (digits_value 10 word) (2 ^ bits)
    then Some (digits_value 10 word) else None

-- `show`: print the line that the centres supervise
abbrev pub show_of : List ℕ → Option Asked
show_of verb = if bytes_eq verb (codes "show") then Some Show else None

-- `train A 9B02`: these bytes from a train reach a centre
abbrev pub train_of : Line → List ℕ → List ℕ → Option Asked
train_of line centre digits =
    option_and_then (λ c. option_map (λ bytes. Train c bytes) (bytes_of digits)) (centre_named line centre)

-- `set A 3`: the interlocking releases a section; its number counts over the whole line
abbrev pub set_of : Line → List ℕ → List ℕ → Option Asked
set_of line centre section =
    option_and_then (λ c. option_map (λ s. Set c s) (number_of 16 section)) (centre_named line centre)

-- `unset A 3`: the interlocking takes the section back
abbrev pub unset_of : Line → List ℕ → List ℕ → Option Asked
unset_of line centre section =
    option_and_then (λ c. option_map (λ s. Unset c s) (number_of 16 section)) (centre_named line centre)

-- an event that reaches a centre from a train or from the interlocking
abbrev pub at_centre_of : Line → List ℕ → List ℕ → List ℕ → Option Asked
at_centre_of line verb centre word =
    if bytes_eq verb (codes "train") then train_of line centre word
    else (if bytes_eq verb (codes "set") then set_of line centre word
    else (if bytes_eq verb (codes "unset") then unset_of line centre word else None))

-- `deliver A B 1`: the frame that one centre sent to another under a number is delivered
abbrev pub delivery_of : Line → List ℕ → List ℕ → List ℕ → List ℕ → Option Asked
delivery_of line verb from to number =
    if bytes_eq verb (codes "deliver")
    then option_and_then (λ a. option_and_then (λ b. option_map (λ n. Deliver a b n) (number_of 32 number))
    (centre_named line to)) (centre_named line from)
    else None

-- the request of the words of a line; none if the line has no valid form
abbrev pub asked : Line → List (List ℕ) → Option Asked
asked line (verb ∷ []) = show_of verb
asked line (verb ∷ centre ∷ word ∷ []) = at_centre_of line verb centre word
asked line (verb ∷ from ∷ to ∷ number ∷ []) = delivery_of line verb from to number
asked line _ = None

-- the request of a line; single blanks separate its words
unfoldable pub row_asks : Line → List ℕ → Option Asked
row_asks line row = asked line (slice_split (λ b. b == 32) row)

-- the line is not skipped: it is not empty, and does not begin with `#`
unfoldable pub is_kept : List ℕ → Bool
is_kept text = nat_lt 0 (length text) && not (slice_index text 0 == 35)

-- the line is not skipped, and has no valid form
abbrev pub is_faulty : Line → List ℕ → Bool
is_faulty line row = is_kept row && is_none (row_asks line row)

-- the lines of a script, each without the line feed that ends it
abbrev pub rows : List ℕ → List (List ℕ)
rows text = slice_split (λ b. b == 10) text
