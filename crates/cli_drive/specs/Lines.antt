-- A train's file as bytes: its lines, and the request of each.
use Rattle.std.specs.List.{slice_split}
use Rattle.std.specs.Prelude.{[], ◌&&◌, ◌==◌, ◌^◌, ◌∷◌, Bool, codes, if◌then◌else◌, is_none, length, List, nat_lt, None}
use Rattle.std.specs.Prelude.{Option, option_map, Some, ℕ}
use Rattle.std.specs.Result.{result_ok}
use Rattle.std.specs.Str.{all_ascii_digits, bytes_eq}
use Rattle.std.specs.Str.Parse.{digits_value}
use Rattle.hex.specs.Hex.{decode_of}

-- the request of a line: to send bytes, or to read this many messages
pub data Asked : Type 0 where
  Bytes : (bytes : List ℕ) → Asked
  Messages : (count : ℕ) → Asked

-- the bytes of pairs of hexadecimal digits in either case, at least one
abbrev pub bytes_of : List ℕ → Option (List ℕ)
bytes_of word = if length word == 0 then None else result_ok (decode_of word)

-- the number of decimal digits without a sign, if it fits in 16 bits
abbrev pub number_of : List ℕ → Option ℕ
number_of word =
    if nat_lt 0 (length word) && all_ascii_digits word && nat_lt (digits_value 10 word) (2 ^ 16)
    then Some (digits_value 10 word) else None

-- the request of the words of a line; none if the line has no valid form
abbrev pub asked : List (List ℕ) → Option Asked
asked (digits ∷ []) = option_map (λ bytes. Bytes bytes) (bytes_of digits)
asked (verb ∷ count ∷ []) =
    if bytes_eq verb (codes "wait") then option_map (λ n. Messages n) (number_of count) else None
asked _ = None

-- the request of a line; single blanks separate its words
unfoldable pub row_asks : List ℕ → Option Asked
row_asks row = asked (slice_split (λ b. b == 32) row)

-- the line has no valid form
abbrev pub is_faulty : List ℕ → Bool
is_faulty row = is_none (row_asks row)

-- the texts between the line feeds of a text, and after the last
abbrev pub rows : List ℕ → List (List ℕ)
rows text = slice_split (λ b. b == 10) text

-- the lines: the text after the last line feed is one only if it is not empty
abbrev pub whole_rows : List (List ℕ) → List (List ℕ)
whole_rows [] = []
whole_rows (row ∷ []) = if length row == 0 then [] else row ∷ []
whole_rows (row ∷ next ∷ rest) = row ∷ whole_rows (next ∷ rest)
