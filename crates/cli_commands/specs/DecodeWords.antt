-- The words of `decode`.
use Rattle.std.specs.Char.{is_ascii_hexdigit}
use Rattle.std.specs.List.{count_by, filter, find, list_all, slice_split, starts_with}
use Rattle.std.specs.Option.{option_or}
use Rattle.std.specs.Prelude.{[], ◌++◌, ◌==◌, ◌∷◌, Bool, codes, drop, if◌then◌else◌, List, nat_eq, None, not, Option}
use Rattle.std.specs.Prelude.{Some, unwrap_or, ℕ}

abbrev pub is_option : List ℕ → Bool
is_option word = starts_with nat_eq word (codes "--")

-- the words besides the options, with a blank after each
abbrev pub joined : List (List ℕ) → List ℕ
joined [] = []
joined (word ∷ words) = if is_option word then joined words else word ++ (codes " " ++ joined words)

-- how many words there are besides the options
abbrev pub plain_count : List (List ℕ) → ℕ
plain_count words = count_by (λ word. not (is_option word)) words

-- only hexadecimal digits, after `0x` or without it
abbrev pub has_only_digits : List ℕ → Bool
has_only_digits part =
    list_all is_ascii_hexdigit (if starts_with nat_eq part (codes "0x") then drop 2 part else part)

-- each part of the word between colons has only digits
abbrev pub is_hexadecimal : List ℕ → Bool
is_hexadecimal word = list_all has_only_digits (slice_split (λ b. b == 58) word)

abbrev pub last_of : List (List ℕ) → Option (List ℕ)
last_of [] = None
last_of (word ∷ words) = option_or (last_of words) (Some word)

-- the words besides the options
abbrev pub plain_words : List (List ℕ) → List (List ℕ)
plain_words words = filter (λ word. not (is_option word)) words

-- the first of these words that is not hexadecimal, or else the last one; the other word if there is none
abbrev pub faulty_of : List (List ℕ) → List ℕ → List ℕ
faulty_of words other =
    unwrap_or (option_or (find (λ word. not (is_hexadecimal word)) words) (last_of words)) other

-- the same of the words besides the options; empty if there is none
abbrev pub faulty_word : List (List ℕ) → List ℕ
faulty_word words = faulty_of (plain_words words) []
