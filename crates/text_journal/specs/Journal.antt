-- The format of a journal: a first line, and then one line for each event that a centre took.
use Rattle.std.specs.Fmt.{decimal}
use Rattle.std.specs.List.{flat_map}
use Rattle.std.specs.Prelude.{[], ◌++◌, ◌∷◌, codes, List, None, Option, Some, take, ℕ}
use Rattle.hex.specs.Hex.{encode_lower}
use Rattle.rbc_spec.specs.Line.{Line}
use Rattle.sha2.specs.Sha256.{sha256}
use Rattle.text_journal.specs.declared.entry.Entry.{Entry}
use Rattle.text_journal.specs.LineText.{line_text}
use Rattle.text_script.specs.Print.Rows.{event_row, name_at}

-- the SHA-256 of a text, in hexadecimal digits
unfoldable pub digest : List ℕ → List ℕ
digest text = encode_lower (sha256 text)

-- the first four bytes of the SHA-256 of a text, in hexadecimal digits
unfoldable pub checksum : List ℕ → List ℕ
checksum text = encode_lower (take 4 (sha256 text))

-- a version of the format
pub data Version : Type 0 where
  V1 : Version
  V2 : Version

-- the first words of a journal, which have its version
abbrev pub version_words : Version → List ℕ
version_words V1 = codes "journal 1 "
version_words V2 = codes "journal 2 "

-- the text whose digest is in the first line: in version 1 the line file, and in version 2 all values of the line
abbrev pub digested : Version → Line → List ℕ → List ℕ
digested V1 line file = file
digested V2 line file = line_text line

-- the first line, without its line feed: the version of the format, the centre, and the digest of the line
abbrev pub first_line : Version → Line → ℕ → List ℕ → List ℕ
first_line v line c file = version_words v ++ (name_at line c ++ (codes " " ++ digest (digested v line file)))

-- the text of a time in milliseconds since 1970-01-01 UTC, with a blank; no text without a time
abbrev pub time_text : Option ℕ → List ℕ
time_text None = []
time_text (Some ms) = decimal ms ++ codes " "

-- the text of an entry: its stamp, its time if it has one, and its event as a print has it, with the line feed
abbrev pub told : Line → Entry → List ℕ
told line e = decimal e.stamp ++ (codes " " ++ (time_text e.time_ms ++ event_row line e.event))

-- the line of an entry, with the line feed: the checksum of the entry's text, and that text
abbrev pub entry_line : Line → Entry → List ℕ
entry_line line e = checksum (told line e) ++ (codes " " ++ told line e)

-- a journal of these entries; in each version an entry may have a time
abbrev pub journal : Version → Line → ℕ → List ℕ → List Entry → List ℕ
journal v line c file es = first_line v line c file ++ 10 ∷ flat_map (entry_line line) es
