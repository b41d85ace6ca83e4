-- The messages that a train reads over a connection, and their print.
use Rattle.std.specs.Prelude.{[], ◌++◌, ◌∷◌, ◌≡◌, List, sum_by, suc, zero, ℕ}
use Rattle.cli_drive.specs.declared.steps.Step.{Step}
use Rattle.cli_drive.specs.declared.steps.Step.TheVariants.{Send, Wait}
use Rattle.hex.specs.Hex.{encode_upper}
use Rattle.rbc_msgs.specs.TrackSpelling.{SpellsTrack}
use Rattle.rbc_spec.specs.Message.{TrackMessage}

-- the bytes spell a message of a centre
abbrev pub IsMessage : List ℕ → Type 0
IsMessage bytes = (m : TrackMessage) × SpellsTrack bytes m

-- the line of a message: its bytes in hexadecimal
abbrev pub row_of : List ℕ → List ℕ
row_of message = encode_upper message ++ 10 ∷ []

-- the bytes are this many messages of a centre, and the text has a line for each, in order
abbrev pub AreMessages : ℕ → List ℕ → List ℕ → Type 0
AreMessages zero bytes text = (bytes ≡ []) × (text ≡ [])
AreMessages (suc count) bytes text =
    (front : List ℕ) × (rows : List ℕ) × (last : List ℕ) × AreMessages count front rows × IsMessage last
    × (bytes ≡ front ++ last) × (text ≡ rows ++ row_of last)

-- how many messages a step reads
abbrev pub messages_of : Step → ℕ
messages_of (Send bytes) = 0
messages_of (Wait count) = count

-- how many messages steps read
abbrev pub messages_in : List Step → ℕ
messages_in steps = sum_by messages_of steps
