-- The written bytes of an answer, and its time.
use Rattle.std.specs.declared.time.Instant.{Instant}
use Rattle.std.specs.Io.KnownBytes.{Appends}
use Rattle.std.specs.Option.{option_map_or}
use Rattle.std.specs.Prelude.{◌-◌, ◌/◌, ◌≡◌, Bool, drop, List, nat_le, Option, take, true, ℕ}
use Rattle.std.specs.Time.{instant_nanos}
use Rattle.serve_line.specs.declared.clients.sending.Sent.{Sent}
use Rattle.serve_line.specs.declared.clients.sending.Sent.TheVariants.{Short, Whole}

-- the bytes of a text before the rest follow those of the writer, if these are known
pub record IsWritten (text rest : List ℕ) (old new : Option (List ℕ)) : Type 0 where
  pub count : ℕ
  pub left : rest ≡ drop count text
  pub written : Appends old new (take count text)

-- the first bytes of a text follow those of the writer, if these are known
pub record HasBegun (text : List ℕ) (old new : Option (List ℕ)) : Type 0 where
  pub count : ℕ
  pub written : Appends old new (take count text)

-- the whole text was written, or only its first bytes
abbrev pub IsSent : List ℕ → Sent → Option (List ℕ) → Option (List ℕ) → Type 0
IsSent text Whole old new = Appends old new text
IsSent text Short old new = HasBegun text old new

-- ten seconds have passed since the first moment, or the clock gave no time
abbrev pub is_late : Instant → Option Instant → Bool
is_late begun now =
    option_map_or (λ time. nat_le 10 ((instant_nanos time - instant_nanos begun) / 1_000_000_000)) now true
