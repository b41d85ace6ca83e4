-- The result of one read of a connection.
use Rattle.std.specs.Prelude.{◌≡◌, ℕ, ◌+◌, List, [], Option, Result, Ok, Err}
use Rattle.std.specs.Io.KnownBytes.{IsAtEnd}
use Rattle.rbc_msgs.specs.TrainText.{TrainText}
use Rattle.rbc_msgs.specs.Streams.{Fed}
use Rattle.serve_workers.specs.declared.reading.reading.IntakeEnd.{IntakeEnd}
use Rattle.serve_workers.specs.declared.reading.reading.IntakeEnd.TheVariants.{EndOfStream, Fault, Device}

-- no byte was received
pub record IsQuiet (before : Option (List ℕ)) (piece : List ℕ) (old new : List TrainText)
    (after : Option (List ℕ)) : Type 0 where
  pub nothing : piece ≡ []
  pub messages : new ≡ old
  pub stream : after ≡ before

-- this piece was received, and is fed to the stream; none was received at the end of the bytes, or if the read failed
abbrev pub Brings : Option (List ℕ) → List ℕ → List TrainText → List TrainText → Result (Unit {0}) IntakeEnd
    → Option (List ℕ) → Type 0
Brings before piece old new (Ok _) after = Fed before piece old new (Ok tt) after
Brings before piece old new (Err (Fault fault)) after = Fed before piece old new (Err fault) after
Brings before piece old new (Err EndOfStream) after = IsQuiet before piece old new after
Brings before piece old new (Err Device) after = IsQuiet before piece old new after

-- it ends at the source's end, or if one more read has failed; else no read has failed
abbrev pub EndsSo : Option (List ℕ) → ℕ → ℕ → Result (Unit {0}) IntakeEnd → Type 0
EndsSo left old new (Ok _) = new ≡ old
EndsSo left old new (Err (Fault fault)) = new ≡ old
EndsSo left old new (Err EndOfStream) = (new ≡ old) × IsAtEnd left
EndsSo left old new (Err Device) = new ≡ old + 1
