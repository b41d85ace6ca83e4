-- The end of a session.
use Rattle.std.specs.Prelude.{◌≡◌, ℕ, ◌+◌, List, Option}
use Rattle.std.specs.Io.KnownBytes.{IsAtEnd}
use Rattle.serve_workers.specs.declared.reading.reading.IntakeEnd.{IntakeEnd}
use Rattle.serve_workers.specs.declared.reading.reading.IntakeEnd.TheVariants as intake
use Rattle.serve_workers.specs.declared.end.SessionEnd.{SessionEnd}
use Rattle.serve_workers.specs.declared.end.SessionEnd.TheVariants.{EndOfStream, Fault, Device, Refused}

abbrev pub number_of_end : SessionEnd → ℕ
number_of_end EndOfStream = 1
number_of_end (Fault fault) = 2
number_of_end Device = 3
number_of_end (Refused fault) = 4

-- an end of reading ends the session
abbrev pub end_of_intake : IntakeEnd → SessionEnd
end_of_intake intake.EndOfStream = EndOfStream
end_of_intake (intake.Fault fault) = Fault fault
end_of_intake intake.Device = Device

-- it ends with the source only if no byte is left, and with a failed read only if one more read has failed
abbrev pub EndsSo : Option (List ℕ) → ℕ → ℕ → SessionEnd → Type 0
EndsSo left old new EndOfStream = (new ≡ old) × IsAtEnd left
EndsSo left old new (Fault fault) = new ≡ old
EndsSo left old new Device = new ≡ old + 1
EndsSo left old new (Refused fault) = Unit {0}
