-- The steps of the thread that writes a journal.
use Rattle.std.specs.Prelude.{◌<◌, ◌≡◌, Bool, false, None, Option, Some, true, ℕ}
use Rattle.serve_line.specs.declared.journaling.writer_steps.WriterStep.{WriterStep}
use Rattle.serve_line.specs.declared.journaling.writer_steps.WriterStep.TheVariants.{Done, GiveUp, Go, Rest, Retry}

-- The thread ends only if nothing was left to write and nothing more was committed. It gives a journal up only if a
-- write failed after the stop.
abbrev pub IsWriterStep : Option ℕ → Bool → Bool → WriterStep → Type 0
IsWriterStep written is_over is_stopped Done = (written ≡ Some 0) × (is_over ≡ true)
IsWriterStep written is_over is_stopped Rest = (written ≡ Some 0) × (is_over ≡ false)
IsWriterStep written is_over is_stopped (Go count) = (written ≡ Some count) × (0 < count)
IsWriterStep written is_over is_stopped Retry = (written ≡ None) × (is_stopped ≡ false)
IsWriterStep written is_over is_stopped GiveUp = (written ≡ None) × (is_stopped ≡ true)
