-- The events for which the answers of a centre wait.
use Rattle.std.specs.Prelude.{ℕ, if◌then◌else◌, nat_le, Option, Some, None}

-- The stamp that the journal has to keep before an answer to the event with this stamp leaves. A journal is known by
-- the stamp of the last event that it had at its start. An answer to such an event waits for none, and so does each
-- answer of a centre without a journal.
abbrev pub awaited : Option ℕ → ℕ → ℕ
awaited None stamp = 0
awaited (Some begun) stamp = if nat_le stamp begun then 0 else stamp
