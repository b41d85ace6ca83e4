-- A connection to a port of this host that is opened again when it fails.
use Rattle.std.specs.Prelude.{[], ◌&&◌, ◌++◌, ◌≡◌, ◌⊎◌, Bool, is_some, List, nat_le, None, not, true, ℕ}
use Rattle.cli_drive.specs.declared.trains.connection.Connection.{Connection}

-- it is to be opened: it is not open, and it is time
abbrev pub is_due : Connection → ℕ → Bool
is_due connection now = not (is_some connection.stream) && nat_le connection.next now

-- the port, the time of the next attempt and the counts are as before
abbrev pub KeepsCounts : Connection → Connection → Type 0
KeepsCounts old new =
    (new.port ≡ old.port) × (new.next ≡ old.next) × (new.tries ≡ old.tries) × (new.opened ≡ old.opened)

-- it has ended, and a part of a message that has arrived is dropped
abbrev pub HasEnded : Connection → Type 0
HasEnded new = (new.stream ≡ None) × (new.inbox.bytes.items ≡ [])

-- It stays open, and the bytes that have arrived follow the others. Or it has ended. Or nothing has changed.
abbrev pub HasRead : Connection → Connection → Type 0
HasRead old new =
    ((is_some old.stream ≡ true) × (is_some new.stream ≡ true)
    × ((more : List ℕ) × (new.inbox.bytes.items ≡ old.inbox.bytes.items ++ more)))
    ⊎ (HasEnded new ⊎ (new ≡ old))
