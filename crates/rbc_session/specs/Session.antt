-- The plain data of a session.
use Rattle.std.specs.Prelude.{ℕ, Bool, false, ◌==◌}
use Rattle.std.specs.Option.{option_map_or}
use Rattle.rbc_session.specs.Sessions.{Records, train_at}
use Rattle.rbc_session.specs.declared.session.Session.{Session}

abbrev pub key_of : {S : Type 0} → Session S → ℕ
key_of session = session.key

-- the session is with the train
abbrev pub is_of : {S : Type 0} → Records → Session S → ℕ → Bool
is_of sessions session t = option_map_or (λ u. u == t) (train_at sessions (key_of session)) false
