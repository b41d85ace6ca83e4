-- The sessions of a centre.
use Rattle.std.specs.Prelude.{◌≡◌, ℕ, ◌==◌, if◌then◌else◌, List, [], ◌∷◌, Option, Some, None, option_map}
use Rattle.slab.specs.Slab.{Slab, get, HasRoomFor}
use Rattle.rbc_spec.specs.Centre.{Phase, Closed, Opened, Up}
use Rattle.rbc_session.specs.declared.sessions.Record.{Record}

-- the record of each session, by its key
abbrev pub Records : Type 0
Records = Slab Record

abbrev pub record_phase : Record → Phase
record_phase r = if r.is_up then Up else Opened

-- the phase of the session with the train that is among these
abbrev pub phase_in : List (Option Record) → ℕ → Phase
phase_in [] t = Closed
phase_in (None ∷ rest) t = phase_in rest t
phase_in (Some r ∷ rest) t = if r.nid_engine == t then record_phase r else phase_in rest t

-- the phase of the session with the train
unfoldable pub phase_at : Records → ℕ → Phase
phase_at sessions t = phase_in sessions.slots t

-- the train of the session with this key
unfoldable pub train_at : Records → ℕ → Option ℕ
train_at sessions key = option_map (λ r. r.nid_engine) (get sessions key)

-- one more session may be opened without memory
unfoldable pub HasRoom : Records → Type 0
HasRoom sessions = HasRoomFor sessions 1

-- no two sessions are with one train
abbrev pub IsOneATrain : Records → Type 0
IsOneATrain sessions =
    (j k : ℕ) (p q : Record) → get sessions j ≡ Some p → get sessions k ≡ Some q → p.nid_engine ≡ q.nid_engine → j ≡ k

-- no two keys of sessions are of one train
abbrev pub AtMostOneATrain : Records → Type 0
AtMostOneATrain sessions = (j k t : ℕ) → train_at sessions j ≡ Some t → train_at sessions k ≡ Some t → j ≡ k
