-- The first fields of a train's message: NID_MESSAGE (8 bits), L_MESSAGE (10), T_TRAIN (32) and NID_ENGINE (24).
use Rattle.std.specs.Int.{from_be_bytes, w16, w32}
use Rattle.std.specs.Prelude.{◌%◌, ◌&&◌, ◌+◌, ◌-◌, ◌/◌, ◌==◌, ◌^◌, Bool, List, min, nat_le, slice_index, slice_set, ℕ}
use Rattle.std.specs.Prelude.{[], ◌∷◌}
use Rattle.serve_line.specs.declared.clients.cutter.Cutter.{Cutter}
use Rattle.serve_line.specs.declared.clients.cutter.Head.{Head}

-- L_MESSAGE of a message that begins with these bytes: its length in bytes
abbrev pub l_message : List ℕ → ℕ
l_message bytes = from_be_bytes w16 (slice_index bytes 1 ∷ slice_index bytes 2 ∷ []) / 64

-- NID_ENGINE of a message that begins with these bytes
abbrev pub nid_engine : List ℕ → ℕ
nid_engine bytes =
    from_be_bytes w32
    (slice_index bytes 6 ∷ slice_index bytes 7 ∷ slice_index bytes 8 ∷ slice_index bytes 9 ∷ []) / 64 % 16777216

-- the bytes of a message so far, with one byte more
abbrev pub with_byte : Cutter → ℕ → Cutter
with_byte c byte = record { head = slice_set c.head c.count byte; count = min (c.count + 1) (2 ^ 64 - 1) }

-- the bytes so far are a whole message: their number is its L_MESSAGE
abbrev pub is_whole : Cutter → Bool
is_whole c = nat_le 10 c.count && (c.count == l_message c.head)

-- the kind and the engine of a message
abbrev pub first_fields : Cutter → Head
first_fields c = record { nid_message = slice_index c.head 0; nid_engine = nid_engine c.head }
