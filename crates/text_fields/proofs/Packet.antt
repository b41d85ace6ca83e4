-- A packet: its number, its header, and its fields.
use Rattle.std.proofs.Common.{[], ◌+◌, ◌-◌, ◌∙◌, ◌∷◌, ◌≡◌, ◌≤◌, ◌⊎◌, ap, arith, Bool, inl, inr, length, length-append}
use Rattle.std.proofs.Common.{List, true, ℕ}
use Rattle.std.specs.Prelude.{codes}
use Rattle.rbc_packets.proofs.Again.{length-joined}
use Rattle.rbc_packets.specs.Layout.{joined, widths}
use Rattle.text_fields.proofs.Steps.{at_end}
use Rattle.text_fields.specs.declared.messages.Side.{Side}
use Rattle.text_fields.specs.declared.shown.Shown.{Shown}
use Rattle.text_fields.specs.Messages.{packet_head, packet_shown}
use Rattle.text_fields.specs.Named.{fields_in, Named}
use Rattle.text_fields.specs.Walks.{after, Next, Shows, Takes}

-- the count of the bits of fields and of the bits after them
pub long : (fields : List Named) (rest : List Bool) (look : List Shown × List Bool) (end : ℕ)
    → Next fields rest look end
    → length look.1 ≡ widths (fields_in fields) + length rest
long fields rest look end n = ap length n.bits ∙ (length-append (joined (fields_in fields)) rest
    ∙ ap (λ k. k + length rest) (length-joined (fields_in fields)))

-- the header of a packet is shown
pub record Ended (side : Side) (count : ℕ) (rest : List Bool) (old new : List Shown
    × List Bool) (there : Bool) (room header last : ℕ) : Type 0 where
  pub is_there : there ≡ true
  pub shows : Shows (packet_head side count) rest old new
  pub room_is : room ≡ length rest
  pub last_is : last ≡ header + count

pub ended : (side : Side) (count : ℕ) (rest : List Bool) (old new : List Shown
    × List Bool) (there : Bool) (begun end mid room header last : ℕ)
    → end ≡ 0 → begun ≡ 8 + length old.1 → Next (packet_head side count) rest old 0
    → Takes (packet_head side count) old end new mid there
    → ((others : List Bool) → Next (packet_head side count) others old end
    → last ≡ 8 + widths (fields_in (packet_head side count)) + count)
    → room ≡ length new.1 - mid → header ≡ begun - room → Ended side count rest old new there room header last
ended side count rest old new there begun end mid room header last e b n take value r h =
    let its = at_end (packet_head side count) rest old end e n in
    let s = take rest its in
    let w = widths (fields_in (packet_head side count)) in
    let all : length old.1 ≡ w + length rest = long (packet_head side count) rest old 0 n in
    let room_is : room ≡ length rest = omega (arith, r, s.2, e, ap length s.1.left) in
    record {
      is_there = s.0;
      shows = s.1;
      room_is = room_is;
      last_is = omega (arith, value rest its, h, b, all, room_is);
    }

pub long_after : (fields : List Named) (rest : List Bool) → length (after fields rest) ≡ widths (fields_in fields) +
    length rest
long_after fields rest = length-append (joined (fields_in fields)) rest
    ∙ ap (λ k. k + length rest) (length-joined (fields_in fields))

abbrev pub nid_packet : ℕ → List Named
nid_packet n = record { name = codes "NID_PACKET"; field = (8, n) } ∷ []

-- a packet has bits enough for its number
pub has_number : (side : Side) (n : ℕ) (content : List Named) (rest : List Bool) (look : List Shown
    × List Bool) (end : ℕ)
    → Next (packet_shown side n content) rest look end → 8 + end ≤ length look.1
has_number side n content rest look end next = omega (
  arith,
  long (packet_shown side n content) rest look end next,
  next.within,
)

pub either : {A B C : Type 0} → A ⊎ B → (A → C) → (B → C) → C
either (inl a) f g = f a
either (inr b) f g = g b
