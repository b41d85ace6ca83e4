-- The steps of a walk over the fields of a good message.
use Rattle.std.specs.List.{AllByRecursion}
use Rattle.std.specs.Prelude.{[], ◌++◌, ◌<◌, ◌==◌, ◌^◌, ◌∷◌, ◌≡◌, ◌≢◌, ◌≤◌, ◌⊎◌, Bool, codes, if◌then◌else◌, IsTrue}
use Rattle.std.specs.Prelude.{length, List, MatchOption, nat_lt, None, Option, Some, ℕ}
use denote.Ref.{Bor}
use Rattle.rbc_packets.specs.declared.position.Position.{Position}
use Rattle.rbc_packets.specs.Layout.{joined}
use Rattle.text_fields.specs.declared.bodies.Body.{Body}
use Rattle.text_fields.specs.declared.bodies.Own.{Own}
use Rattle.text_fields.specs.declared.bodies.Own.TheVariants as own
use Rattle.text_fields.specs.declared.bodies.Required.{Required}
use Rattle.text_fields.specs.declared.bodies.Required.TheVariants as required
use Rattle.text_fields.specs.declared.bodies.TheConstants as tables
use Rattle.text_fields.specs.declared.kind.Kind.{Kind}
use Rattle.text_fields.specs.declared.messages.Side.{Side}
use Rattle.text_fields.specs.declared.messages.Side.TheVariants.{Centre, Train}
use Rattle.text_fields.specs.declared.shown.Shown.{Shown}
use Rattle.text_fields.specs.Messages.{authority_content, end_of_session_content, filling_fields, kept_content}
use Rattle.text_fields.specs.Messages.{PacketFields, packets_shown, position_content, track_head, train_head}
use Rattle.text_fields.specs.Messages.{transition_content}
use Rattle.text_fields.specs.Named.{all_named, fields_in, Named, NamedFits, with_names}

-- ## Steps

-- these fields are next, and then `rest`, of which the last `end` bits are not read
pub record Next (fields : List Named) (rest : List Bool) (look : List Shown × List Bool) (end : ℕ) : Type 0 where
  pub bits : look.1 ≡ joined (fields_in fields) ++ rest
  pub fit : AllByRecursion NamedFits fields
  pub within : end ≤ length rest

-- a step from old to new shows these fields
pub record Shows (fields : List Named) (rest : List Bool) (old new : List Shown × List Bool) : Type 0 where
  pub shown : all_named new.0 ≡ all_named old.0 ++ fields
  pub left : new.1 ≡ rest

-- if these fields are next, the step shows them, and its result is true
abbrev pub Takes : List Named → List Shown × List Bool → ℕ → List Shown × List Bool → ℕ → Bool → Type 0
Takes fields old end new new_end there =
    (rest : List Bool) → Next fields rest old end → IsTrue there × Shows fields rest old new × (new_end ≡ end)

-- the bits after these fields
abbrev pub after : List Named → List Bool → List Bool
after fields rest = joined (fields_in fields) ++ rest

-- the value of the last field
abbrev pub last_of : ℕ → List Named → ℕ
last_of last [] = last
last_of last (f ∷ fields) = last_of f.field.1 fields

-- the fields have the names and widths of these entries
abbrev pub AreRows : List (Bor (List ℕ) × ℕ × Kind) → List Named → Type 0
AreRows [] [] = Unit {0}
AreRows [] (f ∷ fields) = ⊥
AreRows (row ∷ rows) [] = ⊥
AreRows (row ∷ rows) (f ∷ fields) = (f.name ≡ row.0.now) × (f.field.0 ≡ row.1) × AreRows rows fields

-- ## Packets

-- the fields of a packet that is not shown as bits
abbrev pub IsContent : Side → ℕ → List Named → Type 0
IsContent Train n content = (n ≡ 0) × (p : Position) × (content ≡ position_content p)
IsContent Centre n content =
    ((n ≡ 15) × (l : ℕ) × (content ≡ authority_content l))
    ⊎ (((n ≡ 42) × (c : ℕ) × (r : ℕ) × (content ≡ end_of_session_content c r))
    ⊎ ((n ≡ 131) × (d : ℕ) × (c : ℕ) × (r : ℕ) × (content ≡ transition_content d c r)))

-- the fields of a packet that is shown as bits: a packet of a train, but no position report
abbrev pub IsKept : Side → ℕ → List Named → Type 0
IsKept side n content = (side ≡ Train) × (n ≢ 0) × (bits : List Bool) × (content ≡ kept_content bits)

-- the fields of a packet
abbrev pub IsLaid : Side → ℕ → List Named → Type 0
IsLaid side n content = IsContent side n content ⊎ IsKept side n content

abbrev pub IsLaidPacket : Side → PacketFields → Type 0
IsLaidPacket side p = IsLaid side p.number p.content

-- further packets, and the bits that fill the last byte
abbrev pub rest_shown : Side → List PacketFields → ℕ → List Named
rest_shown side further fill = packets_shown side further ++ filling_fields fill

-- how many packets are required
abbrev pub count_of : Required → ℕ
count_of required.None = 0
count_of required.PositionAndData = 2
count_of other = 1

-- ## Messages

-- a train sends messages of numbers from 128 on
abbrev pub side_of : ℕ → Side
side_of number = if nat_lt number 128 then Centre else Train

-- the header after NID_MESSAGE
abbrev pub IsHead : Side → List Named → Type 0
IsHead Train fields = (l : ℕ) × (t : ℕ) × (e : ℕ) × (fields ≡ train_head l t e)
IsHead Centre fields = (l : ℕ) × (t : ℕ) × (g : ℕ) × (fields ≡ track_head l t g)

-- the field before the packets
abbrev pub IsOwn : Own → List Named → Type 0
IsOwn own.None fields = fields ≡ []
IsOwn own.Reason fields = (v : ℕ) × (fields ≡ with_names (codes "Q_MARQSTREASON" ∷ []) ((5, v) ∷ []))
IsOwn own.Time fields = (v : ℕ) × (fields ≡ with_names (codes "T_TRAIN" ∷ []) ((32, v) ∷ []))
IsOwn own.Status fields = (v : ℕ) × (fields ≡ with_names (codes "Q_STATUS" ∷ []) ((2, v) ∷ []))
IsOwn own.Version fields = (v : ℕ) × (fields ≡ with_names (codes "M_VERSION" ∷ []) ((7, v) ∷ []))

-- the body in a table at this number
abbrev pub body_at : ℕ → List Body → Option Body
body_at n [] = None
body_at n (body ∷ bodies) = if body.number == n then Some body else body_at n bodies

-- a message of this number with this header after it, its own field, its packets, and further ones
pub record IsLaidMessage (n : ℕ) (head own : List Named) (packets further : List PacketFields) : Type 0 where
  pub number : n < 2 ^ 8
  pub head_is : IsHead (side_of n) head
  pub body : MatchOption (body_at n tables.BODIES.now) ⊥
      (λ body. IsOwn body.own own × (length packets ≡ count_of body.packets))
  pub packets_are : AllByRecursion (IsLaidPacket (side_of n)) packets
  pub further_are : AllByRecursion (IsLaidPacket (side_of n)) further
