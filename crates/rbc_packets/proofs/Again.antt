-- Each spelling is read: consecutive fields, the parts of all packets, and packets that are kept without being read.
use Rattle.std.proofs.Common.{[], ◌*◌, ◌++◌, ◌+◌, ◌-◌, ◌<◌, ◌^◌, ◌∙◌, ◌∷◌, ◌≡◌, ◌≤◌, ap, append_assoc, arith, Bool}
use Rattle.std.proofs.Common.{cond, drop, eq-eqb, eqb, Err, false, length, length-append, List, ltb, Ok, refl}
use Rattle.std.proofs.Common.{replicate, Result, sym, take, true, ℕ}
use Rattle.std.proofs.lemmas.Bool.{le-ltb, lt-ltb, ltb-true}
use Rattle.std.proofs.lemmas.List.{append-nil, length-replicate, take_at}
use Rattle.rbc_bits.proofs.Bytes.{length-bits_of}
use Rattle.rbc_bits.proofs.Fields.{field-append, field_at-field, length-field, part_at-part}
use Rattle.rbc_bits.specs.Bits.{bits_of, field, filled, filling}
use Rattle.rbc_bits.specs.Reading.{part_at}
use Rattle.rbc_packets.specs.declared.fault.PacketFault.TheVariants.{Length, Short}
use Rattle.rbc_packets.specs.Layout.{Field, joined, track_packet, train_packet, widths}
use Rattle.rbc_packets.specs.OpaqueReading.{opaque_at, opaque_bits}
use Rattle.rbc_packets.specs.Packet.{Packet, PacketFits}
use Rattle.rbc_packets.specs.Reading.{direction_at, fixed_at, m_level_at, none_left, q_length_at, q_scale_at}
use Rattle.rbc_packets.specs.Reading.{track_part_at, train_part_at}
use Rattle.rbc_packets.specs.Steps.{Takes}
use Rattle.rbc_vars.proofs.Values.{direction-again, direction-fits, m_level-again, m_level-fits, q_length-again}
use Rattle.rbc_vars.proofs.Values.{q_length-fits, q_scale-again, q_scale-fits}
use Rattle.rbc_vars.specs.declared.direction.Direction.{Direction}
use Rattle.rbc_vars.specs.declared.length.QLength.{QLength}
use Rattle.rbc_vars.specs.declared.level.MLevel.{MLevel}
use Rattle.rbc_vars.specs.declared.scale.QScale.{QScale}
use Rattle.rbc_vars.specs.Values.{direction_value, m_level_value, q_length_value, q_scale_value}

-- # Bits that are filled up to whole bytes.

-- bits, and the filling bits up to whole bytes
pub filled-parts : (bits : List Bool) → filled bits ≡ bits ++ replicate (filling (length bits)) false
unfolding filled
filled-parts bits = refl

pub length-filled_bits : (bits : List Bool) → length (filled bits) ≡ length bits + filling (length bits)
length-filled_bits bits =
    ap length (filled-parts bits) ∙ length-append bits (replicate (filling (length bits)) false)
    ∙ ap (λ n. length bits + n) (length-replicate (filling (length bits)) false)

-- how many bytes there are
pub length-filled : (bytes : List ℕ) (bits : List Bool) → bits_of bytes ≡ filled bits
    → 8 * length bytes ≡ length bits + filling (length bits)
length-filled bytes bits e = sym (length-bits_of bytes) ∙ ap length e ∙ length-filled_bits bits

pub filled-narrow : (bytes : List ℕ) (bits : List Bool) → bits_of bytes ≡ filled bits
    → 8 * length bytes ≤ length bits + 7
filled-narrow bytes bits e = omega (arith, length-filled bytes bits e)

-- the bits are at the front
pub filled-front : (bytes : List ℕ) (bits : List Bool) → bits_of bytes ≡ filled bits
    → take (length bits) (bits_of bytes) ≡ bits
filled-front bytes bits e =
    ap (take (length bits)) (e ∙ filled-parts bits)
    ∙ take_at bits (replicate (filling (length bits)) false) (length bits) refl

-- # The bits of consecutive fields.

pub joined-nil : joined [] ≡ []
unfolding joined
joined-nil = refl

pub joined-cons : (f : Field) (fields : List Field) → joined (f ∷ fields) ≡ field f.0 f.1 ++ joined fields
unfolding joined
joined-cons f fields = refl

pub joined-append : (a b : List Field) → joined (a ++ b) ≡ joined a ++ joined b
joined-append [] b = sym (ap (λ t. t ++ joined b) joined-nil)
joined-append (f ∷ fields) b =
    joined-cons f (fields ++ b) ∙ ap (λ t. field f.0 f.1 ++ t) (joined-append fields b)
    ∙ sym (append_assoc (field f.0 f.1) (joined fields) (joined b))
    ∙ ap (λ t. t ++ joined b) (sym (joined-cons f fields))

pub widths-append : (a b : List Field) → widths (a ++ b) ≡ widths a + widths b
widths-append [] b = sym (omega arith)
widths-append (f ∷ fields) b = omega (arith, widths-append fields b)

pub length-joined : (fields : List Field) → length (joined fields) ≡ widths fields
length-joined [] = ap length joined-nil
length-joined (f ∷ fields) =
    let l = length-append (field f.0 f.1) (joined fields) in
    rw (joined-cons f fields, l, length-field f.0 f.1, length-joined fields) refl

-- ---- fields, and bits after them

abbrev pub followed : List Field → List Bool → List Bool
followed [] rest = rest
followed (f ∷ fields) rest = field f.0 f.1 ++ followed fields rest

pub joined-followed : (fields : List Field) (rest : List Bool) → joined fields ++ rest ≡ followed fields rest
joined-followed [] rest = ap (λ t. t ++ rest) joined-nil
joined-followed (f ∷ fields) rest =
    ap (λ t. t ++ rest) (joined-cons f fields) ∙ append_assoc (field f.0 f.1) (joined fields) rest
    ∙ ap (λ t. field f.0 f.1 ++ t) (joined-followed fields rest)

pub followed-append : (a b : List Field) (rest : List Bool) → followed (a ++ b) rest ≡ followed a (followed b rest)
followed-append [] b rest = refl
followed-append (f ∷ fields) b rest = ap (λ t. field f.0 f.1 ++ t) (followed-append fields b rest)

-- ---- the written bits

-- fields after those already written, and others after them
pub written-then : (w x y : List Bool) (a b : List Field) → x ≡ w ++ joined a → y ≡ x ++ joined b
    → y ≡ w ++ joined (a ++ b)
written-then w x y a b p q =
    q ∙ ap (λ t. t ++ joined b) p ∙ append_assoc w (joined a) (joined b) ∙ ap (λ t. w ++ t) (sym (joined-append a b))

pub opaque-written : (w head all bits : List Bool) (n l : ℕ) (p : Packet)
    → head ≡ w ++ joined ((8, n) ∷ (13, l) ∷ []) → all ≡ head ++ bits
    → n ≡ p.nid_packet → l ≡ 21 + length p.bits → bits ≡ p.bits
    → all ≡ w ++ (joined ((8, p.nid_packet) ∷ []) ++ opaque_bits p)
unfolding opaque_bits joined
opaque-written w head all bits n l p head-is all-is n-is l-is bits-is =
    rw (all-is, head-is, n-is, l-is, bits-is) (simp (append-nil, append_assoc))

-- the header of a centre's packet is one field
pub track_header-at_once : (nid_packet l_packet : ℕ) → l_packet < 2 ^ 13
    → field 23 (32768 * nid_packet + 8192 + l_packet) ≡ joined ((8, nid_packet) ∷ (2, 1) ∷ (13, l_packet) ∷ [])
unfolding joined
track_header-at_once nid_packet l_packet fits =
    let low = 1 * 2 ^ 13 + l_packet in
    let value : 32768 * nid_packet + 8192 + l_packet ≡ nid_packet * 2 ^ 15 + low = omega arith in
    ap (field 23) value ∙ sym (field-append 8 15 nid_packet low (omega arith))
    ∙ ap (λ t. field 8 nid_packet ++ t) (sym (field-append 2 13 1 l_packet fits)
    ∙ ap (λ t. field 2 1 ++ t) (sym (append-nil (field 13 l_packet))))

-- # A spelled value is read: the parts that packets have in common.

-- the value read, and the bits after it, are the program's answer
pub takes-only : {A F : Type 0} (r : Result A F) (new rest : List Bool) (x : A) (read : Result (A × List Bool) F)
    → Takes (λ y. y) r new read → read ≡ Ok (x, rest) → (r ≡ Ok x) × (new ≡ rest)
takes-only {A = A} (Ok y) new rest x read t e = let p : (y, new) ≡ (x, rest) = cc in
    (ap (λ (q : A × List Bool). Ok q.0) p, ap (λ (q : A × List Bool). q.1) p)
takes-only {A = A} (Err f) new rest x read t e = absurd cc

pub fixed_at-again : (n value : ℕ) (rest : List Bool) → value < 2 ^ n
    → fixed_at n value (field n value ++ rest) ≡ Ok (tt, rest)
unfolding fixed_at
fixed_at-again n value rest fits =
    let same : eqb value value ≡ true = eq-eqb value value refl in
    rw (field_at-field Length n value rest fits, same) refl

pub q_scale_at-again : (v : QScale) (rest : List Bool) → q_scale_at (field 2 (q_scale_value v) ++ rest) ≡ Ok (v, rest)
unfolding q_scale_at
q_scale_at-again v rest = rw (field_at-field Length 2 (q_scale_value v) rest (q_scale-fits v), q_scale-again v) refl

pub direction_at-again : (v : Direction) (rest : List Bool)
    → direction_at (field 2 (direction_value v) ++ rest) ≡ Ok (v, rest)
unfolding direction_at
direction_at-again v rest =
    rw (field_at-field Length 2 (direction_value v) rest (direction-fits v), direction-again v) refl

pub q_length_at-again : (v : QLength) (rest : List Bool)
    → q_length_at (field 2 (q_length_value v) ++ rest) ≡ Ok (v, rest)
unfolding q_length_at
q_length_at-again v rest = rw (field_at-field Length 2 (q_length_value v) rest (q_length-fits v), q_length-again v) refl

pub m_level_at-again : (v : MLevel) (rest : List Bool) → m_level_at (field 3 (m_level_value v) ++ rest) ≡ Ok (v, rest)
unfolding m_level_at
m_level_at-again v rest = rw (field_at-field Length 3 (m_level_value v) rest (m_level-fits v), m_level-again v) refl

pub none_left-again : none_left [] ≡ Ok tt
unfolding none_left
none_left-again = refl

-- ---- headers

pub train_part_at-again : (part rest : List Bool) → length part < 8171
    → train_part_at (field 13 (21 + length part) ++ (part ++ rest)) ≡ Ok (part, rest)
unfolding train_part_at
train_part_at-again part rest few =
    let long : ltb (21 + length part) 21 ≡ false = le-ltb _ _ (omega arith) in
    let n : 21 + length part - 21 ≡ length part = omega arith in
    rw (
      field_at-field Short 13 (21 + length part) (part ++ rest) (omega arith),
      long,
      n,
      part_at-part Short (length part) part rest refl,
    ) refl

pub track_part_at-again : (part rest : List Bool) → length part < 8169
    → track_part_at (field 2 1 ++ (field 13 (23 + length part) ++ (part ++ rest))) ≡ Ok (part, rest)
unfolding track_part_at
track_part_at-again part rest few =
    let long : ltb (23 + length part) 23 ≡ false = le-ltb _ _ (omega arith) in
    let n : 23 + length part - 23 ≡ length part = omega arith in
    rw (
      field_at-field Short 2 1 (field 13 (23 + length part) ++ (part ++ rest)) (omega arith),
      field_at-field Short 13 (23 + length part) (part ++ rest) (omega arith),
      long,
      n,
      part_at-part Short (length part) part rest refl,
    ) refl

-- the bits of a packet after NID_PACKET
pub train_packet-parts : (fields : List Field) (rest : List Bool)
    → joined (train_packet fields) ++ rest ≡ field 13 (21 + length (joined fields)) ++ (joined fields ++ rest)
train_packet-parts fields rest =
    ap (λ t. t ++ rest) (joined-cons (13, 21 + widths fields) fields)
    ∙ append_assoc (field 13 (21 + widths fields)) (joined fields) rest
    ∙ ap (λ n. field 13 (21 + n) ++ (joined fields ++ rest)) (sym (length-joined fields))

pub track_packet-parts : (fields : List Field) (rest : List Bool)
    → joined (track_packet fields) ++ rest ≡ field 2 1
    ++ (field 13 (23 + length (joined fields)) ++ (joined fields ++ rest))
track_packet-parts fields rest =
    joined-followed (track_packet fields) rest
    ∙ ap (λ t. field 2 1 ++ (field 13 (23 + widths fields) ++ t)) (sym (joined-followed fields rest))
    ∙ ap (λ n. field 2 1 ++ (field 13 (23 + n) ++ (joined fields ++ rest))) (sym (length-joined fields))

-- ---- the bits spell the value that the code read

pub train_found : (old part new : List Bool) (fields : List Field) → old ≡ field 13 (21 + length part) ++ (part ++ new)
    → part ≡ joined fields → old ≡ joined (train_packet fields) ++ new
train_found old part new fields header whole =
    header ∙ ap (λ t. field 13 (21 + length t) ++ (t ++ new)) whole ∙ sym (train_packet-parts fields new)

pub track-found : (old part left new : List Bool) (fields : List Field)
    → old ≡ field 2 1 ++ (field 13 (23 + length part) ++ (part ++ new)) → part ≡ joined fields ++ left → left ≡ []
    → old ≡ joined (track_packet fields) ++ new
track-found old part left new fields header all none =
    let whole : part ≡ joined fields = all ∙ ap (λ t. joined fields ++ t) none ∙ append-nil (joined fields) in
    header ∙ ap (λ t. field 2 1 ++ (field 13 (23 + length t) ++ (t ++ new))) whole ∙ sym (track_packet-parts fields new)

-- # A spelled value is read: packets that are kept without being read.

pub opaque-parts : (p : Packet) (rest : List Bool) → opaque_bits p ++ rest
    ≡ field 13 (21 + length p.bits) ++ (p.bits ++ rest)
unfolding opaque_bits joined
opaque-parts p rest = simp (append-nil, append_assoc)

pub opaque_at-again : (p : Packet) (rest : List Bool) → PacketFits p
    → opaque_at p.nid_packet (opaque_bits p ++ rest) ≡ Ok (p, rest)
unfolding opaque_at
opaque_at-again p rest fits = rw (opaque-parts p rest, train_part_at-again p.bits rest fits.bits) refl

pub opaque-found : (old part new : List Bool) (n : ℕ) (p : Packet) → old ≡ field 13 (21 + length part) ++ (part ++ new)
    → p ≡ record { nid_packet = n; bits = part } → old ≡ opaque_bits p ++ new
opaque-found old part new n p header p-is =
    header ∙ sym (opaque-parts (record { nid_packet = n; bits = part }) new) ∙ ap (λ q. opaque_bits q ++ new) (sym p-is)

-- # Parts of bits: when none is cut off.

few : {A F : Type 0} (b : Bool) (d e : F) (x : A) → cond b (Err d) (Ok x) ≡ Err e → b ≡ true
few true d e x h = refl
few false d e x h = absurd cc

-- no part is cut off if and only if too few bits are left
pub part_at_err : {F : Type 0} (short e : F) (n : ℕ) (bits : List Bool) → part_at short n bits ≡ Err e → length bits < n
unfolding part_at
part_at_err short e n bits h = ltb-true (length bits) n (few (ltb (length bits) n) short e (take n bits, drop n bits) h)

pub part_at-few : {F : Type 0} (short : F) (n : ℕ) (bits : List Bool) → length bits < n
    → part_at short n bits ≡ Err short
unfolding part_at
part_at-few short n bits few = rw (lt-ltb (length bits) n few) refl
