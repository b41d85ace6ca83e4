-- A message with as many bytes as L_MESSAGE names is not called too short.
use Rattle.std.proofs.Common.{◌*◌, ◌+◌, ◌∙◌, ◌≡◌, ◌≢◌, ◌≤◌, ◌⊎◌, ap, arith, Bool, eqb, Err, false, inl, inr, leb}
use Rattle.std.proofs.Common.{length, length-append, length-take, List, ltb, None, not, Ok, Option, refl, Result, Some}
use Rattle.std.proofs.Common.{suc, sym, take, true, zero, ℕ}
use Rattle.std.proofs.lemmas.Bool.{le-ltb}
use Rattle.std.specs.List.{find}
use Rattle.std.specs.Option.{ok_or}
use Rattle.std.specs.Prelude.{◌==◌}
use borrow.Author.Tests.{ltb-false}
use Rattle.rbc_bits.proofs.Bytes.{length-bits_of}
use Rattle.rbc_bits.proofs.Fields.{field_at_ok, length-field}
use Rattle.rbc_bits.specs.Bits.{bits_of, field}
use Rattle.rbc_bits.specs.Reading.{field_at}
use Rattle.rbc_msgs.proofs.Needed.{announced, bind-ok, least-some, needed-many, needed-range, not-refused}
use Rattle.rbc_msgs.specs.declared.fault.MsgFault.{MsgFault}
use Rattle.rbc_msgs.specs.declared.fault.MsgFault.TheVariants as faults
use Rattle.rbc_msgs.specs.declared.number.TrainNumber.{TrainNumber}
use Rattle.rbc_msgs.specs.declared.number.TrainNumber.TheVariants as number
use Rattle.rbc_msgs.specs.Numbers.{least_train_length, train_number_value, train_numbers, train_of_number}
use Rattle.rbc_msgs.specs.Reading.{end_at, packet_read, required_at, start_at, time_at, whole_at}
use Rattle.rbc_msgs.specs.Streams.{l_message_at, needed_at}
use Rattle.rbc_msgs.specs.TrainReading.{answered_at, data_packet_at, further_at, further_packet_at, position_packet_at}
use Rattle.rbc_msgs.specs.TrainReading.{read_train, request_at, start_of_mission_at, train_body_at, train_data_at}
use Rattle.rbc_packets.specs.declared.fault.PacketFault.{PacketFault}
use Rattle.rbc_packets.specs.declared.fault.PacketFault.TheVariants as packet
use Rattle.rbc_packets.specs.OpaqueReading.{opaque_at}
use Rattle.rbc_packets.specs.PositionReading.{position_at}
use Rattle.rbc_packets.specs.Steps.{◌>>=◌, refuse}
use Rattle.rbc_spec.specs.Message.{unknown_time}
use Rattle.rbc_vars.specs.Values.{q_status_of}

-- ---- steps

abbrev IsLong : {A : Type 0} → Result A MsgFault → Type 0
IsLong r = r ≢ Err faults.Short

long-ok : {A : Type 0} (x : A) → IsLong (Ok x)
long-ok x e = cc

long-err : {A : Type 0} (fault : MsgFault) → fault ≢ faults.Short → IsLong {A = A} (Err fault)
long-err fault ne e = ne (cc e)

long-then : {A B : Type 0} (r : Result A MsgFault) (f : A → Result B MsgFault) → IsLong r
    → ((x : A) → r ≡ Ok x → IsLong (f x)) → IsLong (r >>= f)
long-then (Ok x) f p q = q x refl
long-then (Err fault) f p q = long-err fault (λ e. p (ap (λ y. Err y) e))

long-refuse : (b : Bool) (fault : MsgFault) → fault ≢ faults.Short → IsLong (refuse b fault)
long-refuse true fault ne = long-err fault ne
long-refuse false fault ne = long-ok tt

-- a test, and the steps after it
long-tested : {B : Type 0} (b : Bool) (fault : MsgFault) (r : Result B MsgFault) → fault ≢ faults.Short
    → (b ≡ false → IsLong r) → IsLong (refuse b fault >>= λ _. r)
long-tested true fault r ne q = long-err fault ne
long-tested false fault r ne q = q refl

ltb-by : (m n : ℕ) (b : Bool) → ltb m n ≡ b → (ltb m n ≡ true) ⊎ (ltb m n ≡ false)
ltb-by m n true e = inl e
ltb-by m n false e = inr e

pub ltb-cases : (m n : ℕ) → (ltb m n ≡ true) ⊎ (ltb m n ≡ false)
ltb-cases m n = ltb-by m n (ltb m n) refl

-- a field that is wholly within the bits
long-field : (n : ℕ) (bits : List Bool) → n ≤ length bits → IsLong (field_at faults.Short n bits)
unfolding field_at
long-field n bits le = let t : ltb (length bits) n ≡ false = le-ltb _ _ le in rw t (long-ok _)

-- the rest after it
left-of : (n : ℕ) (bits : List Bool) (x : ℕ × List Bool) → field_at faults.Short n bits ≡ Ok x
    → length bits ≡ n + length x.1
left-of n bits x e =
    let parts = (field_at_ok faults.Short n bits x.0 x.1 e).0 in
    omega (arith, ap length parts, length-append (field n x.0) x.1, length-field n x.0)

-- a field with another fault
long-other : (fault : MsgFault) (n : ℕ) (bits : List Bool) (b : Bool) → ltb (length bits) n ≡ b → fault ≢ faults.Short
    → IsLong (field_at fault n bits)
unfolding field_at
long-other fault n bits true t ne = rw t (long-err fault ne)
long-other fault n bits false t ne = rw t (long-ok _)

long-packet : {A : Type 0} (r : Result A PacketFault) → IsLong (packet_read r)
long-packet (Ok x) = long-ok x
long-packet (Err packet.Short) = long-err faults.Packet (λ e. cc)
long-packet (Err packet.Length) = long-err faults.Packet (λ e. cc)
long-packet (Err packet.Value) = long-err faults.Value (λ e. cc)
long-packet (Err packet.Memory) = long-err faults.Memory (λ e. cc)

long-or : {A : Type 0} (o : Option A) (fault : MsgFault) → fault ≢ faults.Short → IsLong (ok_or o fault)
long-or None fault ne = long-err fault ne
long-or (Some x) fault ne = long-ok x

-- ---- packets

long-required : (n : ℕ) (bits : List Bool) → IsLong (required_at n bits)
unfolding required_at
long-required n bits =
    long-then (field_at faults.Missing 8 bits) _ (long-other faults.Missing 8 bits _ refl (λ e. cc))
    (λ x e. long-tested (not (eqb x.0 n)) faults.Missing (Ok (tt, x.1)) (λ e2. cc) (λ t. long-ok (tt, x.1)))

long-position : (bits : List Bool) → IsLong (position_packet_at bits)
unfolding position_packet_at
long-position bits = long-then (required_at 0 bits) _ (long-required 0 bits) (λ x e. long-packet (position_at x.1))

long-data : (bits : List Bool) → IsLong (data_packet_at bits)
unfolding data_packet_at
long-data bits = long-then (required_at 11 bits) _ (long-required 11 bits) (λ x e. long-packet (opaque_at 11 x.1))

long-further_packet : (bits : List Bool) → 8 ≤ length bits → IsLong (further_packet_at bits)
unfolding further_packet_at
long-further_packet bits le =
    long-then (field_at faults.Short 8 bits) _ (long-field 8 bits le)
    (λ x e. long-tested (eqb x.0 0) faults.Value (packet_read (opaque_at x.0 x.1)) (λ e2. cc)
    (λ t. long-packet (opaque_at x.0 x.1)))

long-further : (n : ℕ) (bits : List Bool) → IsLong (further_at n bits)
unfolding further_at
long-further zero bits = long-ok _
long-further (suc n) bits =
    elim (ltb-cases (length bits) 8) [
      | inl t ↦ rw t (long-ok _)
      | inr t ↦
          rw t
          (long-then (further_packet_at bits) _ (long-further_packet bits (ltb-false _ _ t))
          (λ x e. long-then (further_at n x.1) _ (long-further n x.1) (λ y e2. long-ok _)))
    ]

-- ---- bodies: the fixed fields have room

long-train_data : (bits : List Bool) → IsLong (train_data_at bits)
unfolding train_data_at
long-train_data bits =
    long-then (position_packet_at bits) _ (long-position bits)
    (λ x e. long-then (data_packet_at x.1) _ (long-data x.1) (λ y e2. long-ok _))

long-request : (bits : List Bool) → 5 ≤ length bits → IsLong (request_at bits)
unfolding request_at
long-request bits le =
    long-then (field_at faults.Short 5 bits) _ (long-field 5 bits le)
    (λ x e. long-then (position_packet_at x.1) _ (long-position x.1) (λ y e2. long-ok _))

long-answered : (bits : List Bool) → 32 ≤ length bits → IsLong (answered_at bits)
unfolding answered_at
long-answered bits le =
    long-then (field_at faults.Short 32 bits) _ (long-field 32 bits le)
    (λ x e. long-then (position_packet_at x.1) _ (long-position x.1) (λ y e2. long-ok _))

long-start : (bits : List Bool) → 2 ≤ length bits → IsLong (start_of_mission_at bits)
unfolding start_of_mission_at
long-start bits le =
    long-then (field_at faults.Short 2 bits) _ (long-field 2 bits le)
    (λ x e. long-then (ok_or (q_status_of x.0) faults.Value) _ (long-or (q_status_of x.0) faults.Value (λ e2. cc))
    (λ s e3. long-then (position_packet_at x.1) _ (long-position x.1) (λ y e4. long-ok _)))

long-body : (k : TrainNumber) (bits : List Bool) → 8 * least_train_length k ≤ 74 + length bits
    → IsLong (train_body_at k bits)
long-body number.TrainData bits h = long-train_data bits
long-body number.Request bits h = long-request bits (omega arith)
long-body number.Report bits h = long-then (position_packet_at bits) _ (long-position bits) (λ x e. long-ok _)
long-body number.ShorteningGranted bits h =
    long-then (answered_at bits) _ (long-answered bits (omega arith)) (λ x e. long-ok _)
long-body number.ShorteningRejected bits h =
    long-then (answered_at bits) _ (long-answered bits (omega arith)) (λ x e. long-ok _)
long-body number.EndOfMission bits h = long-then (position_packet_at bits) _ (long-position bits) (λ x e. long-ok _)
long-body number.InitiationOfSession bits h = long-ok _
long-body number.TerminationOfSession bits h = long-ok _
long-body number.StartOfMission bits h = long-start bits (omega arith)
long-body number.SessionEstablished bits h = long-ok _

-- ---- the end, and the header

long-end : (bits : List Bool) → IsLong (end_at faults.Packet bits)
unfolding end_at
long-end bits =
    long-tested (leb 8 (length bits)) faults.Packet
    (field_at faults.Short (length bits) bits >>= λ filling. refuse (not (eqb filling.0 0)) faults.Padding) (λ e. cc)
    (λ t. long-then (field_at faults.Short (length bits) bits) _ (long-field (length bits) bits (omega arith))
    (λ x e. long-refuse (not (eqb x.0 0)) faults.Padding (λ e2. cc)))

long-time : (bits : List Bool) → 32 ≤ length bits → IsLong (time_at bits)
unfolding time_at
long-time bits le =
    long-then (field_at faults.Short 32 bits) _ (long-field 32 bits le)
    (λ x e. long-tested (eqb x.0 unknown_time) faults.Value (Ok x) (λ e2. cc) (λ t. long-ok x))

time-left-tested : (bits : List Bool) (x y : ℕ × List Bool) (b : Bool) → field_at faults.Short 32 bits ≡ Ok y
    → (refuse b faults.Value >>= λ _. Ok y) ≡ Ok x → length bits ≡ 32 + length x.1
time-left-tested bits x y true f e = cc
time-left-tested bits x y false f e = let same : y ≡ x = cc e in
    omega (arith, left-of 32 bits y f, ap (λ z. length z.1) same)

time-left-by : (bits : List Bool) (x : ℕ × List Bool) (r : Result (ℕ × List Bool) MsgFault)
    → field_at faults.Short 32 bits ≡ r → (r >>= λ y. refuse (eqb y.0 unknown_time) faults.Value >>= λ _. Ok y) ≡ Ok x
    → length bits ≡ 32 + length x.1
time-left-by bits x (Ok y) f e = time-left-tested bits x y (eqb y.0 unknown_time) f e
time-left-by bits x (Err fault) f e = cc

-- the rest after T_TRAIN
time-left : (bits : List Bool) (x : ℕ × List Bool) → time_at bits ≡ Ok x → length bits ≡ 32 + length x.1
unfolding time_at
time-left bits x e = time-left-by bits x (field_at faults.Short 32 bits) refl e

-- ---- NID_MESSAGE and L_MESSAGE

long-start_at : (bytes : List ℕ) → 3 ≤ length bytes → IsLong (start_at bytes)
unfolding start_at
long-start_at bytes many =
    let t : ltb (length bytes) 3 ≡ false = le-ltb _ _ many in
    let first = bits_of (take 3 bytes) in
    let wide : length first ≡ 24 = omega (arith, length-bits_of (take 3 bytes), length-take 3 bytes) in
    rw t
    (long-then (field_at faults.Short 8 first) _ (long-field 8 first (omega arith))
    (λ x e. long-then (field_at faults.Short 10 x.1) _ (long-field 10 x.1 (omega (arith, left-of 8 first x e)))
    (λ y e2. long-ok _)))

long-number : (n : ℕ) → IsLong (train_of_number n)
unfolding train_of_number
long-number n = long-or (find (λ k. train_number_value k == n) train_numbers) faults.UnknownNumber (λ e. cc)

pub long-l_message : (bytes : List ℕ) → 3 ≤ length bytes → IsLong (l_message_at bytes)
unfolding l_message_at
long-l_message bytes many =
    long-then (start_at bytes) _ (long-start_at bytes many)
    (λ x e. long-then (train_of_number x.0) _ (long-number x.0)
    (λ k e2. long-tested (ltb x.1 (least_train_length k)) faults.Length (Ok x.1) (λ e3. cc) (λ t. long-ok x.1)))

-- ---- the whole message

long-whole : (least l : ℕ) (bytes : List ℕ) → l ≡ length bytes → 3 ≤ l → IsLong (whole_at least l bytes)
unfolding whole_at
long-whole least l bytes same many =
    let there : ltb (length bytes) l ≡ false = le-ltb _ _ (omega arith) in
    let no-more : ltb l (length bytes) ≡ false = le-ltb _ _ (omega arith) in
    let bits : IsLong (field_at faults.Short 18 (bits_of bytes) >>= λ start. Ok start.1) =
    long-then (field_at faults.Short 18 (bits_of bytes)) (λ start. Ok start.1)
    (long-field 18 (bits_of bytes) (omega (arith, length-bits_of bytes))) (λ x e. long-ok x.1) in
    rw (there, no-more)
    (long-tested (ltb l least) faults.Length (field_at faults.Short 18 (bits_of bytes) >>= λ start. Ok start.1)
    (λ e. cc) (λ t. bits))

-- the bits after L_MESSAGE
whole-bits : List ℕ → Result (List Bool) MsgFault
whole-bits bytes = field_at faults.Short 18 (bits_of bytes) >>= λ start. Ok start.1

no-more-bytes : ℕ → List ℕ → Result (List Bool) MsgFault
no-more-bytes l bytes = refuse (ltb l (length bytes)) faults.Length >>= λ _. whole-bits bytes

all-bytes : ℕ → List ℕ → Result (List Bool) MsgFault
all-bytes l bytes = refuse (ltb (length bytes) l) faults.Short >>= λ _. no-more-bytes l bytes

whole-left : (least l : ℕ) (bytes : List ℕ) (bits : List Bool) → whole_at least l bytes ≡ Ok bits
    → (least ≤ l) × (8 * length bytes ≡ 18 + length bits)
unfolding whole_at all-bytes no-more-bytes whole-bits
whole-left least l bytes bits e =
    let one = bind-ok (refuse (ltb l least) faults.Length) (λ _. all-bytes l bytes) bits e in
    let two = bind-ok (refuse (ltb (length bytes) l) faults.Short) (λ _. no-more-bytes l bytes) bits one.2 in
    let three = bind-ok (refuse (ltb l (length bytes)) faults.Length) (λ _. whole-bits bytes) bits two.2 in
    let four = bind-ok (field_at faults.Short 18 (bits_of bytes)) (λ start. Ok start.1) bits three.2 in
    let same : four.0.1 ≡ bits = cc four.2 in (
      ltb-false l least (not-refused _ faults.Length one.0 one.1),
      omega (arith, left-of 18 (bits_of bytes) four.0 four.1, length-bits_of bytes, ap length same),
    )

long-after : (start : ℕ × ℕ) (k : TrainNumber) (bytes : List ℕ) → start.1 ≡ length bytes → 3 ≤ start.1
    → start_at bytes ≡ Ok start → train_of_number start.0 ≡ Ok k → least_train_length k ≤ start.1
    → IsLong (read_train bytes)
unfolding read_train
long-after start k bytes same many s-at n-at least =
    let ten = least-some k in
    rw (s-at, n-at)
    (long-then (whole_at (least_train_length k) start.1 bytes) _
    (long-whole (least_train_length k) start.1 bytes same many) (λ bits e.
    let left = (whole-left (least_train_length k) start.1 bytes bits e).1 in
    long-then (time_at bits) _ (long-time bits (omega arith)) (λ t e2.
    let t-left = time-left bits t e2 in
    long-then (field_at faults.Short 24 t.1) _ (long-field 24 t.1 (omega arith)) (λ g e3.
    let g-left = left-of 24 t.1 g e3 in
    long-then (train_body_at k g.1) _ (long-body k g.1 (omega arith)) (λ b e4.
    long-then (further_at (length b.1) b.1) _ (long-further (length b.1) b.1) (λ f e5.
    long-then (end_at faults.Packet f.1) _ (long-end f.1) (λ u e6. long-ok _)))))))

pub long-read : (bytes : List ℕ) → needed_at bytes ≡ Ok (length bytes) → IsLong (read_train bytes)
long-read bytes e =
    let range = needed-range bytes (length bytes) e in
    let h = announced bytes (length bytes) (sym (needed-many bytes (omega arith)) ∙ e) in
    let same = h.same in
    long-after h.start h.number bytes h.same (omega arith) h.started h.known (ltb-false _ _ h.enough)
