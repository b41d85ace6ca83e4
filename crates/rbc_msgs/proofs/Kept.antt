-- The fields that can follow a packet that is kept.
use Rattle.std.proofs.Common.{[], ◌++◌, ◌∷◌, ◌≡◌, ◌≢◌, ◌≤◌, ap, arith, Bool, eqb, Err, false, inl, inr, leb, length}
use Rattle.std.proofs.Common.{length-append, List, ltb, not, Ok, refl, Result, suc, true, zero, ℕ}
use Rattle.std.proofs.lemmas.Bool.{le-ltb}
use Rattle.std.specs.List.{flat_map}
use Rattle.std.specs.Result.{IfErr}
use borrow.Author.Tests.{ltb-false}
use Rattle.rbc_bits.specs.Reading.{field_at}
use Rattle.rbc_msgs.proofs.Further.{IsRead}
use Rattle.rbc_msgs.proofs.NotShort.{ltb-cases}
use Rattle.rbc_msgs.specs.declared.fault.MsgFault.{MsgFault}
use Rattle.rbc_msgs.specs.declared.fault.MsgFault.TheVariants as faults
use Rattle.rbc_msgs.specs.declared.train_body.TrainBody.{TrainBody}
use Rattle.rbc_msgs.specs.Kept.{data_packets, IsAfterPackets, kept_packets, MayKeep}
use Rattle.rbc_msgs.specs.Reading.{end_at, packet_read}
use Rattle.rbc_msgs.specs.TrainReading.{further_at, further_packet_at}
use Rattle.rbc_msgs.specs.TrainSpelling.{packet_bits}
use Rattle.rbc_msgs.specs.TrainText.{TrainText}
use Rattle.rbc_packets.specs.declared.fault.PacketFault.{PacketFault}
use Rattle.rbc_packets.specs.declared.fault.PacketFault.TheVariants as packet
use Rattle.rbc_packets.specs.OpaqueReading.{opaque_at}
use Rattle.rbc_packets.specs.Packet.{Packet}
use Rattle.rbc_packets.specs.Steps.{◌>>=◌, refuse}

-- ---- steps

abbrev IsAfter : {A : Type 0} → Result A MsgFault → Type 0
IsAfter r = IfErr r IsAfterPackets

after-then : {A B : Type 0} (r : Result A MsgFault) (f : A → Result B MsgFault) → IsAfter r → ((x : A) → IsAfter (f x))
    → IsAfter (r >>= f)
after-then (Ok x) f p q = q x
after-then (Err fault) f p q = p

-- a step after such a packet
keeps-then : {A B : Type 0} (packets : B → List Packet) (r : Result A MsgFault) (f : A → Result B MsgFault) → IsAfter r
    → ((x : A) → MayKeep packets (f x)) → MayKeep packets (r >>= f)
keeps-then packets (Ok x) f p q = q x
keeps-then packets (Err fault) f p q = p

-- the step that met it, and the steps after it
met-then : {A B : Type 0} (first : A → List Packet) (packets : B → List Packet) (r : Result A MsgFault)
    (f : A → Result B MsgFault) → MayKeep first r → ((x : A) → first x ≢ [] → MayKeep packets (f x))
    → MayKeep packets (r >>= f)
met-then first packets (Ok x) f p q = q x p
met-then first packets (Err fault) f p q = p

-- ---- packets

after-packet : {A : Type 0} (r : Result A PacketFault) → IsAfter (packet_read r)
after-packet (Ok x) = tt
after-packet (Err packet.Short) = tt
after-packet (Err packet.Length) = tt
after-packet (Err packet.Value) = tt
after-packet (Err packet.Memory) = tt

some-packet : (p : Packet) (ps : List Packet) → p ∷ ps ≢ []
some-packet p ps e = cc

after-refuse : (b : Bool) (fault : MsgFault) → IsAfterPackets fault → IsAfter (refuse b fault)
after-refuse true fault h = h
after-refuse false fault h = tt

after-field : (n : ℕ) (bits : List Bool) → n ≤ length bits → IsAfter (field_at faults.Short n bits)
unfolding field_at
after-field n bits le = let t : ltb (length bits) n ≡ false = le-ltb _ _ le in rw t tt

after-further_packet : (bits : List Bool) → 8 ≤ length bits → IsAfter (further_packet_at bits)
unfolding further_packet_at
after-further_packet bits le =
    after-then (field_at faults.Short 8 bits) _ (after-field 8 bits le)
    (λ n. after-then (refuse (eqb n.0 0) faults.Value) _ (after-refuse (eqb n.0 0) faults.Value tt)
    (λ _. after-packet (opaque_at n.0 n.1)))

after-further : (n : ℕ) (bits : List Bool) → IsAfter (further_at n bits)
unfolding further_at
after-further zero bits = tt
after-further (suc n) bits =
    elim (ltb-cases (length bits) 8) [
      | inl t ↦ rw t tt
      | inr t ↦
          rw t
          (after-then (further_packet_at bits) _ (after-further_packet bits (ltb-false _ _ t))
          (λ first. after-then (further_at n first.1) _ (after-further n first.1) (λ others. tt)))
    ]

-- if 8 or more bits are left, a further packet is kept, or has a fault
keeps-further : (n : ℕ) (bits : List Bool) → 8 ≤ length bits → length bits ≤ n → MayKeep (λ x. x.0) (further_at n bits)
unfolding further_at
keeps-further zero bits long enough = absurd (omega arith)
keeps-further (suc n) bits long enough =
    let t : ltb (length bits) 8 ≡ false = le-ltb _ _ long in
    rw t
    (keeps-then (λ x. x.0) (further_packet_at bits) _ (after-further_packet bits long)
    (λ first. keeps-then (λ x. x.0) (further_at n first.1) _ (after-further n first.1)
    (λ others. some-packet first.0 others.0)))

pub further-kept : (all left : List Bool) (ps : List Packet) → IsRead all left ps → 8 ≤ length left
    → MayKeep (λ x. x.0) (further_at (length all) all)
further-kept all left ps h long =
    keeps-further (length all) all (omega (arith, ap length h.taken, length-append (flat_map packet_bits ps) left))
    (omega arith)

-- ---- a whole message

after-end : (bits : List Bool) → IsAfter (end_at faults.Packet bits)
unfolding end_at
after-end bits =
    after-then (refuse (leb 8 (length bits)) faults.Packet) _ (after-refuse (leb 8 (length bits)) faults.Packet tt)
    (λ _. after-then (field_at faults.Short (length bits) bits) _ (after-field (length bits) bits (omega arith))
    (λ x. after-refuse (not (eqb x.0 0)) faults.Padding tt))

one-of : (front back : List Packet) → front ≢ [] → front ++ back ≢ []
one-of [] back ne = absurd (ne refl)
one-of (p ∷ front) back ne = some-packet p (front ++ back)

one-after : (front back : List Packet) → back ≢ [] → front ++ back ≢ []
one-after [] back ne = ne
one-after (p ∷ front) back ne = some-packet p (front ++ back)

module _ (t_train nid_engine : ℕ) where
  -- the tests after the body
  abbrev ended : TrainBody → List Packet × List Bool → Result TrainText MsgFault
  ended body further =
      end_at faults.Packet further.1
      >>= λ _. Ok (record { t_train = t_train; nid_engine = nid_engine; body = body; further = further.0 })

  -- the further packets needed memory
  pub keeps-after : (body : TrainBody) (bits : List Bool) → MayKeep (λ x. x.0) (further_at (length bits) bits)
      → MayKeep kept_packets (further_at (length bits) bits >>= λ further. ended body further)
  keeps-after body bits h =
      met-then (λ x. x.0) kept_packets (further_at (length bits) bits) _ h
      (λ further ne. keeps-then kept_packets (end_at faults.Packet further.1) _ (after-end further.1)
      (λ _. one-after (data_packets body) further.0 ne))

  -- the train data needed memory
  pub keeps-data : (read : Result (TrainBody × List Bool) MsgFault) → MayKeep (λ x. data_packets x.0) read
      → MayKeep kept_packets (read >>= λ body. further_at (length body.1) body.1 >>= λ further. ended body.0 further)
  keeps-data read h =
      met-then (λ x. data_packets x.0) kept_packets read _ h
      (λ body ne. keeps-then kept_packets (further_at (length body.1) body.1) _ (after-further (length body.1) body.1)
      (λ further. keeps-then kept_packets (end_at faults.Packet further.1) _ (after-end further.1)
      (λ _. one-of (data_packets body.0) further.0 ne)))
