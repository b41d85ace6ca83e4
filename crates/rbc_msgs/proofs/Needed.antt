-- The number of bytes that a message needs, and the bytes that a message of a train takes.
use Rattle.std.proofs.Common.{◌++◌, ◌+◌, ◌/◌, ◌<◌, ◌^◌, ◌∙◌, ◌∷◌, ◌≡◌, ◌≤◌, ap, arith, Bool, drop, Err, false, inl, inr}
use Rattle.std.proofs.Common.{length, length-append, List, ltb, Ok, refl, Result, subst, sym, take, true, ℕ}
use Rattle.std.proofs.lemmas.Bool.{cases_lt, le-ltb, lt-ltb}
use Rattle.std.proofs.lemmas.List.{take-append-drop, take-append-le}
use Rattle.std.proofs.lemmas.List.Concat.{flat_map-append}
use Rattle.std.specs.List.{flat_map}
use borrow.Author.Tests.{ltb-false}
use Rattle.rbc_bits.proofs.Fields.{field_at_ok}
use Rattle.rbc_bits.specs.Bits.{bits_of}
use Rattle.rbc_bits.specs.Reading.{field_at}
use Rattle.rbc_msgs.proofs.TrainLaws.{l_message_at-again, train_length-is}
use Rattle.rbc_msgs.proofs.TrainParts.{length-position}
use Rattle.rbc_msgs.specs.declared.fault.MsgFault.{MsgFault}
use Rattle.rbc_msgs.specs.declared.fault.MsgFault.TheVariants.{Length, Short}
use Rattle.rbc_msgs.specs.declared.number.TrainNumber.{TrainNumber}
use Rattle.rbc_msgs.specs.declared.number.TrainNumber.TheVariants.{EndOfMission, InitiationOfSession, Report, Request}
use Rattle.rbc_msgs.specs.declared.number.TrainNumber.TheVariants.{SessionEstablished, ShorteningGranted}
use Rattle.rbc_msgs.specs.declared.number.TrainNumber.TheVariants.{ShorteningRejected, StartOfMission}
use Rattle.rbc_msgs.specs.declared.number.TrainNumber.TheVariants.{TerminationOfSession, TrainData}
use Rattle.rbc_msgs.specs.declared.train_body.TrainBody.{TrainBody}
use Rattle.rbc_msgs.specs.Numbers.{least_train_length, train_of_number}
use Rattle.rbc_msgs.specs.Reading.{start_at}
use Rattle.rbc_msgs.specs.Streams.{IsRest, l_message_at, needed_at, ShowsFault}
use Rattle.rbc_msgs.specs.TrainReading.{read_train}
use Rattle.rbc_msgs.specs.TrainSpelling.{packet_bits, position_packet, SpellsTrain, train_body_bits, train_length}
use Rattle.rbc_msgs.specs.TrainText.{TrainText}
use Rattle.rbc_packets.proofs.Again.{length-joined}
use Rattle.rbc_packets.specs.declared.position.Position.{Position}
use Rattle.rbc_packets.specs.Layout.{joined, widths}
use Rattle.rbc_packets.specs.Packet.{Packet}
use Rattle.rbc_packets.specs.PositionSpelling.{position_fields}
use Rattle.rbc_packets.specs.Steps.{◌>>=◌, refuse}

-- # How many bytes a train's message takes.

-- the first packets have no more bits than all
pub front-shorter : (i : ℕ) (ps : List Packet)
    → length (flat_map packet_bits (take i ps)) ≤ length (flat_map packet_bits ps)
front-shorter i ps =
    omega (
      arith,
      ap (λ (qs : List Packet). length (flat_map packet_bits qs)) (take-append-drop i ps),
      ap length (flat_map-append packet_bits (take i ps) (drop i ps)),
      length-append (flat_map packet_bits (take i ps)) (flat_map packet_bits (drop i ps)),
    )

-- the parts counted one by one
pub counted : (m : TrainText) (body : TrainBody) (ps : List Packet) (k n : ℕ) → body ≡ m.body → ps ≡ m.further
    → k ≡ length (train_body_bits body) → n ≡ 74 + k + length (flat_map packet_bits ps) → (n + 7) / 8 ≡ train_length m
counted m body ps k n body-is ps-is k-is n-is =
    let same : n ≡ 74 + length (train_body_bits m.body) + length (flat_map packet_bits m.further) =
    omega (
      arith,
      n-is,
      k-is,
      ap (λ b. length (train_body_bits b)) body-is,
      ap (λ (qs : List Packet). length (flat_map packet_bits qs)) ps-is,
    ) in
    ap (λ i. (i + 7) / 8) same ∙ sym (train_length-is m)

pub too-long : (m : TrainText) (body : TrainBody) (ps : List Packet) (k : ℕ) → body ≡ m.body → ps ≡ m.further
    → k ≡ length (train_body_bits body) → 8184 < 74 + k + length (flat_map packet_bits ps) → 1023 < train_length m
too-long m body ps k body-is ps-is k-is many =
    omega (arith, counted m body ps k (74 + k + length (flat_map packet_bits ps)) body-is ps-is k-is refl)

-- ---- the fields between the header and the further packets

pub position-alone : (b : TrainBody) (p : Position) (l : ℕ) → train_body_bits b ≡ joined (position_packet p)
    → l ≡ 21 + widths (position_fields p) → l ≡ length (train_body_bits b)
position-alone b p l e l-is = omega (arith, ap length e, length-position p)

pub field-and-position : (b : TrainBody) (p : Position) (n v l : ℕ)
    → train_body_bits b ≡ joined ((n, v) ∷ position_packet p) → l ≡ 21 + widths (position_fields p)
    → n + l ≡ length (train_body_bits b)
field-and-position b p n v l e l-is = omega (arith, ap length e, length-joined ((n, v) ∷ position_packet p))

pub position-and-packet : (b : TrainBody) (p : Position) (q : Packet) (l k : ℕ)
    → train_body_bits b ≡ joined (position_packet p) ++ packet_bits q → l ≡ 21 + widths (position_fields p)
    → k ≡ length (packet_bits q) → l + k ≡ length (train_body_bits b)
position-and-packet b p q l k e l-is k-is =
    omega (arith, ap length e, length-append (joined (position_packet p)) (packet_bits q), length-position p)

-- # The number of bytes that a message needs, and the decisions that its first bytes allow.

-- ---- steps back

-- two steps gave an answer, so each did
pub bind-ok : {A B : Type 0} (r : Result A MsgFault) (f : A → Result B MsgFault) (y : B) → (r >>= f) ≡ Ok y
    → (x : A) × (r ≡ Ok x) × (f x ≡ Ok y)
bind-ok (Ok x) f y e = (x, refl, e)
bind-ok (Err fault) f y e = cc

pub not-refused : (b : Bool) (fault : MsgFault) (x : Unit {0}) → refuse b fault ≡ Ok x → b ≡ false
not-refused true fault x e = cc
not-refused false fault x e = refl

-- ---- L_MESSAGE is in its range

-- L_MESSAGE, and then the answer
then-l_message : ℕ → List Bool → Result (ℕ × ℕ) MsgFault
then-l_message number bits = field_at Short 10 bits >>= λ l. Ok (number, l.0)

-- NID_MESSAGE, and then L_MESSAGE
then-number : List ℕ → Result (ℕ × ℕ) MsgFault
then-number bytes = field_at Short 8 (bits_of (take 3 bytes)) >>= λ number. then-l_message number.0 number.1

start-range : (bytes : List ℕ) (x : ℕ × ℕ) → start_at bytes ≡ Ok x → x.1 < 2 ^ 10
unfolding start_at then-number then-l_message
start-range bytes x e =
    let long = bind-ok (refuse (ltb (length bytes) 3) Short) (λ _. then-number bytes) x e in
    let number = bind-ok (field_at Short 8 (bits_of (take 3 bytes))) (λ n. then-l_message n.0 n.1) x long.2 in
    let l = bind-ok (field_at Short 10 number.0.1) (λ l. Ok (number.0.0, l.0)) x number.2 in
    let range = (field_at_ok Short 10 number.0.1 l.0.0 l.0.1 l.1).1 in
    let same : l.0.0 ≡ x.1 = cc l.2 in
    subst (λ n. n < 2 ^ 10) same range

pub least-some : (k : TrainNumber) → 10 ≤ least_train_length k
least-some TrainData = omega arith
least-some Request = omega arith
least-some Report = omega arith
least-some ShorteningGranted = omega arith
least-some ShorteningRejected = omega arith
least-some EndOfMission = omega arith
least-some InitiationOfSession = omega arith
least-some TerminationOfSession = omega arith
least-some StartOfMission = omega arith
least-some SessionEstablished = omega arith

-- the test of L_MESSAGE, and then the answer
then-tested : ℕ → TrainNumber → Result ℕ MsgFault
then-tested l_message number = refuse (ltb l_message (least_train_length number)) Length >>= λ _. Ok l_message

-- NID_MESSAGE, and then the test
then-known : ℕ × ℕ → Result ℕ MsgFault
then-known start = train_of_number start.0 >>= λ number. then-tested start.1 number

-- the start of a message that is read, with an L_MESSAGE that it may have
pub record Announces (bytes : List ℕ) (n : ℕ) : Type 0 where
  pub start : ℕ × ℕ
  pub number : TrainNumber
  pub started : start_at bytes ≡ Ok start
  pub known : train_of_number start.0 ≡ Ok number
  pub enough : ltb start.1 (least_train_length number) ≡ false
  pub same : start.1 ≡ n

pub announced : (bytes : List ℕ) (n : ℕ) → l_message_at bytes ≡ Ok n → Announces bytes n
unfolding l_message_at then-known then-tested
announced bytes n e =
    let start = bind-ok (start_at bytes) then-known n e in
    let number = bind-ok (train_of_number start.0.0) (λ k. then-tested start.0.1 k) n start.2 in
    let enough = bind-ok (refuse (ltb start.0.1 (least_train_length number.0)) Length) (λ _. Ok start.0.1) n number.2 in
    record {
      start = start.0;
      number = number.0;
      started = start.1;
      known = number.1;
      enough = not-refused _ Length enough.0 enough.1;
      same = cc enough.2;
    }

l_message-range : (bytes : List ℕ) (n : ℕ) → l_message_at bytes ≡ Ok n → (10 ≤ n) × (n < 2 ^ 10)
l_message-range bytes n e =
    let h = announced bytes n e in
    let least = ltb-false _ _ h.enough in
    let same = h.same in
    let few = start-range bytes h.start h.started in
    let some = least-some h.number in
    (omega arith, omega arith)

-- ---- with fewer bytes than three, and with more

pub needed-few : (bytes : List ℕ) → length bytes < 3 → needed_at bytes ≡ Ok 3
unfolding needed_at
needed-few bytes few = let t : ltb (length bytes) 3 ≡ true = lt-ltb _ _ few in rw t refl

pub needed-many : (bytes : List ℕ) → 3 ≤ length bytes → needed_at bytes ≡ l_message_at bytes
unfolding needed_at
needed-many bytes many = let t : ltb (length bytes) 3 ≡ false = le-ltb _ _ many in rw t refl

pub needed-range : (bytes : List ℕ) (n : ℕ) → needed_at bytes ≡ Ok n → (3 ≤ n) × (n < 2 ^ 10)
needed-range bytes n e =
    elim (cases_lt (length bytes) 3) [
      | inl few ↦ let same : 3 ≡ n = cc (needed-few bytes few) in (omega arith, omega arith)
      | inr many ↦ let range = l_message-range bytes n (sym (needed-many bytes many) ∙ e) in (omega arith, omega arith)
    ]

-- no more than 1 022 bytes are kept
pub rest-short : (bytes : List ℕ) → IsRest bytes → length bytes < 1023
rest-short bytes h = let range = needed-range bytes h.needed h.at in let fewer = h.fewer in omega arith

-- ---- the first three bytes settle it

l_message-front : (a b : List ℕ) → 3 ≤ length a → l_message_at (a ++ b) ≡ l_message_at a
unfolding l_message_at start_at
l_message-front a b many =
    let here : ltb (length a) 3 ≡ false = le-ltb _ _ many in
    let there : ltb (length (a ++ b)) 3 ≡ false = le-ltb _ _ (omega (arith, length-append a b)) in
    rw (here, there, take-append-le 3 a b many) refl

pub needed-front : (a b : List ℕ) → 3 ≤ length a → needed_at (a ++ b) ≡ needed_at a
needed-front a b many =
    needed-many (a ++ b) (omega (arith, length-append a b)) ∙ l_message-front a b many ∙ sym (needed-many a many)

-- if they have a fault, they are there
pub err-many : (bytes : List ℕ) (fault : MsgFault) → needed_at bytes ≡ Err fault → 3 ≤ length bytes
err-many bytes fault e =
    elim (cases_lt (length bytes) 3) [
      | inl few ↦ (let no : 3 ≤ length bytes = cc (needed-few bytes few) in no)
      | inr many ↦ many
    ]

-- and so are they if no more bytes are needed
pub whole-many : (bytes : List ℕ) (n : ℕ) → needed_at bytes ≡ Ok n → n ≤ length bytes → 3 ≤ length bytes
whole-many bytes n e whole = let range = needed-range bytes n e in omega arith

-- ---- faults, with any bytes after them

pub shows-front : (a b : List ℕ) (fault : MsgFault) → ShowsFault a fault → ShowsFault (a ++ b) fault
shows-front a b fault (inl e) = inl (needed-front a b (err-many a fault e) ∙ e)
shows-front a b fault (inr h) =
    let le = h.whole in
    inr (record {
      l_message = h.l_message;
      at = needed-front a b (whole-many a h.l_message h.at h.whole) ∙ h.at;
      whole = omega (arith, length-append a b);
      refused = ap read_train (take-append-le h.l_message a b h.whole) ∙ h.refused;
    })

-- ---- spellings

-- as many bytes are needed as there are, also if more follow
pub spelled-needed : (first later : List ℕ) (m : TrainText) → SpellsTrain first m
    → needed_at (first ++ later) ≡ Ok (length first)
spelled-needed first later m s =
    let l = l_message_at-again first m s in
    let ten = l.0 in
    needed-front first later (omega arith) ∙ needed-many first (omega arith) ∙ l.1
