-- Laws of the spellings of trains' messages: a spelled message is read, and each has one spelling.
use Rattle.std.proofs.Common.{[], ◌*◌, ◌++◌, ◌+◌, ◌/◌, ◌<◌, ◌^◌, ◌∙◌, ◌≡◌, ◌≤◌, ap, append_assoc, arith, Bool, false}
use Rattle.std.proofs.Common.{length, length-append, List, ltb, Ok, refl, replicate, Result, sym, take, ℕ}
use Rattle.std.proofs.lemmas.Bool.{le-ltb}
use Rattle.std.proofs.lemmas.List.Elements.{recursion_from_All}
use Rattle.std.specs.List.{flat_map}
use Rattle.rbc_bits.proofs.Bytes.{bits_of-injective}
use Rattle.rbc_bits.proofs.Fields.{field_at-field}
use Rattle.rbc_bits.specs.Bits.{bits_of, field, filled, filling}
use Rattle.rbc_msgs.proofs.Spelled.{end_at-again, filled-from, filled-made, is-filling, start-found, start_at-again}
use Rattle.rbc_msgs.proofs.Spelled.{starts, starts-apart, time_at-again, whole_at-again}
use Rattle.rbc_msgs.proofs.TrainParts.{body-again, further-again, kind, least, number-again, number-fits}
use Rattle.rbc_msgs.specs.declared.fault.MsgFault.{MsgFault}
use Rattle.rbc_msgs.specs.declared.fault.MsgFault.TheVariants as faults
use Rattle.rbc_msgs.specs.Layout.{Begins, IsBytes, IsFilling, length_limit}
use Rattle.rbc_msgs.specs.Numbers.{least_train_length}
use Rattle.rbc_msgs.specs.Streams.{l_message_at}
use Rattle.rbc_msgs.specs.TrainReading.{read_train}
use Rattle.rbc_msgs.specs.TrainSpelling.{packet_bits, SpellsTrain, train_bits, train_body_bits, train_header}
use Rattle.rbc_msgs.specs.TrainSpelling.{train_length, train_number, TrainBodyFits, TrainFits}
use Rattle.rbc_msgs.specs.TrainText.{TrainText}
use Rattle.rbc_packets.proofs.Again.{filled-parts, joined-followed, length-filled, length-filled_bits, length-joined}
use Rattle.rbc_packets.specs.Layout.{joined}
use Rattle.rbc_packets.specs.Packet.{Packet}
use Rattle.rbc_spec.specs.Message.{unknown_time}

-- # The bits of a train's message, and how its bytes spell it.

-- ---- the bits of a message

further-bits : TrainText → List Bool
further-bits m = flat_map packet_bits m.further

-- the fields after L_MESSAGE
after_length : TrainText → List Bool → List Bool
after_length m rest =
    field 32 m.t_train ++ (field 24 m.nid_engine ++ (train_body_bits m.body ++ (further-bits m ++ rest)))

parts : (l_message : ℕ) (m : TrainText) (rest : List Bool)
    → train_bits l_message m ++ rest ≡ field 8 (train_number m.body) ++ (field 10 l_message ++ after_length m rest)
unfolding train_bits after_length further-bits
parts l_message m rest =
    append_assoc (joined (train_header l_message m)) (train_body_bits m.body ++ flat_map packet_bits m.further) rest
    ∙ joined-followed (train_header l_message m) ((train_body_bits m.body ++ flat_map packet_bits m.further) ++ rest)
    ∙ ap (λ t. field 8 (train_number m.body)
    ++ (field 10 l_message ++ (field 32 m.t_train ++ (field 24 m.nid_engine ++ t))))
    (append_assoc (train_body_bits m.body) (flat_map packet_bits m.further) rest)

fillings : ℕ → TrainText → List Bool
fillings l_message m = replicate (filling (length (train_bits l_message m))) false

starts-spelled : (bytes : List ℕ) (m : TrainText) → SpellsTrain bytes m
    → starts bytes (train_number m.body) (after_length m (fillings (length bytes) m))
unfolding fillings
starts-spelled bytes m s = s.text ∙ filled-parts (train_bits (length bytes) m) ∙ parts (length bytes) m _

-- how many bits it has
length-bits : (l_message : ℕ) (m : TrainText)
    → length (train_bits l_message m) ≡ 74 + length (train_body_bits m.body) + length (further-bits m)
unfolding train_bits further-bits
length-bits l_message m =
    omega (
      arith,
      length-append (joined (train_header l_message m)) (train_body_bits m.body ++ flat_map packet_bits m.further),
      length-joined (train_header l_message m),
      length-append (train_body_bits m.body) (flat_map packet_bits m.further),
    )

-- the length is the same for every L_MESSAGE
pub same-length : (k l : ℕ) (m : TrainText) → length (train_bits k m) ≡ length (train_bits l m)
same-length k l m = length-bits k m ∙ sym (length-bits l m)

pub train_length-is : (m : TrainText)
    → train_length m ≡ (74 + length (train_body_bits m.body) + length (flat_map packet_bits m.further) + 7) / 8
unfolding train_length further-bits
train_length-is m = ap (λ n. (n + 7) / 8) (length-bits 0 m)

-- ---- the message that the code read is spelled by the bytes

pub spells : (bytes : List ℕ) (m : TrainText) (n l_message start : ℕ) (b c d e f : List Bool)
    → n ≡ train_number m.body → length bytes ≡ l_message
    → Begins (bits_of (take 3 bytes)) (field 8 n ++ field 10 l_message) → bits_of bytes ≡ field 18 start ++ b
    → b ≡ field 32 m.t_train ++ c → c ≡ field 24 m.nid_engine ++ d → d ≡ train_body_bits m.body ++ e
    → e ≡ flat_map packet_bits m.further ++ f → IsFilling f
    → length bytes < length_limit → TrainFits m → SpellsTrain bytes m
unfolding after_length further-bits
spells bytes m n l_message start b c d e f number-at len front whole t engine body further fill limit fits =
    let tail : b ≡ after_length m f =
    t ∙ ap (λ x. field 32 m.t_train ++ x)
    (engine ∙ ap (λ x. field 24 m.nid_engine ++ x) (body ∙ ap (λ x. train_body_bits m.body ++ x) further)) in
    let all : bits_of bytes ≡ train_bits (length bytes) m ++ f =
    start-found bytes n l_message start b front whole len
    ∙ ap (λ k. field 8 k ++ (field 10 (length bytes) ++ b)) number-at
    ∙ ap (λ x. field 8 (train_number m.body) ++ (field 10 (length bytes) ++ x)) tail ∙ sym (parts (length bytes) m f) in
    record { text = filled-from bytes (train_bits (length bytes) m) f all fill; l_message = limit; fits = fits }

-- the same without further packets, from the whole header
pub spells-alone : (bytes : List ℕ) (m : TrainText) (n : ℕ) (rest left : List Bool)
    → n ≡ train_number m.body
    → bits_of bytes ≡ field 8 n ++ (field 10 (length bytes) ++ (field 32 m.t_train ++ (field 24 m.nid_engine ++ rest)))
    → rest ≡ train_body_bits m.body ++ left → m.further ≡ [] → IsFilling left → length bytes < length_limit
    → m.t_train < unknown_time → m.nid_engine < 2 ^ 24 → TrainBodyFits m.body → SpellsTrain bytes m
unfolding after_length further-bits
spells-alone bytes m n rest left number-at start body none fill limit time engine fits =
    let after : left ≡ flat_map packet_bits m.further ++ left = ap (λ ps. flat_map packet_bits ps ++ left) (sym none) in
    let tail = body ∙ ap (λ x. train_body_bits m.body ++ x) after in
    let all : bits_of bytes ≡ train_bits (length bytes) m ++ left =
    start ∙ ap (λ k. field 8 k ++ (field 10 (length bytes) ++ (field 32 m.t_train ++ (field 24 m.nid_engine ++ rest))))
    number-at
    ∙ ap (λ x. field 8 (train_number m.body)
    ++ (field 10 (length bytes) ++ (field 32 m.t_train ++ (field 24 m.nid_engine ++ x)))) tail
    ∙ sym (parts (length bytes) m left) in
    record {
      text = filled-from bytes (train_bits (length bytes) m) left all fill;
      l_message = limit;
      fits = record { t_train = time; nid_engine = engine; body = fits; further = rw none tt };
    }

-- # A spelled message is read, and each has one spelling.

pub read_train-again : (bytes : List ℕ) (m : TrainText) → SpellsTrain bytes m → read_train bytes ≡ Ok m
unfolding read_train after_length fillings further-bits
read_train-again bytes m s =
    let bits = train_bits (length bytes) m in
    let wide : 74 + length (train_body_bits m.body) ≤ 8 * length bytes =
    omega (arith, length-filled bytes bits s.text, length-bits (length bytes) m) in
    let at = starts-spelled bytes m s in
    let fill = is-filling bits in
    let rest = fillings (length bytes) m in
    rw (
      start_at-again bytes (train_number m.body) _ (omega arith) s.l_message (number-fits m.body) at,
      number-again m.body,
      whole_at-again (least_train_length (kind m.body)) bytes (train_number m.body) _
          (least m.body (length bytes) wide) s.l_message (number-fits m.body) at,
      time_at-again m.t_train _ s.fits.t_train,
      field_at-field faults.Short 24 m.nid_engine _ s.fits.nid_engine,
      body-again m.body (flat_map packet_bits m.further ++ rest) s.fits.body,
      further-again (length (flat_map packet_bits m.further ++ rest)) m.further rest s.fits.further fill.0
          (omega arith),
      end_at-again faults.Packet rest fill,
    ) refl

-- L_MESSAGE is known from the front
pub l_message_at-again : (bytes : List ℕ) (m : TrainText) → SpellsTrain bytes m
    → (10 ≤ length bytes) × (l_message_at bytes ≡ Ok (length bytes))
unfolding l_message_at
l_message_at-again bytes m s =
    let wide : 74 + length (train_body_bits m.body) ≤ 8 * length bytes =
    omega (arith, length-filled bytes (train_bits (length bytes) m) s.text, length-bits (length bytes) m) in
    let enough : ltb (length bytes) (least_train_length (kind m.body)) ≡ false =
    le-ltb _ _ (least m.body (length bytes) wide) in (
      omega arith,
      rw (
        start_at-again bytes (train_number m.body) _ (omega arith) s.l_message (number-fits m.body)
            (starts-spelled bytes m s),
        number-again m.body,
        enough,
      ) refl,
    )

-- ---- the written bytes are a spelling

pub written : (bytes : List ℕ) (m : TrainText) (l_message : ℕ) (all : List Bool) → all ≡ train_bits l_message m
    → bits_of bytes ≡ filled all
    → l_message ≡ train_length m → l_message < length_limit → TrainFits m → SpellsTrain bytes m
unfolding train_length
written bytes m l_message all all-is text l-is limit fits =
    let spelled : bits_of bytes ≡ filled (train_bits l_message m) = text ∙ ap filled all-is in
    let len : length bytes ≡ l_message =
    omega (arith, length-filled bytes (train_bits l_message m) spelled, same-length l_message 0 m) in
    record { text = spelled ∙ ap (λ k. filled (train_bits k m)) (sym len); l_message = omega arith; fits = fits }

-- the header, and the fields written after it
pub written-parts : (m : TrainText) (l_message : ℕ) (header body all : List Bool)
    → header ≡ joined (train_header l_message m) → body ≡ header ++ train_body_bits m.body
    → all ≡ body ++ flat_map packet_bits m.further → all ≡ train_bits l_message m
unfolding train_bits
written-parts m l_message header body all header-is body-is all-is =
    all-is ∙ ap (λ t. t ++ flat_map packet_bits m.further) (body-is ∙ ap (λ t. t ++ train_body_bits m.body) header-is)
    ∙ append_assoc (joined (train_header l_message m)) (train_body_bits m.body) (flat_map packet_bits m.further)

-- ---- the laws of spellings

pub each_train_message : (m : TrainText) → TrainFits m → train_length m < length_limit
    → (bytes : List ℕ) × IsBytes bytes × SpellsTrain bytes m
unfolding train_length
each_train_message m fits short =
    let k = train_length m in
    let bits = train_bits k m in
    let made = filled-made bits k (omega (arith, length-filled_bits bits, same-length k 0 m)) in
    (made.0, made.1, written made.0 m k bits refl made.2 refl short fits)

pub one_train_spelling : (a b : List ℕ) (m : TrainText) → IsBytes a → IsBytes b → SpellsTrain a m → SpellsTrain b m
    → a ≡ b
one_train_spelling a b m a-bytes b-bytes p q =
    let len : length a ≡ length b =
    omega (arith, length-filled a _ p.text, length-filled b _ q.text, same-length (length a) (length b) m) in
    let bits : bits_of a ≡ bits_of b = p.text ∙ ap (λ n. filled (train_bits n m)) len ∙ sym q.text in
    bits_of-injective a b (recursion_from_All (λ x. x < 256) a a-bytes)
    (recursion_from_All (λ x. x < 256) b b-bytes) bits

same_ok : (m n : TrainText) (r : Result TrainText MsgFault) → r ≡ Ok m → r ≡ Ok n → m ≡ n
same_ok m n r p q = cc

pub one_train_message : (a : List ℕ) (m n : TrainText) → SpellsTrain a m → SpellsTrain a n → m ≡ n
one_train_message a m n p q = same_ok m n (read_train a) (read_train-again a m p) (read_train-again a n q)

pub train_spellings-apart : (a b x y : List ℕ) (m n : TrainText) → SpellsTrain a m → SpellsTrain b n → a ++ x ≡ b ++ y
    → (a ≡ b) × (x ≡ y)
train_spellings-apart a b x y m n p q e =
    starts-apart a b x y (train_number m.body) (train_number n.body) _ _ p.l_message q.l_message (starts-spelled a m p)
    (starts-spelled b n q) e
