-- The bytes that bits fill up, the first three bytes of a message, and the parts that all messages have.
use Rattle.std.proofs.Common.{[], ◌*◌, ◌++◌, ◌+◌, ◌/◌, ◌<◌, ◌^◌, ◌∙◌, ◌∷◌, ◌≡◌, ◌≤◌, ap, append_assoc, arith, Bool}
use Rattle.std.proofs.Common.{drop, eq-eqb, eqb, false, get_or, leb, length, length-append, List, ltb, Ok, refl}
use Rattle.std.proofs.Common.{replicate, sym, take, true, ℕ}
use Rattle.std.proofs.lemmas.Bool.{le-ltb, lt-leb, ne_eqb}
use Rattle.std.proofs.lemmas.List.{append-nil, drop_at, length-replicate, nil_from_length}
use Rattle.std.proofs.lemmas.List.{take-append-drop, take_at}
use Rattle.std.proofs.lemmas.List.Elements.{All-from_recursion}
use Rattle.std.proofs.lemmas.Nat.{pow_pos}
use Rattle.std.proofs.Math.Seq.{take-append-add}
use Rattle.std.specs.Int.{bytes_high_first}
use Rattle.rbc_bits.proofs.Bytes.{bits_of-append, bits_of-cons, bits_of-made, bits_of-single, bytes_high_first-fit}
use Rattle.rbc_bits.proofs.Bytes.{length-bits_of, length-bytes_high_first, take-bits_of}
use Rattle.rbc_bits.proofs.Fields.{field-add, field-append, field-injective, field-zero, field_at-field, length-field}
use Rattle.rbc_bits.specs.Bits.{bits_of, field, filled, filling, value_of}
use Rattle.rbc_bits.specs.Reading.{field_at}
use Rattle.rbc_msgs.specs.declared.fault.MsgFault.{MsgFault}
use Rattle.rbc_msgs.specs.declared.fault.MsgFault.TheVariants.{Missing, Short}
use Rattle.rbc_msgs.specs.Layout.{Begins, IsBytes, IsFilling}
use Rattle.rbc_msgs.specs.Reading.{end_at, fixed_at, required_at, start_at, time_at, whole_at}
use Rattle.rbc_packets.proofs.Again.{filled-parts}
use Rattle.rbc_spec.specs.Message.{unknown_time}

-- # The bytes that bits fill up, and NID_MESSAGE and L_MESSAGE at their front.

-- ---- filling bits

pub is-filling : (bits : List Bool) → IsFilling (replicate (filling (length bits)) false)
is-filling bits =
    let l = length-replicate (filling (length bits)) false in
    (omega (arith, l), ap (λ n. replicate n false) (sym l))

-- the bits before the filling bits of whole bytes
pub filled-from : (bytes : List ℕ) (bits rest : List Bool) → bits_of bytes ≡ bits ++ rest → IsFilling rest
    → bits_of bytes ≡ filled bits
filled-from bytes bits rest e h =
    let l : length rest ≡ filling (length bits) =
    omega (arith, h.0, ap length e, length-append bits rest, length-bits_of bytes) in
    e ∙ ap (λ t. bits ++ t) (h.1 ∙ ap (λ n. replicate n false) l) ∙ sym (filled-parts bits)

-- ---- NID_MESSAGE and L_MESSAGE

-- the first three bytes show them
pub start-found : (bytes : List ℕ) (number l_message start : ℕ) (rest : List Bool)
    → Begins (bits_of (take 3 bytes)) (field 8 number ++ field 10 l_message) → bits_of bytes ≡ field 18 start ++ rest
    → length bytes ≡ l_message
    → bits_of bytes ≡ field 8 number ++ (field 10 (length bytes) ++ rest)
start-found bytes number l_message start rest front whole len =
    let head = field 8 number ++ field 10 l_message in
    let others = bits_of (drop 3 bytes) in
    let parts : bits_of bytes ≡ head ++ (front.0 ++ others) =
    ap bits_of (sym (take-append-drop 3 bytes)) ∙ bits_of-append (take 3 bytes) (drop 3 bytes)
    ∙ ap (λ t. t ++ others) front.1 ∙ append_assoc head front.0 others in
    let width : length head ≡ 18 =
    omega (
      arith,
      length-append (field 8 number) (field 10 l_message),
      length-field 8 number,
      length-field 10 l_message,
    ) in
    let same : field 18 start ≡ head =
    sym (take_at (field 18 start) rest 18 (length-field 18 start)) ∙ ap (take 18) (sym whole ∙ parts)
    ∙ take_at head (front.0 ++ others) 18 width in
    whole ∙ ap (λ t. t ++ rest) same ∙ append_assoc (field 8 number) (field 10 l_message) rest
    ∙ ap (λ n. field 8 number ++ (field 10 n ++ rest)) (sym len)

-- the bytes start with NID_MESSAGE and their number
abbrev pub starts : List ℕ → ℕ → List Bool → Type 0
starts bytes number rest = bits_of bytes ≡ field 8 number ++ (field 10 (length bytes) ++ rest)

-- the first 18 bits are one field
pub start-whole : (bytes : List ℕ) (number : ℕ) (rest : List Bool) → length bytes < 2 ^ 10 → starts bytes number rest
    → bits_of bytes ≡ field 18 (number * 2 ^ 10 + length bytes) ++ rest
start-whole bytes number rest fits e =
    e ∙ sym (append_assoc (field 8 number) (field 10 (length bytes)) rest)
    ∙ ap (λ t. t ++ rest) (field-append 8 10 number (length bytes) fits)

-- the first 24 bits are those of three bytes
pub start-front : (bytes : List ℕ) (number : ℕ) (rest : List Bool) → 3 ≤ length bytes → starts bytes number rest
    → bits_of (take 3 bytes) ≡ field 8 number ++ (field 10 (length bytes) ++ take 6 rest)
start-front bytes number rest le e =
    let second : take 16 (field 10 (length bytes) ++ rest) ≡ field 10 (length bytes) ++ take 6 rest =
    ap (λ n. take n (field 10 (length bytes) ++ rest))
    (let k : 16 ≡ length (field 10 (length bytes)) + 6 = omega (arith, length-field 10 (length bytes)) in k)
    ∙ take-append-add (field 10 (length bytes)) rest 6 in
    let first : take 24 (field 8 number ++ (field 10 (length bytes) ++ rest))
    ≡ field 8 number ++ take 16 (field 10 (length bytes) ++ rest) =
    ap (λ n. take n (field 8 number ++ (field 10 (length bytes) ++ rest)))
    (let k : 24 ≡ length (field 8 number) + 16 = omega (arith, length-field 8 number) in k)
    ∙ take-append-add (field 8 number) (field 10 (length bytes) ++ rest) 16 in
    sym (take-bits_of 3 bytes le) ∙ ap (take 24) e ∙ first ∙ ap (λ t. field 8 number ++ t) second

l_message-at : (a x : List ℕ) (n : ℕ) (rest : List Bool) → starts a n rest
    → take 10 (drop 8 (bits_of (a ++ x))) ≡ field 10 (length a)
l_message-at a x n rest e =
    let len = field 10 (length a) in
    let whole : bits_of (a ++ x) ≡ field 8 n ++ (len ++ (rest ++ bits_of x)) =
    bits_of-append a x ∙ ap (λ t. t ++ bits_of x) e ∙ append_assoc (field 8 n) (len ++ rest) (bits_of x)
    ∙ ap (λ t. field 8 n ++ t) (append_assoc len rest (bits_of x)) in
    ap (λ t. take 10 (drop 8 t)) whole
    ∙ ap (take 10) (drop_at (field 8 n) (len ++ (rest ++ bits_of x)) 8 (length-field 8 n))
    ∙ take_at len (rest ++ bits_of x) 10 (length-field 10 (length a))

-- no spelling is the start of another, since L_MESSAGE is at the same position in both
pub starts-apart : (a b x y : List ℕ) (m n : ℕ) (p q : List Bool) → length a < 2 ^ 10 → length b < 2 ^ 10 → starts a m p
    → starts b n q → a ++ x ≡ b ++ y → (a ≡ b) × (x ≡ y)
starts-apart a b x y m n p q a-fits b-fits a-starts b-starts e =
    let len : length a ≡ length b =
    field-injective 10 (length a) (length b) a-fits b-fits
    (sym (l_message-at a x m p a-starts) ∙ ap (λ t. take 10 (drop 8 (bits_of t))) e ∙ l_message-at b y n q b-starts) in
    let front : a ≡ b = sym (take_at a x (length a) refl) ∙ ap (take (length a)) e ∙ take_at b y (length a) (sym len) in
    (front, sym (drop_at a x (length a) refl) ∙ ap (drop (length a)) e ∙ drop_at b y (length a) (sym len))

-- there are bytes of any bits that are filled up
pub filled-made : (bits : List Bool) (k : ℕ) → length (filled bits) ≡ 8 * k
    → (bytes : List ℕ) × IsBytes bytes × (bits_of bytes ≡ filled bits) × (length bytes ≡ k)
filled-made bits k len =
    let bytes = bytes_high_first k (value_of (filled bits)) in (
      bytes,
      All-from_recursion (λ b. b < 256) bytes (bytes_high_first-fit k (value_of (filled bits))),
      bits_of-made (filled bits) k len,
      length-bytes_high_first k (value_of (filled bits)),
    )

-- # The first three bytes of a message.

-- a byte, the field of the ten bits after it, and the six bits after that
pub start_fields : (bytes : List ℕ) → 3 ≤ length bytes → ((i : ℕ) → get_or bytes i 0 < 256)
    → bits_of (take 3 bytes) ≡ field 8 (get_or bytes 0 0)
    ++ (field 10 (get_or bytes 1 0 * 4 + get_or bytes 2 0 / 64) ++ field 6 (get_or bytes 2 0))
start_fields [] le fit = absurd (omega (arith, le))
start_fields (a ∷ []) le fit = absurd (omega (arith, le))
start_fields (a ∷ b ∷ []) le fit = absurd (omega (arith, le))
start_fields (a ∷ b ∷ c ∷ rest) le fit =
    let fits : c < 256 = fit 2 in
    let joined : field 8 b ++ field 2 (c / 64) ≡ field 10 (b * 4 + c / 64) =
    field-append 8 2 b (c / 64) (omega (arith, fits)) in
    let split : field 8 c ≡ field 2 (c / 64) ++ field 6 c = field-add 2 6 c in
    let tail : field 8 b ++ field 8 c ≡ field 10 (b * 4 + c / 64) ++ field 6 c =
    ap (λ t. field 8 b ++ t) split ∙ sym (append_assoc (field 8 b) (field 2 (c / 64)) (field 6 c))
    ∙ ap (λ t. t ++ field 6 c) joined in
    bits_of-cons a (b ∷ c ∷ [])
    ∙ ap (λ t. field 8 a ++ t) (bits_of-cons b (c ∷ []) ∙ ap (λ t. field 8 b ++ t) (bits_of-single c) ∙ tail)

-- the values read from them
pub start_read : (bytes : List ℕ) (number l_message : ℕ) (rest : List Bool) → 3 ≤ length bytes → number < 2 ^ 8
    → l_message < 2 ^ 10
    → bits_of (take 3 bytes) ≡ field 8 number ++ (field 10 l_message ++ rest) → Ok (number, l_message) ≡ start_at bytes
unfolding start_at
start_read bytes number l_message rest le number-fits l_message-fits e =
    let long : ltb (length bytes) 3 ≡ false = le-ltb _ _ le in
    rw (
      long,
      e,
      field_at-field Short 8 number (field 10 l_message ++ rest) number-fits,
      field_at-field Short 10 l_message rest l_message-fits,
    ) refl

-- # A spelled value is read, for each part that all messages have.

pub start_at-again : (bytes : List ℕ) (number : ℕ) (rest : List Bool) → 3 ≤ length bytes → length bytes < 2 ^ 10
    → number < 2 ^ 8 → starts bytes number rest
    → start_at bytes ≡ Ok (number, length bytes)
unfolding start_at
start_at-again bytes number rest long fits number-fits e =
    let enough : ltb (length bytes) 3 ≡ false = le-ltb _ _ long in
    rw (
      enough,
      start-front bytes number rest long e,
      field_at-field Short 8 number (field 10 (length bytes) ++ take 6 rest) number-fits,
      field_at-field Short 10 (length bytes) (take 6 rest) fits,
    ) refl

pub whole_at-again : (least : ℕ) (bytes : List ℕ) (number : ℕ) (rest : List Bool) → least ≤ length bytes
    → length bytes < 2 ^ 10 → number < 2 ^ 8 → starts bytes number rest
    → whole_at least (length bytes) bytes ≡ Ok rest
unfolding whole_at
whole_at-again least bytes number rest long fits number-fits e =
    let enough : ltb (length bytes) least ≡ false = le-ltb _ _ long in
    let exact : ltb (length bytes) (length bytes) ≡ false = le-ltb _ _ (omega arith) in
    let start-fits : number * 2 ^ 10 + length bytes < 2 ^ 18 = omega arith in
    rw (
      enough,
      exact,
      start-whole bytes number rest fits e,
      field_at-field Short 18 (number * 2 ^ 10 + length bytes) rest start-fits,
    ) refl

pub time_at-again : (t : ℕ) (rest : List Bool) → t < unknown_time → time_at (field 32 t ++ rest) ≡ Ok (t, rest)
unfolding time_at
time_at-again t rest known =
    let other : eqb t unknown_time ≡ false = ne_eqb _ _ (λ e. absurd (omega arith)) in
    rw (field_at-field Short 32 t rest (omega arith), other) refl

pub fixed_at-again : (n value : ℕ) (rest : List Bool) → value < 2 ^ n
    → fixed_at n value (field n value ++ rest) ≡ Ok (tt, rest)
unfolding fixed_at
fixed_at-again n value rest fits =
    let same : eqb value value ≡ true = eq-eqb value value refl in
    rw (field_at-field Short n value rest fits, same) refl

pub required_at-again : (n : ℕ) (rest : List Bool) → n < 2 ^ 8 → required_at n (field 8 n ++ rest) ≡ Ok (tt, rest)
unfolding required_at
required_at-again n rest fits =
    let same : eqb n n ≡ true = eq-eqb n n refl in
    rw (field_at-field Missing 8 n rest fits, same) refl

pub end_at-again : (more : MsgFault) (bits : List Bool) → IsFilling bits → end_at more bits ≡ Ok tt
unfolding end_at
end_at-again more bits h =
    let n = length bits in
    let few : leb 8 (length bits) ≡ false = lt-leb _ _ h.0 in
    let zeros : bits ≡ field n 0 ++ [] = h.1 ∙ sym (field-zero n) ∙ sym (append-nil (field n 0)) in
    let filling : field_at Short n bits ≡ Ok (0, []) =
    ap (field_at Short n) zeros ∙ field_at-field Short n 0 [] (pow_pos n) in
    rw (few, filling) refl

-- a field of all bits that has the value 0
pub filling-found : (bits rest : List Bool) (n v : ℕ) → n ≡ length bits → n < 8 → v ≡ 0 → bits ≡ field n v ++ rest
    → IsFilling bits
filling-found bits rest n v n-is few zero-is e =
    let none : rest ≡ [] =
    nil_from_length rest (omega (arith, ap length e, length-append (field n v) rest, length-field n v)) in
    let all : bits ≡ field n 0 = e ∙ ap (λ t. field n v ++ t) none ∙ append-nil (field n v) ∙ ap (field n) zero-is in
    (omega arith, all ∙ field-zero n ∙ ap (λ k. replicate k false) n-is)

pub none-filling : (bits : List Bool) → length bits ≡ 0 → IsFilling bits
none-filling [] e = (omega arith, refl)
none-filling (b ∷ bits) e = absurd (omega (arith, e))
