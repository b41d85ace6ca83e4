-- Laws of the spellings of centres' messages: a spelled message is read, and each has one spelling.
use Rattle.std.proofs.Common.{[], ◌*◌, ◌++◌, ◌+◌, ◌<◌, ◌^◌, ◌∙◌, ◌∷◌, ◌≡◌, ◌≤◌, ap, append_assoc, arith, Bool, false}
use Rattle.std.proofs.Common.{IfSome, length, List, None, Ok, OnSome, Option, refl, replicate, Result, Some, sym, take}
use Rattle.std.proofs.Common.{ℕ}
use Rattle.std.proofs.lemmas.List.Elements.{recursion_from_All}
use Rattle.rbc_bits.proofs.Bytes.{bits_of-injective}
use Rattle.rbc_bits.proofs.Fields.{field_at-field}
use Rattle.rbc_bits.specs.Bits.{bits_of, field, filled, filling}
use Rattle.rbc_msgs.proofs.Spelled.{end_at-again, filled-from, filled-made, fixed_at-again, is-filling, start-found}
use Rattle.rbc_msgs.proofs.Spelled.{start_at-again, starts, starts-apart, time_at-again, whole_at-again}
use Rattle.rbc_msgs.proofs.TrackParts.{body-again, kind, least, most, number-again, number-fits}
use Rattle.rbc_msgs.specs.declared.fault.MsgFault.{MsgFault}
use Rattle.rbc_msgs.specs.declared.fault.MsgFault.TheVariants.{Length, Short}
use Rattle.rbc_msgs.specs.declared.number.TrackNumber.TheVariants as number
use Rattle.rbc_msgs.specs.Layout.{Begins, IsBytes, IsFilling, length_limit}
use Rattle.rbc_msgs.specs.Numbers.{least_track_length}
use Rattle.rbc_msgs.specs.TrackReading.{read_track}
use Rattle.rbc_msgs.specs.TrackSpelling.{SpellsTrack, track_body_fields, track_fields, track_length, track_number}
use Rattle.rbc_msgs.specs.TrackSpelling.{TrackBodyFits, TrackFits}
use Rattle.rbc_packets.proofs.Again.{filled-parts, length-filled, length-filled_bits, length-joined}
use Rattle.rbc_packets.specs.Layout.{joined, widths}
use Rattle.rbc_spec.specs.Message.{TrackBody, TrackMessage, unknown_time}

-- # Laws of the spellings of centres' messages: a spelled message is read, and each has one spelling.

-- ---- the bits of a message

fields-bits : (l_message : ℕ) (m : TrackMessage)
    → joined (track_fields l_message m)
    ≡ field 8 (track_number m.body)
    ++ (field 10 l_message
    ++ (field 32 m.t_train ++ (field 1 0 ++ (field 24 m.nid_lrbg ++ joined (track_body_fields m.body)))))
unfolding joined
fields-bits l_message m = refl

-- the fields after L_MESSAGE
after_length : TrackMessage → List Bool → List Bool
after_length m rest =
    field 32 m.t_train ++ (field 1 0 ++ (field 24 m.nid_lrbg ++ (joined (track_body_fields m.body) ++ rest)))

parts : (l_message : ℕ) (m : TrackMessage) (rest : List Bool)
    → joined (track_fields l_message m) ++ rest
    ≡ field 8 (track_number m.body) ++ (field 10 l_message ++ after_length m rest)
unfolding after_length
parts l_message m rest = rw (fields-bits l_message m) (simp append_assoc)

fillings : ℕ → TrackMessage → List Bool
fillings l_message m = replicate (filling (length (joined (track_fields l_message m)))) false

starts-spelled : (bytes : List ℕ) (m : TrackMessage) → SpellsTrack bytes m
    → starts bytes (track_number m.body) (after_length m (fillings (length bytes) m))
unfolding fillings
starts-spelled bytes m s = s.text ∙ filled-parts (joined (track_fields (length bytes) m)) ∙ parts (length bytes) m _

-- how many bits it has
length-fields : (l_message : ℕ) (m : TrackMessage)
    → length (joined (track_fields l_message m)) ≡ 75 + widths (track_body_fields m.body)
length-fields l_message m = omega (arith, length-joined (track_fields l_message m))

-- ---- the message that the code read is spelled by the bytes

pub spells-parts : (bytes : List ℕ) (m : TrackMessage) (n : ℕ) (rest left : List Bool)
    → n ≡ track_number m.body
    → bits_of bytes ≡ field 8 n
    ++ (field 10 (length bytes) ++ (field 32 m.t_train ++ (field 1 0 ++ (field 24 m.nid_lrbg ++ rest))))
    → rest ≡ joined (track_body_fields m.body) ++ left → IsFilling left → length bytes < length_limit → TrackFits m
    → SpellsTrack bytes m
unfolding after_length
spells-parts bytes m n rest left number-at start body fill limit fits =
    let all : bits_of bytes ≡ joined (track_fields (length bytes) m) ++ left =
    start
    ∙ ap
    (λ k. field 8 k
    ++ (field 10 (length bytes) ++ (field 32 m.t_train ++ (field 1 0 ++ (field 24 m.nid_lrbg ++ rest))))) number-at
    ∙ ap (λ x. field 8 (track_number m.body)
    ++ (field 10 (length bytes) ++ (field 32 m.t_train ++ (field 1 0 ++ (field 24 m.nid_lrbg ++ x))))) body
    ∙ sym (parts (length bytes) m left) in
    record {
      text = filled-from bytes (joined (track_fields (length bytes) m)) left all fill;
      l_message = limit;
      fits = fits;
    }

pub spells : (bytes : List ℕ) (m : TrackMessage) (n l_message start : ℕ) (b c d e f : List Bool)
    → n ≡ track_number m.body → length bytes ≡ l_message
    → Begins (bits_of (take 3 bytes)) (field 8 n ++ field 10 l_message) → bits_of bytes ≡ field 18 start ++ b
    → b ≡ field 32 m.t_train ++ c → c ≡ field 1 0 ++ d → d ≡ field 24 m.nid_lrbg ++ e
    → e ≡ joined (track_body_fields m.body) ++ f → IsFilling f
    → length bytes < length_limit → TrackFits m → SpellsTrack bytes m
spells bytes m n l_message start b c d e f number-at len front whole t ack group body fill limit fits =
    let header = t ∙ ap (λ x. field 32 m.t_train ++ x) (ack ∙ ap (λ x. field 1 0 ++ x) group) in
    spells-parts bytes m n e f number-at
    (start-found bytes n l_message start b front whole len
    ∙ ap (λ x. field 8 n ++ (field 10 (length bytes) ++ x)) header) body fill limit fits

-- the header, a body and filling bits, as the code puts them together
pub put-together : (bytes : List ℕ) (r : Option TrackMessage) (n t g : ℕ) (b : TrackBody) (rest left : List Bool)
    → n ≡ track_number b → bits_of bytes
    ≡ field 8 n ++ (field 10 (length bytes) ++ (field 32 t ++ (field 1 0 ++ (field 24 g ++ rest))))
    → rest ≡ joined (track_body_fields b) ++ left → length bytes < length_limit → t < unknown_time → g < 2 ^ 24
    → TrackBodyFits b
    → IfSome r (λ m. m ≡ record { t_train = t; nid_lrbg = g; body = b }) → OnSome r (IsFilling left)
    → IfSome r (SpellsTrack bytes)
put-together bytes None n t g b rest left number-at start body limit time group fits made fill = tt
put-together bytes (Some m) n t g b rest left number-at start body limit time group fits made fill =
    rw made
    (spells-parts bytes _ n rest left number-at start body fill limit
    (record { t_train = time; nid_lrbg = group; body = fits }))

-- # Laws of the spellings of centres' messages: a spelled message is read, and each has one spelling.

pub read_track-again : (bytes : List ℕ) (m : TrackMessage) → SpellsTrack bytes m → read_track bytes ≡ Ok m
unfolding read_track after_length fillings
read_track-again bytes m s =
    let bits = joined (track_fields (length bytes) m) in
    let wide : 75 + widths (track_body_fields m.body) ≤ 8 * length bytes =
    omega (arith, length-filled bytes bits s.text, length-fields (length bytes) m) in
    let at = starts-spelled bytes m s in
    rw (
      start_at-again bytes (track_number m.body) _ (omega arith) s.l_message (number-fits m.body) at,
      number-again m.body,
      whole_at-again (least_track_length (kind m.body)) bytes (track_number m.body) _
          (least m.body (length bytes) wide) s.l_message (number-fits m.body) at,
      time_at-again m.t_train _ s.fits.t_train,
      fixed_at-again 1 0 _ (omega arith),
      field_at-field Short 24 m.nid_lrbg _ s.fits.nid_lrbg,
      body-again m.body (fillings (length bytes) m) s.fits.body,
      end_at-again Length _ (is-filling bits),
    ) refl

pub some_read-again : (bytes : List ℕ) (r : Option TrackMessage) → IfSome r (SpellsTrack bytes)
    → IfSome r (λ m. read_track bytes ≡ Ok m)
some_read-again bytes None s = tt
some_read-again bytes (Some m) s = read_track-again bytes m s

-- ---- the written bytes are a spelling

pub written : (bytes : List ℕ) (m : TrackMessage) (l_message : ℕ) (all : List Bool)
    → all ≡ joined (track_fields l_message m) → bits_of bytes ≡ filled all
    → l_message ≡ track_length m.body → TrackFits m → SpellsTrack bytes m
written bytes m l_message all all-is text l-is fits =
    let spelled : bits_of bytes ≡ filled (joined (track_fields l_message m)) = text ∙ ap filled all-is in
    let len : length bytes ≡ l_message =
    omega (arith, length-filled bytes (joined (track_fields l_message m)) spelled, length-fields l_message m) in
    record {
      text = spelled ∙ ap (λ k. filled (joined (track_fields k m))) (sym len);
      l_message = omega (arith, most m.body);
      fits = fits;
    }

-- the header, and the fields written after it
pub written-parts : (m : TrackMessage) (number l_message : ℕ) (header all : List Bool)
    → header ≡ joined ((8, number) ∷ (10, l_message) ∷ (32, m.t_train) ∷ (1, 0) ∷ (24, m.nid_lrbg) ∷ [])
    → number ≡ track_number m.body → all ≡ header ++ joined (track_body_fields m.body)
    → all ≡ joined (track_fields l_message m)
unfolding joined
written-parts m number l_message header all header-is number-is all-is =
    rw (all-is, header-is, number-is) (simp append_assoc)

-- ---- the laws of spellings

pub each_track_message : (m : TrackMessage) → TrackFits m → (bytes : List ℕ) × IsBytes bytes × SpellsTrack bytes m
each_track_message m fits =
    let k = track_length m.body in
    let bits = joined (track_fields k m) in
    let made = filled-made bits k (omega (arith, length-filled_bits bits, length-fields k m)) in
    (made.0, made.1, written made.0 m k bits refl made.2 refl fits)

pub one_track_spelling : (a b : List ℕ) (m : TrackMessage) → IsBytes a → IsBytes b → SpellsTrack a m → SpellsTrack b m
    → a ≡ b
one_track_spelling a b m a-bytes b-bytes p q =
    let len : length a ≡ length b =
    omega (
      arith,
      length-filled a _ p.text,
      length-filled b _ q.text,
      length-fields (length a) m,
      length-fields (length b) m,
    ) in
    let bits : bits_of a ≡ bits_of b = p.text ∙ ap (λ n. filled (joined (track_fields n m))) len ∙ sym q.text in
    bits_of-injective a b (recursion_from_All (λ x. x < 256) a a-bytes)
    (recursion_from_All (λ x. x < 256) b b-bytes) bits

same_ok : (m n : TrackMessage) (r : Result TrackMessage MsgFault) → r ≡ Ok m → r ≡ Ok n → m ≡ n
same_ok m n r p q = cc

pub one_track_message : (a : List ℕ) (m n : TrackMessage) → SpellsTrack a m → SpellsTrack a n → m ≡ n
one_track_message a m n p q = same_ok m n (read_track a) (read_track-again a m p) (read_track-again a n q)

pub track_spellings-apart : (a b x y : List ℕ) (m n : TrackMessage) → SpellsTrack a m → SpellsTrack b n
    → a ++ x ≡ b ++ y → (a ≡ b) × (x ≡ y)
track_spellings-apart a b x y m n p q e =
    starts-apart a b x y (track_number m.body) (track_number n.body) _ _ p.l_message q.l_message (starts-spelled a m p)
    (starts-spelled b n q) e
