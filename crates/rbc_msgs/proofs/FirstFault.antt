-- The fault of a stream is that of a decoder to which the bytes arrive in order.
use Rattle.std.proofs.Common.{◌<◌, ◌∙◌, ◌≡◌, ◌≢◌, ◌≤◌, ap, arith, Bool, drop, Err, false, inl, inr, length, length-take}
use Rattle.std.proofs.Common.{List, ltb, Ok, refl, Result, sym, take, true, ℕ}
use Rattle.std.proofs.lemmas.Bool.{cases_lt, le-ltb, lt-ltb}
use Rattle.std.proofs.lemmas.List.{take-append-drop}
use Rattle.rbc_msgs.proofs.Needed.{announced, Announces, err-many, needed-few, needed-front, needed-many, needed-range}
use Rattle.rbc_msgs.proofs.NotShort.{long-l_message, long-read}
use Rattle.rbc_msgs.specs.declared.fault.MsgFault.{MsgFault}
use Rattle.rbc_msgs.specs.declared.fault.MsgFault.TheVariants.{Length, Short}
use Rattle.rbc_msgs.specs.declared.number.TrainNumber.{TrainNumber}
use Rattle.rbc_msgs.specs.Numbers.{least_train_length, train_of_number}
use Rattle.rbc_msgs.specs.Reading.{start_at, whole_at}
use Rattle.rbc_msgs.specs.Streams.{IsFirstFault, IsRest, l_message_at, needed_at, ShowsFault}
use Rattle.rbc_msgs.specs.TrainReading.{read_train}
use Rattle.rbc_msgs.specs.TrainText.{TrainText}

abbrev refused-as : MsgFault → Result TrainText MsgFault
refused-as fault = Err fault

not-short : (fault : MsgFault) → fault ≢ Short → refused-as fault ≢ refused-as Short
not-short fault ne e = ne (cc e)

-- ---- the answer of a decoder of whole messages, by the start of the bytes

abbrev failed : MsgFault → Result ℕ MsgFault
failed fault = Err fault

one-err : (e f : MsgFault) → failed e ≡ failed f → e ≡ f
one-err e f p = cc

early-tested : (bytes : List ℕ) (fault : MsgFault) (start : ℕ × ℕ) (number : TrainNumber) (b : Bool)
    → start_at bytes ≡ Ok start → train_of_number start.0 ≡ Ok number
    → ltb start.1 (least_train_length number) ≡ b → l_message_at bytes ≡ Err fault → read_train bytes ≡ Err fault
unfolding l_message_at read_train whole_at
early-tested bytes fault start number true s-at n-at t e =
    let found : Length ≡ fault = one-err Length fault (rw (s-at, n-at, t) at e) in
    rw (s-at, n-at, t) (ap (λ f. Err f) found)
early-tested bytes fault start number false s-at n-at t e =
    let found : Ok start.1 ≡ Err fault = rw (s-at, n-at, t) at e in cc

early-known : (bytes : List ℕ) (fault : MsgFault) (start : ℕ × ℕ) (number : Result TrainNumber MsgFault)
    → start_at bytes ≡ Ok start → train_of_number start.0 ≡ number
    → l_message_at bytes ≡ Err fault → read_train bytes ≡ Err fault
unfolding l_message_at read_train
early-known bytes fault start (Ok number) s-at n-at e =
    early-tested bytes fault start number (ltb start.1 (least_train_length number)) s-at n-at refl e
early-known bytes fault start (Err other) s-at n-at e =
    let found : other ≡ fault = one-err other fault (rw (s-at, n-at) at e) in rw (s-at, n-at) (ap (λ f. Err f) found)

early-by : (bytes : List ℕ) (fault : MsgFault) (start : Result (ℕ × ℕ) MsgFault) → start_at bytes ≡ start
    → l_message_at bytes ≡ Err fault → read_train bytes ≡ Err fault
unfolding l_message_at read_train
early-by bytes fault (Ok start) s-at e = early-known bytes fault start (train_of_number start.0) s-at refl e
early-by bytes fault (Err other) s-at e =
    let found : other ≡ fault = one-err other fault (rw s-at at e) in rw s-at (ap (λ f. Err f) found)

-- the start shows a fault
read-early : (bytes : List ℕ) (fault : MsgFault) → l_message_at bytes ≡ Err fault → read_train bytes ≡ Err fault
read-early bytes fault e = early-by bytes fault (start_at bytes) refl e

-- fewer bytes than L_MESSAGE
read-short : (bytes : List ℕ) (n : ℕ) → Announces bytes n → length bytes < n → read_train bytes ≡ Err Short
unfolding read_train whole_at
read-short bytes n h few =
    let same = h.same in
    let less : ltb (length bytes) h.start.1 ≡ true = lt-ltb _ _ (omega arith) in
    rw (h.started, h.known, h.enough, less) refl

-- more bytes
read-more : (bytes : List ℕ) (n : ℕ) → Announces bytes n → n < length bytes → read_train bytes ≡ Err Length
unfolding read_train whole_at
read-more bytes n h many =
    let same = h.same in
    let there : ltb (length bytes) h.start.1 ≡ false = le-ltb _ _ (omega arith) in
    let more : ltb h.start.1 (length bytes) ≡ true = lt-ltb _ _ (omega arith) in
    rw (h.started, h.known, h.enough, there, more) refl

-- fewer than three bytes
read-few : (bytes : List ℕ) → length bytes < 3 → read_train bytes ≡ Err Short
unfolding read_train start_at
read-few bytes few = let t : ltb (length bytes) 3 ≡ true = lt-ltb _ _ few in rw t refl

-- fewer than are needed
pub rest-read : (bytes : List ℕ) → IsRest bytes → read_train bytes ≡ Err Short
rest-read bytes h =
    elim (cases_lt (length bytes) 3) [
      | inl few ↦ read-few bytes few
      | inr many ↦ read-short bytes h.needed (announced bytes h.needed (sym (needed-many bytes many) ∙ h.at)) h.fewer
    ]

rest-by : (bytes : List ℕ) (r : Result ℕ MsgFault) → 3 ≤ length bytes → l_message_at bytes ≡ r
    → read_train bytes ≡ Err Short → IsRest bytes
rest-by bytes (Err fault) many at e =
    let same : fault ≡ Short = cc (read-early bytes fault at, e) in
    absurd (long-l_message bytes many (at ∙ ap (λ f. Err f) same))
rest-by bytes (Ok n) many at e =
    let needed : needed_at bytes ≡ Ok n = needed-many bytes many ∙ at in
    elim (cases_lt (length bytes) n) [
      | inl fewer ↦ record { needed = n; at = needed; fewer = fewer }
      | inr whole ↦
          elim (cases_lt n (length bytes)) [
            | inl more ↦ absurd (not-short Length (λ s. cc) (sym (read-more bytes n (announced bytes n at) more) ∙ e))
            | inr all ↦
                (let same : n ≡ length bytes = omega arith in absurd (long-read bytes (needed ∙ ap (λ k. Ok k) same) e))
          ]
    ]

-- the bytes that a decoder calls too short
pub read-rest : (bytes : List ℕ) → read_train bytes ≡ Err Short → IsRest bytes
read-rest bytes e =
    elim (cases_lt (length bytes) 3) [
      | inl few ↦ record { needed = 3; at = needed-few bytes few; fewer = few }
      | inr many ↦ rest-by bytes (l_message_at bytes) many refl e
    ]

-- ---- beginnings of the bytes

front-needed : (bytes : List ℕ) (k : ℕ) → 3 ≤ k → k ≤ length bytes → needed_at (take k bytes) ≡ needed_at bytes
front-needed bytes k three le =
    sym (needed-front (take k bytes) (drop k bytes) (omega (arith, length-take k bytes)))
    ∙ ap needed_at (take-append-drop k bytes)

-- a beginning of fewer bytes than are needed
front-short : (bytes : List ℕ) (n k : ℕ) → needed_at bytes ≡ Ok n → k < n → k ≤ length bytes
    → read_train (take k bytes) ≡ Err Short
front-short bytes n k at less le =
    elim (cases_lt k 3) [
      | inl few ↦ read-few (take k bytes) (omega (arith, length-take k bytes))
      | inr many ↦
          rest-read (take k bytes)
          (record { needed = n; at = front-needed bytes k many le ∙ at; fewer = omega (arith, length-take k bytes) })
    ]

front-long : (bytes : List ℕ) (n : ℕ) → needed_at bytes ≡ Ok n → n ≤ length bytes
    → read_train (take n bytes) ≢ Err Short
front-long bytes n at le =
    let range = needed-range bytes n at in
    let count : length (take n bytes) ≡ n = omega (arith, length-take n bytes) in
    long-read (take n bytes) (front-needed bytes n (omega arith) le ∙ at ∙ ap (λ k. Ok k) (sym count))

pub first-fault : (bytes : List ℕ) (fault : MsgFault) → ShowsFault bytes fault → IsFirstFault bytes fault
first-fault bytes fault (inl e) =
    let many = err-many bytes fault e in
    let front : needed_at (take 3 bytes) ≡ Err fault = front-needed bytes 3 (omega arith) many ∙ e in
    record {
      count = 3;
      there = many;
      found =
          read-early (take 3 bytes) fault
          (sym (needed-many (take 3 bytes) (omega (arith, length-take 3 bytes))) ∙ front);
      told = λ short. long-l_message bytes many (sym (needed-many bytes many) ∙ e ∙ ap (λ f. Err f) short);
      before = λ k few. read-few (take k bytes) (omega (arith, length-take k bytes));
    }
first-fault bytes fault (inr h) =
    let whole = h.whole in
    record {
      count = h.l_message;
      there = h.whole;
      found = h.refused;
      told = λ short. front-long bytes h.l_message h.at h.whole (h.refused ∙ ap (λ f. Err f) short);
      before = λ k less. front-short bytes h.l_message k h.at less (omega arith);
    }
