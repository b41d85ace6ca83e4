-- Messages of a stream, added in order.
use Rattle.std.proofs.Common.{[], ◌++◌, ◌+◌, ◌-◌, ◌<◌, ◌∙◌, ◌∷◌, ◌≡◌, ◌≢◌, ◌≤◌, ap, append_assoc, arith, Bool, drop}
use Rattle.std.proofs.Common.{eqb, Err, inl, inr, length, length-drop, List, max, Ok, refl, subst, sym, take, true, ℕ}
use Rattle.std.proofs.lemmas.Bool.{cases_lt}
use Rattle.std.proofs.lemmas.List.{append-nil, drop-drop, length-take, nil_from_length, take-append-drop, take_all}
use Rattle.std.proofs.Math.Seq.{take-add}
use borrow.Author.Tests.{eqb-true}
use Rattle.rbc_msgs.proofs.Needed.{needed-few, needed-front, needed-range, shows-front}
use Rattle.rbc_msgs.specs.declared.fault.MsgFault.{MsgFault}
use Rattle.rbc_msgs.specs.declared.fault.MsgFault.TheVariants.{Memory}
use Rattle.rbc_msgs.specs.Streams.{Adds, Halts, IsRest, needed_at, ShowsFault, Spell}
use Rattle.rbc_msgs.specs.TrainReading.{read_train}
use Rattle.rbc_msgs.specs.TrainSpelling.{SpellsTrain}
use Rattle.rbc_msgs.specs.TrainText.{TrainText}

-- ---- lists of spellings

spell-then : (ms ns : List TrainText) (a r s : List ℕ) → Spell a ms r → Spell r ns s → Spell a (ms ++ ns) s
spell-then [] ns a r s p q = subst (λ x. Spell x ns s) (sym p) q
spell-then (m ∷ ms) ns a r s p q = (p.0, p.1, p.2, p.3, spell-then ms ns p.1 r s p.4 q)

spell-after : (ms : List TrainText) (a r b : List ℕ) → Spell a ms r → Spell (a ++ b) ms (r ++ b)
spell-after [] a r b p = ap (λ x. x ++ b) p
spell-after (m ∷ ms) a r b p =
    (p.0, p.1 ++ b, ap (λ x. x ++ b) p.2 ∙ append_assoc p.0 p.1 b, p.3, spell-after ms p.1 r b p.4)

-- ---- messages added

pub adds-none : (old : List TrainText) (bytes : List ℕ) → Adds old old bytes bytes
adds-none old bytes = record { messages = []; added = sym (append-nil old); spelled = refl }

pub adds-one : (old new : List TrainText) (bytes first later : List ℕ) (m : TrainText) → new ≡ old ++ m ∷ []
    → SpellsTrain first m → bytes ≡ first ++ later → Adds old new bytes later
adds-one old new bytes first later m e s parts =
    record { messages = m ∷ []; added = e; spelled = (first, later, parts, s, refl) }

-- those of the rest follow
pub adds-then : (old mid new : List TrainText) (a r s : List ℕ) → Adds old mid a r → Adds mid new r s → Adds old new a s
adds-then old mid new a r s p q =
    record {
      messages = p.messages ++ q.messages;
      added = q.added ∙ ap (λ x. x ++ q.messages) p.added ∙ append_assoc old p.messages q.messages;
      spelled = spell-then p.messages q.messages a r s p.spelled q.spelled;
    }

-- with any bytes after it
pub adds-after : (old new : List TrainText) (a r b : List ℕ) → Adds old new a r → Adds old new (a ++ b) (r ++ b)
adds-after old new a r b p =
    record { messages = p.messages; added = p.added; spelled = spell-after p.messages a r b p.spelled }

-- ---- faults

pub halts-here : (old : List TrainText) (bytes : List ℕ) (fault : MsgFault) → (fault ≢ Memory → ShowsFault bytes fault)
    → Halts old old bytes fault
halts-here old bytes fault h = record { rest = bytes; adds = adds-none old bytes; shows = h }

-- memory ran out
pub halts-memory : (old : List TrainText) (bytes : List ℕ) (fault : MsgFault) → fault ≡ Memory
    → Halts old old bytes fault
halts-memory old bytes fault e = halts-here old bytes fault (λ ne. absurd (ne e))

pub halts-then : (old mid new : List TrainText) (a r : List ℕ) (fault : MsgFault) → Adds old mid a r
    → Halts mid new r fault → Halts old new a fault
halts-then old mid new a r fault p h =
    record { rest = h.rest; adds = adds-then old mid new a r h.rest p h.adds; shows = h.shows }

pub halts-after : (old new : List TrainText) (a b : List ℕ) (fault : MsgFault) → Halts old new a fault
    → Halts old new (a ++ b) fault
halts-after old new a b fault h =
    record {
      rest = h.rest ++ b;
      adds = adds-after old new a h.rest b h.adds;
      shows = λ ne. shows-front h.rest b fault (h.shows ne);
    }

-- ---- nothing has arrived

pub rest-none : IsRest []
rest-none = record { needed = 3; at = needed-few [] (omega arith); fewer = omega arith }

-- ---- a rest that is completed: r1 is the rest with its first bytes, r2 with all needed bytes, or with the whole piece

glue : (rest piece r1 : List ℕ) (first : ℕ) → r1 ≡ rest ++ take first piece → r1 ++ drop first piece ≡ rest ++ piece
glue rest piece r1 first e =
    ap (λ x. x ++ drop first piece) e ∙ append_assoc rest (take first piece) (drop first piece)
    ∙ ap (λ x. rest ++ x) (take-append-drop first piece)

joined-twice : (rest piece r1 r2 : List ℕ) (first second : ℕ) → r1 ≡ rest ++ take first piece
    → r2 ≡ r1 ++ take second (drop first piece) → r2 ≡ rest ++ take (first + second) piece
joined-twice rest piece r1 r2 first second e1 e2 =
    e2 ∙ ap (λ x. x ++ take second (drop first piece)) e1
    ∙ append_assoc rest (take first piece) (take second (drop first piece))
    ∙ ap (λ x. rest ++ x) (sym (take-add first second piece))

-- the first bytes show a fault
pub halts-early : (old : List TrainText) (rest piece r1 : List ℕ) (first : ℕ) (fault : MsgFault)
    → r1 ≡ rest ++ take first piece → needed_at r1 ≡ Err fault → Halts old old (rest ++ piece) fault
halts-early old rest piece r1 first fault e at =
    subst (λ x. Halts old old x fault) (glue rest piece r1 first e)
    (halts-after old old r1 (drop first piece) fault (halts-here old r1 fault (λ _. inl at)))

-- as many bytes are needed as the first ones require, unless these were all
needed-more : (r1 r2 piece : List ℕ) (first second n : ℕ) → r2 ≡ r1 ++ take second (drop first piece)
    → (length r1 < 3 → first ≡ length piece) → needed_at r1 ≡ Ok n → needed_at r2 ≡ Ok n
needed-more r1 r2 piece first second n e all at =
    ap needed_at e ∙ elim (cases_lt (length r1) 3) [
      | inl few ↦
          (let none : take second (drop first piece) ≡ [] =
          nil_from_length _ (omega (arith, length-take second (drop first piece), length-drop first piece, all few)) in
          ap (λ x. needed_at (r1 ++ x)) none ∙ ap needed_at (append-nil r1) ∙ at)
      | inr many ↦ needed-front r1 (take second (drop first piece)) many ∙ at
    ]

-- the whole message shows a fault
pub halts-whole : (old new : List TrainText) (rest piece r1 r2 : List ℕ) (first second n : ℕ) (fault : MsgFault)
    → r1 ≡ rest ++ take first piece → r2 ≡ r1 ++ take second (drop first piece)
    → (length r1 < 3 → first ≡ length piece) → needed_at r1 ≡ Ok n → length r2 ≡ n → new ≡ old
    → (fault ≢ Memory → read_train r2 ≡ Err fault) → Halts old new (rest ++ piece) fault
halts-whole old new rest piece r1 r2 first second n fault e1 e2 all at whole same refused =
    let shows : fault ≢ Memory → ShowsFault r2 fault = λ ne. inr (record {
      l_message = n;
      at = needed-more r1 r2 piece first second n e2 all at;
      whole = omega arith;
      refused = ap read_train (take_all n r2 (omega arith)) ∙ refused ne;
    }) in
    let there : Halts old old (rest ++ piece) fault =
    subst (λ x. Halts old old x fault) (glue r1 (drop first piece) r2 second e2 ∙ glue rest piece r1 first e1)
    (halts-after old old r2 (drop second (drop first piece)) fault (halts-here old r2 fault shows)) in
    subst (λ x. Halts old x (rest ++ piece) fault) (sym same) there

-- the whole message is read
pub adds-whole : (old new : List TrainText) (rest piece r1 r2 cleared : List ℕ) (first second : ℕ) (m : TrainText)
    → r1 ≡ rest ++ take first piece → r2 ≡ r1 ++ take second (drop first piece)
    → new ≡ old ++ m ∷ [] → SpellsTrain r2 m → cleared ≡ [] → Adds old new (rest ++ take (first + second) piece) cleared
adds-whole old new rest piece r1 r2 cleared first second m e1 e2 e s none =
    adds-one old new _ r2 cleared m e s
    (sym (joined-twice rest piece r1 r2 first second e1 e2) ∙ sym (append-nil r2) ∙ ap (λ x. r2 ++ x) (sym none))

-- the message is not whole yet
pub rest-on : (rest piece r1 r2 : List ℕ) (first second n : ℕ) → IsRest rest → r1 ≡ rest ++ take first piece
    → r2 ≡ r1 ++ take second (drop first piece) → first ≤ length piece
    → (length r1 < 3 → first ≡ length piece) → length r1 ≤ max 3 (length rest) → needed_at r1 ≡ Ok n
    → (length r2 < n → second ≡ length (drop first piece)) → length r2 ≤ max n (length r1)
    → length r2 ≢ n → IsRest r2 × (first + second ≡ length piece)
rest-on rest piece r1 r2 first second n h e1 e2 within all few at spent no-more part =
    let range = needed-range r1 n at in
    let fewer = h.fewer in
    let short : length r1 ≤ n =
    elim (cases_lt (length rest) 3) [
      | inl less ↦ omega arith
      | inr many ↦
          (let same : n ≡ h.needed = cc (needed-front rest (take first piece) many, ap needed_at e1, at, h.at) in
          omega arith)
    ] in
    let still : length r2 < n = omega arith in (
      record { needed = n; at = needed-more r1 r2 piece first second n e2 all at; fewer = still },
      omega (arith, spent still, length-drop first piece),
    )

-- ---- slices

-- the bytes after the first i
pub the-end : (i : ℕ) (xs : List ℕ) → take (length xs - i) (drop i xs) ≡ drop i xs
the-end i xs = take_all (length xs - i) (drop i xs) (omega (arith, length-drop i xs))

-- bytes taken of it
pub taken-end : (i n : ℕ) (xs r s : List ℕ) → s ≡ r ++ take n (take (length xs - i) (drop i xs))
    → s ≡ r ++ take n (drop i xs)
taken-end i n xs r s e = e ∙ ap (λ x. r ++ take n x) (the-end i xs)

-- how many it has
pub length-end : (i : ℕ) (xs : List ℕ) → length (take (length xs - i) (drop i xs)) ≡ length (drop i xs)
length-end i xs = ap length (the-end i xs)

-- ---- a message was completed, and the rest of the piece is read

from-piece : (old mid : List TrainText) (rest piece r1 : List ℕ) (used : ℕ) → r1 ≡ []
    → Adds old mid (rest ++ take used piece) r1 → Adds old mid (rest ++ piece) (drop used piece)
from-piece old mid rest piece r1 used none p =
    let q = adds-after old mid (rest ++ take used piece) r1 (drop used piece) p in
    let all : Adds old mid (rest ++ piece) (r1 ++ drop used piece) =
    subst (λ x. Adds old mid x (r1 ++ drop used piece)) (glue rest piece (rest ++ take used piece) used refl) q in
    subst (λ x. Adds old mid (rest ++ piece) (x ++ drop used piece)) none all

pub adds-on : (old mid new : List TrainText) (rest piece r1 end : List ℕ) (used : ℕ) → r1 ≡ []
    → Adds old mid (rest ++ take used piece) r1
    → Adds mid new (take (length piece - used) (drop used piece)) end → Adds old new (rest ++ piece) end
adds-on old mid new rest piece r1 end used none p q =
    let q-here : Adds mid new (drop used piece) end = subst (λ x. Adds mid new x end) (the-end used piece) q in
    adds-then old mid new (rest ++ piece) (drop used piece) end (from-piece old mid rest piece r1 used none p) q-here

pub halts-on : (old mid new : List TrainText) (rest piece r1 : List ℕ) (used : ℕ) (fault : MsgFault) → r1 ≡ []
    → Adds old mid (rest ++ take used piece) r1
    → Halts mid new (take (length piece - used) (drop used piece)) fault → Halts old new (rest ++ piece) fault
halts-on old mid new rest piece r1 used fault none p h =
    let h-here : Halts mid new (drop used piece) fault = subst (λ x. Halts mid new x fault) (the-end used piece) h in
    halts-then old mid new (rest ++ piece) (drop used piece) fault (from-piece old mid rest piece r1 used none p) h-here

-- memory ran out after the last message
pub halts-at-end : (old new : List TrainText) (bytes end : List ℕ) (fault : MsgFault) → Adds old new bytes end
    → fault ≡ Memory → Halts old new bytes fault
halts-at-end old new bytes end fault p e = halts-then old new new bytes end fault p (halts-memory new end fault e)

-- ---- messages that are whole in the piece

-- the next one is read
pub adds-next : (old mid new : List TrainText) (bytes : List ℕ) (used n : ℕ) (m : TrainText)
    → Adds old mid bytes (drop used bytes) → new ≡ mid ++ m ∷ []
    → SpellsTrain (take n (take (length bytes - used) (drop used bytes))) m → Adds old new bytes (drop (used + n) bytes)
adds-next old mid new bytes used n m p e s =
    let spelled : SpellsTrain (take n (drop used bytes)) m =
    subst (λ x. SpellsTrain (take n x) m) (the-end used bytes) s in
    let parts : drop used bytes ≡ take n (drop used bytes) ++ drop (used + n) bytes =
    sym (take-append-drop n (drop used bytes)) ∙ ap (λ x. take n (drop used bytes) ++ x) (drop-drop n used bytes) in
    adds-then old mid new bytes (drop used bytes) (drop (used + n) bytes) p
    (adds-one mid new (drop used bytes) (take n (drop used bytes)) (drop (used + n) bytes) m e spelled parts)

-- an empty rest
pub none-there : (xs : List ℕ) (n : ℕ) (b : Bool) → b ≡ eqb n 0 → b ≡ true → length xs ≡ n → xs ≡ []
none-there xs n b e t l = nil_from_length xs (omega (arith, l, eqb-true n 0 (sym e ∙ t)))

-- the bytes kept, without a rest before
pub kept-end : (old new : List TrainText) (bytes xs r1 kept : List ℕ) (i : ℕ) → r1 ≡ []
    → kept ≡ r1 ++ take (length xs - i) (drop i xs) → Adds old new bytes (drop i xs) → Adds old new bytes kept
kept-end old new bytes xs r1 kept i none e p =
    subst (λ x. Adds old new bytes x) (sym (e ∙ ap (λ x. x ++ take (length xs - i) (drop i xs)) none ∙ the-end i xs)) p
