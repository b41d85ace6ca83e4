-- Bytes are messages and a rest, or messages and a fault, in one way. Two pieces of a stream and both at once.
use Rattle.std.proofs.Common.{[], ◌++◌, ◌∙◌, ◌∷◌, ◌≡◌, ◌≢◌, ap, append_assoc, arith, Err, inl, inr, length}
use Rattle.std.proofs.Common.{length-append, List, None, Ok, Option, refl, Result, Some, subst, sym, take, ℕ}
use Rattle.std.proofs.lemmas.List.{take_at}
use Rattle.rbc_msgs.proofs.Needed.{spelled-needed}
use Rattle.rbc_msgs.proofs.Streams.{adds-after, adds-then, halts-after, halts-then}
use Rattle.rbc_msgs.proofs.TrainLaws.{one_train_message, read_train-again, train_spellings-apart}
use Rattle.rbc_msgs.specs.declared.fault.MsgFault.{MsgFault}
use Rattle.rbc_msgs.specs.declared.fault.MsgFault.TheVariants as message
use Rattle.rbc_msgs.specs.declared.fault.StreamFault.{StreamFault}
use Rattle.rbc_msgs.specs.declared.fault.StreamFault.TheVariants.{Failed, Message}
use Rattle.rbc_msgs.specs.Streams.{Adds, Continues, Fed, HadMemory, Halts, IsEnd, IsRest, needed_at, ShowsFault, Spell}
use Rattle.rbc_msgs.specs.TrainReading.{read_train}
use Rattle.rbc_msgs.specs.TrainSpelling.{SpellsTrain}
use Rattle.rbc_msgs.specs.TrainText.{TrainText}

-- # Bytes are messages and a rest, or messages and a fault, in one way.

-- the needed number of bytes is unique
one-needed : (bytes : List ℕ) (m n : ℕ) → needed_at bytes ≡ Ok m → needed_at bytes ≡ Ok n → m ≡ n
one-needed bytes m n p q = cc

not-both : (bytes : List ℕ) (n : ℕ) (fault : MsgFault) → needed_at bytes ≡ Ok n → needed_at bytes ≡ Err fault → ⊥
not-both bytes n fault p q = cc

not-read : (bytes : List ℕ) (m : TrainText) (fault : MsgFault) → read_train bytes ≡ Ok m → read_train bytes ≡ Err fault
    → ⊥
not-read bytes m fault p q = cc

-- ---- a message, a rest and a fault exclude each other

pub rest-no-message : (first later : List ℕ) (m : TrainText) → SpellsTrain first m → IsRest (first ++ later) → ⊥
rest-no-message first later m s h =
    let same = one-needed (first ++ later) h.needed (length first) h.at (spelled-needed first later m s) in
    let fewer = h.fewer in
    omega (arith, length-append first later)

fault-no-message : (first later : List ℕ) (m : TrainText) (fault : MsgFault) → SpellsTrain first m
    → ShowsFault (first ++ later) fault → ⊥
fault-no-message first later m fault s (inl e) =
    not-both (first ++ later) (length first) fault (spelled-needed first later m s) e
fault-no-message first later m fault s (inr h) =
    let same = one-needed (first ++ later) h.l_message (length first) h.at (spelled-needed first later m s) in
    let front : take h.l_message (first ++ later) ≡ first = take_at first later h.l_message (sym same) in
    not-read first m fault (read_train-again first m s) (ap read_train (sym front) ∙ h.refused)

end-no-message : (first later : List ℕ) (m : TrainText) → SpellsTrain first m → IsEnd (first ++ later) → ⊥
end-no-message first later m s (inl h) = rest-no-message first later m s h
end-no-message first later m s (inr h) = fault-no-message first later m h.0 s h.1

pub rest-no-fault : (bytes : List ℕ) (fault : MsgFault) → IsRest bytes → ShowsFault bytes fault → ⊥
rest-no-fault bytes fault h (inl e) = not-both bytes h.needed fault h.at e
rest-no-fault bytes fault h (inr g) =
    let same = one-needed bytes h.needed g.l_message h.at g.at in
    let fewer = h.fewer in
    let whole = g.whole in
    omega arith

pub one-fault : (bytes : List ℕ) (e f : MsgFault) → ShowsFault bytes e → ShowsFault bytes f → e ≡ f
one-fault bytes e f (inl p) (inl q) = cc
one-fault bytes e f (inl p) (inr q) = absurd (not-both bytes q.l_message e q.at p)
one-fault bytes e f (inr p) (inl q) = absurd (not-both bytes p.l_message f p.at q)
one-fault bytes e f (inr p) (inr q) =
    let same = one-needed bytes p.l_message q.l_message p.at q.at in
    let there : read_train (take q.l_message bytes) ≡ Err e =
    ap (λ n. read_train (take n bytes)) (sym same) ∙ p.refused in
    cc (there, q.refused)

-- ---- a list of messages

pub one-row : (bytes r s : List ℕ) (ms ns : List TrainText) → Spell bytes ms r → Spell bytes ns s → IsEnd r → IsEnd s
    → (ms ≡ ns) × (r ≡ s)
one-row bytes r s [] [] p q r-ends s-ends = (refl, sym p ∙ q)
one-row bytes r s [] (n ∷ ns) p q r-ends s-ends =
    absurd (end-no-message q.0 q.1 n q.3 (subst IsEnd (sym p ∙ q.2) r-ends))
one-row bytes r s (m ∷ ms) [] p q r-ends s-ends =
    absurd (end-no-message p.0 p.1 m p.3 (subst IsEnd (sym q ∙ p.2) s-ends))
one-row bytes r s (m ∷ ms) (n ∷ ns) p q r-ends s-ends =
    let apart = train_spellings-apart p.0 q.0 p.1 q.1 m n p.3 q.3 (sym p.2 ∙ q.2) in
    let same : m ≡ n = one_train_message p.0 m n p.3 (subst (λ x. SpellsTrain x n) (sym apart.0) q.3) in
    let others = one-row p.1 r s ms ns p.4 (subst (λ x. Spell x ns s) (sym apart.1) q.4) r-ends s-ends in
    (ap (λ x. x ∷ ms) same ∙ ap (λ x. n ∷ x) others.0, others.1)

pub one-adding : (old new whole : List TrainText) (bytes r s : List ℕ) → Adds old new bytes r → Adds old whole bytes s
    → IsEnd r → IsEnd s → (whole ≡ new) × (s ≡ r)
one-adding old new whole bytes r s p q r-ends s-ends =
    let same = one-row bytes s r q.messages p.messages q.spelled p.spelled s-ends r-ends in
    (q.added ∙ ap (λ x. old ++ x) same.0 ∙ sym p.added, same.1)

-- # Two pieces of a stream and both at once.

one-kept : (before : Option (List ℕ)) (x y : List ℕ) → before ≡ Some x → before ≡ Some y → x ≡ y
one-kept before x y p q = cc

not-none : (before : Option (List ℕ)) (x : List ℕ) → before ≡ Some x → before ≡ None → ⊥
not-none before x p q = cc

known : (fault : MsgFault) → HadMemory (Err (Message fault)) → fault ≢ message.Memory
known fault h e = h (ap (λ f. Err (Message f)) e)

-- ---- both pieces at once

both-bytes : (old new : List TrainText) (kept a b r : List ℕ) → Adds old new (kept ++ a) r
    → Adds old new (kept ++ (a ++ b)) (r ++ b)
both-bytes old new kept a b r p =
    subst (λ x. Adds old new x (r ++ b)) (append_assoc kept a b) (adds-after old new (kept ++ a) r b p)

-- the messages of the first piece, and then those of its rest and the second piece
pub adds-both : (old mid new : List TrainText) (a b r s : List ℕ) → Adds old mid a r → Adds mid new (r ++ b) s
    → Adds old new (a ++ b) s
adds-both old mid new a b r s p q = adds-then old mid new (a ++ b) (r ++ b) s (adds-after old mid a r b p) q

then-halts : (old new : List TrainText) (kept a b : List ℕ) (fault : MsgFault) → Halts old new (kept ++ a) fault
    → Halts old new (kept ++ (a ++ b)) fault
then-halts old new kept a b fault h =
    subst (λ x. Halts old new x fault) (append_assoc kept a b) (halts-after old new (kept ++ a) b fault h)

pub fed-then : (before middle after : Option (List ℕ)) (a b : List ℕ) (old mid new : List TrainText)
    (result : Result (Unit {0}) StreamFault)
    → Continues before a old mid middle → Fed middle b mid new result after → Fed before (a ++ b) old new result after
fed-then before middle after a b old mid new (Ok u) p q =
    let same : q.kept ≡ p.rest = one-kept middle q.kept p.rest q.was p.now in
    let later : Adds mid new (p.rest ++ b) q.rest = subst (λ x. Adds mid new (x ++ b) q.rest) same q.adds in
    record {
      kept = p.kept;
      rest = q.rest;
      was = p.was;
      now = q.now;
      adds =
          adds-then old mid new (p.kept ++ (a ++ b)) (p.rest ++ b) q.rest
          (both-bytes old mid p.kept a b p.rest p.adds) later;
      ends = q.ends;
    }
fed-then before middle after a b old mid new (Err (Message fault)) p q =
    let same : q.kept ≡ p.rest = one-kept middle q.kept p.rest q.was p.now in
    let later : Halts mid new (p.rest ++ b) fault = subst (λ x. Halts mid new (x ++ b) fault) same q.halts in
    record {
      kept = p.kept;
      was = p.was;
      now = q.now;
      halts =
          halts-then old mid new (p.kept ++ (a ++ b)) (p.rest ++ b) fault
          (both-bytes old mid p.kept a b p.rest p.adds) later;
    }
fed-then before middle after a b old mid new (Err Failed) p q = absurd (not-none middle p.rest p.now q.was)

pub fault-then : (before after : Option (List ℕ)) (a b : List ℕ) (old new : List TrainText) (fault : StreamFault)
    → Fed before a old new (Err fault) after → Fed before (a ++ b) old new (Err fault) after
fault-then before after a b old new (Message fault) p =
    record { kept = p.kept; was = p.was; now = p.now; halts = then-halts old new p.kept a b fault p.halts }
fault-then before after a b old new Failed p = p

-- ---- the result of a call is one

-- two calls from one rest
same-bytes : (before : Option (List ℕ)) (piece x y : List ℕ) → before ≡ Some x → before ≡ Some y
    → y ++ piece ≡ x ++ piece
same-bytes before piece x y p q = ap (λ k. k ++ piece) (one-kept before y x q p)

pub one-answer : (before after once : Option (List ℕ)) (piece : List ℕ) (old new whole : List TrainText)
    (result answer : Result (Unit {0}) StreamFault)
    → Fed before piece old new result after → HadMemory result → Fed before piece old whole answer once
    → HadMemory answer → (whole ≡ new) × (answer ≡ result) × (once ≡ after)
one-answer before after once piece old new whole (Ok u) (Ok v) p p-had q q-had =
    let adds : Adds old whole (p.kept ++ piece) q.rest =
    subst (λ x. Adds old whole x q.rest) (same-bytes before piece p.kept q.kept p.was q.was) q.adds in
    let one = one-adding old new whole (p.kept ++ piece) p.rest q.rest p.adds adds (inl p.ends) (inl q.ends) in
    (one.0, refl, q.now ∙ ap (λ x. Some x) one.1 ∙ sym p.now)
one-answer before after once piece old new whole (Ok u) (Err (Message f)) p p-had q q-had =
    let halts : Halts old whole (p.kept ++ piece) f =
    subst (λ x. Halts old whole x f) (same-bytes before piece p.kept q.kept p.was q.was) q.halts in
    let shows = halts.shows (known f q-had) in
    let one =
    one-adding old new whole (p.kept ++ piece) p.rest halts.rest p.adds halts.adds (inl p.ends) (inr (f, shows)) in
    absurd (rest-no-fault halts.rest f (subst IsRest (sym one.1) p.ends) shows)
one-answer before after once piece old new whole (Ok u) (Err Failed) p p-had q q-had =
    absurd (not-none before p.kept p.was q.was)
one-answer before after once piece old new whole (Err (Message e)) (Ok v) p p-had q q-had =
    let halts : Halts old new (q.kept ++ piece) e =
    subst (λ x. Halts old new x e) (same-bytes before piece q.kept p.kept q.was p.was) p.halts in
    let shows = halts.shows (known e p-had) in
    let one =
    one-adding old new whole (q.kept ++ piece) halts.rest q.rest halts.adds q.adds (inr (e, shows)) (inl q.ends) in
    absurd (rest-no-fault halts.rest e (subst IsRest one.1 q.ends) shows)
one-answer before after once piece old new whole (Err (Message e)) (Err (Message f)) p p-had q q-had =
    let halts : Halts old whole (p.kept ++ piece) f =
    subst (λ x. Halts old whole x f) (same-bytes before piece p.kept q.kept p.was q.was) q.halts in
    let first = p.halts in
    let shows = first.shows (known e p-had) in
    let others = halts.shows (known f q-had) in
    let one =
    one-adding old new whole (p.kept ++ piece) first.rest halts.rest first.adds halts.adds (inr (e, shows))
    (inr (f, others)) in
    let fault : f ≡ e = one-fault first.rest f e (subst (λ x. ShowsFault x f) one.1 others) shows in
    (one.0, ap (λ x. Err (Message x)) fault, q.now ∙ sym p.now)
one-answer before after once piece old new whole (Err (Message e)) (Err Failed) p p-had q q-had =
    absurd (not-none before p.kept p.was q.was)
one-answer before after once piece old new whole (Err Failed) (Ok v) p p-had q q-had =
    absurd (not-none before q.kept q.was p.was)
one-answer before after once piece old new whole (Err Failed) (Err (Message f)) p p-had q q-had =
    absurd (not-none before q.kept q.was p.was)
one-answer before after once piece old new whole (Err Failed) (Err Failed) p p-had q q-had =
    (q.same ∙ sym p.same, refl, q.now ∙ sym p.now)
