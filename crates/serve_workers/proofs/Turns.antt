-- One turn of a session: a received piece, the messages that are complete with it, and the rest.
use Rattle.std.proofs.Common.{[], ◌++◌, ◌∙◌, ◌∷◌, ◌≡◌, ap, append-nil, append_assoc, Err, List, None, Ok, Option, refl}
use Rattle.std.proofs.Common.{Result, Some, subst, sym, ℕ}
use Rattle.std.proofs.lemmas.Option.{none-some, same_Some}
use Rattle.std.specs.Io.KnownBytes.{Consumes}
use Rattle.rbc_msgs.proofs.Streams.{adds-after, adds-none, adds-then}
use Rattle.rbc_msgs.specs.declared.fault.StreamFault.TheVariants.{Failed, Message}
use Rattle.rbc_msgs.specs.Streams.{Adds, IsRest, Spell}
use Rattle.rbc_msgs.specs.TrainText.{TrainText}
use Rattle.rbc_node.specs.declared.fault.ShareFault.{ShareFault}
use Rattle.rbc_node.specs.Receipts.{ShareValue}
use Rattle.serve_workers.specs.declared.end.SessionEnd.TheVariants.{Refused}
use Rattle.serve_workers.specs.declared.reading.reading.IntakeEnd.{IntakeEnd}
use Rattle.serve_workers.specs.declared.reading.reading.IntakeEnd.TheVariants as end
use Rattle.serve_workers.specs.Ends.{end_of_intake}
use Rattle.serve_workers.specs.Reading.Intake as intake
use Rattle.serve_workers.specs.Reading.Intake.{Brings}
use Rattle.serve_workers.specs.Session.{CommitsAll, Joins, LeavesSo, Serves, Shows}

-- ## Messages that are committed in order

pub joins-none : (c : ℕ) (s : ShareValue) → Joins c s s []
joins-none c s = refl

pub joins-same : (c : ℕ) (r s t : ShareValue) (ms : List TrainText) → t ≡ s → Joins c r s ms → Joins c r t ms
joins-same c r s t ms e h = subst (λ (v : ShareValue). Joins c r v ms) (sym e) h

pub joins-then : (c : ℕ) (r s t : ShareValue) (ms ns : List TrainText) → Joins c r s ms → Joins c s t ns
    → Joins c r t (ms ++ ns)
joins-then c r s t [] ns h k = subst (λ (v : ShareValue). Joins c v t ns) h k
joins-then c r s t (m ∷ ms) ns (mid, outcome, commits, rest) k =
    (mid, outcome, commits, joins-then c mid s t ms ns rest k)

-- ## A turn

-- messages that were added to an empty list
of_adds : (ms : List TrainText) (bytes rest : List ℕ) → Adds [] ms bytes rest → Spell bytes ms rest
of_adds ms bytes rest h = subst (λ xs. Spell bytes xs rest) (sym h.added) h.spelled

-- a list of messages, split in two
pub spell-split : (ms ns : List TrainText) (a s : List ℕ) → Spell a (ms ++ ns) s
    → (r : List ℕ) × Spell a ms r × Spell r ns s
spell-split [] ns a s h = (a, refl, h)
spell-split (m ∷ ms) ns a s h = let rest = spell-split ms ns h.1 s h.4 in (rest.0, (h.0, h.1, h.2, h.3, rest.1), rest.2)

-- the bytes left after the messages of one read
abbrev pub Leaves : List ℕ → Option (List ℕ) → Result (Unit {0}) IntakeEnd → Type 0
Leaves rest after (Ok _) = (after ≡ Some rest) × IsRest rest
Leaves rest after (Err end.EndOfStream) = IsRest rest
Leaves rest after (Err end.Device) = IsRest rest
Leaves rest after (Err (end.Fault fault)) = Shows rest fault

-- one read: its messages, and the rest of the kept bytes and the piece
pub record IsTurn (kept piece : List ℕ) (messages : List TrainText) (after : Option (List ℕ))
    (result : Result (Unit {0}) IntakeEnd) : Type 0 where
  pub rest : List ℕ
  pub adds : Adds [] messages (kept ++ piece) rest
  pub leaves : Leaves rest after result

quiet : (kept piece : List ℕ) (messages : List TrainText) (after : Option (List ℕ))
    → intake.IsQuiet (Some kept) piece [] messages after → Adds [] messages (kept ++ piece) kept
quiet kept piece messages after h =
    subst (λ ms. Adds [] ms (kept ++ piece) kept) (sym h.messages)
    (subst (λ bytes. Adds [] [] bytes kept) (sym (ap (λ xs. kept ++ xs) h.nothing ∙ append-nil kept))
    (adds-none [] kept))

pub turn : (kept piece : List ℕ) (old messages : List TrainText) (before after : Option (List ℕ))
    (result : Result (Unit {0}) IntakeEnd)
    → IsRest kept → before ≡ Some kept → old ≡ [] → Brings before piece old messages result after
    → IsTurn kept piece messages after result
turn kept piece old messages before after (Ok x) is_rest was none h =
    let same : h.kept ≡ kept = same_Some h.kept kept (sym h.was ∙ was) in
    let adds : Adds [] messages (kept ++ piece) h.rest = subst (λ ms. Adds ms messages (kept ++ piece) h.rest) none
    (subst (λ k. Adds old messages (k ++ piece) h.rest) same h.adds) in
    record { rest = h.rest; adds = adds; leaves = (h.now, h.ends) }
turn kept piece old messages before after (Err end.EndOfStream) is_rest was none h =
    record {
      rest = kept;
      adds =
          quiet kept piece messages after
          (record { nothing = h.nothing; messages = h.messages ∙ none; stream = h.stream ∙ was });
      leaves = is_rest;
    }
turn kept piece old messages before after (Err end.Device) is_rest was none h =
    record {
      rest = kept;
      adds =
          quiet kept piece messages after
          (record { nothing = h.nothing; messages = h.messages ∙ none; stream = h.stream ∙ was });
      leaves = is_rest;
    }
turn kept piece old messages before after (Err (end.Fault (Message fault))) is_rest was none h =
    let same : h.kept ≡ kept = same_Some h.kept kept (sym h.was ∙ was) in
    let halts = h.halts in
    let adds : Adds [] messages (kept ++ piece) halts.rest = subst (λ ms. Adds ms messages (kept ++ piece) halts.rest)
    none (subst (λ k. Adds old messages (k ++ piece) halts.rest) same halts.adds) in
    record { rest = halts.rest; adds = adds; leaves = halts.shows }
turn kept piece old messages before after (Err (end.Fault Failed)) is_rest was none h =
    absurd (none-some kept (sym h.was ∙ was))

-- all turns so far, and one more
pub adds-turn : (read kept piece rest : List ℕ) (done messages : List TrainText) → Adds [] done read kept
    → Adds [] messages (kept ++ piece) rest → Adds [] (done ++ messages) (read ++ piece) rest
adds-turn read kept piece rest done messages before now =
    let added : Adds done (done ++ messages) (kept ++ piece) rest =
    record { messages = messages; added = refl; spelled = of_adds messages (kept ++ piece) rest now } in
    adds-then [] done (done ++ messages) (read ++ piece) (kept ++ piece) rest
    (adds-after [] done read kept piece before) added

-- the session ends as its reading did
leaves-end : (c : ℕ) (share : ShareValue) (rest : List ℕ) (after : Option (List ℕ)) (e : IntakeEnd)
    → Leaves rest after (Err e) → LeavesSo c share rest (end_of_intake e)
leaves-end c share rest after end.EndOfStream h = h
leaves-end c share rest after end.Device h = h
leaves-end c share rest after (end.Fault fault) h = h

pub serves-end : (c : ℕ) (old mid new : ShareValue) (read kept piece : List ℕ) (done messages : List TrainText)
    (after : Option (List ℕ)) (e : IntakeEnd)
    → Adds [] done read kept → Joins c old mid done → IsTurn kept piece messages after (Err e)
    → Joins c mid new messages → Serves c old new (read ++ piece) (end_of_intake e)
serves-end c old mid new read kept piece done messages after e before joins t joined =
    record {
      messages = done ++ messages;
      rest = t.rest;
      spelled =
          of_adds (done ++ messages) (read ++ piece) t.rest
          (adds-turn read kept piece t.rest done messages before t.adds);
      joins = joins-then c old mid new done messages joins joined;
      leaves = leaves-end c new t.rest after e t.leaves;
    }

-- a message of the turn was refused
pub serves-refused : (c : ℕ) (old mid new : ShareValue) (read kept piece : List ℕ) (done messages : List TrainText)
    (after : Option (List ℕ)) (result : Result (Unit {0}) IntakeEnd) (fault : ShareFault)
    → Adds [] done read kept → Joins c old mid done → IsTurn kept piece messages after result
    → CommitsAll c mid new messages (Err fault) → Serves c old new (read ++ piece) (Refused fault)
serves-refused c old mid new read kept piece done messages after result fault before joins t h =
    let these = h.0 in
    let next = h.1 in
    let later = h.2 in
    let all : Spell (read ++ piece) (done ++ messages) t.rest = of_adds (done ++ messages) (read ++ piece) t.rest
    (adds-turn read kept piece t.rest done messages before t.adds) in
    let parts : done ++ messages ≡ (done ++ these) ++ next ∷ later =
    ap (λ xs. done ++ xs) h.3 ∙ sym (append_assoc done these (next ∷ later)) in
    let cut = spell-split (done ++ these) (next ∷ later) (read ++ piece) t.rest
    (subst (λ xs. Spell (read ++ piece) xs t.rest) parts all) in
    let refused = cut.2 in
    record {
      messages = done ++ these;
      rest = cut.0;
      spelled = cut.1;
      joins = joins-then c old mid new done these joins h.4;
      leaves = (refused.0, refused.1, next, refused.2, refused.3, h.5);
    }

-- bytes of consecutive reads
pub consumes-then : (a b c : Option (List ℕ)) (xs ys : List ℕ) → Consumes a b xs → Consumes b c ys
    → Consumes a c (xs ++ ys)
consumes-then None b c xs ys h k = tt
consumes-then (Some p) None c xs ys h k = absurd h
consumes-then (Some p) (Some q) None xs ys h k = absurd k
consumes-then (Some p) (Some q) (Some r) xs ys h k = h ∙ ap (λ zs. xs ++ zs) k ∙ sym (append_assoc xs ys r)
