-- The print at the control endpoint.
use Rattle.std.proofs.Common.{[], ◌++◌, ◌+◌, ◌<◌, ◌∙◌, ◌∷◌, ◌≡◌, ap, append-nil, append_assoc, Err, get_or, Global}
use Rattle.std.proofs.Common.{length, List, None, Ok, OnOk, Option, refl, Result, Some, subst, sym, take, Vec, ℕ}
use Rattle.std.proofs.lemmas.List.{take_more}
use Rattle.std.specs.Io.KnownBytes.{Appends}
use Rattle.law_logs.specs.Logs.{happened, happening}
use Rattle.rbc_log.specs.declared.entry.Entry.{Entry}
use Rattle.rbc_log.specs.Entries.{entry_of}
use Rattle.rbc_msgs.proofs.TrainLaws.{read_train-again}
use Rattle.rbc_msgs.specs.TrainSpelling.{SpellsTrain}
use Rattle.rbc_msgs.specs.TrainText.{TrainText}
use Rattle.rbc_node.specs.declared.fault.ShareFault.{ShareFault}
use Rattle.rbc_spec.specs.Line.{Line}
use Rattle.rbc_spec.specs.World.{Answer, Bytes, Event as Happening, World, world_step}
use Rattle.serve_control.specs.Answers.{IsCommitPrint}
use Rattle.serve_control.specs.Events.{IsCommitted}
use Rattle.serve_control.specs.Prints.{ArePrinted, IsEntryPrint}
use Rattle.text_script.specs.Print.Answers.{IsOutcomePrint}
use Rattle.text_script.specs.Print.Rows.{event_row, name_at}
use Rattle.text_script.specs.rbc_centre.declared.event.Event.{Event}
use Rattle.text_script.specs.rbc_centre.declared.event.Event.TheVariants.{Train}
use Rattle.text_script.specs.rbc_centre.declared.outcome.Outcome.{Outcome}
use Rattle.text_script.specs.rbc_centre.Views as centre
use Rattle.text_script.specs.rbc_centre.Views.{outcome_of}
use Rattle.text_script.specs.rbc_world.declared.event.WorldEvent.{WorldEvent}
use Rattle.text_script.specs.rbc_world.declared.event.WorldEvent.TheVariants as world
use Rattle.text_script.specs.rbc_world.Views.{event_of, numbered}

-- ## The event printed for a train's message is the event that happened

pub message_happened : (e : Entry) (m : TrainText) (bytes : Vec ℕ Global) → e.event ≡ Train m
    → SpellsTrain bytes.items m →
    event_of (world.Train e.centre bytes) ≡ happened (entry_of e)
message_happened e m bytes is spelled =
    ap (λ read. Bytes e.centre (numbered read)) (read_train-again bytes.items m spelled)
    ∙ sym (ap (λ event. happening e.centre (centre.event_of event)) is)

-- and it has the whole message
pub message_whole : (e : Entry) (m : TrainText) (bytes : Vec ℕ Global) → e.event ≡ Train m → SpellsTrain bytes.items m
    → IsCommitted e.centre e.event (world.Train e.centre bytes)
message_whole e m bytes is spelled =
    subst (λ (event : Event). IsCommitted e.centre event (world.Train e.centre bytes)) (sym is) (refl, spelled)

-- ## The print at the control endpoint after an event: its line, and its effects

pub adds_both : (a b c : Option (List ℕ)) (xs ys : List ℕ) → Appends a b xs → Appends b c ys → Appends a c (xs ++ ys)
adds_both None b c xs ys h k = tt
adds_both (Some p) None c xs ys h k = absurd h
adds_both (Some p) (Some q) None xs ys h k = absurd k
adds_both (Some p) (Some q) (Some r) xs ys h k = k ∙ ap (λ zs. zs ++ ys) h ∙ append_assoc p xs ys

pub committed : {X E : Type 0} (r : Result X E) (a b d : Option (List ℕ)) (line : Line) (c : ℕ) (name : List ℕ)
    (event : WorldEvent) (answer : Result Outcome ShareFault) (outcome : Outcome)
    → answer ≡ Ok outcome → name ≡ name_at line c → Appends a b (event_row line event)
    → OnOk r ((text : List ℕ) × IsOutcomePrint line name (outcome_of outcome) text × Appends b d text)
    → OnOk r ((text : List ℕ) × IsCommitPrint line c event answer text × Appends a d text)
committed (Ok x) a b d line c name event answer outcome is at wrote (rows, printed, adds) = (
  event_row line event ++ rows,
  subst (λ (kept : Result Outcome ShareFault). IsCommitPrint line c event kept (event_row line event ++ rows)) (sym is)
      (rows, subst (λ (centre : List ℕ). IsOutcomePrint line centre (outcome_of outcome) rows) at printed, refl),
  adds_both a b d (event_row line event) rows wrote adds,
)
committed (Err e) a b d line c name event answer outcome is at wrote printed = tt

-- ## The print of merged entries

-- the line of an event, and those of its outcome after it
pub entry_printed : (a b d : Option (List ℕ)) (line : Line) (e : Entry) (name : List ℕ) (event : WorldEvent)
    → IsCommitted e.centre e.event event → name ≡ name_at line e.centre → Appends a b (event_row line event)
    → (rows : List ℕ) × IsOutcomePrint line name (outcome_of e.outcome) rows × Appends b d rows
    → (text : List ℕ) × IsEntryPrint line e text × Appends a d text
entry_printed a b d line e name event whole at wrote (rows, printed, adds) = (
  event_row line event ++ rows,
  (
    event,
    rows,
    whole,
    subst (λ (centre : List ℕ). IsOutcomePrint line centre (outcome_of e.outcome) rows) at printed,
    refl,
  ),
  adds_both a b d (event_row line event) rows wrote adds,
)

-- the lines of one more entry follow the others
pub printed_more : (line : Line) (w v x : World) (entries : List Entry) (e : Entry) (answer : Answer)
    (text rows : List ℕ) → ArePrinted line w entries v text
    → world_step line v (happened (entry_of e)) ≡ Ok (answer, x) → IsEntryPrint line e rows
    → ArePrinted line w (entries ++ e ∷ []) x (text ++ rows)
printed_more line w v x [] e answer text rows (same, none) step is = (
  answer,
  x,
  rows,
  [],
  subst (λ (u : World). world_step line u (happened (entry_of e)) ≡ Ok (answer, x)) same step,
  is,
  (refl, refl),
  ap (λ xs. xs ++ rows) none ∙ sym (append-nil rows),
)
printed_more line w v x (q ∷ entries) e answer text rows (a, y, first, others, stepped, its, rest, cut) step is = (
  a,
  y,
  first,
  others ++ rows,
  stepped,
  its,
  printed_more line y v x entries e answer others rows rest step is,
  ap (λ xs. xs ++ rows) cut ∙ append_assoc first others rows,
)

-- the same step, of the same line and event
pub same_step : (l line : Line) (v x : World) (event same : Happening) (answer : Answer) → l ≡ line → event ≡ same
    → world_step l v event ≡ Ok (answer, x) → world_step line v same ≡ Ok (answer, x)
same_step l line v x event same answer of is step =
    subst (λ (k : Line). world_step k v same ≡ Ok (answer, x)) of
    (subst (λ (h : Happening). world_step l v h ≡ Ok (answer, x)) is step)

-- the entries before place i and the entry at i, after an earlier text
pub next_printed : (a b d : Option (List ℕ)) (line : Line) (w v x : World) (entries : List Entry) (i : ℕ) (e : Entry)
    (answer : Answer) → i < length entries → e ≡ get_or entries i e
    → (text : List ℕ) × ArePrinted line w (take i entries) v text × Appends a b text
    → world_step line v (happened (entry_of e)) ≡ Ok (answer, x)
    → (rows : List ℕ) × IsEntryPrint line e rows × Appends b d rows
    → (text : List ℕ) × ArePrinted line w (take (i + 1) entries) x text × Appends a d text
next_printed a b d line w v x entries i e answer low at (text, printed, adds) step (rows, is, more) = (
  text ++ rows,
  subst (λ (es : List Entry). ArePrinted line w es x (text ++ rows))
      (sym (take_more entries i e low ∙ ap (λ (q : Entry). take i entries ++ q ∷ []) (sym at)))
      (printed_more line w v x (take i entries) e answer text rows printed step is),
  adds_both a b d text rows adds more,
)
