-- The events that works bring are those of the receipts of their slots.
use Rattle.std.proofs.Common.{[], ◌++◌, ◌+◌, ◌-◌, ◌^◌, ◌∙◌, ◌∷◌, ◌≡◌, All, ap, append_assoc, append-nil, List, map}
use Rattle.std.proofs.Common.{min, Option, refl, subst, sym, ℕ}
use Rattle.std.proofs.lemmas.List.{map-append}
use Rattle.std.proofs.lemmas.List.Elements.{All-cons, All-head, All-nil, All-tail}
use Rattle.law_served.specs.Served.{AllBring, AreDone, Brings, CommitsEach, IsDone, IsInLog, IsSlot, LeavesNone, Obeys}
use Rattle.law_served.specs.Served.{Reads, Receives, Resumes, Slot, Work}
use Rattle.rbc_centre.specs.declared.event.Event.{Event}
use Rattle.rbc_centre.specs.declared.event.Event.TheVariants.{Deliver, Train}
use Rattle.rbc_log.specs.Log.{LogValue}
use Rattle.rbc_msgs.specs.TrainText.{TrainText}
use Rattle.rbc_node.specs.declared.receipt.Receipt.{Receipt}
use Rattle.rbc_node.specs.Gather.{IsFound}
use Rattle.rbc_node.specs.Node.{CommitsAt}
use Rattle.rbc_node.specs.Receipts.{Committed, committed_of, ShareValue}
use Rattle.rbc_spec.specs.Frame.{Frame}
use Rattle.rbc_spec.specs.Outcome.{Outcome}
use Rattle.serve_workers.specs.Carried.{Delivers}
use Rattle.serve_workers.specs.declared.end.SessionEnd.{SessionEnd}
use Rattle.serve_workers.specs.declared.end.SessionEnd.TheVariants.{Device, EndOfStream, Fault, Refused}
use Rattle.serve_workers.specs.Session.{Joins, LeavesSo}

-- ## The events of receipts

abbrev pub events_of : ShareValue → List Event
events_of share = map (λ r. r.event) share.receipts

by_content : (receipts : List Receipt)
    → map (λ (r : Receipt). r.event) receipts ≡ map (λ (x : Committed). x.event) (map committed_of receipts)
by_content [] = refl
by_content (r ∷ rs) = ap (λ es. r.event ∷ es) (by_content rs)

-- a commit adds its event
one_more : (c : ℕ) (old new : ShareValue) (event : Event) (outcome : Outcome) → CommitsAt c old new event outcome
    → events_of new ≡ events_of old ++ event ∷ []
one_more c old new event outcome commit =
    by_content new.receipts
    ∙ ap (map (λ (x : Committed). x.event)) commit.3.receipts
    ∙ map-append (λ (x : Committed). x.event) (map committed_of old.receipts) _
    ∙ ap (λ es. es ++ event ∷ []) (sym (by_content old.receipts))

one_first : (xs ys zs ts : List Event) (x : Event) → ys ≡ xs ++ x ∷ [] → zs ≡ ys ++ ts → zs ≡ xs ++ x ∷ ts
one_first xs ys zs ts x one more = more ∙ ap (λ es. es ++ ts) one ∙ append_assoc xs (x ∷ []) ts

each_more : (c : ℕ) (old new : ShareValue) (events : List Event) → CommitsEach c old new events
    → events_of new ≡ events_of old ++ events
each_more c old new [] done = ap events_of done ∙ sym (append-nil (events_of old))
each_more c old new (event ∷ events) done =
    one_first (events_of old) (events_of done.0) (events_of new) events event
    (one_more c old done.0 event done.1 done.2) (each_more c done.0 new events done.3)

joined_more : (c : ℕ) (old new : ShareValue) (messages : List TrainText) → Joins c old new messages
    → events_of new ≡ events_of old ++ map (λ m. Train m) messages
joined_more c old new [] done = ap events_of done ∙ sym (append-nil (events_of old))
joined_more c old new (m ∷ messages) done =
    one_first (events_of old) (events_of done.0) (events_of new) (map (λ n. Train n) messages) (Train m)
    (one_more c old done.0 (Train m) done.1 done.2) (joined_more c done.0 new messages done.3)

delivered_more : (known : ℕ → Option Frame) (c from n : ℕ) (old new : ShareValue) (frames : List Frame)
    → Delivers known c from n old new frames
    → events_of new ≡ events_of old ++ map (λ f. Deliver from f) frames
delivered_more known c from n old new [] done = ap events_of done ∙ sym (append-nil (events_of old))
delivered_more known c from n old new (f ∷ frames) done =
    one_first (events_of old) (events_of done.0) (events_of new) (map (λ g. Deliver from g) frames) (Deliver from f)
    (one_more c old done.0 (Deliver from f) done.1 done.3)
    (delivered_more known c from (min (n + 1) (2 ^ 32 - 1)) done.0 new frames done.4)

-- ## The works of a slot

leaves : (c : ℕ) (share : ShareValue) (rest : List ℕ) (end : SessionEnd) → LeavesSo c share rest end
    → LeavesNone rest end
leaves c share rest EndOfStream left = left
leaves c share rest Device left = left
leaves c share rest (Fault fault) left = left
leaves c share rest (Refused fault) left = tt

-- a work brings events, and its share gets just theirs
work_adds : (c : ℕ) (old new : ShareValue) (work : Work) → IsDone c old work new
    → (events : List Event) × Brings work events × (events_of new ≡ events_of old ++ events)
work_adds c old new (Reads read end) done = (
  map (λ m. Train m) done.messages,
  (done.messages, done.rest, done.spelled, leaves c new done.rest end done.leaves, refl),
  joined_more c old new done.messages done.joins,
)
work_adds c old new (Obeys asked) done = (asked, (done.0, refl), each_more c old new asked done.1)
work_adds c old new (Receives from known first frames) done =
    (map (λ f. Deliver from f) frames, refl, delivered_more known c from first old new frames done)
work_adds c old new (Resumes again) done = (again, refl, each_more c old new again done)

works_add : (c : ℕ) (old new : ShareValue) (works : List Work) → AreDone c old works new
    → (events : List Event) × AllBring works events × (events_of new ≡ events_of old ++ events)
works_add c old new [] done = ([], refl, ap events_of done ∙ sym (append-nil (events_of old)))
works_add c old new (work ∷ works) done =
    let one = work_adds c old done.0 work done.1 in
    let others = works_add c done.0 new works done.2 in (
      one.0 ++ others.0,
      (one.0, others.0, refl, one.1, others.1),
      others.2 ∙ ap (λ es. es ++ others.0) one.2 ∙ append_assoc (events_of old) one.0 others.0,
    )

brought : (slot : Slot) → IsSlot slot → AllBring slot.works (events_of slot.share)
brought slot is =
    let it = works_add slot.share.centre (record { centre = slot.share.centre; receipts = [] }) slot.share slot.works
    is.done in
    subst (AllBring slot.works) (sym it.2) it.1

pub all_in_log : (logs : List LogValue) (slots : List Slot) → All (IsFound logs) (map (λ s. s.share) slots)
    → All IsSlot slots → All (IsInLog logs) slots
all_in_log logs [] found are = All-nil (IsInLog logs)
all_in_log logs (s ∷ slots) found are =
    All-cons (IsInLog logs) s slots
    (record {
      found = (All-head (IsFound logs) s.share (map (λ x. x.share) slots) found).found;
      brought = brought s (All-head IsSlot s slots are);
    })
    (all_in_log logs slots (All-tail (IsFound logs) s.share (map (λ x. x.share) slots) found)
    (All-tail IsSlot s slots are))
