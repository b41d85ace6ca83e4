-- Each entry of gathered logs has a receipt, and its event was brought by a work of the receipt's slot.
use Rattle.std.proofs.Common.{[], ⊎_elim, ◌+◌, ◌<◌, ◌==◌, ◌∙◌, ◌∷◌, ◌≡◌, All, ap, arith, cond, Contains}
use Rattle.std.proofs.Common.{if◌then◌else◌, inl, inr, List, map, Option, refl, slice_get, slice_index_or, Some, subst}
use Rattle.std.proofs.Common.{suc, sym, zero, ℕ}
use Rattle.std.proofs.lemmas.Bool.Decides.{eqb_tells}
use Rattle.std.proofs.lemmas.List.Concat.{flat_map-cons}
use Rattle.std.proofs.lemmas.List.Elements.{All-contains, Contains-append_cases}
use Rattle.std.proofs.lemmas.List.Sums.{sum_by-append, sum_by-cons}
use Rattle.std.proofs.lemmas.Option.{same_Some, slice_get-get_or}
use Rattle.std.specs.List.{count_by}
use Rattle.law_crash.proofs.Crashes.{safe_logs}
use Rattle.law_served.proofs.Brought.{all_in_log, events_of}
use Rattle.law_served.specs.Served.{AllBring, AllCameIn, Brings, IsInLog, IsServed, IsSlot, Slot, Work}
use Rattle.rbc_centre.specs.declared.event.Event.{Event}
use Rattle.rbc_centre.specs.States.{number_of}
use Rattle.rbc_log.specs.declared.entry.Entry.{Entry}
use Rattle.rbc_log.specs.Log.{LogValue}
use Rattle.rbc_log.specs.Merge.{ends_by, logs_by}
use Rattle.rbc_node.proofs.Places.{all_get}
use Rattle.rbc_node.specs.declared.receipt.Receipt.{Receipt}
use Rattle.rbc_node.specs.Gather.{AreFound, AreShared, HasEachOnce, IsFamilyOf, places_in, places_of, StandIn}
use Rattle.rbc_node.specs.Receipts.{Has}
use Rattle.rbc_spec.specs.Line.{Line}

-- ## The work that brought an event

later_item : {X : Type 0} (y : X) (xs : List X) (x : X) → Contains xs x → Contains (y ∷ xs) x
later_item y xs x has = let within = has.1 in (suc has.0, omega (arith, within), has.2)

-- one of the works brought it
record Origin (works : List Work) (event : Event) : Type 0 where
  work : Work
  its : Contains works work
  events : List Event
  brings : Brings work events
  among : Contains events event

origin : (works : List Work) (events : List Event) (event : Event) → AllBring works events → Contains events event
    → Origin works event
origin [] events event bring has =
    let none : Contains [] event = subst (λ es. Contains es event) bring has in
    absurd (let within = none.1 in let no : ⊥ = omega (arith, within) in no)
origin (work ∷ works) events event bring has =
    ⊎_elim
    (λ (own : Contains bring.0 event). record {
      work = work;
      its = (0, omega arith, refl);
      events = bring.0;
      brings = bring.3;
      among = own;
    })
    (λ (later : Contains bring.1 event).
    let it = origin works bring.1 event bring.4 later in
    record {
      work = it.work;
      its = later_item work works it.work it.its;
      events = it.events;
      brings = it.brings;
      among = it.among;
    })
    (Contains-append_cases bring.0 bring.1 event (subst (λ es. Contains es event) bring.2 has))

event_among : (receipts : List Receipt) (r : Receipt) → Contains receipts r
    → Contains (map (λ x. x.event) receipts) r.event
event_among [] r has = let within = has.1 in absurd (let no : ⊥ = omega (arith, within) in no)
event_among (x ∷ receipts) r (zero, within, is) = (0, omega arith, ap (λ (y : Receipt). y.event) is)
event_among (x ∷ receipts) r (suc i, within, is) =
    later_item x.event (map (λ y. y.event) receipts) r.event (event_among receipts r (i, omega (arith, within), is))

-- ## The receipt of an entry

-- a place that is counted among the places of receipts is that of one of them
receipt_at : (k : ℕ) (receipts : List Receipt) → 0 < count_by (λ p. p == k) (map (λ r. r.place) receipts)
    → (r : Receipt) × Contains receipts r × (r.place ≡ k)
receipt_at k [] some = absurd (let no : ⊥ = omega (arith, some) in no)
receipt_at k (r ∷ receipts) some = elim (eqb_tells r.place k) [
  | inl is ↦ (r, (0, omega arith, refl), is.1)
  | inr is ↦
      let count : count_by (λ p. p == k) (map (λ x. x.place) (r ∷ receipts))
      ≡ cond (r.place == k) 1 0 + count_by (λ p. p == k) (map (λ x. x.place) receipts) =
      sum_by-cons (λ q. cond (q == k) 1 0) r.place (map (λ x. x.place) receipts) in
      let none : ◌≡◌ {A = ℕ} (cond (r.place == k) 1 0) 0 = ap (λ b. cond b 1 0) is.0 in
      let it = receipt_at k receipts (omega (arith, some, count, none)) in
      (it.0, later_item r receipts it.0 it.1, it.2)
]

-- a slot of centre c has a receipt of place k
record Kept (slots : List Slot) (c k : ℕ) : Type 0 where
  slot : Slot
  there : Contains slots slot
  here : slot.share.centre ≡ c
  receipt : Receipt
  its : Contains slot.share.receipts receipt
  place : receipt.place ≡ k

kept_later : (s : Slot) (slots : List Slot) (c k : ℕ) → Kept slots c k → Kept (s ∷ slots) c k
kept_later s slots c k it = record {
  slot = it.slot;
  there = later_item s slots it.slot it.there;
  here = it.here;
  receipt = it.receipt;
  its = it.its;
  place = it.place;
}

find : (slots : List Slot) (c k : ℕ) → 0 < count_by (λ p. p == k) (places_of c (map (λ s. s.share) slots))
    → Kept slots c k
find [] c k some = absurd (let no : ⊥ = omega (arith, some) in no)
find (s ∷ slots) c k some =
    let others : List ℕ = places_of c (map (λ x. x.share) slots) in
    let split : count_by (λ p. p == k) (places_of c (map (λ x. x.share) (s ∷ slots)))
    ≡ count_by (λ p. p == k) (places_in c s.share) + count_by (λ p. p == k) others =
    ap (count_by (λ p. p == k)) (flat_map-cons (places_in c) s.share (map (λ x. x.share) slots))
    ∙ sum_by-append (λ q. cond (q == k) 1 0) (places_in c s.share) others in
    elim (eqb_tells s.share.centre c) [
      | inl is ↦
          let own : places_in c s.share ≡ map (λ r. r.place) s.share.receipts =
          ap (λ b. if b then map (λ (r : Receipt). r.place) s.share.receipts else []) is.0 in
          let same : count_by (λ p. p == k) (places_in c s.share)
          ≡ count_by (λ p. p == k) (map (λ r. r.place) s.share.receipts) =
          ap (count_by (λ p. p == k)) own in
          by_count s slots c k is.1 (count_by (λ p. p == k) (map (λ r. r.place) s.share.receipts)) refl
          (λ none. find slots c k (omega (arith, some, split, same, none)))
      | inr is ↦
          let own : places_in c s.share ≡ [] =
          ap (λ b. if b then map (λ (r : Receipt). r.place) s.share.receipts else []) is.0 in
          let none : count_by (λ p. p == k) (places_in c s.share) ≡ 0 = ap (count_by (λ p. p == k)) own in
          kept_later s slots c k (find slots c k (omega (arith, some, split, none)))
    ]
  where
    by_count : (x : Slot) (xs : List Slot) (c k : ℕ) → x.share.centre ≡ c → (n : ℕ)
        → count_by (λ p. p == k) (map (λ r. r.place) x.share.receipts) ≡ n
        → (n ≡ 0 → Kept xs c k) → Kept (x ∷ xs) c k
    by_count x xs c k here zero is later = kept_later x xs c k (later refl)
    by_count x xs c k here (suc n) is later =
        let it = receipt_at k x.share.receipts (omega (arith, is)) in
        record {
          slot = x;
          there = (0, omega arith, refl);
          here = here;
          receipt = it.0;
          its = it.1;
          place = it.2;
        }

-- ## All of it

found_in : (logs : List LogValue) (l : LogValue) (receipts : List Receipt) (o : Option LogValue) → o ≡ Some l
    → AreFound o receipts → StandIn l.entries receipts
found_in logs l receipts o is found = subst (λ x. AreFound x receipts) is found

came_in : (line : Line) (logs : List LogValue) (slots : List Slot) → IsFamilyOf line logs
    → AreShared logs (map (λ s. s.share) slots) → All (IsInLog logs) slots → (c : ℕ) (l : LogValue)
    → slice_get logs c ≡ Some l → AllCameIn slots c l
came_in line logs slots family shared are c l at = record {
  each = λ k d within.
      let e : Entry = slice_index_or l.entries k d in
      let number : number_of l.core ≡ c = family.centres.places.each c l at in
      let once : count_by (λ p. p == k) (places_of (number_of l.core) (map (λ s. s.share) slots)) ≡ 1 =
      (all_get (HasEachOnce (map (λ s. s.share) slots)) logs c l shared.once at).each k within in
      let here : count_by (λ p. p == k) (places_of c (map (λ s. s.share) slots)) ≡ 1 =
      subst (λ n. count_by (λ p. p == k) (places_of n (map (λ s. s.share) slots)) ≡ 1) number once in
      let it = find slots c k (omega (arith, here)) in
      let in_log = All-contains (IsInLog logs) slots it.slot are it.there in
      let its_log : slice_get logs it.slot.share.centre ≡ Some l =
      subst (λ n. slice_get logs n ≡ Some l) (sym it.here) at in
      let stands = found_in logs l it.slot.share.receipts (slice_get logs it.slot.share.centre) its_log in_log.found in
      let has = All-contains (Has l.entries) it.slot.share.receipts it.receipt stands.there it.its in
      let read : slice_get l.entries k ≡ Some e = slice_get-get_or l.entries k d within in
      let same : has.entry ≡ e =
      same_Some has.entry e (sym has.there ∙ ap (slice_get l.entries) it.place ∙ read) in
      let event : it.receipt.event ≡ e.event = sym has.event ∙ ap (λ (x : Entry). x.event) same in
      let from = origin it.slot.works (events_of it.slot.share) it.receipt.event in_log.brought
      (event_among it.slot.share.receipts it.receipt it.its) in
      record {
        slot = it.slot;
        there = it.there;
        here = it.here;
        work = from.work;
        its = from.its;
        events = from.events;
        brings = from.brings;
        among = subst (Contains from.events) event from.among;
      };
}

pub served : (line : Line) (logs : List LogValue) (slots : List Slot) → IsFamilyOf line logs
    → AreShared logs (map (λ s. s.share) slots) → All IsSlot slots → IsServed line logs slots
served line logs slots family shared are =
    let taken = all_in_log logs slots shared.found are in
    record {
      taken = taken;
      came_in = came_in line logs slots family shared taken;
      safe = safe_logs line family.centres.is_line (logs_by logs) (ends_by line logs) family.replay family.legal;
    }
