-- If each delivered frame is found in the log at its sender's position, the logs are a family.
use Rattle.std.proofs.Common.{[], ◌≡◌, All, arith, Contains, List, map, None, Option, refl, slice_get, slice_index_or}
use Rattle.std.proofs.Common.{Some, subst, sym, ℕ}
use Rattle.std.proofs.lemmas.List.{get_or-map, length-map}
use Rattle.std.proofs.lemmas.List.Elements.{All-map, All-nil, All-weaker}
use Rattle.std.proofs.lemmas.Option.{slice_get-get_or}
use Rattle.law_logs.specs.Logs.{IsFromLog, IsLegal, LogEntry, sent_to}
use Rattle.rbc_centre.specs.declared.event.Event.{Event}
use Rattle.rbc_centre.specs.declared.event.Event.TheVariants.{Deliver, Set, Train, Unset}
use Rattle.rbc_centre.specs.Views.{event_of}
use Rattle.rbc_log.proofs.Sent.{is_contained, sent_number}
use Rattle.rbc_log.proofs.Sides.{are_logs}
use Rattle.rbc_log.specs.declared.entry.Entry.{Entry}
use Rattle.rbc_log.specs.Entries.{entry_of}
use Rattle.rbc_log.specs.Log.{IsReplaying, LogValue}
use Rattle.rbc_log.specs.Merge.{logs_by}
use Rattle.rbc_node.proofs.Places.{all_get, log_at, no_log_at}
use Rattle.rbc_node.specs.Gather.{AreAtPlaces, AreCentresOf, IsFamily}
use Rattle.rbc_node.specs.Sent.{AllTakeSent, IsSent, TakesSent}
use Rattle.rbc_spec.specs.Line.{Line}

all_unmapped : {X Y : Type 0} (P : Y → Type 0) (f : X → Y) (xs : List X) → All P (map f xs)
    → All (λ (x : X). P (f x)) xs
all_unmapped P f xs all k d within =
    let there = all k (f d) (let long = length-map xs f in omega (arith, within, long)) in
    subst P (get_or-map f xs k d (f d) within) there

module _ (line : Line) (logs : List LogValue) (at : AreAtPlaces line logs) where
  from_sent : (c : ℕ) (event : Event) → IsSent logs c event → IsFromLog (logs_by logs) c (event_of event)
  from_sent c (Train m) h = tt
  from_sent c (Set s) h = tt
  from_sent c (Unset s) h = tt
  from_sent c (Deliver from frame) h =
      subst (λ (es : List LogEntry). Contains (sent_to c es) frame) (sym (log_at line logs at from h.0 h.1))
      (is_contained (sent_to c (map entry_of h.0.entries)) frame.number frame h.2)

  abbrev IsFrom : ℕ → LogEntry → Type 0
  IsFrom c e = IsFromLog (logs_by logs) c e.event

  pub legal : AllTakeSent logs → IsLegal (logs_by logs)
  legal all c = by_log (slice_get logs c) refl
    where
      by_log : (o : Option LogValue) → slice_get logs c ≡ o → All (IsFrom c) (logs_by logs c)
      by_log None is =
          subst (λ (es : List LogEntry). All (IsFrom c) es) (sym (no_log_at line logs at c is)) (All-nil (IsFrom c))
      by_log (Some l) is =
          let takes : TakesSent logs l = all_get (TakesSent logs) logs c l all is in
          let each : All (λ (e : Entry). IsSent logs c e.event) l.entries =
          subst (λ n. All (λ (e : Entry). IsSent logs n e.event) l.entries) (at.each c l is) takes.each in
          subst (λ (es : List LogEntry). All (IsFrom c) es) (sym (log_at line logs at c l is))
          (All-map (IsFrom c) entry_of l.entries
          (All-weaker (λ (e : Entry). IsSent logs c e.event) (λ (e : Entry). IsFrom c (entry_of e))
          (λ e h. from_sent c e.event h) l.entries each))

  module _ (r : All IsReplaying logs) where
    to_sent : (c : ℕ) (event : Event) → IsFromLog (logs_by logs) c (event_of event) → IsSent logs c event
    to_sent c (Train m) h = tt
    to_sent c (Set s) h = tt
    to_sent c (Unset s) h = tt
    to_sent c (Deliver from frame) h = by_log (slice_get logs from) refl
      where
        by_log : (o : Option LogValue) → slice_get logs from ≡ o → IsSent logs c (Deliver from frame)
        by_log None is =
            let none : Contains (sent_to c []) frame =
            subst (λ (es : List LogEntry). Contains (sent_to c es) frame) (no_log_at line logs at from is) h in
            absurd (let wrong : ⊥ = omega (arith, none.1) in wrong)
        by_log (Some l) is = (
          l,
          is,
          sent_number l (all_get IsReplaying logs from l r is) c frame
              (subst (λ (es : List LogEntry). Contains (sent_to c es) frame) (log_at line logs at from l is) h),
        )

    pub all_sent : IsLegal (logs_by logs) → AllTakeSent logs
    all_sent legal k d within = takes k (slice_index_or logs k d) (slice_get-get_or logs k d within)
      where
        takes : (k : ℕ) (l : LogValue) → slice_get logs k ≡ Some l → TakesSent logs l
        takes k l is =
            let from : All (IsFrom k) (map entry_of l.entries) =
            subst (λ (es : List LogEntry). All (IsFrom k) es) (log_at line logs at k l is) (legal k) in
            let each : All (λ (e : Entry). IsSent logs k e.event) l.entries =
            All-weaker (λ (e : Entry). IsFrom k (entry_of e)) (λ (e : Entry). IsSent logs k e.event)
            (λ e h. to_sent k e.event h) l.entries (all_unmapped (IsFrom k) entry_of l.entries from) in
            record {
              each = subst (λ n. All (λ (e : Entry). IsSent logs n e.event) l.entries) (sym (at.each k l is)) each;
            }

pub family : (line : Line) (logs : List LogValue) → AreCentresOf line logs → All IsReplaying logs → AllTakeSent logs
    → IsFamily logs
family line logs centres r sent = (
  line,
  record {
    centres = centres;
    replay = are_logs line logs centres.places.of_line r;
    legal = legal line logs centres.places sent;
  },
)
