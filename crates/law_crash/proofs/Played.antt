-- The scenes, computed.
use Rattle.std.proofs.Common.{[], ◌++◌, ◌∷◌, ◌≡◌, ◌≤◌, All, ap, arith, drop, Err, false, List, map, None, Ok}
use Rattle.std.proofs.Common.{Option, refl, Result, suc, true, zero, ℕ}
use Rattle.std.proofs.lemmas.List.Elements.{All-drop, All-from_recursion, All-nil, recursion_from_All}
use Rattle.std.specs.List.{AllByRecursion}
use Rattle.std.specs.Option.{option_map_or}
use Rattle.law_crash.specs.Crashes.{events_of, Follows, KeepsSentOut, IsWrittenFirst, no_period}
use Rattle.law_crash.specs.Scenes.{answers_first, asks, entries_from, forgets, goes_on, line, log_of, logs_of, of_each}
use Rattle.law_crash.specs.Scenes.{period_of_a, seen_in_all, starts_in, takes_first, takes_later, writes_first}
use Rattle.law_logs.specs.Beginnings.Beginnings.{cut}
use Rattle.law_logs.specs.Logs.{AreLogs, IsFromLog, IsLegal, LogEntry, Replays, sent_to}
use Rattle.law_outside.specs.Outside.{front_end, IsSafeOutside, may_run_over}
use Rattle.rbc_spec.specs.Acts.{◌>>◌}
use Rattle.rbc_spec.specs.Centre.{beginning, Centre}
use Rattle.rbc_spec.specs.Line.{end, is_centre, start as line_start}
use Rattle.rbc_spec.specs.Outcome.{Outcome}
use Rattle.rbc_spec.specs.Place.{extent}
use Rattle.rbc_spec.specs.SectionRuns.{longest, within}
use Rattle.rbc_spec.specs.Step.{Deliver, Event, Refusal, refusal, Set, step, taken, Train}

-- ## Logs of events that are not refused

abbrev AreTaken : ℕ → Centre → List Event → Type 0
AreTaken c k [] = Unit {0}
AreTaken c k (event ∷ events) = (refusal line c k event ≡ None) × AreTaken c (taken line c event k).1 events

abbrev last_of : ℕ → Centre → List Event → Centre
last_of c k [] = k
last_of c k (event ∷ events) = last_of c (taken line c event k).1 events

step_taken : (c : ℕ) (k : Centre) (event : Event) → refusal line c k event ≡ None
    → step line c event k ≡ Ok ((taken line c event k).0, (taken line c event k).1)
unfolding step
step_taken c k event h =
    ap (λ (o : Option Refusal).
    option_map_or {U = Result (Outcome × Centre) Refusal} (λ why. Err why) o (Ok (taken line c event k))) h

replayed : (c : ℕ) (k : Centre) (events : List Event) → AreTaken c k events
    → Replays line c k (entries_from c k events) (last_of c k events)
replayed c k [] h = refl
replayed c k (event ∷ events) h = (
  (taken line c event k).1,
  refl,
  step_taken c k event h.0,
  replayed c (taken line c event k).1 events h.1,
)

abbrev pub ends_of : List Event → List Event → ℕ → Centre
ends_of at_a at_b zero = last_of 0 (beginning line 0) at_a
ends_of at_a at_b (suc zero) = last_of 1 (beginning line 1) at_b
ends_of at_a at_b (suc (suc c)) = beginning line (suc (suc c))

logs_are : (at_a at_b : List Event) → AreTaken 0 (beginning line 0) at_a → AreTaken 1 (beginning line 1) at_b
    → AreLogs line (logs_of at_a at_b) (ends_of at_a at_b)
unfolding log_of
logs_are at_a at_b h g = record { replays = replays; no_other = no_other }
  where
    replays : (c : ℕ) → is_centre line c ≡ true
        → Replays line c (beginning line c) (logs_of at_a at_b c) (ends_of at_a at_b c)
    replays zero t = replayed 0 (beginning line 0) at_a h
    replays (suc zero) t = replayed 1 (beginning line 1) at_b g
    replays (suc (suc c)) t = refl

    no_other : (c : ℕ) → is_centre line c ≡ false → logs_of at_a at_b c ≡ []
    no_other zero f = absurd (let wrong : true ≡ false = f in cc)
    no_other (suc zero) f = absurd (let wrong : true ≡ false = f in cc)
    no_other (suc (suc c)) f = refl

-- ## Programs in which only A takes events

first_taken : AreTaken 0 (beginning line 0) (Set 1 ∷ starts_in 1 1)
unfolding within longest line_start end extent front_end beginning ◌>>◌
first_taken = (refl, (refl, (refl, (refl, tt))))

writes_taken : AreTaken 0 (beginning line 0) (Set 1 ∷ starts_in 1 1 ++ Set 2 ∷ [])
unfolding within longest line_start end extent front_end beginning ◌>>◌
writes_taken = (refl, (refl, (refl, (refl, (refl, tt)))))

goes_on_taken : AreTaken 0 (beginning line 0) (Set 1 ∷ starts_in 1 1 ++ Set 3 ∷ [])
unfolding within longest line_start end extent front_end beginning ◌>>◌
goes_on_taken = (refl, (refl, (refl, (refl, (refl, tt)))))

third_taken : AreTaken 0 (beginning line 0) (Set 1 ∷ starts_in 3 1)
unfolding within longest line_start end extent front_end beginning ◌>>◌
third_taken = (refl, (refl, (refl, (refl, tt))))

-- no event is the delivery of a frame
abbrev AreOwn : List Event → Type 0
AreOwn events = AllByRecursion (λ event. (logs : ℕ → List LogEntry) (c : ℕ) → IsFromLog logs c event) events

own_entries : (logs : ℕ → List LogEntry) (c : ℕ) (k : Centre) (events : List Event) → AreOwn events
    → AllByRecursion (λ (e : LogEntry). IsFromLog logs c e.event) (entries_from c k events)
own_entries logs c k [] own = tt
own_entries logs c k (event ∷ events) own =
    (own.0 logs c, own_entries logs c (taken line c event k).1 events own.1)

own_framed : (logs : ℕ → List LogEntry) (events : List Event) → AreOwn events → (n c : ℕ)
    → All (λ (e : LogEntry). IsFromLog logs c e.event) (drop n (logs_of events [] c))
unfolding log_of
own_framed logs events own n c =
    All-drop (λ (e : LogEntry). IsFromLog logs c e.event) n (logs_of events [] c) (whole c)
  where
    whole : (c : ℕ) → All (λ (e : LogEntry). IsFromLog logs c e.event) (logs_of events [] c)
    whole zero =
        All-from_recursion (λ (e : LogEntry). IsFromLog logs 0 e.event) (entries_from 0 (beginning line 0) events)
        (own_entries logs 0 (beginning line 0) events own)
    whole (suc zero) = All-nil (λ (e : LogEntry). IsFromLog logs 1 e.event)
    whole (suc (suc d)) = All-nil (λ (e : LogEntry). IsFromLog logs (suc (suc d)) e.event)

begins : (events : List Event) (out kept : ℕ) → AreTaken 0 (beginning line 0) events → AreOwn events
    → Follows line no_period (period_of_a events out kept)
begins events out kept h own = record {
  replays = (ends_of events [], logs_are events [] h tt);
  resumed = λ c. refl;
  framed = own_framed (cut (of_each out 0 0) (logs_of events [])) events own 0;
  still_out = λ c. omega arith;
}

pub writes_begins : Follows line no_period writes_first
writes_begins = begins (Set 1 ∷ starts_in 1 1 ++ Set 2 ∷ []) 4 4 writes_taken
    ((λ logs c. tt), ((λ logs c. tt), ((λ logs c. tt), ((λ logs c. tt), ((λ logs c. tt), tt)))))

pub answers_begins : Follows line no_period answers_first
answers_begins = begins (Set 1 ∷ starts_in 1 1) 4 1 first_taken
    ((λ logs c. tt), ((λ logs c. tt), ((λ logs c. tt), ((λ logs c. tt), tt))))

pub goes_on_follows : Follows line writes_first goes_on
unfolding log_of
goes_on_follows = record {
  replays = (
    ends_of (Set 1 ∷ starts_in 1 1 ++ Set 3 ∷ []) [],
    logs_are (Set 1 ∷ starts_in 1 1 ++ Set 3 ∷ []) [] goes_on_taken tt,
  );
  resumed = resumed;
  framed = λ c. own_framed (cut goes_on.out goes_on.logs) (Set 1 ∷ starts_in 1 1 ++ Set 3 ∷ [])
      ((λ logs c. tt), ((λ logs c. tt), ((λ logs c. tt), ((λ logs c. tt), ((λ logs c. tt), tt)))))
      (writes_first.kept c) c;
  still_out = still_out;
}
  where
    resumed : (c : ℕ) → events_of writes_first.kept goes_on.logs c ≡ events_of writes_first.kept writes_first.logs c
    resumed zero = refl
    resumed (suc zero) = refl
    resumed (suc (suc c)) = refl

    still_out : (c : ℕ) → writes_first.out c ≤ goes_on.out c
    still_out zero = omega arith
    still_out (suc zero) = omega arith
    still_out (suc (suc c)) = omega arith

pub forgets_follows : Follows line answers_first forgets
unfolding log_of
forgets_follows = record {
  replays = (ends_of (Set 1 ∷ starts_in 3 1) [], logs_are (Set 1 ∷ starts_in 3 1) [] third_taken tt);
  resumed = resumed;
  framed = λ c. own_framed (cut forgets.out forgets.logs) (Set 1 ∷ starts_in 3 1)
      ((λ logs c. tt), ((λ logs c. tt), ((λ logs c. tt), ((λ logs c. tt), tt)))) (answers_first.kept c) c;
  still_out = still_out;
}
  where
    resumed : (c : ℕ) → events_of answers_first.kept forgets.logs c ≡ events_of answers_first.kept answers_first.logs c
    resumed zero = refl
    resumed (suc zero) = refl
    resumed (suc (suc c)) = refl

    still_out : (c : ℕ) → answers_first.out c ≤ forgets.out c
    still_out zero = omega arith
    still_out (suc zero) = omega arith
    still_out (suc (suc c)) = omega arith

-- the train of the second entry
abbrev second_train : List LogEntry → ℕ
second_train [] = 0
second_train (e ∷ []) = 0
second_train (e ∷ d ∷ es) = train_of d.event
  where
    train_of : Event → ℕ
    train_of (Train m) = m.nid_engine
    train_of event = 0

pub is_forgotten : KeepsSentOut answers_first forgets → ⊥
unfolding log_of
is_forgotten has = let wrong : 3 ≡ 1 = ap second_train (has 0) in omega (arith, wrong)

-- ## The view from outside

pub first_runs : may_run_over line seen_in_all 1 1 ≡ true
unfolding within longest line_start end extent front_end beginning ◌>>◌ step log_of seen_in_all
first_runs = refl

pub third_runs : may_run_over line seen_in_all 3 1 ≡ true
unfolding within longest line_start end extent front_end beginning ◌>>◌ step log_of seen_in_all
third_runs = refl

pub not_safe : IsSafeOutside line seen_in_all → ⊥
not_safe safe = let wrong : 1 ≡ 3 = safe.one_train 1 3 1 first_runs third_runs in omega (arith, wrong)

-- ## A program that takes frames first

abbrev pub frames : List Event
frames = map (Deliver 0) (sent_to 1 (log_of 0 asks))

asks_taken : AreTaken 0 (beginning line 0) asks
unfolding within longest line_start end extent front_end beginning ◌>>◌
asks_taken = (refl, (refl, (refl, (refl, tt))))

frames_taken : AreTaken 1 (beginning line 1) frames
unfolding within longest line_start end extent front_end beginning ◌>>◌ log_of
frames_taken = (refl, tt)

pub takes_are : AreLogs line takes_first.logs (ends_of asks frames)
takes_are = logs_are asks frames asks_taken frames_taken

pub takes_legal : IsLegal takes_first.logs
unfolding within longest line_start end extent front_end beginning ◌>>◌ log_of
takes_legal zero =
    All-from_recursion (λ (e : LogEntry). IsFromLog takes_first.logs 0 e.event) (takes_first.logs 0)
    (tt, (tt, (tt, (tt, tt))))
takes_legal (suc zero) =
    All-from_recursion (λ (e : LogEntry). IsFromLog takes_first.logs 1 e.event) (takes_first.logs 1)
    ((0, omega arith, refl), tt)
takes_legal (suc (suc c)) =
    All-from_recursion (λ (e : LogEntry). IsFromLog takes_first.logs (suc (suc c)) e.event) [] tt

pub later_begins : Follows line no_period takes_later
unfolding within longest line_start end extent front_end beginning ◌>>◌ log_of
later_begins = record {
  replays = (ends_of asks frames, takes_are);
  resumed = λ c. refl;
  framed = framed;
  still_out = λ c. omega arith;
}
  where
    sent : ℕ → List LogEntry
    sent = cut takes_later.out takes_later.logs

    framed : (c : ℕ) → All (λ (e : LogEntry). IsFromLog sent c e.event) (drop 0 (takes_later.logs c))
    framed zero =
        All-from_recursion (λ (e : LogEntry). IsFromLog sent 0 e.event) (takes_later.logs 0)
        (tt, (tt, (tt, (tt, tt))))
    framed (suc zero) =
        All-from_recursion (λ (e : LogEntry). IsFromLog sent 1 e.event) (takes_later.logs 1)
        ((0, omega arith, refl), tt)
    framed (suc (suc c)) =
        All-from_recursion (λ (e : LogEntry). IsFromLog sent (suc (suc c)) e.event) [] tt

pub takes_written : IsWrittenFirst takes_first
takes_written zero = omega arith
takes_written (suc zero) = omega arith
takes_written (suc (suc c)) = omega arith

pub has_no_run : IsLegal (cut takes_first.kept takes_first.logs) → ⊥
unfolding within longest line_start end extent front_end beginning ◌>>◌ log_of
has_no_run legal =
    let journals : ℕ → List LogEntry = cut takes_first.kept takes_first.logs in
    let found : AllByRecursion (λ (e : LogEntry). IsFromLog journals 1 e.event) (journals 1) =
    recursion_from_All (λ (e : LogEntry). IsFromLog journals 1 e.event) (journals 1) (legal 1) in
    omega (arith, found.0.1)
