-- A log that is cut, and the first entry of a log.
use Rattle.std.proofs.Common.{[], ◌++◌, ◌∙◌, ◌∷◌, ◌≡◌, ap, append_assoc, Bool, cond, false, inl, inr, List, map, Ok}
use Rattle.std.proofs.Common.{refl, Result, subst, suc, sym, take, true, zero, ℕ}
use Rattle.std.proofs.lemmas.Bool.{cases_Bool}
use Rattle.std.proofs.lemmas.Bool.Decides.{eqb_tells}
use Rattle.std.proofs.lemmas.List.{append-nil}
use Rattle.std.proofs.lemmas.List.Elements.{All-from_recursion, Contains-append_left, filter-append}
use Rattle.std.specs.List.{AllByRecursion, Contains}
use Rattle.std.specs.Prelude.{◌==◌}
use Rattle.law_logs.specs.Beginnings.Beginnings.{cut, IsWrittenAfter}
use Rattle.law_logs.specs.Logs.{AreLogs, entries_of, IsFromLog, IsLegal, LogEntry, Replays, sent_to}
use Rattle.rbc_spec.specs.Centre.{beginning, Centre}
use Rattle.rbc_spec.specs.Line.{is_centre, Line}
use Rattle.rbc_spec.specs.Outcome.{Outcome}
use Rattle.rbc_spec.specs.Step.{Deliver, Event, Refusal, Set, step, Train, Unset}

-- # A log that is cut, and one that is made again.

-- the state after the first n entries
pub stop_of : (line : Line) (c : ℕ) (k : Centre) (n : ℕ) (log : List LogEntry) (last : Centre)
    → Replays line c k log last →
    (stop : Centre) × Replays line c k (take n log) stop
stop_of line c k zero log last h = (k, refl)
stop_of line c k (suc n) [] last h = (k, refl)
stop_of line c k (suc n) (e ∷ log) last h =
    let more = stop_of line c h.0 n log last h.3 in
    (more.0, (h.0, h.1, h.2, more.1))

differ : (b : Bool) → b ≡ true → b ≡ false → ⊥
differ b h k = cc

take_none : (n : ℕ) → take {A = LogEntry} n [] ≡ []
take_none zero = refl
take_none (suc n) = refl

-- the end of a centre that is of the line, and of one that is not
choose : (line : Line) (logs : ℕ → List LogEntry) (ends : ℕ → Centre) (count : ℕ → ℕ)
    → AreLogs line logs ends → (c : ℕ) →
    (stop : Centre) × (is_centre line c ≡ true → Replays line c (beginning line c) (cut count logs c) stop)
choose line logs ends count h c = elim (cases_Bool (is_centre line c)) [
  | inl of_line ↦ let stop = stop_of line c (beginning line c) (count c) (logs c) (ends c) (h.replays c of_line) in
      (stop.0, λ _. stop.1)
  | inr other ↦ (beginning line c, λ of_line. absurd (differ (is_centre line c) of_line other))
]

pub cut_logs : (line : Line) (logs : ℕ → List LogEntry) (ends : ℕ → Centre) (count : ℕ → ℕ) → AreLogs line logs ends →
    (stops : ℕ → Centre) × AreLogs line (cut count logs) stops
cut_logs line logs ends count h = (
  λ c. (choose line logs ends count h c).0,
  record {
    replays = λ c of_line. (choose line logs ends count h c).1 of_line;
    no_other = λ c other. ap (take (count c)) (h.no_other c other) ∙ take_none (count c);
  },
)

abbrev the_ok : Outcome × Centre → Result (Outcome × Centre) Refusal
the_ok x = Ok x

ok_same : (x y : Outcome × Centre) → the_ok x ≡ the_ok y → x ≡ y
ok_same x y e = cc

-- a step has one answer
one_answer : (r : Result (Outcome × Centre) Refusal) (o p : Outcome) (k l : Centre) → r ≡ Ok (o, k)
    → r ≡ Ok (p, l) → (o ≡ p) × (k ≡ l)
one_answer r o p k l h g = (ap (λ x. x.0) (ok_same _ _ (sym h ∙ g)), ap (λ x. x.1) (ok_same _ _ (sym h ∙ g)))

answers : (line : Line) (c : ℕ) (k : Centre) (e d : LogEntry) (m n : Centre) → d.event ≡ e.event
    → step line c e.event k ≡ Ok (e.outcome, m) →
    step line c d.event k ≡ Ok (d.outcome, n) → (d.outcome ≡ e.outcome) × (m ≡ n)
answers line c k e d m n same h g =
    let both = one_answer (step line c e.event k) e.outcome d.outcome m n h
    (ap (λ x. step line c x k) (sym same) ∙ g) in
    (sym both.0, both.1)

not_empty : (x : Event) (xs : List Event) → x ∷ xs ≡ [] → ⊥
not_empty x xs e = cc

first_same : (x y : Event) (xs ys : List Event) → x ∷ xs ≡ y ∷ ys → x ≡ y
first_same x y xs ys e = cc

rest_same : (x y : Event) (xs ys : List Event) → x ∷ xs ≡ y ∷ ys → xs ≡ ys
rest_same x y xs ys e = cc

pub made_again : (line : Line) (c : ℕ) (k : Centre) (n : ℕ) (log again : List LogEntry) (last end : Centre) →
    Replays line c k log last → Replays line c k again end → map (λ e. e.event) again ≡ take n (map (λ e. e.event) log)
    → again ≡ take n log
made_again line c k zero log [] last end h g same = refl
made_again line c k zero log (e ∷ again) last end h g same = absurd (not_empty _ _ same)
made_again line c k (suc n) [] [] last end h g same = refl
made_again line c k (suc n) [] (e ∷ again) last end h g same = absurd (not_empty _ _ same)
made_again line c k (suc n) (e ∷ log) [] last end h g same = absurd (not_empty _ _ (sym same))
made_again line c k (suc n) (e ∷ log) (d ∷ again) last end h g same =
    let event : d.event ≡ e.event = first_same _ _ _ _ same in
    let both = answers line c k e d h.0 g.0 event h.2 g.2 in
    let more = made_again line c h.0 n log again last end h.3 (subst (λ x. Replays line c x again end) (sym both.1) g.3)
    (rest_same _ _ _ _ same) in
    λ i. record { centre = (g.1 ∙ sym h.1) i; event = event i; outcome = both.0 i } ∷ more i

-- # Entries that are written first are there.

-- the logs that a list of entries makes
abbrev pub logs_in : List LogEntry → ℕ → List LogEntry
logs_in entries c = entries_of c entries

-- each frame that one of these entries took is in its sender's log
abbrev IsCovered : List LogEntry → List LogEntry → Type 0
IsCovered all entries = AllByRecursion (λ e. IsFromLog (logs_in all) e.centre e.event) entries

pub sent_append : (d : ℕ) (xs ys : List LogEntry) → sent_to d (xs ++ ys) ≡ sent_to d xs ++ sent_to d ys
sent_append d [] ys = refl
sent_append d (x ∷ xs) ys = ap (λ t. x.outcome.frames d ++ t) (sent_append d xs ys)
    ∙ sym (append_assoc (x.outcome.frames d) (sent_to d xs) (sent_to d ys))

from_more : (all more : List LogEntry) (c : ℕ) (event : Event) → IsFromLog (logs_in all) c event
    → IsFromLog (logs_in (all ++ more)) c event
from_more all more c (Train m) h = h
from_more all more c (Set s) h = h
from_more all more c (Unset s) h = h
from_more all more c (Deliver a f) h =
    subst (λ t. Contains t f) (sym (ap (sent_to c) (filter-append (λ e. e.centre == a) all more)
    ∙ sent_append c (entries_of a all) (entries_of a more)))
    (Contains-append_left (sent_to c (entries_of a all)) (sent_to c (entries_of a more)) f h)

covered_more : (all more entries : List LogEntry) → IsCovered all entries → IsCovered (all ++ more) entries
covered_more all more [] h = tt
covered_more all more (e ∷ entries) h = (from_more all more e.centre e.event h.0, covered_more all more entries h.1)

covered_append : (all xs ys : List LogEntry) → IsCovered all xs → IsCovered all ys → IsCovered all (xs ++ ys)
covered_append all [] ys h k = k
covered_append all (x ∷ xs) ys h k = (h.0, covered_append all xs ys h.1 k)

written_on : (before entries : List LogEntry) (n : ℕ) → IsCovered before before → IsWrittenAfter before entries
    → IsCovered (before ++ take n entries) (before ++ take n entries)
written_on before entries zero h k = subst (λ t. IsCovered t t) (sym (append-nil before)) h
written_on before [] (suc n) h k = subst (λ t. IsCovered t t) (sym (append-nil before)) h
written_on before (e ∷ entries) (suc n) h k =
    let now : IsCovered (before ++ e ∷ []) (before ++ e ∷ []) =
    covered_append (before ++ e ∷ []) before (e ∷ []) (covered_more before (e ∷ []) before h)
    (from_more before (e ∷ []) e.centre e.event k.0, tt) in
    subst (λ t. IsCovered t t) (append_assoc before (e ∷ []) (take n entries))
    (written_on (before ++ e ∷ []) entries n now k.1)

-- of the entries of one centre
of_centre : (all : List LogEntry) (c : ℕ) (entries : List LogEntry) → IsCovered all entries
    → AllByRecursion (λ e. IsFromLog (logs_in all) c e.event) (entries_of c entries)
of_centre all c [] h = tt
of_centre all c (e ∷ entries) h = elim (eqb_tells e.centre c) [
  | inl same ↦ subst (λ (t : List LogEntry). AllByRecursion (λ d. IsFromLog (logs_in all) c d.event) t)
      (sym (ap (λ b. cond b (e ∷ entries_of c entries) (entries_of c entries)) same.0))
      (subst (λ d. IsFromLog (logs_in all) d e.event) same.1 h.0, of_centre all c entries h.1)
  | inr other ↦ subst (λ (t : List LogEntry). AllByRecursion (λ d. IsFromLog (logs_in all) c d.event) t)
      (sym (ap (λ b. cond b (e ∷ entries_of c entries) (entries_of c entries)) other.0))
      (of_centre all c entries h.1)
]

pub written_first : (written : List LogEntry) (n : ℕ) → IsWrittenAfter [] written
    → IsLegal (λ c. entries_of c (take n written))
written_first written n h =
    λ c. All-from_recursion _ _ (of_centre (take n written) c (take n written) (written_on [] written n tt h))
