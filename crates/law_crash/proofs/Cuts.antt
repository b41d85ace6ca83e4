-- First parts of logs, and the frames that are sent in them.
use Rattle.std.proofs.Common.{[], ⊎_elim, ◌∙◌, ◌∷◌, ◌≡◌, ◌≤◌, All, ap, arith, Contains, drop, false, List, refl}
use Rattle.std.proofs.Common.{subst, suc, sym, take, true, zero, ℕ}
use Rattle.std.proofs.lemmas.Bool.{cases_Bool}
use Rattle.std.proofs.lemmas.List.{take-append-drop, take-map}
use Rattle.std.proofs.lemmas.List.Elements.{All-append, Contains-append_left}
use Rattle.law_crash.specs.Crashes.{events_of}
use Rattle.law_logs.proofs.BeginningsLemmas.Written.{made_again, sent_append, stop_of}
use Rattle.law_logs.specs.Beginnings.Beginnings.{cut}
use Rattle.law_logs.specs.Logs.{AreLogs, IsFromLog, LogEntry, sent_to}
use Rattle.rbc_spec.specs.Centre.{beginning, Centre}
use Rattle.rbc_spec.specs.Frame.{Frame}
use Rattle.rbc_spec.specs.Line.{is_centre, Line}
use Rattle.rbc_spec.specs.Step.{Deliver, Event, Set, Train, Unset}

-- ## First parts of lists

pub take_less : (m n : ℕ) (xs : List LogEntry) → m ≤ n → take m (take n xs) ≡ take m xs
take_less zero n xs less = refl
take_less (suc m) zero xs less = absurd (let wrong : ⊥ = omega (arith, less) in wrong)
take_less (suc m) (suc n) [] less = refl
take_less (suc m) (suc n) (x ∷ xs) less = ap (λ ys. x ∷ ys) (take_less m n xs (omega (arith, less)))

-- two lists with the same first part have each shorter first part in common
pub same_less : (m n : ℕ) (xs ys : List LogEntry) → m ≤ n → take n xs ≡ take n ys → take m xs ≡ take m ys
same_less m n xs ys less same =
    sym (take_less m n xs less) ∙ (ap (take m) same ∙ take_less m n ys less)

-- ## Frames of first parts

sent_first : (d n : ℕ) (xs : List LogEntry) (f : Frame) → Contains (sent_to d (take n xs)) f → Contains (sent_to d xs) f
sent_first d n xs f there =
    subst (λ ys. Contains (sent_to d ys) f) (take-append-drop n xs)
    (subst (λ fs. Contains fs f) (sym (sent_append d (take n xs) (drop n xs)))
    (Contains-append_left (sent_to d (take n xs)) (sent_to d (drop n xs)) f there))

-- a frame of the first parts is a frame of the whole logs
pub from_whole : (count : ℕ → ℕ) (logs : ℕ → List LogEntry) (c : ℕ) (event : Event) → IsFromLog (cut count logs) c event
    → IsFromLog logs c event
from_whole count logs c (Train m) h = h
from_whole count logs c (Set s) h = h
from_whole count logs c (Unset s) h = h
from_whole count logs c (Deliver a f) h = sent_first c (count a) (logs a) f h

-- a frame of logs is one of the same logs
pub from_same : (logs others : ℕ → List LogEntry) → ((c : ℕ) → logs c ≡ others c) → (c : ℕ) (event : Event)
    → IsFromLog logs c event → IsFromLog others c event
from_same logs others same c (Train m) h = h
from_same logs others same c (Set s) h = h
from_same logs others same c (Unset s) h = h
from_same logs others same c (Deliver a f) h = subst (λ es. Contains (sent_to c es) f) (same a) h

-- a frame of shorter first parts is one of longer first parts
pub from_longer : (few more : ℕ → ℕ) (logs : ℕ → List LogEntry) → ((c : ℕ) → few c ≤ more c) → (c : ℕ) (event : Event)
    → IsFromLog (cut few logs) c event → IsFromLog (cut more logs) c event
from_longer few more logs less c event h =
    from_whole few (cut more logs) c event
    (from_same (cut few logs) (cut few (cut more logs))
    (λ d. sym (take_less (few d) (more d) (logs d) (less d))) c event h)

pub all_parts : (P : LogEntry → Type 0) (n : ℕ) (xs : List LogEntry) → All P (take n xs) → All P (drop n xs) → All P xs
all_parts P n xs first rest =
    subst (λ ys. All P ys) (take-append-drop n xs) (All-append P (take n xs) (drop n xs) first rest)

-- ## Events that are taken again

module _ (line : Line) (logs again : ℕ → List LogEntry) (ends stops : ℕ → Centre) (kept : ℕ → ℕ)
    (are : AreLogs line logs ends) (others : AreLogs line again stops)
    (same : (c : ℕ) → events_of kept again c ≡ events_of kept logs c) where
  -- their entries are the same
  pub kept_same : (c : ℕ) → cut kept again c ≡ cut kept logs c
  kept_same c = ⊎_elim
      (λ (t : is_centre line c ≡ true).
      let stop = stop_of line c (beginning line c) (kept c) (again c) (stops c) (others.replays c t) in
      made_again line c (beginning line c) (kept c) (logs c) (cut kept again c) (ends c) stop.0 (are.replays c t) stop.1
      (same c ∙ sym (take-map (λ (e : LogEntry). e.event) (kept c) (logs c))))
      (λ (f : is_centre line c ≡ false). ap (take (kept c)) (others.no_other c f ∙ sym (are.no_other c f)))
      (cases_Bool (is_centre line c))
