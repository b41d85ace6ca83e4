-- A log grows by one entry.
use Rattle.std.proofs.Common.{[], ◌++◌, ◌∙◌, ◌∷◌, ◌≡◌, ap, List, map, Ok, refl, sym, ℕ}
use Rattle.law_logs.specs.Logs.{LogEntry, Replays}
use Rattle.rbc_spec.specs.Centre.{beginning, Centre}
use Rattle.rbc_spec.specs.Line.{Line}
use Rattle.rbc_spec.specs.Outcome.{Outcome}
use Rattle.rbc_spec.specs.Step.{Event, step}

replays_more : (line : Line) (c : ℕ) (k mid last : Centre) (entries : List LogEntry) (event : Event) (outcome : Outcome)
    → Replays line c k entries mid → step line c event mid ≡ Ok (outcome, last)
    → Replays line c k (entries ++ record { centre = c; event = event; outcome = outcome } ∷ []) last
replays_more line c k mid last [] event outcome r s =
    (last, refl, sym (ap (λ (x : Centre). step line c event x) r) ∙ s, refl)
replays_more line c k mid last (e ∷ entries) event outcome r s =
    (r.0, r.1, r.2, replays_more line c r.0 mid last entries event outcome r.3 s)

-- the centre after its step, and the log with the step's entry
pub grown : (line new_line : Line) (c d : ℕ) (mid last : Centre) (old new : List LogEntry) (event : Event)
    (outcome : Outcome)
    → Replays line c (beginning line c) old mid → step line c event mid ≡ Ok (outcome, last)
    → new ≡ old ++ record { centre = c; event = event; outcome = outcome } ∷ []
    → new_line ≡ line → d ≡ c → Replays new_line d (beginning new_line d) new last
grown line new_line c d mid last old new event outcome r s grows same_line same_number =
    rw (same_line, same_number, grows) (replays_more line c (beginning line c) mid last old event outcome r s)

pub map_push : {X Y : Type 0} (f : X → Y) (xs : List X) (x : X) → map f (xs ++ x ∷ []) ≡ map f xs ++ f x ∷ []
map_push f [] x = refl
map_push f (y ∷ ys) x = ap (λ zs. f y ∷ zs) (map_push f ys x)
