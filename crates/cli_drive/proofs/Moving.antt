-- Trains that move one after the other, and then hear messages at their places.
use Rattle.std.proofs.Common.{[], ◌+◌, ◌<◌, ◌∙◌, ◌∷◌, ◌≡◌, ◌≤◌, ◌⊎◌, ap, arith, below_more, length, List}
use Rattle.std.proofs.Common.{map, None, Option, option_map, refl, Some, subst, sym, true, ℕ}
use Rattle.std.proofs.lemmas.List.{length-map}
use Rattle.std.proofs.lemmas.Option.{slice_get-map, slice_get_within}
use Rattle.std.specs.List.{slice_get}
use Rattle.train_unit.specs.Trains as rules
use Rattle.train_unit.specs.declared.ends.Ends.{Ends}
use Rattle.cli_drive.specs.Changes.{ChangesAt}
use Rattle.cli_drive.specs.Obedience.{ends_of, HasRun, KeepsEnds, KeepTrains, RunByRules, RunsByRules, train_at}
use Rattle.cli_drive.specs.declared.trains.train.Train.{Train}

-- the trains before number i have moved, and the others are as they were
pub record HasMoved (i : ℕ) (old new : List Train) : Type 0 where
  pub count : length new ≡ length old
  pub moved : (k : ℕ) → k < i → (a b : Train) → slice_get old k ≡ Some a → slice_get new k ≡ Some b → RunsByRules a b
  pub others : (k : ℕ) → i ≤ k → slice_get new k ≡ slice_get old k

pub none_moved : (old : List Train) → HasMoved 0 old old
none_moved old = record { count = refl; moved = λ k below. absurd (omega arith); others = λ k h. refl }

pub moved_on : (i : ℕ) (old mid new : List Train) → HasMoved i old mid → ChangesAt RunsByRules i mid new
    → HasMoved (i + 1) old new
moved_on i old mid new m c = record {
  count = c.count ∙ m.count;
  moved =
      let P : ℕ → Type 0 =
      λ k. (a b : Train) → slice_get old k ≡ Some a → slice_get new k ≡ Some b → RunsByRules a b in
      below_more P i (λ k below a b was is. m.moved k below a b was (sym (c.others k (λ e. omega arith)) ∙ is))
      (λ a b was is. c.changed a b (m.others i (omega arith) ∙ was) is);
  others = λ k h. c.others k (λ e. omega arith) ∙ m.others k (omega arith);
}

pub all_moved : (n : ℕ) (old new : List Train) → length old ≤ n → HasMoved n old new → RunByRules old new
all_moved n old new all m = record {
  count = m.count;
  each = λ k a b was is. m.moved k (let h = slice_get_within old k a was in omega arith) a b was is;
}

-- a train runs, and then speaks at its place
pub runs_then_speaks : (a b c : Train) → HasRun a b → KeepsEnds b c → RunsByRules a c
runs_then_speaks a b c run keeps =
    let P : Ends → Type 0 = λ e. (e ≡ a.ends) ⊎ (rules.may_run e.front e.rear (train_at a) ≡ true) in
    subst P (sym keeps) run.1

same_ends : (a b c : Train) → b.ends ≡ c.ends → RunsByRules a b → RunsByRules a c
same_ends a b c same run =
    let P : Ends → Type 0 = λ e. (e ≡ a.ends) ⊎ (rules.may_run e.front e.rear (train_at a) ≡ true) in
    subst P same run

-- a train that has run is at the same place later
runs_to : (a b : Train) (o : Option Train) → ((c : Train) → o ≡ Some c → RunsByRules a c)
    → option_map (λ (x : Train). x.ends) o ≡ Some b.ends → RunsByRules a b
runs_to a b None run e = cc
runs_to a b (Some c) run e = let same : c.ends ≡ b.ends = cc in same_ends a c b same (run c refl)

-- no train has moved since then
pub run_and_kept : (old mid new : List Train) → RunByRules old mid → ends_of new ≡ ends_of mid → RunByRules old new
run_and_kept old mid new run kept = record {
  count = sym (length-map new _) ∙ ap length kept ∙ length-map mid _ ∙ run.count;
  each = λ k a b was is.
      let at : option_map (λ (x : Train). x.ends) (slice_get mid k) ≡ Some b.ends =
      sym (slice_get-map (λ (x : Train). x.ends) mid k) ∙ ap (λ xs. slice_get xs k) (sym kept)
      ∙ slice_get-map (λ (x : Train). x.ends) new k ∙ ap (option_map (λ (x : Train). x.ends)) is in
      runs_to a b (slice_get mid k) (λ c here. run.each k a c was here) at;
}

-- a train speaks again at its place
pub keeps_on : (a b c : Train) → KeepsEnds a b → KeepsEnds b c → KeepsEnds a c
keeps_on a b c first next = next ∙ first

-- no train has changed
pub kept : (xs : List Train) (i : ℕ) → ChangesAt KeepsEnds i xs xs
kept xs i = record {
  count = refl;
  others = λ k ne. refl;
  changed = λ a b was is. let e : a ≡ b = cc in ap (λ (x : Train). x.ends) (sym e);
}

-- the true ends of a train of the closed loop
abbrev ends_at : rules.Train → Ends
ends_at x = record { track = x.track; front = x.front; rear = x.rear }

ends_seen : (xs : List Train) → map ends_at (map train_at xs) ≡ ends_of xs
ends_seen [] = refl
ends_seen (x ∷ xs) = ap (λ (es : List Ends). x.ends ∷ es) (ends_seen xs)

-- trains that have not moved have the same ends
pub ends_kept : (old new : List Train) → KeepTrains old new → ends_of new ≡ ends_of old
ends_kept old new kept = sym (ends_seen new) ∙ ap (map ends_at) kept ∙ ends_seen old
