-- The dangers in a view, and the sections without one.
use Rattle.std.specs.Prelude.{◌≡◌, ◌<◌, false, IfSome, Option, slice_get, Some, true, ℕ}
use Rattle.law_outside.specs.Outside.{may_run_over, View}
use Rattle.rbc_spec.specs.Line.{Line}
use Rattle.rbc_watch.specs.declared.danger.Danger.{Danger}
use Rattle.rbc_watch.specs.declared.danger.Danger.TheVariants as danger
use Rattle.rbc_watch.specs.declared.stretch.Stretch.{Stretch}
use Rattle.rbc_watch.specs.declared.view.View.{View as Seen}
use Rattle.rbc_watch.specs.Seen.{view_of}

-- the danger is there
abbrev pub Breaks : Line → View → Danger → Type 0
Breaks line v (danger.TwoTrains t u s) =
    (may_run_over line v t s ≡ true) × (may_run_over line v u s ≡ true) × (t ≡ u → ⊥)
Breaks line v (danger.NotReleased t s) = (may_run_over line v t s ≡ true) × (v.released s ≡ false)
Breaks line v danger.Stray = v.stray ≡ true

-- at most one train may run over the section, and only if it is released
pub record IsSafeIn (line : Line) (v : View) (s : ℕ) : Type 0 where
  pub one_train : (t u : ℕ) → may_run_over line v t s ≡ true → may_run_over line v u s ≡ true → t ≡ u
  pub released : (t : ℕ) → may_run_over line v t s ≡ true → v.released s ≡ true

-- ## The search in a section

-- A train that was found before is found still. This train is found if it may run over the section, which is released
-- then.
pub record IsFoundTrain (line : Line) (v : Seen) (s t : ℕ) (before found : Option ℕ) : Type 0 where
  pub runs : IfSome found (λ u. may_run_over line (view_of v) u s ≡ true)
  pub kept : (u : ℕ) → before ≡ Some u → found ≡ Some u
  pub here : may_run_over line (view_of v) t s ≡ true → (found ≡ Some t) × ((view_of v).released s ≡ true)

-- the same of the train at this place
pub record IsFoundAt (line : Line) (v : Seen) (s i : ℕ) (before found : Option ℕ) : Type 0 where
  pub runs : IfSome found (λ u. may_run_over line (view_of v) u s ≡ true)
  pub kept : (u : ℕ) → before ≡ Some u → found ≡ Some u
  pub here : (t : ℕ) (x : Stretch) → slice_get v.stretches.entries i ≡ Some (t, x)
      → may_run_over line (view_of v) t s ≡ true → (found ≡ Some t) × ((view_of v).released s ≡ true)

-- the same of the trains at the first places
pub record IsFoundIn (line : Line) (v : Seen) (s count : ℕ) (found : Option ℕ) : Type 0 where
  pub runs : IfSome found (λ u. may_run_over line (view_of v) u s ≡ true)
  pub each : (i t : ℕ) (x : Stretch) → i < count → slice_get v.stretches.entries i ≡ Some (t, x)
      → may_run_over line (view_of v) t s ≡ true → (found ≡ Some t) × ((view_of v).released s ≡ true)
