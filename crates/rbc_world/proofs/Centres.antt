-- The centres of a world by their numbers.
use Rattle.std.proofs.Common.{[], ◌++◌, ◌<◌, ◌∙◌, ◌∷◌, ◌≡◌, ◌≢◌, ap, arith, inl, inr, length, List, None, Option, refl}
use Rattle.std.proofs.Common.{set, slice_get, Some, subst, suc, sym, zero, ℕ}
use Rattle.std.proofs.lemmas.Bool.Decides.{eqb_tells}
use Rattle.std.specs.Option.{option_map_or}
use Rattle.rbc_centre.specs.declared.centre.Centre.{Centre}
use Rattle.rbc_centre.specs.States as one
use Rattle.rbc_spec.specs.Centre as centre
use Rattle.rbc_spec.specs.Line.{Line}
use Rattle.rbc_spec.specs.Maps.{put}
use Rattle.rbc_spec.specs.World.{new_world}
use Rattle.rbc_world.specs.States.{AtBeginning, centres_of, stands_for}

-- ## Lists

slice_get-set_same : {X : Type 0} (xs : List X) (i : ℕ) (x : X) → i < length xs → slice_get (set xs i x) i ≡ Some x
slice_get-set_same [] i x h = absurd (let no : ⊥ = omega arith in no)
slice_get-set_same (y ∷ ys) zero x h = refl
slice_get-set_same (y ∷ ys) (suc i) x h = slice_get-set_same ys i x (omega arith)

slice_get-set_other : {X : Type 0} (xs : List X) (i j : ℕ) (x : X) → j ≢ i → slice_get (set xs i x) j ≡ slice_get xs j
slice_get-set_other [] i j x h = refl
slice_get-set_other (y ∷ ys) zero zero x h = absurd (h refl)
slice_get-set_other (y ∷ ys) zero (suc j) x h = refl
slice_get-set_other (y ∷ ys) (suc i) zero x h = refl
slice_get-set_other (y ∷ ys) (suc i) (suc j) x h = slice_get-set_other ys i j x (λ e. h (ap suc e))

-- ## Centres by their numbers

pub centre_at : (line : Line) (cs : List Centre) (c : ℕ) (k : Centre) → slice_get cs c ≡ Some k
    → centres_of line cs c ≡ one.state_of k
centre_at line cs c k at = ap (λ o. option_map_or one.state_of o (centre.beginning line c)) at

pub centres_of-set : (line : Line) (cs : List Centre) (c : ℕ) (k : Centre) → c < length cs → (d : ℕ)
    → centres_of line (set cs c k) d ≡ put (centres_of line cs) c (one.state_of k) d
centres_of-set line cs c k within d =
    elim (eqb_tells d c) as (λ _. centres_of line (set cs c k) d ≡ put (centres_of line cs) c (one.state_of k) d) [
      | inl e ↦
          rw (e.0) (ap (centres_of line (set cs c k)) (e.1)
          ∙ centre_at line (set cs c k) c k (slice_get-set_same cs c k within))
      | inr e ↦
          rw (e.0) (ap (λ o. option_map_or one.state_of o (centre.beginning line d))
          (slice_get-set_other cs c d k (e.1)))
    ]

-- a centre with the same state leaves the states of the centres as they were
pub centres_of-kept : (line : Line) (cs : List Centre) (c : ℕ) (k new : Centre) → slice_get cs c ≡ Some k
    → c < length cs → one.state_of new ≡ one.state_of k → (d : ℕ)
    → centres_of line (set cs c new) d ≡ centres_of line cs d
centres_of-kept line cs c k new at within same d = centres_of-set line cs c new within d
    ∙ elim (eqb_tells d c) as (λ _. put (centres_of line cs) c (one.state_of new) d ≡ centres_of line cs d) [
      | inl e ↦ rw (e.0) (same ∙ sym (centre_at line cs c k at) ∙ ap (centres_of line cs) (sym (e.1)))
      | inr e ↦ rw (e.0) refl
    ]

beginning_by : (cs : List Centre) (line : Line) (c : ℕ) (o : Option Centre) → slice_get cs c ≡ o
    → ((d : ℕ) (k : Centre) → slice_get cs d ≡ Some k → AtBeginning line d k)
    → option_map_or one.state_of o (centre.beginning line c) ≡ centre.beginning line c
beginning_by cs line c (Some k) at each = (each c k at).state_of
beginning_by cs line c None at each = refl

-- the world of centres at their beginning
pub new_world_stands : (cs : List Centre) (line own : Line) (trains : List ℕ) → own ≡ line
    → ((d : ℕ) (k : Centre) → slice_get cs d ≡ Some k → AtBeginning line d k) → trains ≡ []
    → stands_for own cs trains ≡ new_world line
unfolding stands_for new_world
new_world_stands cs line own trains same each none =
    ap (λ l. stands_for l cs trains) same
    ∙ (λ i. record { at = λ c. beginning_by cs line c (slice_get cs c) refl each i; trains = none i })

-- a property of each centre by its number is kept if the centre that stepped keeps it
pub each_kept : (P : ℕ → Centre → Type 0) (cs : List Centre) (c : ℕ) (new : Centre) → c < length cs → P c new
    → ((d : ℕ) (j : Centre) → slice_get cs d ≡ Some j → P d j) → (d : ℕ) (j : Centre)
    → slice_get (set cs c new) d ≡ Some j → P d j
each_kept P cs c new within holds each d j found = elim (eqb_tells d c) as (λ _. P d j) [
  | inl e ↦
      let here : Some new ≡ Some j =
      sym (slice_get-set_same cs c new within) ∙ ap (slice_get (set cs c new)) (sym (e.1)) ∙ found in
      let is : new ≡ j = cc in
      subst (P d) is (subst (λ (n : ℕ). P n new) (sym (e.1)) holds)
  | inr e ↦ each d j (sym (slice_get-set_other cs c d new (e.1)) ∙ found)
]

-- a property of each item of a list, and of one more item
pub each_pushed : {X : Type 0} (P : ℕ → X → Type 0) (xs : List X) (x : X)
    → ((d : ℕ) (k : X) → slice_get xs d ≡ Some k → P d k) → P (length xs) x → (d : ℕ) (k : X)
    → slice_get (xs ++ x ∷ []) d ≡ Some k → P d k
each_pushed P [] x each p zero k found = let is : x ≡ k = cc in subst (P zero) is p
each_pushed P [] x each p (suc d) k found = cc
each_pushed P (y ∷ ys) x each p zero k found = each zero k found
each_pushed P (y ∷ ys) x each p (suc d) k found =
    each_pushed (λ e. P (suc e)) ys x (λ e j h. each (suc e) j h) p d k found
