-- Laws of the rights at a centre.
use Rattle.std.proofs.Common.{[], ◌<◌, ◌==◌, ◌∙◌, ◌∷◌, ◌≡◌, ◌≢◌, ◌≤◌, ap, arith, Bool, false, inl, inr, length, List}
use Rattle.std.proofs.Common.{nat_lt, None, Option, option_map, refl, set, slice_get, Some, suc, sym, true, unwrap_or}
use Rattle.std.proofs.Common.{zero, ℕ}
use Rattle.std.proofs.lemmas.Bool.{cases_lt, false≢true}
use Rattle.std.proofs.lemmas.Bool.Decides.{eqb_tells}
use Rattle.std.proofs.lemmas.List.Folds.{find_at}
use Rattle.std.proofs.lemmas.Option.{cond_some, slice_get_past}
use Rattle.std.specs.List.{find, position_or_len}
use Rattle.std.specs.Option.{option_map_or}
use Rattle.rbc_right.specs.Rights.{is_here, is_registered_at, Rights}
use Rattle.rbc_spec.specs.Centre.{is_registrar_of}
use Rattle.rbc_spec.specs.Line.{Line, Train, train_number}
use Rattle.rbc_spec.specs.Maps.{put}

-- ## Lists

slice_get-set_same : {X : Type 0} (xs : List X) (i : ℕ) (x : X) → i < length xs → slice_get (set xs i x) i ≡ Some x
slice_get-set_same [] i x h = absurd (let no : ⊥ = omega arith in no)
slice_get-set_same (y ∷ ys) zero x h = refl
slice_get-set_same (y ∷ ys) (suc i) x h = slice_get-set_same ys i x (omega arith)

slice_get-set_other : {X : Type 0} (xs : List X) (i j : ℕ) (x : X) → j ≢ i → slice_get (set xs i x) j ≡ slice_get xs j
slice_get-set_other [] i j x h = refl
slice_get-set_other (y ∷ ys) zero zero x h = absurd (h refl)
slice_get-set_other (y ∷ ys) zero (suc j) x h = refl
slice_get-set_other (y ∷ ys) (suc i) zero x h = refl
slice_get-set_other (y ∷ ys) (suc i) (suc j) x h = slice_get-set_other ys i j x (λ e. h (ap suc e))

-- ## A right is given back or handed out

pub here_within : (rights : Rights) (i : ℕ) → is_here rights i ≡ true → i < length rights
unfolding is_here
here_within rights i here =
    elim (cases_lt i (length rights)) [
      | inl within ↦ within
      | inr past ↦ absurd (false≢true (ap (λ o. unwrap_or o false) (sym (slice_get_past rights i past)) ∙ here))
    ]

pub here-set : (rights : Rights) (i : ℕ) (b : Bool) → i < length rights → (j : ℕ)
    → is_here (set rights i b) j ≡ put (is_here rights) i b j
unfolding is_here
here-set rights i b within j =
    elim (eqb_tells j i) as (λ _. is_here (set rights i b) j ≡ put (is_here rights) i b j) [
      | inl e ↦ rw (e.0, e.1) (ap (λ o. unwrap_or o false) (slice_get-set_same rights i b within))
      | inr e ↦ rw (e.0) (ap (λ o. unwrap_or o false) (slice_get-set_other rights i j b e.1))
    ]

-- a right that is here already stays
pub here-same : (rights : Rights) (i : ℕ) (b : Bool) → is_here rights i ≡ b → (j : ℕ)
    → is_here rights j ≡ put (is_here rights) i b j
here-same rights i b at j =
    elim (eqb_tells j i) as (λ _. is_here rights j ≡ put (is_here rights) i b j) [
      | inl e ↦ rw (e.0, e.1) at
      | inr e ↦ rw (e.0) refl
    ]

-- no right is here of a train past the last
pub past_is_away : (rights : Rights) (i : ℕ) → length rights ≤ i → is_here rights i ≡ false
unfolding is_here
past_is_away rights i past = ap (λ o. unwrap_or o false) (slice_get_past rights i past)

-- ## At the beginning

-- of the first trains, whether their rights are registered at c
pub record HasRights (line : Line) (c n : ℕ) (rights : Rights) : Type 0 where
  pub count : length rights ≡ n
  pub each : (k : ℕ) → k < n → slice_get rights k ≡ Some (is_registered_at line c k)

module _ (line : Line) (c n : ℕ) (rights : Rights) (whole : HasRights line c n rights)
    (all : n ≡ length line.trains) where
  pub new_here : (j : ℕ) → is_here rights j ≡ is_registered_at line c j
  unfolding is_here
  new_here j =
      elim (cases_lt j n) [
        | inl within ↦ ap (λ o. unwrap_or o false) (whole.each j within)
        | inr past ↦
            ap (λ o. unwrap_or o false) (slice_get_past rights j (omega (arith, whole.count)))
            ∙ sym (ap (λ o. option_map_or (λ (p : Train). p.registrar == c) o false)
            (slice_get_past line.trains j (omega (arith, all))))
      ]

  pub new_engines : (t j : ℕ) → train_number line t ≡ Some j → is_here rights j ≡ is_registrar_of line c t
  new_engines t j at = new_here j ∙ by_found (slice_get line.trains j)
      ∙ ap (λ o. option_map_or (λ r. r == c) (option_map (λ (p : Train). p.registrar) o) false) (sym found)
    where
      by_found : (o : Option Train)
          → option_map_or (λ p. p.registrar == c) o false
          ≡ option_map_or (λ r. r == c) (option_map (λ p. p.registrar) o) false
      by_found None = refl
      by_found (Some p) = refl

      found : find (λ p. p.nid_engine == t) line.trains ≡ slice_get line.trains j
      found =
          find_at (λ p. p.nid_engine == t) line.trains
          ∙ ap (slice_get line.trains)
          (cond_some (nat_lt (position_or_len (λ p. p.nid_engine == t) line.trains) (length line.trains))
          (position_or_len (λ p. p.nid_engine == t) line.trains) j at).1
