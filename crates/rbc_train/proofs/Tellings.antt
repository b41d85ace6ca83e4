-- The whole replies to a set and to an unset.
use Rattle.std.proofs.Common.{[], ◌==◌, ◌∙◌, ◌∷◌, ◌≡◌, ap, Bool, cond, false, refl, true, ℕ}
use Rattle.rbc_spec.specs.Acts.{◌>>◌, propose_if_so, Reply}
use Rattle.rbc_spec.specs.Centre.{Centre, is_unused, Open, Shut, Taken}
use Rattle.rbc_spec.specs.Line.{is_home, Line}
use Rattle.rbc_spec.specs.Maps.{put}
use Rattle.rbc_spec.specs.Outcome.{Done}
use Rattle.rbc_spec.specs.Step.{set, unset}
use Rattle.rbc_train.specs.Tellings.{told_asked, told_done, told_elsewhere, told_kept, wishing}

-- ## An unset

pub shut_at_once : (line : Line) (c s : ℕ) (k : Centre) → is_home line c s ≡ true → is_unused (k.book s) ≡ true
    → unset line c s k ≡ told_done s Shut k
unfolding ◌>>◌
shut_at_once line c s k home unused = rw (home, unused) refl

-- a section in use for a train is wished back, and then its train is asked
pub wished_of_taken : (line : Line) (c s t : ℕ) (k : Centre) → is_home line c s ≡ true → k.book s ≡ Taken t
    → unset line c s k ≡ told_asked s (propose_if_so line t s (wishing s k))
unfolding ◌>>◌
wished_of_taken line c s t k home taken = rw (home, taken) refl

pub asked_of_taken : (line : Line) (c s t : ℕ) (k : Centre) (reply : Reply) → is_home line c s ≡ true
    → k.book s ≡ Taken t
    → propose_if_so line t s (wishing s k) ≡ reply → unset line c s k ≡ told_asked s reply
asked_of_taken line c s t k reply home taken is = wished_of_taken line c s t k home taken ∙ ap (told_asked s) is

pub left_at_unset : (line : Line) (c s : ℕ) (k : Centre) → is_home line c s ≡ false
    → unset line c s k ≡ told_elsewhere s k
left_at_unset line c s k home = rw home refl

-- ## A set

-- the same value put twice is put once
put_twice : {X : Type 0} (f : ℕ → X) (s : ℕ) (x : X) (j : ℕ) → put (put f s x) s x j ≡ put f s x j
put_twice f s x j = by_place (j == s)
  where
    by_place : (b : Bool) → cond b x (cond b x (f j)) ≡ cond b x (f j)
    by_place true = refl
    by_place false = refl

-- the wish for a section that is opened ends twice
opened_twice : (line : Line) (c s : ℕ) (k : Centre) → is_home line c s ≡ true → is_unused (k.book s) ≡ true
    → set line c s k ≡ record {
      state = record k { book = put k.book s Open; wish = put (put k.wish s false) s false };
      frames = λ d. [];
      sayings = [];
      words = Done s ∷ [];
    }
unfolding ◌>>◌
opened_twice line c s k home unused = rw (home, unused) refl

pub opened_at_once : (line : Line) (c s : ℕ) (k : Centre) → is_home line c s ≡ true → is_unused (k.book s) ≡ true
    → set line c s k ≡ told_done s Open k
opened_at_once line c s k home unused = opened_twice line c s k home unused ∙ (λ i. record {
  state = record k { book = put k.book s Open; wish = λ j. put_twice k.wish s false j i };
  frames = λ d. [];
  sayings = [];
  words = Done s ∷ [];
})

pub kept_in_use : (line : Line) (c s : ℕ) (k : Centre) → is_home line c s ≡ true → is_unused (k.book s) ≡ false
    → set line c s k ≡ told_kept s k
unfolding ◌>>◌
kept_in_use line c s k home used = rw (home, used) refl

pub left_at_set : (line : Line) (c s : ℕ) (k : Centre) → is_home line c s ≡ false → set line c s k ≡ told_elsewhere s k
left_at_set line c s k home = rw home refl
