-- The section that has the front, one section at a time.
use Rattle.std.proofs.Common.{◌+◌, ◌≡◌, arith, None, refl, suc, ℕ}
use Rattle.law_outside.specs.Outside.{front_end}
use Rattle.rbc_spec.specs.Line.{Line}
use Rattle.rbc_spec.specs.Place.{Place}
use Rattle.rbc_watch.specs.Stretches.{front_end_with}

pub front_end_none : (line : Line) (place : Place) → None ≡ front_end line place 0
unfolding front_end
front_end_none line place = refl

front_end_next : (line : Line) (place : Place) (n : ℕ)
    → front_end_with line place n (front_end line place n) ≡ front_end line place (suc n)
unfolding front_end
front_end_next line place n = refl

pub front_end_more : (line : Line) (place : Place) (n : ℕ)
    → front_end_with line place n (front_end line place n) ≡ front_end line place (n + 1)
front_end_more line place n =
    let next : n + 1 ≡ suc n = omega arith in
    rw next (front_end_next line place n)
