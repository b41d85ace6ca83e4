-- The return of a right that a mission or a registrar has handed out.
use Rattle.std.specs.Prelude.{◌≡◌, ◌<◌, ℕ, [], length, Option, None}
use Rattle.rbc_spec.specs.Line.{Line}
use Rattle.rbc_spec.specs.Centre.{Centre}
use Rattle.rbc_spec.specs.Acts.{return_right}
use Rattle.rbc_right.specs.Rights.{Rights, is_here, right_of}
use Rattle.rbc_mission.specs.declared.held.HeldRight.{HeldRight}
use Rattle.rbc_mission.specs.declared.held.HeldRight.TheVariants.{Nothing, Held}
use Rattle.rbc_train.specs.Letters.{letters}
use Rattle.rbc_train.specs.Desk.{KeepsRights, posted, replied, with_right}
use Rattle.rbc_train.specs.declared.letter.Letter.{Letter}

-- At centre c, the right that is given back is in the registrar again, if that is here, or this letter takes it there.
-- Nothing changes if none is given back.
pub record GoesHome (line : Line) (c t : ℕ) (right : HeldRight) (letter : Option Letter)
    (rights rights' : Rights) : Type 0 where
  pub nothing : right ≡ Nothing → (letter ≡ None) × (rights' ≡ rights)
  pub goes : (i : ℕ) (k : Centre) → right ≡ Held (right_of i) → i < length rights → k.has_right t ≡ is_here rights i
      → return_right line c t k ≡ posted (letters letter) (replied (with_right t (is_here rights' i) k) [] [])
  pub kept : (i : ℕ) → right ≡ Held (right_of i) → KeepsRights i rights rights'
