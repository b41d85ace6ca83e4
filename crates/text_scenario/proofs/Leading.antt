-- Lines of a scenario that are played in order.
use Rattle.std.proofs.Common.{◌+◌, ◌<◌, ◌∙◌, ◌∷◌, ◌≡◌, ap, arith, drop, get_or, length, List, subst, suc, sym, ℕ}
use Rattle.std.proofs.lemmas.List.{drop_more}
use Rattle.rbc_spec.specs.Line.{Line}
use Rattle.rbc_spec.specs.World.{Answer, World}
use Rattle.rbc_world.specs.rbc_centre.declared.fault.StepFault.{StepFault}
use Rattle.text_scenario.specs.declared.trial.Step.{Step}
use Rattle.text_scenario.specs.Holds.{Holds, HoldsTo, Misses, Moves, Refuses}

-- the lines that are left lead from here to the same verdict as all lines from the beginning
pub record Goes (line : Line) (w : World) (at : ℕ) (answer : Answer) (steps left : List Step) (n : ℕ) (x : World)
    (c : ℕ) (a : Answer) : Type 0 where
  pub passed : Holds line x c a left → Holds line w at answer steps
  pub differs : (k : ℕ) → HoldsTo Misses line x c a k left → HoldsTo Misses line w at answer (n + k) steps
  pub refused : (fault : StepFault) (k : ℕ) → HoldsTo (Refuses fault) line x c a k left
      → HoldsTo (Refuses fault) line w at answer (n + k) steps

module _ (line : Line) (w : World) (at : ℕ) (answer : Answer) (steps : List Step) (n : ℕ) (s : Step) (x : World) (c : ℕ)
    (a : Answer) (some : n < length steps) (is : s ≡ get_or steps n s)
    (so_far : Goes line w at answer steps (drop n steps) n x c a) where
  here : Goes line w at answer steps (s ∷ drop (n + 1) steps) n x c a
  here =
      subst (λ (left : List Step). Goes line w at answer steps left n x c a)
      (drop_more steps n s some ∙ ap (λ (first : Step). first ∷ drop (n + 1) steps) (sym is)) so_far

  -- one more line is played
  pub one_more : (y : World) (d : ℕ) (b : Answer) → Moves line x c a s.said y d b
      → Goes line w at answer steps (drop (n + 1) steps) (n + 1) y d b
  one_more y d b moves = record {
    passed = λ rest. here.passed (y, d, b, moves, rest);
    differs = λ k rest.
        subst (λ m. HoldsTo Misses line w at answer m steps) (let e : n + suc k ≡ n + 1 + k = omega arith in e)
        (here.differs (suc k) (y, d, b, moves, rest));
    refused = λ fault k rest.
        subst (λ m. HoldsTo (Refuses fault) line w at answer m steps) (let e : n + suc k ≡ n + 1 + k = omega arith in e)
        (here.refused fault (suc k) (y, d, b, moves, rest));
  }

  -- the line is an expectation that does not hold
  pub misses : Misses line x c a s.said → HoldsTo Misses line w at answer n steps
  misses miss =
      subst (λ m. HoldsTo Misses line w at answer m steps) (let e : n + 0 ≡ n = omega arith in e) (here.differs 0 miss)

  -- the line is an event whose step is refused
  pub refuses : (fault : StepFault) → Refuses fault line x c a s.said
      → HoldsTo (Refuses fault) line w at answer n steps
  refuses fault refusal =
      subst (λ m. HoldsTo (Refuses fault) line w at answer m steps) (let e : n + 0 ≡ n = omega arith in e)
      (here.refused fault 0 refusal)
