-- The relation is a function, while memory suffices.
use Rattle.std.proofs.Common.{[], ◌∙◌, ◌∷◌, ◌≡◌, ◌≢◌, All, ap, Err, List, map, Ok, refl, Result, subst, sym}
use Rattle.std.proofs.lemmas.List.Elements.{All-head, All-tail}
use Rattle.law_alike.specs.Alike.{AreSteps, IsStep, seen}
use Rattle.rbc_spec.specs.Line.{Line}
use Rattle.rbc_spec.specs.Step.{ClockEnd as AtClockEnd, LinkFull as AtLinkFull, Refusal}
use Rattle.rbc_spec.specs.World as spec
use Rattle.rbc_spec.specs.World.{Event, World}
use Rattle.rbc_world.specs.declared.event.Answer.{Answer}
use Rattle.rbc_world.specs.rbc_centre.declared.fault.StepFault.{StepFault}
use Rattle.rbc_world.specs.rbc_centre.declared.fault.StepFault.TheVariants.{ClockEnd, LinkFull, Memory}
use Rattle.rbc_world.specs.Views.{answer_of}

abbrev Step : Type 0
Step = Result (spec.Answer × World) Refusal

-- the definition's result gives the answer and the world, or the refusal
given : (p q : spec.Answer × World) → ◌≡◌ {A = Step} (Ok p) (Ok q) → p ≡ q
given p q e = cc

ok_err : (p : spec.Answer × World) (why : Refusal) → ◌≡◌ {A = Step} (Ok p) (Err why) → ⊥
ok_err p why e = cc

apart : ◌≡◌ {A = Step} (Err AtLinkFull) (Err AtClockEnd) → ⊥
apart e = cc

module _ (line left others_left : Line) (w new others_new : World) (event : Event) where
  abbrev One : Result Answer StepFault → Result Answer StepFault → Type 0
  One result other = (seen result ≡ seen other) × (left ≡ others_left) × (new ≡ others_new)

  both_ok : (a b : Answer) → IsStep line w event (Ok a) left new → IsStep line w event (Ok b) others_left others_new
      → One (Ok a) (Ok b)
  both_ok a b is also = (
    ap (λ (p : spec.Answer × World). Ok p.0) same,
    is.same_line ∙ sym also.same_line,
    ap (λ (p : spec.Answer × World). p.1) same,
  )
    where
      same : ◌≡◌ {A = spec.Answer × World} (answer_of a, new) (answer_of b, others_new)
      same = given (answer_of a, new) (answer_of b, others_new) (sym is.exact ∙ also.exact)

  both_refused : (fault : StepFault) → IsStep line w event (Err fault) left new
      → IsStep line w event (Err fault) others_left others_new → One (Err fault) (Err fault)
  both_refused fault is also = (refl, is.same_line ∙ sym also.same_line, is.err ∙ sym also.err)

  pub one_result : (result other : Result Answer StepFault) → IsStep line w event result left new
      → IsStep line w event other others_left others_new
      → result ≢ Err Memory → other ≢ Err Memory → One result other
  one_result (Ok a) (Ok b) is also had others_had = both_ok a b is also
  one_result (Err LinkFull) (Err LinkFull) is also had others_had = both_refused LinkFull is also
  one_result (Err ClockEnd) (Err ClockEnd) is also had others_had = both_refused ClockEnd is also
  one_result (Err LinkFull) (Err ClockEnd) is also had others_had = absurd (apart (sym is.exact ∙ also.exact))
  one_result (Err ClockEnd) (Err LinkFull) is also had others_had = absurd (apart (sym also.exact ∙ is.exact))
  one_result (Ok a) (Err LinkFull) is also had others_had =
      absurd (ok_err (answer_of a, new) AtLinkFull (sym is.exact ∙ also.exact))
  one_result (Ok a) (Err ClockEnd) is also had others_had =
      absurd (ok_err (answer_of a, new) AtClockEnd (sym is.exact ∙ also.exact))
  one_result (Err LinkFull) (Ok b) is also had others_had =
      absurd (ok_err (answer_of b, others_new) AtLinkFull (sym also.exact ∙ is.exact))
  one_result (Err ClockEnd) (Ok b) is also had others_had =
      absurd (ok_err (answer_of b, others_new) AtClockEnd (sym also.exact ∙ is.exact))
  one_result (Err Memory) other is also had others_had = absurd (had refl)
  one_result (Ok a) (Err Memory) is also had others_had = absurd (others_had refl)
  one_result (Err LinkFull) (Err Memory) is also had others_had = absurd (others_had refl)
  one_result (Err ClockEnd) (Err Memory) is also had others_had = absurd (others_had refl)

-- ## A list of events

abbrev HadMemory : Result Answer StepFault → Type 0
HadMemory r = r ≢ Err Memory

pub one_end : (line : Line) (events : List Event) (w new others_new : World)
    (results others : List (Result Answer StepFault))
    → AreSteps line w events results new → AreSteps line w events others others_new → All HadMemory results
    → All HadMemory others
    → (map seen results ≡ map seen others) × (new ≡ others_new)
one_end line [] w new others_new [] [] are also had others_had = (refl, are ∙ sym also)
one_end line [] w new others_new [] (o ∷ others) are also had others_had = absurd also
one_end line [] w new others_new (r ∷ results) others are also had others_had = absurd are
one_end line (event ∷ events) w new others_new [] others are also had others_had = absurd are
one_end line (event ∷ events) w new others_new (r ∷ results) [] are also had others_had = absurd also
one_end line (event ∷ events) w new others_new (r ∷ results) (o ∷ others) are also had others_had =
    let first = one_result line line line w are.0 also.0 event r o are.1 also.1 (All-head HadMemory r results had)
    (All-head HadMemory o others others_had) in
    let rest = one_end line events are.0 new others_new results others are.2
    (subst (λ v. AreSteps line v events others others_new) (sym first.2) also.2)
    (All-tail HadMemory r results had) (All-tail HadMemory o others others_had) in
    (ap (λ x. x ∷ map seen results) first.0 ∙ ap (λ xs. seen o ∷ xs) rest.0, rest.1)
