-- The answered events of a list of steps are a run of the definition.
use Rattle.std.proofs.Common.{◌≡◌, ◌∙◌, ◌∷◌, [], ap, Err, List, Ok, Result, subst, sym}
use Rattle.rbc_spec.specs.Line.{Line}
use Rattle.rbc_spec.specs.Step.{Refusal}
use Rattle.rbc_spec.specs.World as spec
use Rattle.rbc_spec.specs.World.{◌>>=◌, Event, World, world_run}
use Rattle.rbc_world.specs.declared.event.Answer.{Answer}
use Rattle.rbc_world.specs.rbc_centre.declared.fault.StepFault.{StepFault}
use Rattle.rbc_world.specs.Views.{answer_of}
use Rattle.law_alike.specs.Alike.{answered, answers_of, AreSteps}

-- the result of a run
abbrev Ran : Type 0
Ran = Result (List spec.Answer × World) Refusal

-- the run goes on after an answer
abbrev goes_on : Line → List Event → Result (spec.Answer × World) Refusal → Ran
goes_on line events step =
    step >>= λ first. world_run line first.1 events >>= λ others. Ok (first.0 ∷ others.0, others.1)

pub run_is : (line : Line) (events : List Event) (w new : World) (results : List (Result Answer StepFault))
    → AreSteps line w events results new → world_run line w (answered events results) ≡ Ok (answers_of results, new)
unfolding world_run
run_is line [] w new [] are = ap (λ (v : World). Ok ([], v)) (sym are)
run_is line [] w new (r ∷ results) are = absurd are
run_is line (event ∷ events) w new [] are = absurd are
run_is line (event ∷ events) w new (Ok a ∷ results) are =
    ap (goes_on line (answered events results)) are.1.exact
    ∙ ap (λ (r : Ran). r >>= λ others. Ok (answer_of a ∷ others.0, others.1))
    (run_is line events are.0 new results are.2)
run_is line (event ∷ events) w new (Err fault ∷ results) are =
    run_is line events w new results (subst (λ (v : World). AreSteps line v events results new) are.1.err are.2)

same_run : (x y : List spec.Answer × World) → ◌≡◌ {A = Ran} (Ok x) (Ok y) → x ≡ y
same_run x y is = cc

-- two programs that answer the same events
pub left_out : (line : Line) (w new others_new : World) (events other_events : List Event)
    (results others : List (Result Answer StepFault)) → AreSteps line w events results new
    → AreSteps line w other_events others others_new → answered events results ≡ answered other_events others
    → (answers_of results ≡ answers_of others) × (new ≡ others_new)
left_out line w new others_new events other_events results others are also same =
    let one = same_run (answers_of results, new) (answers_of others, others_new)
    (sym (run_is line events w new results are) ∙ ap (world_run line w) same
    ∙ run_is line other_events w others_new others also) in
    (ap (λ (x : List spec.Answer × World). x.0) one, ap (λ (x : List spec.Answer × World). x.1) one)
