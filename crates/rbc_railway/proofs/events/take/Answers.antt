use Rattle.std.proofs.Common.{[], ◌++◌, ◌∷◌, ◌∙◌, ◌≡◌, ap, List, Ok, rules, subst, true}
use Rattle.rbc_railway.proofs.events.take.Goals as goal
use Rattle.rbc_railway.specs.declared.answer.CentreAnswer.{CentreAnswer}
use Rattle.rbc_spec.specs.Line.{is_centre}
use Rattle.rbc_spec.specs.World.{world_step}
use Rattle.rbc_world.specs.Views.{answer_of, event_of}
use Rattle.rbc_world.specs.World.{state_of}

pub returns-in-Ok-clause-taken : goal.returns-in-Ok-clause-taken
returns-in-Ok-clause-taken c same =
    let here : is_centre c.args.line.now c.centre_of-centre.result ≡ true = search rules in
    record {
      answer = record { centre = c.centre_of-centre.result; answer = c.in-Ok.answer };
      kept = c.push_reserved.ensures.items ∙ ap (λ (told : List CentreAnswer). told ++ record {
        centre =
            c.centre_of-centre.result;
        answer = c.in-Ok.answer;
      } ∷ []) c.reserve.ensures.items;
      of_centre = c.centre_of-centre.ensures;
      here = here;
      step =
          subst (λ line. world_step line (state_of c.args.world.now) (event_of c.args.event.now)
          ≡ Ok (answer_of c.in-Ok.answer, state_of c.step.new.self)) same c.in-Ok.ensures.exact;
    }
