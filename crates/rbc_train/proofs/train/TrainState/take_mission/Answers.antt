use Rattle.std.proofs.Common.{◌∙◌, ap, arith, None, Some}
use Rattle.rbc_line.specs.SectionRuns.{run_of}
use Rattle.rbc_mission.specs.Supervisions.{mission_of}
use Rattle.rbc_right.specs.Rights.{right_of}
use Rattle.rbc_spec.specs.SectionRuns.{no_run}
use Rattle.rbc_train.proofs.train.TrainState.take_mission.Goals as goal

pub take_up-requires-clause-some : goal.take_up-requires-clause-some
take_up-requires-clause-some c = c.requires.hand.count.0

pub take_up-requires-clause-most : goal.take_up-requires-clause-most
take_up-requires-clause-most c = c.requires.hand.count.1

pub take_up-requires-clause-numbers : goal.take_up-requires-clause-numbers
take_up-requires-clause-numbers c = let last = c.requires.hand.last in omega (arith, last)

pub take_up-requires-clause-right : goal.take_up-requires-clause-right
take_up-requires-clause-right c = c.arrive-right.ensures ∙ ap right_of c.number.ensures

pub returns-clause-left : goal.returns-clause-left
returns-clause-left c =
    let old = c.args.self.now in
    let y = c.args.arriving.yielding in
    λ i. record old {
      heard = Some (c.later.ensures i);
      supervision = (c.take_up.ensures.supervision
          ∙ (λ j. record old.supervision {
            mission =
                Some (mission_of (run_of y.hand) no_run None
                (record (c.at.ensures j) { has_data = y.has_data; is_ended = y.is_ended }));
            hand = c.take_up.new.self.hand;
          })) i;
      expectations = c.taken.new.self;
    }
