use Rattle.std.proofs.Common.{◌∙◌, ap, false, sym}
use Rattle.rbc_line.specs.SectionRuns.{run_of}
use Rattle.rbc_mission.specs.Supervisions.{claims_on}
use Rattle.rbc_place.specs.Places.{place_of}
use Rattle.rbc_right.specs.Answers.{answer}
use Rattle.rbc_right.specs.Rights.{is_here}
use Rattle.rbc_spec.specs.Maps.{put}
use Rattle.rbc_train.proofs.Starts.{begins, given}
use Rattle.rbc_train.proofs.train.TrainState.start_here.Goals as goal

pub returns-in-Given-clause-exact : goal.returns-in-Given-clause-exact
returns-in-Given-clause-exact c = λ line n k has covers.
    let old = c.args.self.now in
    let rights = c.args.registrar.now in
    let number = c.number.ensures in
    begins line n k old c.args.book.now rights has (place_of c.args.place) (run_of c.args.run)
    (claims_on old.supervision.engine (run_of c.args.run)) c.begin.new.self c.begin.new.book c.ask.new.self
    (given (is_here rights old.supervision.number) old.supervision.number c.in-Given.right
    (sym (ap (λ i. answer (is_here rights i) i) number) ∙ sym c.ask.ensures.answer ∙ c.in-Given.is)).0
    covers c.begin.ensures.supervision c.begin.ensures.book
    (λ j. c.ask.ensures.here j ∙ ap (λ i. put (is_here rights) i false j) number)
