use Rattle.std.proofs.Common.{[], ◌++◌, ◌∙◌, ap, sym}
use Rattle.std.specs.Option.{option_map_or}
use Rattle.rbc_handover.specs.Giving.{with_count}
use Rattle.rbc_mission.specs.Supervisions.{with_supervision}
use Rattle.rbc_spec.specs.Acts.{rest}
use Rattle.rbc_spec.specs.Rules.{at_border}
use Rattle.rbc_train.proofs.Borders.{borders}
use Rattle.rbc_train.proofs.train.TrainState.at_border.Goals as goal
use Rattle.rbc_train.specs.declared.heard.Heard.{Heard}
use Rattle.rbc_train.specs.Desk.{counted_to, posted, replied}
use Rattle.rbc_train.specs.Letters.{letters, notices}
use Rattle.rbc_train.specs.Sayings.{sayings_of}

pub ask_route-requires : goal.ask_route-requires
ask_route-requires c = ap (λ (x : Heard). x.mail.letter) c.announce.ensures.heard
    ∙ ap (λ (x : Heard). x.mail.letter) c.requires.out

pub returns-clause-exact : goal.returns-clause-exact
returns-clause-exact c = λ e k has counts so_many.
    let line = c.args.line.now in
    let t = c.args.self.now.supervision.engine in
    let mid = c.announce.new.self in
    let order = c.announce.new.out.order in
    let one = c.announce.new.out.mail.notice in
    let announced = c.announce.new.count in
    let letter = c.ask_route.new.letter in
    let left = c.ask_route.ensures.left in
    ap (λ o. option_map_or (at_border line c.args.centre t) o rest k) (sym c.next_centre.ensures ∙ c.in-Some.is)
    ∙ borders line c.args.centre t c.in-Some.next k e one order letter mid.said announced mid.supervision
    c.ask_route.new.self.supervision.asked c.announce.ensures.keeps.hand.engine
    (c.announce.ensures.exact e k has counts so_many)
    (λ j there. c.ask_route.ensures.exact j there
    ∙ (λ i. posted (letters letter) (replied (with_supervision (left i).supervision j) [] [])))
    ∙ (λ i. posted (λ d. notices t e one d ++ letters letter d)
    (replied (with_count announced (counted_to t (sym left i).said (with_supervision (sym left i).supervision k)))
    (sayings_of order) []))

pub returns-clause-heard : goal.returns-clause-heard
returns-clause-heard c =
    let said = c.announce.new.out in
    let letter = c.ask_route.new.letter in
    ap (λ (x : Heard). record x { mail = record x.mail { letter = letter } }) c.announce.ensures.heard
    ∙ ap (λ (x : Heard). record x {
      order = said.order;
      mail = record x.mail { notice = said.mail.notice; letter = letter };
    }) c.requires.out
