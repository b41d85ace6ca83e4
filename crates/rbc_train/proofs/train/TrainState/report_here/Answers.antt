use Rattle.std.proofs.Common.{◌∙◌, ◌≡◌, ap, None, option_map, Some, subst, sym, ℕ}
use Rattle.std.proofs.lemmas.Option.{same_Some}
use Rattle.rbc_msgs.specs.StepMessage.{position_of}
use Rattle.rbc_place.specs.Places.{place_of}
use Rattle.rbc_spec.specs.Place.{Place, place_on}
use Rattle.rbc_train.proofs.Reports.{on_track}
use Rattle.rbc_train.proofs.train.TrainState.report_here.Goals as goal
use Rattle.rbc_train.specs.Standstill.{LeavesFront, SendsHome}

pub returns-in-Some-clause-exact : goal.returns-in-Some-clause-exact
returns-in-Some-clause-exact c = λ m there is k has.
    let on : place_on c.args.line.now m.place.track (position_of c.args.position.now)
    ≡ Some (place_of c.in-Some.place) =
    ap (λ (track : ℕ). place_on c.args.line.now track (position_of c.args.position.now)) is
    ∙ sym c.place_on.ensures.value ∙ ap (option_map place_of) c.in-Some.is in
    rw on
    (c.clear.ensures.exact m there
    (sym (on_track c.args.line.now m.place.track (position_of c.args.position.now) (place_of c.in-Some.place) on)) k
    has)

pub returns-in-Some-clause-sends : goal.returns-in-Some-clause-sends
returns-in-Some-clause-sends c =
    subst (λ (track : ℕ). SendsHome track c.clear.new.self.supervision c.clear.new.out)
    (on_track c.args.line.now c.args.track (position_of c.args.position.now) (place_of c.in-Some.place)
    (sym c.place_on.ensures.value ∙ ap (option_map place_of) c.in-Some.is))
    c.clear.ensures.sends

pub returns-in-Some-clause-track : goal.returns-in-Some-clause-track
returns-in-Some-clause-track c = λ m n there is stands.
    c.clear.ensures.track n stands
    ∙ on_track c.args.line.now c.args.track (position_of c.args.position.now) (place_of c.in-Some.place)
    (sym c.place_on.ensures.value ∙ ap (option_map place_of) c.in-Some.is)

pub returns-in-Some-clause-front : goal.returns-in-Some-clause-front
returns-in-Some-clause-front c = λ p is.
    let same : place_of c.in-Some.place ≡ p =
    same_Some (place_of c.in-Some.place) p
    (sym (sym c.place_on.ensures.value ∙ ap (option_map place_of) c.in-Some.is) ∙ is) in
    subst (λ (q : Place). LeavesFront c.args.line.now q c.args.self.now.supervision c.clear.new.self.supervision
    c.clear.new.out.told c.args.book.now c.clear.new.book) same c.clear.ensures.front

pub returns-in-None-clause-front : goal.returns-in-None-clause-front
returns-in-None-clause-front c = λ p is. let none : None ≡ Some p =
    sym (sym c.place_on.ensures.value ∙ ap (option_map place_of) c.in-None.is) ∙ is in cc
