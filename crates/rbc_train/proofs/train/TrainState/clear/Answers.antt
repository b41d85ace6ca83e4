use Rattle.std.proofs.Common.{◌∙◌, ◌≡◌, ◌≤◌, ap, is_some, option_and_then, refl, rules, subst, sym, ℕ}
use Rattle.rbc_allocation.specs.Sections.{FreesRun, front_of, hand_rest, wished}
use Rattle.rbc_book.specs.Book.{is_own}
use Rattle.rbc_mission.specs.Supervisions.{hand_of, right_left, SupervisionState, without_front}
use Rattle.rbc_place.specs.Places.{place_of}
use Rattle.rbc_spec.specs.Centre.{Mission}
use Rattle.rbc_spec.specs.Line.{is_home}
use Rattle.rbc_spec.specs.Place.{is_cleared}
use Rattle.rbc_spec.specs.SectionRuns.{passing, SectionRun}
use Rattle.rbc_train.proofs.Clears.{clears}
use Rattle.rbc_train.proofs.Kept.{cleared_handing, cleared_place, held_as, keeps_state, kept_cleared, none_left}
use Rattle.rbc_train.proofs.Kept.{not_left}
use Rattle.rbc_train.proofs.Letters.{goes_as, sent_home}
use Rattle.rbc_train.proofs.RightFrames.{released_as}
use Rattle.rbc_train.proofs.train.TrainState.clear.Goals as goal
use Rattle.rbc_train.specs.declared.heard.Heard.{Heard}
use Rattle.rbc_train.specs.declared.mail.Mail.{Mail}
use Rattle.rbc_train.specs.Desk.{unsaid, with_parts}
use Rattle.rbc_train.specs.Letters.{cancel_of, mail_home}
use Rattle.rbc_train.specs.Standstill.{cleared_count}

pub clear_front-released-requires-clause-some : goal.clear_front-released-requires-clause-some
clear_front-released-requires-clause-some c =
    subst (λ (r : SectionRun). c.cleared-count.result ≤ r.count) c.hand.ensures.value c.cleared-count.ensures.bound

pub clear_front-released-requires-clause-held : goal.clear_front-released-requires-clause-held
clear_front-released-requires-clause-held c =
    let old = c.args.self.now in
    held_as old.supervision.engine old.supervision.engine (is_home c.args.line.now c.args.centre)
    (is_own c.args.book.now) old.supervision.hand refl c.requires.at.book c.requires.at.held

pub returns-clause-exact : goal.returns-clause-exact
returns-clause-exact c = λ m there on k has.
    let line = c.args.line.now in
    let old = c.args.self.now in
    let place = place_of c.args.place in
    let left = c.clear_front-released.new.self in
    let sections = c.clear_front-released.result.returned in
    let letter = c.released.new.out.mail.letter in
    let notice = cancel_of c.clear_front-released.result.cancelled in
    clears line c.args.centre k old c.args.book.now c.args.registrar.now has m there place c.requires.at.number
    (λ d.
    (with_parts (record old { supervision = left }) c.clear_front-released.new.book c.released.new.registrar k).expects
    d old.supervision.engine) left
    (hand_rest c.cleared-count.result old.supervision.hand) c.clear_front-released.new.book c.released.new.registrar
    c.clear_front-released.result.told c.clear_front-released.result.cancelled letter
    c.cleared-count.result
    (c.cleared-count.ensures.value ∙ ap (passing (is_cleared line place)) c.hand.ensures.value
    ∙ ap (λ (x : SupervisionState). passing (is_cleared line place) (hand_of x))
    (λ i. record old.supervision { mission = there i }))
    c.clear_front-released.ensures.supervision c.clear_front-released.ensures.book c.clear_front-released.ensures.told
    sections c.clear_front-released.ensures.returned c.clear_front-released.ensures.cancelled
    (goes_as line c.args.centre old.supervision.engine left.engine c.clear_front-released.result.right
    (right_left old.supervision left) letter c.args.registrar.now c.released.new.registrar
    (ap (λ (x : SupervisionState). x.engine) c.clear_front-released.ensures.supervision)
    c.clear_front-released.ensures.right c.released.ensures.right)
    ∙ sym (released_as line c.args.centre old.supervision.engine
    (with_parts (record old { supervision = left }) c.clear_front-released.new.book c.released.new.registrar k)
    c.released.new.out c.clear_front-released.result.told
    (mail_home m.place.track sections notice letter)
    (c.released.ensures.heard
    ∙ ap (λ (track : ℕ). unsaid (mail_home track sections notice letter) c.clear_front-released.result.told) (sym on)))

pub returns-clause-stays : goal.returns-clause-stays
returns-clause-stays c = λ kept.
    kept_cleared c.args.line.now c.args.centre c.args.self.now c.clear_front-released.new.self
    (hand_rest c.cleared-count.result c.args.self.now.supervision.hand) (place_of c.args.place) c.cleared-count.result
    (subst (λ (r : SectionRun). c.cleared-count.result ≤ r.count) c.hand.ensures.value c.cleared-count.ensures.bound)
    c.clear_front-released.ensures.supervision kept

pub returns-clause-track : goal.returns-clause-track
returns-clause-track c = λ m there.
    cleared_place (place_of c.args.place) c.cleared-count.result c.args.self.now.supervision.mission m
    (ap (λ (x : SupervisionState). x.mission) (sym c.clear_front-released.ensures.supervision) ∙ there)

pub returns-clause-sends : goal.returns-clause-sends
returns-clause-sends c =
    let old = c.args.self.now.supervision in
    let left = c.clear_front-released.new.self in
    let is = ap (λ (x : SupervisionState). x.mission) c.clear_front-released.ensures.supervision in
    let mail = ap (λ (x : Heard). x.mail) c.released.ensures.heard in
    record {
      order = ap (λ (x : Heard). x.order) c.released.ensures.heard;
      mail =
          sent_home c.args.place.track c.clear_front-released.result.returned
          (cancel_of c.clear_front-released.result.cancelled) c.released.new.out.mail mail;
      letter = λ stands. (
        (c.released.ensures.right.nothing (c.clear_front-released.ensures.right ∙ none_left old left stands)).0,
        ap (λ (x : Mail). x.notice) mail
            ∙ ap cancel_of (c.clear_front-released.ensures.cancelled ∙ not_left old left
            (ap (option_and_then (λ (m : Mission). m.handing)) is
            ∙ cleared_handing (place_of c.args.place) c.cleared-count.result old.mission
            (ap is_some (sym is) ∙ stands))),
      );
    }

pub returns-clause-keeps : goal.returns-clause-keeps
returns-clause-keeps c =
    let old = c.args.self.now in
    let left = c.clear_front-released.new.self in
    let engine = ap (λ (x : SupervisionState). x.engine) c.clear_front-released.ensures.supervision in
    record {
      state =
          keeps_state c.args.line.now c.args.centre old old.heard left
          (ap (λ (x : SupervisionState). x.number) c.clear_front-released.ensures.supervision) engine
          (held_as old.supervision.engine left.engine (is_own c.clear_front-released.new.book)
          (is_home c.args.line.now c.args.centre) left.hand (sym engine)
          (λ s. sym (c.clear_front-released.ensures.book.homes s ∙ c.requires.at.book s))
          c.clear_front-released.ensures.held);
      desk = search rules;
    }

pub returns-clause-front : goal.returns-clause-front
returns-clause-front c =
    let old = c.args.self.now.supervision in
    let place = place_of c.args.place in
    let counts : c.cleared-count.result ≡ cleared_count c.args.line.now place (hand_of old) =
    c.cleared-count.ensures.value ∙ ap (passing (is_cleared c.args.line.now place)) c.hand.ensures.value in
    record {
      supervision =
          c.clear_front-released.ensures.supervision
          ∙ (λ i. record old {
            mission = option_and_then (without_front place (counts i)) old.mission;
            hand = hand_rest (counts i) old.hand;
          });
      told = ap (λ (x : Heard). x.told) c.released.ensures.heard ∙ c.clear_front-released.ensures.told
          ∙ ap (λ (n : ℕ). wished old.engine (front_of n (hand_of old)) c.args.book.now) counts;
      book =
          subst (λ (n : ℕ). FreesRun old.engine
          (front_of n (hand_of old)) c.args.book.now c.clear_front-released.new.book) counts
          c.clear_front-released.ensures.book;
    }
