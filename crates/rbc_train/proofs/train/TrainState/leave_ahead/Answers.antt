use Rattle.std.proofs.Common.{◌+◌, ◌-◌, ◌∙◌, ◌≤◌, ap, Option, option_and_then, refl, rules, subst, sym, ℕ}
use Rattle.std.specs.Option.{option_map_or}
use Rattle.rbc_allocation.specs.Sections.{FreesRun, hand_front, rest_of, wished}
use Rattle.rbc_book.specs.Book.{is_own}
use Rattle.rbc_mission.specs.Supervisions.{cut_run, hand_of, pool_of, right_left, SupervisionState, with_front}
use Rattle.rbc_spec.specs.Centre.{Expectation, Mission}
use Rattle.rbc_spec.specs.Line.{is_home}
use Rattle.rbc_spec.specs.SectionRuns.{no_run, SectionRun}
use Rattle.rbc_train.proofs.Cuts.{cuts, kept_at}
use Rattle.rbc_train.proofs.Kept.{held_as, keeps_state}
use Rattle.rbc_train.proofs.Letters.{goes_as, sent_home}
use Rattle.rbc_train.proofs.RightFrames.{released_as}
use Rattle.rbc_train.proofs.Standstill.{kept_cut, none_back, pool_gone}
use Rattle.rbc_train.proofs.train.TrainState.leave_ahead.Goals as goal
use Rattle.rbc_train.specs.declared.heard.Heard.{Heard}
use Rattle.rbc_train.specs.declared.mail.Mail.{Mail}
use Rattle.rbc_train.specs.Desk.{unsaid, with_parts}
use Rattle.rbc_train.specs.Letters.{cancel_of, mail_home}

pub shorten-released-requires-clause-held : goal.shorten-released-requires-clause-held
shorten-released-requires-clause-held c =
    let old = c.args.self.now in
    held_as old.supervision.engine old.supervision.engine (is_home c.args.line.now c.args.centre)
    (is_own c.args.book.now) old.supervision.hand refl c.requires.at.book c.requires.at.held

pub returns-clause-exact : goal.returns-clause-exact
returns-clause-exact c = λ m there on k has.
    let line = c.args.line.now in
    let old = c.args.self.now in
    let t = old.supervision.engine in
    let left = c.shorten-released.new.self in
    let book' = c.shorten-released.new.book in
    let rights' = c.released.new.registrar in
    let sections = c.shorten-released.result.returned in
    let letter = c.released.new.out.mail.letter in
    let told = c.shorten-released.result.told in
    let cancelled = c.shorten-released.result.cancelled in
    let last = m.hand.first + c.args.keep - 1 in
    let few =
    subst (λ (o : Option Mission). c.args.keep ≤ (option_map_or (λ n. n.hand) o no_run).count) there c.requires.keep in
    let counts = kept_at c.args.keep m.hand c.requires.some few in
    let x : ℕ → Option Expectation =
    λ d. (with_parts (record old { supervision = left }) book' rights' k).expects d t in
    cuts line c.args.centre k old c.args.book.now c.args.registrar.now has m m.proposal last there c.requires.at.number
    x left (hand_front c.args.keep old.supervision.hand) book' rights' told cancelled letter sections
    (c.shorten-released.ensures.supervision
    ∙ (λ i. record old.supervision {
      mission = option_and_then (with_front line (counts i)) (there i);
      hand = hand_front c.args.keep old.supervision.hand;
    }))
    c.shorten-released.ensures.cancelled
    (subst (λ (r : SectionRun). FreesRun t r c.args.book.now book')
    (λ i. rest_of (counts i) (hand_of (record old.supervision { mission = there i }))) c.shorten-released.ensures.book)
    (c.shorten-released.ensures.told
    ∙ (λ i. wished t (rest_of (counts i) (hand_of (record old.supervision { mission = there i }))) c.args.book.now))
    (c.shorten-released.ensures.returned ∙ (λ i. cut_run (counts i) (record old.supervision { mission = there i })))
    (goes_as line c.args.centre t left.engine c.shorten-released.result.right
    (right_left old.supervision left) letter c.args.registrar.now rights'
    (ap (λ (x : SupervisionState). x.engine) c.shorten-released.ensures.supervision) c.shorten-released.ensures.right
    c.released.ensures.right)
    ∙ sym (released_as line c.args.centre t
    (with_parts (record old { supervision = left }) book' rights' k) c.released.new.out told
    (mail_home m.place.track sections (cancel_of cancelled) letter)
    (c.released.ensures.heard
    ∙ ap (λ (track : ℕ). unsaid (mail_home track sections (cancel_of cancelled) letter) told) (sym on)))

pub returns-clause-stays : goal.returns-clause-stays
returns-clause-stays c = λ kept.
    kept_cut c.args.line.now c.args.centre c.args.self.now c.shorten-released.new.self
    (hand_front c.args.keep c.args.self.now.supervision.hand) c.args.keep c.requires.keep
    c.shorten-released.ensures.supervision kept

pub returns-clause-heard : goal.returns-clause-heard
returns-clause-heard c =
    let old = c.args.self.now.supervision in
    let left = c.shorten-released.new.self in
    let is = ap (λ (x : SupervisionState). x.mission) c.shorten-released.ensures.supervision in
    let silent =
    (c.released.ensures.right.nothing (c.shorten-released.ensures.right
    ∙ none_back c.args.line.now c.args.keep c.requires.some old left is)).0 in
    let goes =
    mail_home c.args.track c.shorten-released.result.returned
    (cancel_of c.shorten-released.result.cancelled) c.released.new.out.mail.letter in
    let mail = ap (λ (x : Heard). x.mail) c.released.ensures.heard in
    c.released.ensures.heard ∙ ap (unsaid goes) c.shorten-released.ensures.told
    ∙ ap (λ (m : Mail). unsaid m (wished old.engine (rest_of c.args.keep (hand_of old)) c.args.book.now))
    (sym mail ∙ sent_home c.args.track c.shorten-released.result.returned
    (cancel_of c.shorten-released.result.cancelled) c.released.new.out.mail mail
    ∙ ap (mail_home c.args.track c.released.new.out.mail.first c.released.new.out.mail.notice) silent)

pub returns-clause-pool : goal.returns-clause-pool
returns-clause-pool c =
    ap (λ (x : SupervisionState). pool_of x) c.shorten-released.ensures.supervision
    ∙ pool_gone c.args.line.now c.args.keep c.args.self.now.supervision.mission

pub returns-clause-keeps : goal.returns-clause-keeps
returns-clause-keeps c =
    let old = c.args.self.now in
    let left = c.shorten-released.new.self in
    let engine = ap (λ (x : SupervisionState). x.engine) c.shorten-released.ensures.supervision in
    record {
      state =
          keeps_state c.args.line.now c.args.centre old old.heard left
          (ap (λ (x : SupervisionState). x.number) c.shorten-released.ensures.supervision) engine
          (held_as old.supervision.engine left.engine (is_own c.shorten-released.new.book)
          (is_home c.args.line.now c.args.centre) left.hand (sym engine)
          (λ s. sym (c.shorten-released.ensures.book.homes s ∙ c.requires.at.book s)) c.shorten-released.ensures.held);
      desk = search rules;
    }
