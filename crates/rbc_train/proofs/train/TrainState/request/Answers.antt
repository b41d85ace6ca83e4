use Rattle.std.proofs.Common.{[], ◌++◌, ◌+◌, ◌-◌, ◌∙◌, ◌∷◌, ◌≡◌, ◌≤◌, ap, arith, Err, length, Ok, Option, option_map}
use Rattle.std.proofs.Common.{refl, Some, subst, sym, true, ℕ}
use Rattle.std.proofs.lemmas.Option.{same_Some}
use Rattle.std.proofs.lemmas.Result.{err_from_is_err_and}
use Rattle.std.specs.Option.{option_map_or}
use Rattle.rbc_allocation.specs.Sections.{next_of, TakesRun}
use Rattle.rbc_book.specs.Book.{is_own}
use Rattle.rbc_handover.specs.Giving.{with_count}
use Rattle.rbc_line.specs.SectionRuns.{run_of}
use Rattle.rbc_mission.specs.Supervisions.{handing_in, MayGrow, mission_of, SupervisionState, with_next}
use Rattle.rbc_msgs.specs.StepMessage.{position_of}
use Rattle.rbc_place.specs.Places.{place_of}
use Rattle.rbc_shorten.specs.Facts.{proposal_of}
use Rattle.rbc_spec.specs.Centre as spec
use Rattle.rbc_spec.specs.Line.{is_home, start}
use Rattle.rbc_spec.specs.Message.{Authority, Request, TrainMessage}
use Rattle.rbc_spec.specs.Place.{group_start}
use Rattle.rbc_spec.specs.SectionRuns.{next_after, no_run, within}
use Rattle.rbc_spec.specs.Sections.{is_on}
use Rattle.rbc_train.proofs.Borders.{near_enough}
use Rattle.rbc_train.proofs.Desk.{by_reply}
use Rattle.rbc_train.proofs.Fits.{and_left, grows}
use Rattle.rbc_train.proofs.Kept.{held_as, keeps_by, still_held}
use Rattle.rbc_train.proofs.Reports.{on_track}
use Rattle.rbc_train.proofs.Requests.{borders_as, end_is, grants_more, some_mapped}
use Rattle.rbc_train.proofs.Runs.{follows_same}
use Rattle.rbc_train.proofs.Takes.{heard_as}
use Rattle.rbc_train.proofs.train.TrainState.request.Goals as goal
use Rattle.rbc_train.proofs.Unanswered.{no_mission, no_session}
use Rattle.rbc_train.proofs.Yields.{told_both}
use Rattle.rbc_train.specs.declared.heard.Heard.{Heard}
use Rattle.rbc_train.specs.declared.train.TrainState.{TrainState}
use Rattle.rbc_train.specs.Desk.{effect_left, posted, replied, with_parts}
use Rattle.rbc_train.specs.Letters.{letters, notices}
use Rattle.rbc_train.specs.Sayings.{sayings_of}

pub lengthen-requires : goal.lengthen-requires
lengthen-requires c = λ x is.
    let line = c.args.line.now in
    let old = c.args.self.now in
    let m =
    mission_of (run_of c.hand-hand.result) (run_of c.pool.result)
    (handing_in old.supervision) c.in_ok-mission.mission in
    let there : old.supervision.mission ≡ Some m =
    c.in_ok-mission.ensures
    ∙ (λ i.
    Some (mission_of (sym c.hand-hand.ensures.value i) (sym c.pool.ensures.value i)
    (handing_in old.supervision) c.in_ok-mission.mission)) in
    let sections = c.answer_request-grant.result.sections in
    let grant = c.answer_request-grant.ensures in
    subst (λ (y : spec.Mission). MayGrow y sections c.args.book.now) (same_Some m x (sym there ∙ is))
    (grows line c.args.book.now (place_of c.in-Some.place) m sections grant.line (c.requires.kept.form m there)
    (c.requires.kept.pool.follows m there)
    (λ s here. c.requires.at.book s ∙ c.requires.kept.pool.away m there s here) grant.room grant.each)

pub at_border-requires-clause-out : goal.at_border-requires-clause-out
at_border-requires-clause-out c = ap (λ (x : Heard). record x { saying = Some c.answer-saying.result }) c.requires.out

pub at_border-requires-clause-may : goal.at_border-requires-clause-may
at_border-requires-clause-may c =
    let once = ap (λ (p : TrainState). p.said) c.answer-saying.ensures.counted in
    let room = c.requires.count in
    record {
      said = omega (arith, once, room);
      announced = c.requires.announced;
      near = λ x stands s here.
          let line = c.args.line.now in
          let old = c.args.self.now in
          let m =
          mission_of (run_of c.hand-hand.result) (run_of c.pool.result)
          (handing_in old.supervision) c.in_ok-mission.mission in
          let there : old.supervision.mission ≡ Some m =
          c.in_ok-mission.ensures
          ∙ (λ i.
          Some (mission_of (sym c.hand-hand.ensures.value i) (sym c.pool.ensures.value i)
          (handing_in old.supervision) c.in_ok-mission.mission)) in
          let place = place_of c.in-Some.place in
          let count = c.answer_request-grant.result.sections in
          let grant = c.answer_request-grant.ensures in
          let on = sym c.place_on.ensures.value ∙ ap (option_map place_of) c.in-Some.is in
          let track = on_track line m.place.track (position_of c.args.position.now) place on in
          let longer = with_next place count m in
          let left : Some longer ≡ Some x =
          sym (ap (λ (p : TrainState). p.supervision.mission) c.answer-saying.ensures.counted
          ∙ ap (λ (y : SupervisionState). y.mission) c.lengthen.ensures.supervision
          ∙ ap (option_map (with_next place count)) there) ∙ stands in
          subst (λ (y : spec.Mission). within y.hand s ≡ true → start line s - group_start line y.place ≤ 32767)
          (same_Some longer x left)
          (near_enough line m place count c.answer_request-grant.result.end (c.requires.kept.form m there).some
          (c.requires.on m there)
          (λ j below. ap (λ (n : ℕ). is_on line n (next_after m.hand + j)) (sym track)
          ∙ and_left _ _ (and_left _ _ (grant.each j below))) grant.end
          (grant.fits (sym c.may_request.ensures ∙ c.if-not-may_request.false)) s) here;
    }

pub returns-clause-exact : goal.returns-clause-exact
returns-clause-exact c = λ rights k h so_many.
    let line = c.args.line.now in
    let old = c.args.self.now in
    let m =
    mission_of (run_of c.hand-hand.result) (run_of c.pool.result)
    (handing_in old.supervision) c.in_ok-mission.mission in
    let there : old.supervision.mission ≡ Some m =
    c.in_ok-mission.ensures
    ∙ (λ i.
    Some (mission_of (sym c.hand-hand.ensures.value i) (sym c.pool.ensures.value i)
    (handing_in old.supervision) c.in_ok-mission.mission)) in
    let place = place_of c.in-Some.place in
    let count = c.answer_request-grant.result.sections in
    let metres = c.answer_request-grant.result.end in
    let grant = c.answer_request-grant.ensures in
    let left = c.lengthen.new.self in
    let book' = c.lengthen.new.book in
    let answered = c.answer-saying.ensures in
    let bordering = c.at_border.ensures in
    let told = c.at_border.new.out in
    let new = c.at_border.new.self in
    let announced' = c.at_border.new.count in
    let t = old.supervision.engine in
    let at = with_count announced' (with_parts new book' rights k) in
    let said = ap (λ (p : TrainState). p.supervision) answered.counted in
    grants_more line c.args.centre k c.args.t_train old c.args.book.now rights
    (position_of c.args.position.now) h m place count metres left left.hand book' new told.order told.mail.notice
    told.mail.letter c.args.count.now announced'
    (sym (grant.sections ∙ follows_same line c.args.centre k c.args.book.now (record m { place = place })
    (next_after m.hand) _ h.parts.has_book h.parts.homes))
    (end_is line m place count metres (c.requires.kept.form m there).some grant.end)
    (c.lengthen.ensures.supervision
    ∙ (λ i. record old.supervision { mission = option_map (with_next place count) (there i); hand = left.hand }))
    (subst (λ (o : Option spec.Mission). TakesRun old.supervision.engine
    (option_map_or (λ x. next_of count x.hand) o no_run) c.args.book.now book') there c.lengthen.ensures.book)
    (bordering.keeps.left ∙ ap (λ (p : TrainState). record p { said = new.said; supervision = new.supervision })
    answered.counted)
    (bordering.keeps.hand.engine ∙ ap (λ (x : SupervisionState). x.engine) said)
    (bordering.keeps.hand.number ∙ ap (λ (x : SupervisionState). x.number) said) so_many
    (borders_as line c.args.centre place.track c.args.count.now announced' c.answer-saying.new.self
    (record {
      session_state = old.session_state;
      heard = Some c.args.t_train;
      said = old.said + 1;
      supervision = left;
      waiting = old.waiting;
      expectations = old.expectations;
    })
    new.said new.supervision told.order told.mail.notice told.mail.letter answered.counted bordering.exact)
    (λ d. at.expects d t)
    c.in_ok-up.ensures there c.if-mission.false c.if-not-mission.false
    (some_mapped proposal_of c.in_ok-mission.mission.proposal ∙ sym c.is_some.ensures ∙ c.if-is_some.false)
    (sym c.place_on.ensures.value ∙ ap (option_map place_of) c.in-Some.is)
    (sym c.may_request.ensures ∙ c.if-not-may_request.false)
    ∙ (λ i.
    by_reply (posted (λ d. notices t (λ e. at.expects e t) told.mail.notice d ++ letters told.mail.letter d) (replied at
    ((sym (answered.saying
    ∙ (λ l. record {
      nid_engine = left.engine;
      message =
          record {
            t_train = old.said + 1;
            nid_lrbg = place.group;
            body = Authority ((c.new.ensures ∙ c.from.ensures) l);
          };
    })) i ∷ []) ++ sayings_of told.order) [])))
    ∙ (λ i.
    by_reply (posted (λ d. notices t (λ e. at.expects e t) told.mail.notice d ++ letters told.mail.letter d)
    (replied at (told_both (Some c.answer-saying.result) told.order i) [])))
    ∙ ap (λ (x : Heard). effect_left line c.args.centre t at (Ok x)) (sym bordering.heard)

pub returns-clause-keeps : goal.returns-clause-keeps
returns-clause-keeps c =
    let line = c.args.line.now in
    let old = c.args.self.now in
    let left = c.lengthen.new.self in
    let new = c.at_border.new.self in
    let number = ap (λ (x : SupervisionState). x.number) c.lengthen.ensures.supervision in
    let engine = ap (λ (x : SupervisionState). x.engine) c.lengthen.ensures.supervision in
    let answered = c.answer-saying.ensures.counted in
    let same = ap (λ (p : TrainState). p.supervision) answered in
    let bordering = c.at_border.ensures in
    let keeps = bordering.keeps.hand in
    let train = keeps.engine ∙ ap (λ (x : SupervisionState). x.engine) same in
    let once = ap (λ (p : TrainState). p.said) answered in
    let twice = bordering.keeps.counted.1 in
    keeps_by line c.args.centre old new (keeps.number ∙ ap (λ (x : SupervisionState). x.number) same ∙ number)
    (train ∙ engine)
    (ap (λ (p : TrainState). p.waiting)
    (bordering.keeps.left ∙ ap (λ (p : TrainState). record p { said = new.said; supervision = new.supervision })
    answered))
    (omega (arith, once, twice))
    (ap (λ (p : TrainState). length p.expectations)
    (bordering.keeps.left ∙ ap (λ (p : TrainState). record p { said = new.said; supervision = new.supervision })
    answered))
    (still_held line c.args.centre (record old { supervision = left }) new train
    (keeps.hand ∙ ap (λ (x : SupervisionState). x.hand) same)
    (held_as old.supervision.engine left.engine (is_own c.lengthen.new.book) (is_home line c.args.centre) left.hand
    (sym engine) (λ s. sym (c.lengthen.ensures.book.homes s ∙ c.requires.at.book s))
    (c.lengthen.ensures.held
    (held_as old.supervision.engine old.supervision.engine (is_home line c.args.centre)
    (is_own c.args.book.now) old.supervision.hand refl c.requires.at.book c.requires.at.held))))

pub returns-in_err-up-clause-exact : goal.returns-in_err-up-clause-exact
returns-in_err-up-clause-exact c = λ rights k h so_many.
    let p = err_from_is_err_and c.from_residual.result c.from_residual.ensures.1 in
    let m : TrainMessage =
    record {
      t_train = c.args.t_train;
      nid_engine = c.args.self.now.supervision.engine;
      body = Request (position_of c.args.position.now);
    } in
    rw (p.1, p.2)
    (heard_as c.args.line.now c.args.centre k m m c.args.self.now.supervision.engine
    (with_parts c.args.self.now c.args.book.now rights k) (Err _) c.args.count.now
    (no_session c.args.line.now c.args.centre k c.args.t_train c.args.self.now c.args.book.now rights h
    (Request (position_of c.args.position.now)) _ refl (λ j down. rw down refl) _ c.in_err-up.ensures) refl so_many)

pub returns-in_err-mission-clause-exact : goal.returns-in_err-mission-clause-exact
returns-in_err-mission-clause-exact c = λ rights k h so_many.
    let p = err_from_is_err_and c.from_residual-in_err-mission.result c.from_residual-in_err-mission.ensures.1 in
    let m : TrainMessage =
    record {
      t_train = c.args.t_train;
      nid_engine = c.args.self.now.supervision.engine;
      body = Request (position_of c.args.position.now);
    } in
    rw (p.1, p.2)
    (heard_as c.args.line.now c.args.centre k m m c.args.self.now.supervision.engine
    (with_parts c.args.self.now c.args.book.now rights k) (Err _) c.args.count.now
    (no_mission c.args.line.now c.args.centre k c.args.t_train c.args.self.now c.args.book.now rights h
    (Request (position_of c.args.position.now)) _ refl (λ j up. rw up refl)
    (λ j. refl) c.in_ok-up.ensures _ c.in_err-mission.ensures) refl so_many)
