use Rattle.std.proofs.Common.{[], ◌+◌, ◌∙◌, ◌≡◌, ◌≤◌, ◌⊎◌, ap, arith, Err, map, None, refl, rules, set, slice_get, Some}
use Rattle.std.proofs.Common.{subst, sym, ℕ}
use Rattle.std.proofs.lemmas.Option.{slice_get_read}
use Rattle.std.proofs.Math.Logic.{∥∥₁_elim}
use Rattle.std.specs.Coded.{le_prop}
use Rattle.rbc_centre.proofs.centre.Centre.hear_train.Goals as goal
use Rattle.rbc_centre.proofs.centre.Centre.hear_train.Goals.{After-index_mut-train, After-take-taken}
use Rattle.rbc_centre.proofs.HeardFrames.{heard_frames, heard_may}
use Rattle.rbc_centre.proofs.Kept.{trains_set}
use Rattle.rbc_centre.proofs.States.{number_within, stands_beside}
use Rattle.rbc_centre.proofs.Trains.{heard_of}
use Rattle.rbc_centre.proofs.Turns.{has_count, has_number, heard_early, heard_stamp, hears, kept_train, may_be_sent}
use Rattle.rbc_centre.proofs.Turns.{of_train, on_track, sent_by, stays, takes, turns}
use Rattle.rbc_centre.specs.Kept.{AreTrains}
use Rattle.rbc_centre.specs.Posts.{MayPost}
use Rattle.rbc_centre.specs.Rooms.{HasFrameRoom}
use Rattle.rbc_centre.specs.Sent.{frames_to}
use Rattle.rbc_centre.specs.State.{IsOfTrain, stands_for}
use Rattle.rbc_handover.specs.Expectations.{expected_from}
use Rattle.rbc_link.proofs.Posted.{posted_none}
use Rattle.rbc_linkmsg.specs.Bodies.{body_of}
use Rattle.rbc_msgs.specs.StepMessage.{step_message}
use Rattle.rbc_session.specs.SessionStates.{session_phase, StandsFor}
use Rattle.rbc_spec.specs.Message.{is_stale}
use Rattle.rbc_spec.specs.Outcome.{Outcome, Told}
use Rattle.rbc_spec.specs.Step.{Train}
use Rattle.rbc_train.proofs.SessionStates.{stands_for_train, stands_with_train}
use Rattle.rbc_train.specs.Letters.{mail_to}
use Rattle.rbc_train.specs.Reasons.{reason_of}
use Rattle.rbc_train.specs.Sayings.{told_train}
use Rattle.rbc_train.specs.SessionStates.{Enters}

-- ## Its stamp

pub overflow_add-self : goal.overflow_add-self
overflow_add-self c = let early = heard_early c.args.self.now (step_message c.args.message.now) c.requires.allowed in
    search (rules, early)

-- ## The train that the message is from, in the list of trains

place : (c : After-index_mut-train)
    → slice_get c.args.self.now.trains.items c.args.i ≡ Some c.index_mut-train.result.now
place c =
    let k = c.args.self.now in
    slice_get_read _ _ _ _ refl
    (number_within k.line k.trains.items _ c.args.i c.requires.number k.rules.all_trains.count)
    c.index_mut-train.ensures.value

train : (c : After-index_mut-train)
    → IsOfTrain c.args.self.now.line c.args.self.now.number c.args.self.now.sessions c.args.message.now.nid_engine
    c.args.i c.index_mut-train.result.now
train c =
    of_train c.args.self.now c.args.message.now.nid_engine c.args.i c.index_mut-train.result.now
    c.requires.number (place c)

pub take-taken-requires-clause-engine : goal.take-taken-requires-clause-engine
take-taken-requires-clause-engine c =
    sym (train (goal.at.take-taken-requires-clause-engine c).After-index_mut-train).engine

pub take-taken-requires-clause-number : goal.take-taken-requires-clause-number
take-taken-requires-clause-number c =
    has_number c.args.self.now _ c.args.i c.index_mut-train.result.now c.requires.number
    (place (goal.at.take-taken-requires-clause-number c).After-index_mut-train)

pub take-taken-requires-clause-stands : goal.take-taken-requires-clause-stands
take-taken-requires-clause-stands c =
    let k = c.args.self.now in
    let old = c.index_mut-train.result.now in
    let is = train (goal.at.take-taken-requires-clause-stands c).After-index_mut-train in
    subst (λ (n : ℕ). StandsFor k.sessions old.session_state n) (sym is.engine)
    (stands_for_train k.sessions old.session_state _ is.session)

pub take-taken-requires-clause-room : goal.take-taken-requires-clause-room
take-taken-requires-clause-room c = λ opens timely.
    let k = c.args.self.now in
    let m = step_message c.args.message.now in
    let at = place (goal.at.take-taken-requires-clause-room c).After-index_mut-train in
    c.requires.session opens (ap (is_stale m.t_train)
    (heard_of k.line k.number k.clock m.nid_engine c.args.i k.book k.desk k.links k.trains.items
    c.index_mut-train.result.now c.requires.number at) ∙ timely)

pub take-taken-requires-clause-count : goal.take-taken-requires-clause-count
take-taken-requires-clause-count c =
    has_count c.args.self.now _ c.args.i c.index_mut-train.result.now c.requires.number
    (place (goal.at.take-taken-requires-clause-count c).After-index_mut-train)
    (heard_early c.args.self.now (step_message c.args.message.now) c.requires.allowed)

pub take-taken-requires-clause-kept : goal.take-taken-requires-clause-kept
take-taken-requires-clause-kept c =
    kept_train c.args.self.now _ c.args.i c.index_mut-train.result.now c.requires.number
    (place (goal.at.take-taken-requires-clause-kept c).After-index_mut-train)

pub take-taken-requires-clause-held : goal.take-taken-requires-clause-held
take-taken-requires-clause-held c = (train (goal.at.take-taken-requires-clause-held c).After-index_mut-train).held

pub take-taken-requires-clause-book : goal.take-taken-requires-clause-book
take-taken-requires-clause-book c = c.args.self.now.rules.own_sections

pub take-taken-requires-clause-on : goal.take-taken-requires-clause-on
take-taken-requires-clause-on c m stands s inside =
    on_track c.args.self.now _ c.args.i c.index_mut-train.result.now c.requires.number
    (place (goal.at.take-taken-requires-clause-on c).After-index_mut-train) m stands s inside

pub take-taken-requires-clause-announced : goal.take-taken-requires-clause-announced
unfolding stands_for
take-taken-requires-clause-announced c =
    let few : c.args.self.now.desk.handovers ≤ c.args.self.now.clock =
    ∥∥₁_elim c.args.self.now.rules.ranged le_prop (λ r. r.announced) in
    let early = heard_early c.args.self.now (step_message c.args.message.now) c.requires.allowed in
    omega (arith, few, early)

-- ## The frames to other centres

pub post-requires : goal.post-requires
post-requires c =
    let k = c.args.self.now in
    let m = step_message c.args.message.now in
    let i = c.args.i in
    let number = c.requires.number in
    let old = c.index_mut-train.result.now in
    let at = place (goal.at.post-requires c).After-index_mut-train in
    let new = c.take-taken.new in
    let heard = new.out in
    let kept = c.take-taken.ensures.kept in
    let desk = c.take-taken.ensures.desk in
    let exact = c.in-Ok.ensures.exact in
    let engine = c.nid_engine.ensures.value ∙ sym (of_train k _ i old number at).engine in
    let early = heard_early k m c.requires.allowed in
    record {
      timely = (omega arith, omega (arith, early));
      linked = k.rules.all_links.linked;
      may =
          subst (λ (t : ℕ). (d : ℕ)
          → MayPost k.links d (mail_to k.line k.number t (expected_from new.self.expectations) heard.mail d))
          (sym engine)
          (heard_may k m _ i old number at new.self new.book new.registrar new.count kept desk heard exact
          c.requires.allowed c.requires.ranges (λ tells. (c.requires.room tells).links));
      room =
          subst (λ (t : ℕ). (d : ℕ)
          → (mail_to k.line k.number t (expected_from new.self.expectations) heard.mail d ≡ []) ⊎ HasFrameRoom k.room)
          (sym engine)
          (heard_frames k m _ i old number at new.self new.book new.registrar new.count kept desk heard exact
          (λ tells. (c.requires.room tells).frames));
    }

-- ## The centre that is left

-- the train that took the message is the one that it was
trains : (c : After-take-taken) → slice_get c.args.self.now.trains.items c.args.i ≡ Some c.index_mut-train.result.now
    → AreTrains c.args.self.now.line c.args.self.now.number (c.args.self.now.clock + 1) c.take-taken.new.sessions
    (set c.args.self.now.trains.items c.args.i c.take-taken.new.self)
trains c at =
    let k = c.args.self.now in
    let t = c.args.message.now.nid_engine in
    let i = c.args.i in
    let number = c.requires.number in
    let old = c.index_mut-train.result.now in
    let new = c.take-taken.new.self in
    let sessions = c.take-taken.new.sessions in
    let kept = c.take-taken.ensures.kept in
    let is = of_train k t i old number at in
    let enters : Enters k.sessions sessions new.session_state t (session_phase new.session_state) =
    subst (λ (n : ℕ). Enters k.sessions sessions new.session_state n (session_phase new.session_state)) is.engine
    c.take-taken.ensures.stands in
    trains_set k.line k.number k.clock (k.clock + 1) k.sessions sessions k.trains.items t i old new (omega arith) number
    at kept.said
    (record {
      number = kept.number ∙ is.number;
      engine = kept.engine ∙ is.engine;
      waiting = kept.waiting ∙ is.waiting;
      covers = c.take-taken.ensures.covers is.covers;
      held = c.take-taken.ensures.held;
      expected = c.take-taken.ensures.expected ∙ is.expected;
      session = stands_with_train sessions new.session_state t enters.stands;
    })
    (λ u j p apart same. stands_beside k.line k.number k.sessions sessions new.session_state t u j p
    (session_phase new.session_state) enters apart same) k.rules.all_trains

pub invariant_of-self : goal.invariant_of-self
invariant_of-self c =
    let k = c.args.self.now in
    let m = step_message c.args.message.now in
    let t = m.nid_engine in
    let i = c.args.i in
    let number = c.requires.number in
    let old = c.index_mut-train.result.now in
    let at = place (goal.at.invariant_of-self c).After-index_mut-train in
    let now = k.clock + 1 in
    let new = c.take-taken.new.self in
    let heard = c.take-taken.new.out in
    let kept = c.take-taken.ensures.kept in
    let desk = c.take-taken.ensures.desk in
    let effect = hears k (Train m) t i old number at now new c.take-taken.new.book c.take-taken.new.registrar
    c.take-taken.new.count kept desk heard c.in-Ok.ensures.exact in
    let sent = sent_by k.line k.number c.nid_engine.result old.supervision.engine now (expected_from new.expectations)
    heard.mail k.links c.post.new.links (frames_to c.post.new.frames)
    (c.nid_engine.ensures.value ∙ sym (of_train k t i old number at).engine) c.post.ensures in
    record {
      rules =
          stays k (Train m) now k.links c.post.new.links c.take-taken.new.book
          (record { registrar = c.take-taken.new.registrar; handovers = c.take-taken.new.count })
          (set k.trains.items i new)
          (mail_to k.line k.number old.supervision.engine (expected_from new.expectations) heard.mail)
          (told_train heard.saying heard.order) (map (λ s. Told s) heard.told) None None
          (heard_stamp k m) (λ d. refl) sent.links effect (frames_to c.post.new.frames) sent.each
          c.take-taken.new.sessions (omega arith) c.requires.allowed (k.rules.of_line, c.requires.ranges)
          (heard_may k m t i old number at new c.take-taken.new.book c.take-taken.new.registrar c.take-taken.new.count
          kept desk heard c.in-Ok.ensures.exact c.requires.allowed c.requires.ranges
          (λ tells. (c.requires.room tells).links))
          desk.homes desk.rights.count k.rules.all_links (trains (goal.at.invariant_of-self c).After-take-taken at);
    }

pub invariant_of-self-in-Err-1 : goal.invariant_of-self-in-Err-1
invariant_of-self-in-Err-1 c =
    let k = c.args.self.now in
    let m = step_message c.args.message.now in
    let t = m.nid_engine in
    let i = c.args.i in
    let number = c.requires.number in
    let old = c.index_mut-train.result.now in
    let at = place (goal.at.invariant_of-self-in-Err-1 c).After-index_mut-train in
    let now = k.clock + 1 in
    let new = c.take-taken.new.self in
    let desk = c.take-taken.ensures.desk in
    let effect = takes k (Train m) t i old number at now new c.take-taken.new.book c.take-taken.new.registrar
    c.take-taken.new.count c.take-taken.ensures.kept desk (Err c.in-Err.why) c.in-Err.ensures.exact in
    record {
      rules =
          stays k (Train m) now k.links k.links c.take-taken.new.book
          (record { registrar = c.take-taken.new.registrar; handovers = c.take-taken.new.count })
          (set k.trains.items i new) (λ d. []) [] [] None (Some (reason_of c.in-Err.why))
          (heard_stamp k m) (λ d. refl) (posted_none body_of now k.links) effect (λ d. []) (λ d. refl)
          c.take-taken.new.sessions (omega arith) c.requires.allowed (k.rules.of_line, c.requires.ranges)
          (may_be_sent k (Train m) now k.links _ (λ d. []) [] [] None (Some (reason_of c.in-Err.why)) (heard_stamp k m)
          (λ d. refl) effect c.requires.allowed (k.rules.of_line, c.requires.ranges)
          k.rules.all_links.linked (λ d. omega arith) (λ d has. omega arith))
          desk.homes desk.rights.count k.rules.all_links
          (trains (goal.at.invariant_of-self-in-Err-1 c).After-take-taken at);
    }

-- ## The answer

pub returns-in-Ok-clause-exact : goal.returns-in-Ok-clause-exact
returns-in-Ok-clause-exact c =
    let k = c.args.self.now in
    let m = step_message c.args.message.now in
    let t = m.nid_engine in
    let i = c.args.i in
    let number = c.requires.number in
    let old = c.index_mut-train.result.now in
    let at = place (goal.at.returns-in-Ok-clause-exact c).After-index_mut-train in
    let now = k.clock + 1 in
    let new = c.take-taken.new.self in
    let heard = c.take-taken.new.out in
    let effect = hears k (Train m) t i old number at now new c.take-taken.new.book c.take-taken.new.registrar
    c.take-taken.new.count c.take-taken.ensures.kept c.take-taken.ensures.desk heard c.in-Ok.ensures.exact in
    let left = stands_for k.line k.number now c.take-taken.new.book
    (record { registrar = c.take-taken.new.registrar; handovers = c.take-taken.new.count }) c.post.new.links
    (set k.trains.items i new) in
    let sent = sent_by k.line k.number c.nid_engine.result old.supervision.engine now (expected_from new.expectations)
    heard.mail k.links c.post.new.links (frames_to c.post.new.frames)
    (c.nid_engine.ensures.value ∙ sym (of_train k t i old number at).engine) c.post.ensures in
    ap (λ (o : Outcome). (o, left)) c.write_heard.ensures
    ∙ turns k (Train m) now k.links c.post.new.links c.take-taken.new.book
    (record { registrar = c.take-taken.new.registrar; handovers = c.take-taken.new.count }) (set k.trains.items i new)
    (mail_to k.line k.number old.supervision.engine (expected_from new.expectations) heard.mail)
    (told_train heard.saying heard.order) (map (λ s. Told s) heard.told) None None
    (heard_stamp k m) (λ d. refl) sent.links effect (frames_to c.post.new.frames) sent.each

pub returns-in-Err-clause-exact : goal.returns-in-Err-clause-exact
returns-in-Err-clause-exact c =
    let k = c.args.self.now in
    let m = step_message c.args.message.now in
    let t = m.nid_engine in
    let i = c.args.i in
    let number = c.requires.number in
    let old = c.index_mut-train.result.now in
    let at = place (goal.at.returns-in-Err-clause-exact c).After-index_mut-train in
    let now = k.clock + 1 in
    let new = c.take-taken.new.self in
    let effect = takes k (Train m) t i old number at now new c.take-taken.new.book c.take-taken.new.registrar
    c.take-taken.new.count c.take-taken.ensures.kept c.take-taken.ensures.desk (Err c.in-Err.why)
    c.in-Err.ensures.exact in
    let left = stands_for k.line k.number now c.take-taken.new.book
    (record { registrar = c.take-taken.new.registrar; handovers = c.take-taken.new.count }) k.links
    (set k.trains.items i new) in
    ap (λ (o : Outcome). (o, left)) c.write_nothing.ensures
    ∙ turns k (Train m) now k.links k.links c.take-taken.new.book
    (record { registrar = c.take-taken.new.registrar; handovers = c.take-taken.new.count }) (set k.trains.items i new)
    (λ d. []) [] [] None (Some (reason_of c.in-Err.why))
    (heard_stamp k m) (λ d. refl) (posted_none body_of now k.links) effect (λ d. []) (λ d. refl)
