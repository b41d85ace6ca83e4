-- A train opens, confirms and closes its session, and sends its train data.
use Rattle.std.proofs.Common.{[], ◌++◌, ◌+◌, ◌∙◌, ◌≡◌, ap, false, List, map, None, option_map, refl, Some, sym, true, ℕ}
use Rattle.std.proofs.lemmas.List.{append-nil}
use Rattle.rbc_book.specs.Book.{Pages}
use Rattle.rbc_pending_start.specs.Waits.{HasWait, nothing_waits, telling, WaitState, with_wait}
use Rattle.rbc_right.specs.Rights.{Rights}
use Rattle.rbc_session.specs.declared.session.SessionState.{SessionState}
use Rattle.rbc_session.specs.SessionStates.{session_phase}
use Rattle.rbc_spec.proofs.Lists.{put_over}
use Rattle.rbc_spec.specs.Acts.{◌>>◌, Reply, say}
use Rattle.rbc_spec.specs.Centre.{Centre, Closed, is_closed, Mission, Opened, Phase, Up}
use Rattle.rbc_spec.specs.Line.{Line}
use Rattle.rbc_spec.specs.Maps.{put}
use Rattle.rbc_spec.specs.Message.{DataAcknowledged, InitiationOfSession, SessionEstablished, SystemVersion}
use Rattle.rbc_spec.specs.Message.{TerminationAcknowledged, TerminationOfSession, TrackBody, TrainData, unknown_group}
use Rattle.rbc_spec.specs.Outcome.{Told, Word}
use Rattle.rbc_spec.specs.Place.{Position}
use Rattle.rbc_spec.specs.Rules.{close_session, drop_wait, set_phase}
use Rattle.rbc_spec.specs.Step.{effect, Train}
use Rattle.rbc_train.proofs.Desk.{answer_to, answered_effect, by_reply, has_waiting, left_is, left_with, same_mission}
use Rattle.rbc_train.proofs.Desk.{same_phase, same_said, turned}
use Rattle.rbc_train.specs.declared.train.TrainState.{TrainState}
use Rattle.rbc_train.specs.Desk.{HearsTrain, replied, with_parts}

-- # A train opens, confirms and closes its session.

abbrev unasked : Mission → Mission
unasked m = record m { proposal = None }

-- a centre at which a session is closed
abbrev closed_at : ℕ → Centre → Centre
closed_at t k = record k { phase = put k.phase t Closed; mission = put k.mission t (option_map unasked (k.mission t)) }

-- a session closes, and then a start that waits is dropped
closes : (line : Line) (c t : ℕ) (k : Centre) → close_session line c t k ≡ drop_wait line c t (closed_at t k)
unfolding ◌>>◌
closes line c t k = refl

module _ (line : Line) (c : ℕ) (k : Centre) (stamp : ℕ) (old : TrainState) (book : Pages) (rights : Rights)
    (h : HearsTrain line c k stamp old book rights) (session : SessionState) where
  abbrev t : ℕ
  t = old.supervision.engine

  abbrev heard : Centre
  heard = record k { heard = put k.heard t (Some stamp) }

  pub established : session_phase old.session_state ≡ Opened → session_phase session ≡ Up
      → effect line c k (Train (record { t_train = stamp; nid_engine = t; body = SessionEstablished }))
      ≡ by_reply (replied (with_parts (turned old session (Some stamp) old.said old.supervision.mission) book rights k)
      [] [])
  established opened up =
      answered_effect line c k (record { t_train = stamp; nid_engine = t; body = SessionEstablished }) _
      (rw (h.known, h.parts.has_heard, h.timely, h.parts.has_phase, opened) refl)
      (ap (λ (x : Centre). replied x [] [])
      (left_is line c k old book rights h.parts session (Some stamp) old.said old.supervision.mission
      (put k.phase t Up) k.said k.mission (λ u. ap (λ p. put k.phase t p u) (sym up))
      (same_said line c k old book rights h.parts) (same_mission line c k old book rights h.parts)))

  -- if a waiting start is dropped
  module _ (w : WaitState) (book' : Pages) (told : List ℕ)
      (none : w ≡ nothing_waits old.waiting.engine old.waiting.has_asked)
      (drops : (j : Centre) → HasWait line c j old.waiting book
      → drop_wait line c old.waiting.engine j ≡ telling (with_wait w book' j) told) where
    abbrev new : TrainState
    new =
        record (turned old session (Some stamp) (old.said + 1)
        (option_map unasked old.supervision.mission)) { waiting = w }

    closed_here : close_session line c t heard ≡ telling (with_wait w book' (closed_at t heard)) told
    closed_here =
        let waiting = has_waiting line c k old book rights h.parts in
        closes line c t heard ∙ ap (λ (u : ℕ). drop_wait line c u (closed_at t heard)) (sym h.parts.kept.one_train)
        ∙ drops (closed_at t heard)
        (record {
          covers = waiting.covers;
          homes = waiting.homes;
          has_book = waiting.has_book;
          has_wish = waiting.has_wish;
          has_wait = waiting.has_wait;
          has_ask = waiting.has_ask;
        })

    -- the train is answered after it
    left : (phase : Phase) (body : TrackBody) (phases : ℕ → Phase) (words : List Word) → session_phase session ≡ phase
        → ((u : ℕ) → phases u ≡ put k.phase t phase u) → words ≡ map (λ s. Told s) told
        → record {
          state =
              with_wait w book' (record heard {
                phase = phases;
                said = put k.said t (heard.said t + 1);
                mission = put k.mission t (option_map unasked (k.mission t));
              });
          frames = λ d. [];
          sayings = answer_to t (heard.said t + 1) body;
          words = words;
        } ≡ replied (with_parts new book' rights k) (answer_to t (old.said + 1) body) told
    left phase body phases words is same told_is = λ i. record {
      state =
          left_with line c k old book rights h.parts session (Some stamp) (old.said + 1)
          (option_map unasked old.supervision.mission) w book'
          phases (put k.said t (heard.said t + 1)) (put k.mission t (option_map unasked (k.mission t)))
          (ap (λ (x : WaitState). x.engine) none ∙ h.parts.kept.one_train)
          (λ u. same u ∙ ap (λ p. put k.phase t p u) (sym is)) (λ u. ap (λ n. put k.said t (n + 1) u) h.parts.has_said)
          (λ u. ap (λ o. put k.mission t (option_map unasked o) u) h.parts.has_mission) i;
      frames = λ d. [];
      sayings = answer_to t (h.parts.has_said i + 1) body;
      words = told_is i;
    }

    pub opened_again : session_phase session ≡ Opened
        → effect line c k (Train (record { t_train = stamp; nid_engine = t; body = InitiationOfSession }))
        ≡ by_reply (replied (with_parts new book' rights k) (answer_to t (old.said + 1) SystemVersion) told)
    unfolding ◌>>◌
    opened_again opened =
        answered_effect line c k (record { t_train = stamp; nid_engine = t; body = InitiationOfSession }) _
        (rw (h.known, h.parts.has_heard, h.timely) refl)
        (ap (λ (r : Reply). ((λ (j : Centre). r) >> set_phase t Opened >> say t unknown_group SystemVersion) heard)
        closed_here
        ∙ left Opened SystemVersion (put (put k.phase t Closed) t Opened) ((map (λ s. Told s) told ++ []) ++ []) opened
        (put_over t Opened Closed k.phase)
        (append-nil (map (λ s. Told s) told ++ []) ∙ append-nil (map (λ s. Told s) told)))

    pub closed : is_closed (session_phase old.session_state) ≡ false → session_phase session ≡ Closed
        → effect line c k (Train (record { t_train = stamp; nid_engine = t; body = TerminationOfSession }))
        ≡ by_reply (replied (with_parts new book' rights k) (answer_to t (old.said + 1) TerminationAcknowledged) told)
    unfolding ◌>>◌
    closed stood is =
        answered_effect line c k (record { t_train = stamp; nid_engine = t; body = TerminationOfSession }) _
        (rw (h.known, h.parts.has_heard, h.timely, h.parts.has_phase, stood) refl)
        (ap (λ (r : Reply). ((λ (j : Centre). r) >> say t unknown_group TerminationAcknowledged) heard) closed_here
        ∙ left Closed TerminationAcknowledged (put k.phase t Closed) (map (λ s. Told s) told ++ []) is (λ u. refl)
        (append-nil (map (λ s. Told s) told)))

-- # Train data of a mission that goes on are known, and acknowledged.

abbrev with_data : Mission → Mission
with_data m = record m { has_data = true }

pub takes_data : (line : Line) (c : ℕ) (k : Centre) (stamp : ℕ) (old : TrainState) (book : Pages) (rights : Rights)
    (h : HearsTrain line c k stamp old book rights) (position : Position) (n : Mission)
    → session_phase old.session_state ≡ Up → old.supervision.mission ≡ Some n → n.is_ended ≡ false
    → effect line c k
    (Train (record { t_train = stamp; nid_engine = old.supervision.engine; body = TrainData position }))
    ≡ by_reply
    (replied
    (with_parts (turned old old.session_state (Some stamp) (old.said + 1)
    (option_map with_data old.supervision.mission)) book rights k)
    (answer_to old.supervision.engine (old.said + 1) (DataAcknowledged stamp)) [])
unfolding ◌>>◌
takes_data line c k stamp old book rights h position n up there goes_on =
    let has = h.parts in
    let t = old.supervision.engine in
    answered_effect line c k (record { t_train = stamp; nid_engine = t; body = TrainData position }) _
    (rw (h.known, has.has_heard, h.timely, has.has_phase, up, has.has_mission, there, goes_on) refl)
    (λ i.
    replied (left_is line c k old book rights has old.session_state (Some stamp) (old.said + 1)
    (option_map with_data old.supervision.mission)
    k.phase (put k.said t (k.said t + 1)) (put k.mission t (option_map with_data (k.mission t)))
    (same_phase line c k old book rights has)
    (λ u. ap (λ s. put k.said t (s + 1) u) has.has_said)
    (λ u. ap (λ o. put k.mission t (option_map with_data o) u) has.has_mission) i)
    (answer_to t (has.has_said i + 1) (DataAcknowledged stamp)) [])
