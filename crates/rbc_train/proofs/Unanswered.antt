-- A message that needs the session up, or a mission, is silent if it does not find it.
use Rattle.std.proofs.Common.{◌∙◌, ◌∷◌, ◌≡◌, ap, Err, false, is_none, List, None, option_map, Some, sym, true, ℕ}
use Rattle.std.specs.List.{find}
use Rattle.rbc_book.specs.Book.{Pages}
use Rattle.rbc_right.specs.Rights.{Rights}
use Rattle.rbc_session.specs.SessionStates.{session_phase}
use Rattle.rbc_spec.specs.Acts.{Reply}
use Rattle.rbc_spec.specs.Centre.{Centre, Closed, is_up, Opened, Phase, Up}
use Rattle.rbc_spec.specs.Line.{Line}
use Rattle.rbc_spec.specs.Message.{TrainBody, TrainMessage}
use Rattle.rbc_spec.specs.Outcome as spec
use Rattle.rbc_spec.specs.Outcome.{reasons_of}
use Rattle.rbc_spec.specs.Step.{effect, holds, is_out_of_phase, is_unsupervised, silence, Train}
use Rattle.rbc_train.proofs.Desk.{same_parts, silent_effect}
use Rattle.rbc_train.specs.declared.reason.Reason.{Reason}
use Rattle.rbc_train.specs.declared.reason.Reason.TheVariants as reason
use Rattle.rbc_train.specs.declared.train.TrainState.{TrainState}
use Rattle.rbc_train.specs.Desk.{effect_left, HearsTrain, with_parts}
use Rattle.rbc_train.specs.Guards.{not_up}
use Rattle.rbc_train.specs.Reasons.{reason_of}

module _ (line : Line) (c : ℕ) (k : Centre) (stamp : ℕ) (old : TrainState) (book : Pages) (rights : Rights)
    (h : HearsTrain line c k stamp old book rights) (body : TrainBody) where
  abbrev t : ℕ
  t = old.supervision.engine

  abbrev m : TrainMessage
  m = record { t_train = stamp; nid_engine = t; body = body }

  silent : (why : Reason) → silence line c k m ≡ Some (reason_of why)
      → effect line c k (Train m) ≡ effect_left line c t (with_parts old book rights k) (Err why)
  silent why is =
      silent_effect line c k m (reason_of why) is
      ∙ ap (λ (r : Reply). record { reply = r; link = None; silence = Some (reason_of why) })
      (same_parts line c k old book rights h.parts)

  -- the session is not up
  pub no_session : (rest : List spec.Reason)
      → reasons_of body ≡ spec.ForeignEngine ∷ spec.StaleStamp ∷ spec.NoSession ∷ spec.WrongPhase ∷ rest
      → ((j : Centre) → is_up (j.phase t) ≡ false → is_out_of_phase j t body ≡ true) → (why : Reason)
      → not_up (session_phase old.session_state) ≡ Some why
      → effect line c k (Train m) ≡ effect_left line c t (with_parts old book rights k) (Err why)
  no_session rest begins out why is =
      silent why (ap (find (holds line c k m)) begins ∙ by (session_phase old.session_state) h.parts.has_phase is)
    where
      by : (phase : Phase) → k.phase t ≡ phase → not_up phase ≡ Some why
          → find (holds line c k m) (spec.ForeignEngine ∷ spec.StaleStamp ∷ spec.NoSession ∷ spec.WrongPhase ∷ rest)
          ≡ Some (reason_of why)
      by Closed at e = rw (h.known, h.parts.has_heard, h.timely, at) (ap (option_map reason_of) e)
      by Opened at e = rw (h.known, h.parts.has_heard, h.timely, out k (ap is_up at), at) (ap (option_map reason_of) e)
      by Up at e = cc

  -- the session is up, and the train has no mission here
  pub no_mission : (rest : List spec.Reason)
      → reasons_of body ≡ spec.ForeignEngine ∷ spec.StaleStamp ∷ spec.NoSession ∷ spec.WrongPhase ∷ spec.NotSupervised
      ∷ rest
      → ((j : Centre) → is_up (j.phase t) ≡ true → is_out_of_phase j t body ≡ false)
      → ((j : Centre) → is_unsupervised line c j t body ≡ is_none (j.mission t))
      → session_phase old.session_state ≡ Up → (why : Reason)
      → (old.supervision.mission ≡ None) × (why ≡ reason.NotSupervised)
      → effect line c k (Train m) ≡ effect_left line c t (with_parts old book rights k) (Err why)
  no_mission rest begins in_phase alone up why none = silent why (ap (find (holds line c k m)) begins
      ∙ rw (
        h.known,
        h.parts.has_heard,
        h.timely,
        in_phase k (ap is_up (h.parts.has_phase ∙ up)),
        alone k,
        h.parts.has_mission ∙ none.0,
        h.parts.has_phase,
        up,
      ) (ap (λ (r : Reason). Some (reason_of r)) (sym none.1)))
