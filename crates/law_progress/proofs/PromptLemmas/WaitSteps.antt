-- A start that waits goes on waiting at each step, is answered, or its train begins or ends a session.
use Rattle.std.proofs.Common.{⊎_elim, ◌||◌, ◌∙◌, ◌≡◌, ◌≢◌, ◌⊎◌, ap, Bool, false, inl, inr}
use Rattle.std.proofs.Common.{is_some, None, not, Option, refl, slice_get, Some, subst, sym, true, ℕ}
use Rattle.std.proofs.lemmas.Bool.{cases_eq, or_parts}
use Rattle.std.specs.Option.{option_map_or}
use Rattle.law_progress.proofs.PromptLemmas.WaitEnds.{close_other, Keeps, of_still, start_other}
use Rattle.law_progress.proofs.PromptLemmas.Waits.{both, plain, Still, still_end_mission, still_granted, still_report}
use Rattle.law_progress.proofs.PromptLemmas.Waits.{still_request}
use Rattle.rbc_spec.proofs.Lists.{none_passes}
use Rattle.rbc_spec.specs.Acts.{◌>>◌, Act, change_mission, hear, rest, say}
use Rattle.rbc_spec.specs.Centre.{Centre, is_up, Up}
use Rattle.rbc_spec.specs.Line.{Line}
use Rattle.rbc_spec.specs.Message.{DataAcknowledged, EndOfMission, InitiationOfSession, Report, Request}
use Rattle.rbc_spec.specs.Message.{SessionEstablished}
use Rattle.rbc_spec.specs.Message.{ShorteningGranted, ShorteningRejected, StartOfMission}
use Rattle.rbc_spec.specs.Message.{TerminationOfSession, TrainBody, TrainData, TrainMessage}
use Rattle.rbc_spec.specs.Message.{unknown_group}
use Rattle.rbc_spec.specs.Outcome.{Reason, reasons_of, WrongPhase}
use Rattle.rbc_spec.specs.Place.{Place, Position}
use Rattle.rbc_spec.specs.Rules.{answer_granted, answered, end_mission, report, request, set_phase}
use Rattle.rbc_spec.specs.Step as step
use Rattle.rbc_spec.specs.Step.{Effect, effect, hear_and_answer, holds, silence}

-- a message that begins or ends a session of train t
abbrev pub OfSession : ℕ → TrainMessage → TrainBody → Type 0
OfSession t m body = (m.nid_engine ≡ t) × ((body ≡ InitiationOfSession) ⊎ (body ≡ TerminationOfSession))

module _ (line : Line) (c t : ℕ) (m : TrainMessage) (k : Centre) where
  abbrev Answered : TrainBody → Type 0
  Answered body = Keeps line c t k ((hear m >> answered line c m body) k) ⊎ OfSession t m body

  u : ℕ
  u = m.nid_engine

  -- an act that leaves all starts
  by_still : (act : Act) → Still act → Keeps line c t k ((hear m >> act) k)
  by_still act is = of_still line c t (hear m >> act) k (both (hear m) act (λ j. plain refl) is)

  -- the train's own start waits, so a second one is silent
  no_start : (is_valid : Bool) (position : Position) → m.body ≡ StartOfMission is_valid position
      → silence line c k m ≡ None → is_some (k.wait m.nid_engine) ≡ true → ⊥
  no_start is_valid position is heard waits =
      let fails : holds line c k m WrongPhase ≡ false =
      none_passes (holds line c k m) (reasons_of m.body) 3 WrongPhase heard (ap (λ b. slice_get (reasons_of b) 3) is) in
      let phase : (not (is_up (k.phase m.nid_engine)) || is_some (k.wait m.nid_engine)) ≡ false =
      sym (ap (λ b. step.is_out_of_phase k m.nid_engine b) is) ∙ fails in
      let wrong : true ≡ false = sym waits
      ∙ (or_parts (not (is_up (k.phase m.nid_engine))) (is_some (k.wait m.nid_engine)) phase).1 in cc

  module _ (apart : t ≢ m.nid_engine) where
    other_begins : Keeps line c t k ((hear m >> answered line c m InitiationOfSession) k)
    unfolding ◌>>◌
    other_begins = record { law = (close_other line c t m.nid_engine apart (hear m k).state).law }

    other_ends : Keeps line c t k ((hear m >> answered line c m TerminationOfSession) k)
    unfolding ◌>>◌
    other_ends = record { law = (close_other line c t m.nid_engine apart (hear m k).state).law }

    other_starts : (is_valid : Bool) (position : Position)
        → Keeps line c t k ((hear m >> answered line c m (StartOfMission is_valid position)) k)
    unfolding ◌>>◌
    other_starts is_valid position =
        record { law = (start_other line c t m.nid_engine apart is_valid position (hear m k).state).law }

  module _ (heard : silence line c k m ≡ None) (place : Place) (waits : k.wait t ≡ Some place) where
    by_body : (body : TrainBody) → m.body ≡ body → Answered body
    by_body (TrainData position) is = inl (by_still _
        (both (change_mission m.nid_engine (λ n. record n { has_data = true }))
        (say m.nid_engine unknown_group (DataAcknowledged m.t_train)) (λ j. plain refl) (λ j. plain refl)))
    by_body (Request position) is = inl (by_still (request line c m.nid_engine position)
        (still_request line c m.nid_engine position))
    by_body (Report position) is = inl (by_still (report line c m.nid_engine position)
        (still_report line c m.nid_engine position))
    by_body (ShorteningGranted stamp position) is = inl (by_still (answer_granted line c m.nid_engine position)
        (still_granted line c m.nid_engine position))
    by_body (ShorteningRejected stamp position) is =
        inl (by_still (change_mission m.nid_engine (λ n. record n { proposal = None })) (λ j. plain refl))
    by_body (EndOfMission position) is = inl (by_still (end_mission line c m.nid_engine position)
        (still_end_mission line c m.nid_engine position))
    by_body SessionEstablished is = inl (by_still (set_phase m.nid_engine Up) (λ j. plain refl))
    by_body InitiationOfSession is = ⊎_elim
        (λ (same : t ≡ m.nid_engine). inr (sym same, inl refl))
        (λ (apart : t ≢ m.nid_engine). inl (other_begins apart))
        (cases_eq t m.nid_engine)
    by_body TerminationOfSession is = ⊎_elim
        (λ (same : t ≡ m.nid_engine). inr (sym same, inr refl))
        (λ (apart : t ≢ m.nid_engine). inl (other_ends apart))
        (cases_eq t m.nid_engine)
    by_body (StartOfMission is_valid position) is = ⊎_elim
        (λ (same : t ≡ m.nid_engine). absurd (no_start is_valid position is heard
        (subst (λ v. is_some (k.wait v) ≡ true) same (ap is_some waits))))
        (λ (apart : t ≢ m.nid_engine). inl (other_starts apart is_valid position))
        (cases_eq t m.nid_engine)

  pub message_keeps : (place : Place) → k.wait t ≡ Some place
      → Keeps line c t k (effect line c k (step.Train m)).reply
      ⊎ ((silence line c k m ≡ None) × OfSession t m m.body)
  message_keeps place waits = by_silence (silence line c k m) refl
    where
      by_silence : (o : Option Reason) → silence line c k m ≡ o
          → Keeps line c t k
          (option_map_or {U = Effect} (λ why. record { reply = rest k; link = None; silence = Some why }) o
          (record { reply = hear_and_answer line c m k; link = None; silence = None })).reply
          ⊎ ((silence line c k m ≡ None) × OfSession t m m.body)
      by_silence (Some why) is = inl (record { law = refl })
      by_silence None is = ⊎_elim (λ (it : Keeps line c t k (hear_and_answer line c m k)). inl it)
          (λ (it : OfSession t m m.body). inr (is, it)) (by_body is place waits m.body refl)
