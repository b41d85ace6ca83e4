-- Sessions that are established, train data, and rejected requests to shorten.
use Rattle.std.proofs.Common.{[], ◌+◌, ◌≡◌, ap, false, None, Option, refl, slice_get, Some, sym, true, ℕ}
use Rattle.law_invariants.specs.Flow.Flow.{Flow}
use Rattle.law_invariants.specs.Flow.Shows.{Shows}
use Rattle.law_invariants.specs.Flow.Sound.{IsFlowSound}
use Rattle.law_refinement.proofs.AbstractionLemmas.Shows.{part_changes, part_stays}
use Rattle.law_refinement.proofs.SessionsLemmas.Changes.{heard_alone, one_said, shows_change, shows_talk, silent}
use Rattle.law_refinement.specs.Sessions.Heard.{LeadsAlone, message}
use Rattle.rbc_spec.proofs.Lists.{none_passes, there_is}
use Rattle.rbc_spec.specs.Acts.{◌>>◌, Reply}
use Rattle.rbc_spec.specs.Centre.{Centre, Phase, Up}
use Rattle.rbc_spec.specs.Line.{is_centre, Line}
use Rattle.rbc_spec.specs.LineCentre.{change_mission, hears, LineState, says}
use Rattle.rbc_spec.specs.Maps.{put, put_pair}
use Rattle.rbc_spec.specs.Message.{DataAcknowledged, SessionEstablished, ShorteningRejected, TrainBody, TrainData}
use Rattle.rbc_spec.specs.Message.{TrainMessage, unknown_group}
use Rattle.rbc_spec.specs.Outcome.{NotSupervised, Reason, reasons_of}
use Rattle.rbc_spec.specs.OwnSteps.{with_phase, without_ask}
use Rattle.rbc_spec.specs.Place.{Position}
use Rattle.rbc_spec.specs.Step.{hear_and_answer, holds, silence, ticked}

module _ (line : Line) (w : Flow) (v : LineState) (sound : IsFlowSound line w) (sees : Shows line w v)
    (c t_train t stamp : ℕ) (at : is_centre line c ≡ true) where
  abbrev k : Centre
  k = ticked stamp (w.at c)

  abbrev m : TrainBody → TrainMessage
  m body = message t_train t body

  abbrev reply : TrainBody → Reply
  reply body = hear_and_answer line c (m body) k

  abbrev is_silent : TrainBody → Type 0
  is_silent body = silence line c k (m body) ≡ None

  abbrev Heard : TrainBody → Type 0
  Heard body = LeadsAlone line w c (m body) (reply body) v

  -- a reason for which the message was not left without an answer
  pub not_for : (body : TrainBody) (n : ℕ) (why : Reason) → is_silent body → slice_get (reasons_of body) n ≡ Some why
      → holds line c k (m body) why ≡ false
  not_for body n why heard is = none_passes (holds line c k (m body)) (reasons_of body) n why heard is

  pub established : Heard SessionEstablished
  unfolding ◌>>◌
  established =
      let y : Centre = (reply SessionEstablished).state in
      heard_alone line w c (m SessionEstablished) v (reply SessionEstablished)
      (with_phase t c Up (hears c (m SessionEstablished) v)) (record { said_is = refl; new_is = refl })
      (shows_talk line w v sound sees c at y (λ d. []) (silent c) (put_pair v.phase t c Up)
      (put_pair v.heard t c (Some t_train)) v.said refl refl refl refl
      (part_changes Phase c t Up v.phase (w.at c).phase y.phase (λ u. sees.phase u c) (λ u. refl))
      (part_changes (Option ℕ) c t (Some t_train) v.heard (w.at c).heard y.heard (λ u. sees.heard u c) (λ u. refl))
      (part_stays ℕ c v.said y.said (λ u. sees.said u c)))

  pub data_heard : (position : Position) → is_silent (TrainData position) → Heard (TrainData position)
  unfolding ◌>>◌
  data_heard position heard =
      let body : TrainBody = TrainData position in
      let here = there_is ((w.at c).mission t) (not_for body 4 NotSupervised heard refl) in
      let y : Centre = (reply body).state in
      heard_alone line w c (m body) v (reply body)
      (says t c (change_mission t (λ n. record n { has_data = true }) (hears c (m body) v)))
      (record { said_is = one_said line w v c t unknown_group (DataAcknowledged t_train) [] sees; new_is = refl })
      (shows_change line w v sound sees c at y (λ d. []) (silent c) t here.0 here.1 (λ n. record n { has_data = true })
      (λ n. record n { has_data = true }) (λ u. refl) refl refl
      v.phase (put_pair v.heard t c (Some t_train)) (put_pair v.said t c (v.said t c + 1)) refl refl refl
      (part_stays Phase c v.phase y.phase (λ u. sees.phase u c))
      (part_changes (Option ℕ) c t (Some t_train) v.heard (w.at c).heard y.heard (λ u. sees.heard u c) (λ u. refl))
      (part_changes ℕ c t (v.said t c + 1) v.said (w.at c).said y.said (λ u. sees.said u c)
      (λ u. ap (λ n. put (w.at c).said t (n + 1) u) (sym (sees.said t c)))))

  pub rejected : (asked : ℕ) (position : Position) → is_silent (ShorteningRejected asked position)
      → Heard (ShorteningRejected asked position)
  unfolding ◌>>◌
  rejected asked position heard =
      let body : TrainBody = ShorteningRejected asked position in
      let here = there_is ((w.at c).mission t) (not_for body 4 NotSupervised heard refl) in
      let y : Centre = (reply body).state in
      heard_alone line w c (m body) v (reply body) (without_ask t (hears c (m body) v))
      (record { said_is = refl; new_is = refl })
      (shows_change line w v sound sees c at y (λ d. []) (silent c) t here.0 here.1 (λ n. record n { proposal = None })
      (λ n. record n { proposal = None }) (λ u. refl) refl refl
      v.phase (put_pair v.heard t c (Some t_train)) v.said refl refl refl
      (part_stays Phase c v.phase y.phase (λ u. sees.phase u c))
      (part_changes (Option ℕ) c t (Some t_train) v.heard (w.at c).heard y.heard (λ u. sees.heard u c) (λ u. refl))
      (part_stays ℕ c v.said y.said (λ u. sees.said u c)))
