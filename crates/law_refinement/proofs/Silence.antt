-- The one line centre has a centre's reasons of silence.
use Rattle.std.proofs.Common.{◌+◌, ◌-◌, ◌∙◌, ◌≡◌, ◌≤◌, ◌⊎◌, arith, Bool, false, None, Option, refl, Some, sym, true, ℕ}
use Rattle.std.specs.List.{find}
use Rattle.law_base.proofs.RulesLemmas.SameReasons as reasons
use Rattle.law_base.specs.Rules.Silences.{EndsOnLine, HasEndIfAsked}
use Rattle.law_invariants.proofs.FlowLemmas.Stands.{stands}
use Rattle.law_invariants.specs.Flow.Flow.{flow_of}
use Rattle.law_invariants.specs.Flow.Shows.{Shows}
use Rattle.law_invariants.specs.Flow.Sound.{IsFlowSound, IsHandAt}
use Rattle.rbc_spec.proofs.Lists.{on_line}
use Rattle.rbc_spec.proofs.Runs.{within_from}
use Rattle.rbc_spec.specs.Centre.{Centre}
use Rattle.rbc_spec.specs.Line.{is_centre, Line}
use Rattle.rbc_spec.specs.LineCentre.{LineState}
use Rattle.rbc_spec.specs.Message.{EndOfMission, InitiationOfSession, Report, Request, SessionEstablished}
use Rattle.rbc_spec.specs.Message.{ShorteningGranted, ShorteningRejected, StartOfMission, TerminationOfSession}
use Rattle.rbc_spec.specs.Message.{TrainBody, TrainData, TrainMessage}
use Rattle.rbc_spec.specs.Outcome.{Reason, reasons_of}
use Rattle.rbc_spec.specs.Run as run
use Rattle.rbc_spec.specs.Step as step
use Rattle.rbc_spec.specs.World.{World}

-- for every state of the clock
pub silent_by_clock : (line : Line) (c stamp : ℕ) (k : Centre) (m : TrainMessage)
    → step.silence line c (step.ticked stamp k) m ≡ step.silence line c k m
silent_by_clock line c stamp k m = by_body m.body
  where
    by_body : (body : TrainBody) → find (step.holds line c (step.ticked stamp k) (record m { body = body }))
        (reasons_of body) ≡ find (step.holds line c k (record m { body = body })) (reasons_of body)
    by_body SessionEstablished = refl
    by_body (StartOfMission is_valid position) = refl
    by_body (TrainData position) = refl
    by_body (Request position) = refl
    by_body (Report position) = refl
    by_body (ShorteningGranted s position) = refl
    by_body (ShorteningRejected s position) = refl
    by_body (EndOfMission position) = refl
    by_body InitiationOfSession = refl
    by_body TerminationOfSession = refl

module _ (line : Line) (w : World) (v : LineState) (sound : IsFlowSound line (flow_of w))
    (sees : Shows line (flow_of w) v) (c : ℕ) (m : TrainMessage) where
  has_end : HasEndIfAsked line (w.at c) m
  has_end position n asks has = by_centre (is_centre line c) refl
    where
      at_centre : IsHandAt line n.place n.hand → EndsOnLine line n.hand
      at_centre hand =
          let last : ℕ = n.hand.first + n.hand.count - 1 in
          let some : 1 ≤ n.hand.count = hand.some in
          let below =
          on_line line n.place.track last
          (hand.on_track last (within_from n.hand last (omega (arith, some)) (omega (arith, some)))) in
          record { some = some; last = omega (arith, some, below) }

      by_centre : (b : Bool) → is_centre line c ≡ b → EndsOnLine line n.hand
      by_centre true to = at_centre ((sound.centres c to).mission m.nid_engine n has).hand
      by_centre false away = absurd (let wrong : None ≡ Some n = sym (sound.no_mission c m.nid_engine away) ∙ has in cc)

  pub silent : (why : Reason) → step.silence line c (w.at c) m ≡ Some why → run.silence line v c m ≡ Some why
  silent why is = reasons.silent line w v (stands line w sound v sees) c m.nid_engine m.t_train m.body why has_end is

  pub heard : step.silence line c (w.at c) m ≡ None → (run.silence line v c m ≡ None)
      ⊎ (run.may_listen line c m.body (run.silence line v c m) ≡ true)
  heard is = reasons.heard line w v (stands line w sound v sees) c m.nid_engine m.t_train m.body has_end is

  -- the centre is not silent if the one line centre is not
  pub heard_alike : run.silence line v c m ≡ None → step.silence line c (w.at c) m ≡ None
  heard_alike is = by_silence (step.silence line c (w.at c) m) refl
    where
      by_silence : (o : Option Reason) → step.silence line c (w.at c) m ≡ o → o ≡ None
      by_silence (Some why) so = absurd (let wrong : None ≡ Some why = sym is ∙ silent why so in cc)
      by_silence None so = refl
