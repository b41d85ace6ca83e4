-- The frames of each event's effect on a link, and the numbers of its messages and replies.
use Rattle.std.proofs.Common.{[], ◌&&◌, ◌+◌, ◌∙◌, ◌∷◌, ◌≡◌, ◌≤◌, ap, arith, Bool, false, if◌then◌else◌, length, List}
use Rattle.std.proofs.Common.{None, not, Option, refl, Some, subst, sym, true, ℕ}
use Rattle.std.specs.Option.{option_map_or}
use Rattle.law_base.proofs.RulesLemmas.Sends.{Sends, sends_less, sends_none, sends_quiet, sends_some, sends_then}
use Rattle.law_base.proofs.RulesLemmas.Sends.{sends_yes}
use Rattle.law_base.proofs.RulesLemmas.SentActs.{freed_sends, sends_one}
use Rattle.law_base.proofs.RulesLemmas.SentAnswers.{report_few}
use Rattle.law_base.proofs.RulesLemmas.SentStandstill.{end_few}
use Rattle.law_base.proofs.RulesLemmas.SentSteps.{granted_few, request_sends, some_sends}
use Rattle.law_base.specs.Rules.Sending.{HoldsFew}
use Rattle.rbc_spec.proofs.Worlds.{alike_then}
use Rattle.rbc_spec.specs.Acts.{◌>>◌, Act, become, booked, change_mission, freed, Reply, rest, return_pool, say, send}
use Rattle.rbc_spec.specs.Acts.{where_so, with_some}
use Rattle.rbc_spec.specs.Centre.{Centre, Closed, Expectation, is_free, is_open, is_registrar_of, is_taken_for, Mission}
use Rattle.rbc_spec.specs.Centre.{Opened, Taken}
use Rattle.rbc_spec.specs.Frame.{AskRight, Body, TakingOver}
use Rattle.rbc_spec.specs.Line.{is_centre, Line, registrar}
use Rattle.rbc_spec.specs.Maps.{put}
use Rattle.rbc_spec.specs.Message.{EndOfMission, InitiationOfSession, Report, Request, SessionEstablished}
use Rattle.rbc_spec.specs.Message.{ShorteningGranted, ShorteningRejected, StartOfMission, SystemVersion}
use Rattle.rbc_spec.specs.Message.{TerminationAcknowledged, TerminationOfSession, TrainBody, TrainData, TrainMessage}
use Rattle.rbc_spec.specs.Message.{unknown_group}
use Rattle.rbc_spec.specs.Place.{covered, fit_place, Place, Position}
use Rattle.rbc_spec.specs.Rules.{accept, answer_granted, answered, close_session, drop_wait, end_mission, reject}
use Rattle.rbc_spec.specs.Rules.{report, report_here, restart, set_phase, stand_still, start_here, start_mission}
use Rattle.rbc_spec.specs.Rules.{start_new, start_waiting, take_over}
use Rattle.rbc_spec.specs.SectionRuns.{all_of, next_after, within}

module _ (d : ℕ) (line : Line) (c t : ℕ) where
  -- the limits of a step's frames, messages and replies, for some bound of its returned runs
  pub record Few (r : Reply) : Type 0 where
    pub bound : ℕ
    pub sends : Sends bound d 0 8 3 2 64 r

  pub few : (low high n s w : ℕ) (r : Reply) → high ≤ 8 → n ≤ 3 → s ≤ 2 → w ≤ 64 → Sends 0 d low high n s w r → Few r
  few low high n s w r a b e f h =
      record { bound = 0; sends = sends_less 0 d low high n s w 0 8 3 2 64 r (omega arith) a b e f h }

  pub quiet : (r : Reply) → r.frames d ≡ [] → length r.sayings ≤ 2 → length r.words ≤ 64 → Few r
  quiet r none says tells = record { bound = 0; sends = sends_quiet 0 d 0 8 3 2 64 r none says tells }

  pub few_if : (b : Bool) (x y : Reply) → Few x → Few y → Few (if b then x else y)
  few_if true x y one two = one
  few_if false x y one two = two

  -- ## Start of mission

  restart_few : (place : Place) (m : Mission) (k : Centre) → Few (restart line t place m k)
  unfolding ◌>>◌
  restart_few place m k = by_test (all_of (within m.hand) (covered line place))
    where
      by_test : (b : Bool)
          → Few ((if b
          then (change_mission t (λ n. record n { place = place; has_data = false; is_ended = false; proposal = None })
          >> accept t) else reject t) k)
      by_test true = quiet _ refl (omega arith) (omega arith)
      by_test false = quiet _ refl (omega arith) (omega arith)

  asked_few : (place : Place) (k : Centre) → Few (start_waiting line t place k)
  asked_few place k =
      let waits : Act = booked is_open (Taken t) (covered line place)
      >> become (λ j. record j { wait = put j.wait t (Some place) }) in
      few 0 8 1 0 0 _ (omega arith) (omega arith) (omega arith) (omega arith)
      (sends_then 0 d 0 0 8 0 1 0 0 0 0 waits
      (where_so (λ j. not (j.has_asked t)) (option_map_or (λ r. send r (AskRight t)) (registrar line t) rest
      >> become (λ j. record j { has_asked = put j.has_asked t true })))
      k (omega arith) (omega arith)
      (sends_then 0 d 0 0 0 0 0 0 0 0 0 (booked is_open (Taken t) (covered line place))
      (become (λ j. record j { wait = put j.wait t (Some place) })) k (omega arith) (omega arith)
      (sends_none 0 d 0 0 _ refl refl refl) (sends_none 0 d 0 0 _ refl refl refl))
      (asks (not ((waits k).state.has_asked t)) (registrar line t) (waits k).state))
    where
      asks : (b : Bool) (o : Option ℕ) (j : Centre)
          → Sends 0 d 0 8 1 0 0 (if b then (option_map_or (λ r. send r (AskRight t)) o rest
          >> become (λ j. record j { has_asked = put j.has_asked t true })) j else rest j)
      asks true (Some r) j = sends_then 0 d 0 8 8 1 0 0 0 0 0 (send r (AskRight t))
          (become (λ j. record j { has_asked = put j.has_asked t true })) j (omega arith) (omega arith)
          (sends_one 0 d line c t 0 8 r (AskRight t) j (omega arith) (omega arith) tt)
          (sends_none 0 d 8 8 _ refl refl refl)
      asks true None j = sends_then 0 d 0 8 8 1 0 0 0 0 0 rest
          (become (λ j. record j { has_asked = put j.has_asked t true })) j (omega arith) (omega arith)
          (sends_quiet 0 d 0 8 1 0 0 _ refl (omega arith) (omega arith)) (sends_none 0 d 8 8 _ refl refl refl)
      asks false o j = sends_quiet 0 d 0 8 1 0 0 (rest j) refl (omega arith) (omega arith)

  here_few : (place : Place) (k : Centre) → Few (start_here line t place k)
  unfolding ◌>>◌
  here_few place k = few_if (k.has_right t) _ _ (quiet _ refl (omega arith) (omega arith))
      (quiet _ refl (omega arith) (omega arith))

  pub start_few : (is_valid : Bool) (position : Position) (k : Centre)
      → Few (start_mission line c t is_valid position k)
  start_few is_valid position k = by_place (fit_place line is_valid position) (k.mission t)
    where
      by_registrar : (b : Bool) (place : Place)
          → Few ((if b then start_here line t place else start_waiting line t place) k)
      by_registrar true place = here_few place k
      by_registrar false place = asked_few place k

      by_place : (o : Option Place) (m : Option Mission)
          → Few (option_map_or (λ place. option_map_or (λ m. restart line t place m k) m (start_new line c t place k))
          o (reject t k))
      by_place (Some place) (Some m) = restart_few place m k
      by_place (Some place) None = few_if (all_of (is_free line c k) (covered line place)) _ _
          (by_registrar (is_registrar_of line c t) place) (quiet _ refl (omega arith) (omega arith))
      by_place None m = quiet _ refl (omega arith) (omega arith)

  -- ## Sessions

  -- a start that waits is dropped, of few sections
  drop_sends : (j : Centre) → ((place : Place) → j.wait t ≡ Some place → (covered line place).count ≤ 64)
      → Sends 0 d 0 0 0 0 64 (drop_wait line c t j)
  drop_sends j sizes = sends_some 0 d 0 0 0 0 64 (j.wait t) _ (rest j)
      (λ place is. let size = sizes place is in
      sends_less 0 d 0 0 0 0 ((covered line place).count + 0) 0 0 0 0 64 _ (omega arith) (omega arith) (omega arith)
      (omega arith) (omega (arith, size))
      (sends_then 0 d 0 0 0 0 0 0 0 (covered line place).count 0 (freed line c (is_taken_for t) (covered line place))
      (become (λ i. record i { wait = put i.wait t None })) j (omega arith) (omega arith)
      (freed_sends 0 d line c t 0 0 (is_taken_for t) (covered line place) j) (sends_none 0 d 0 0 _ refl refl refl)))
      (λ none. sends_quiet 0 d 0 0 0 0 64 (rest j) refl (omega arith) (omega arith))

  pub drop_few : (k : Centre) → HoldsFew line k → Sends 0 d 0 0 0 0 64 (drop_wait line c t k)
  drop_few k h = drop_sends k (h.waits t)

  close_session_few : (k : Centre) → HoldsFew line k → Sends 0 d 0 0 0 0 64 (close_session line c t k)
  unfolding ◌>>◌
  close_session_few k h = sends_then 0 d 0 0 0 0 0 0 0 0 64 (set_phase t Closed
      >> change_mission t (λ n. record n { proposal = None })) (drop_wait line c t) k (omega arith) (omega arith)
      (sends_none 0 d 0 0 _ refl refl refl)
      (drop_sends ((set_phase t Closed >> change_mission t (λ n. record n { proposal = None })) k).state (h.waits t))

  -- ## Every message

  abbrev is_new : Centre → Bool
  is_new k = is_centre line d && option_map_or (λ e. not e.is_taking) (k.expects d t) false

  reported : (position : Position) (k : Centre) → HoldsFew line k → Few (report line c t position k)
  reported position k h = by_mission (k.mission t) refl
    where
      by_mission : (o : Option Mission) → k.mission t ≡ o
          → Few (option_map_or (λ m. report_here line c t position m k) o (take_over line t k))
      by_mission (Some m) is =
          record {
            bound = next_after m.hand;
            sends = report_few d line c t m (h.missions t m is)
                (h.pools t m is) position k is;
          }
      by_mission None is = few 0 8 1 0 0 _ (omega arith) (omega arith) (omega arith) (omega arith)
          (takes_over (k.expects d t) refl)
        where
          takes_over : (o : Option Expectation) → k.expects d t ≡ o → Sends 0 d 0 8 1 0 0 (take_over line t k)
          takes_over (Some e) is = sends_yes 0 d 0 8 (is_new k) (TakingOver e.number t) (take_over line t k)
              (ap (λ o. option_map_or {U = List Body} (λ x. if is_new k then TakingOver x.number t ∷ [] else []) o [])
              is) refl refl (λ new. (omega arith, omega arith, tt))
          takes_over None is = sends_quiet 0 d 0 8 1 0 0 (take_over line t k)
              (ap (λ o. option_map_or {U = List Body} (λ x. if is_new k then TakingOver x.number t ∷ [] else []) o [])
              is) (omega arith) (omega arith)

  abbrev ends : Mission → Act
  ends m = return_pool line c t m >> change_mission t (λ n. record n { is_ended = true; proposal = None })

  abbrev ends_if_so : Act
  ends_if_so = with_some (λ j. j.mission t) ends

  abbrev stands_if_so : Position → Act
  stands_if_so position = with_some (λ j. j.mission t) (stand_still line c t position)

  ended_none : (position : Position) (k : Centre) → k.mission t ≡ None
      → Sends 0 d 0 0 0 0 0 (((rest >> stands_if_so position) >> ends_if_so) k)
  unfolding ◌>>◌
  ended_none position k none = sends_then 0 d 0 0 0 0 0 0 0 0 0 (rest >> stands_if_so position) ends_if_so k
      (omega arith) (omega arith)
      (sends_then 0 d 0 0 0 0 0 0 0 0 0 rest (stands_if_so position) k (omega arith) (omega arith)
      (sends_none 0 d 0 0 _ refl refl refl)
      (subst (λ o. Sends 0 d 0 0 0 0 0 (option_map_or (λ n. stand_still line c t position n k) o (rest k))) (sym none)
      (sends_none 0 d 0 0 (rest k) refl refl refl)))
      (subst (λ o. Sends 0 d 0 0 0 0 0 (option_map_or (λ n. ends n (stands_if_so position k).state) o
      (rest (stands_if_so position k).state))) (sym stood)
      (sends_none 0 d 0 0 (rest (stands_if_so position k).state) refl refl refl))
    where
      stood : (stands_if_so position k).state.mission t ≡ None
      stood = ap (λ o. (option_map_or {U = Reply} (λ n. stand_still line c t position n k) o (rest k)).state.mission t)
          none ∙ none

  abbrev first : Position → Act
  first position = with_some (λ j. j.mission t) (report_here line c t position)

  ended_few : (position : Position) (k : Centre) → HoldsFew line k → Few (end_mission line c t position k)
  ended_few position k h = by_mission (k.mission t) refl
    where
      like : (act : Act) → first position k ≡ act k → end_mission line c t position k
          ≡ ((act >> stands_if_so position) >> ends_if_so) k
      like act e = alike_then (first position >> stands_if_so position) (act >> stands_if_so position) ends_if_so k
          (alike_then (first position) act (stands_if_so position) k e)

      by_mission : (o : Option Mission) → k.mission t ≡ o → Few (end_mission line c t position k)
      by_mission (Some m) is =
          subst Few
          (sym (like (report_here line c t position m)
          (ap (λ o. option_map_or (λ m. report_here line c t position m k) o (rest k)) is)))
          (let it = end_few d line c t m (h.missions t m is) (h.pools t m is) position k is in
          record { bound = it.0; sends = it.1 })
      by_mission None is =
          subst Few (sym (like rest (ap (λ o. option_map_or (λ m. report_here line c t position m k) o (rest k)) is)))
          (few 0 0 0 0 0 _ (omega arith) (omega arith) (omega arith) (omega arith) (ended_none position k is))

  shortened_few : (position : Position) (k : Centre) → HoldsFew line k → Few (answer_granted line c t position k)
  shortened_few position k h = few 0 5 3 1 64 _ (omega arith) (omega arith) (omega arith) (omega arith)
      (sends_some 0 d 0 5 3 1 64 (k.mission t) _ (rest k)
      (λ m is. some_sends d line c t 0 5 3 1 64 m.proposal _ k
      (λ p. granted_few d line c t m p position k (h.missions t m is)))
      (λ none. sends_quiet 0 d 0 5 3 1 64 (rest k) refl (omega arith) (omega arith)))

  closed_few : (add : Act) (k : Centre) → HoldsFew line k → ((j : Centre) → Sends 0 d 0 0 0 1 0 (add j))
      → Few ((close_session line c t >> add) k)
  closed_few add k h adds = few 0 0 0 1 64 _ (omega arith) (omega arith) (omega arith) (omega arith)
      (sends_then 0 d 0 0 0 0 0 0 1 64 0 (close_session line c t) add k (omega arith) (omega arith)
      (close_session_few k h) (adds (close_session line c t k).state))

  pub answer_few : (m : TrainMessage) (body : TrainBody) (k : Centre) → HoldsFew line k
      → Few (answered line c (record m { nid_engine = t }) body k)
  unfolding ◌>>◌
  answer_few m (TrainData position) k h = quiet _ refl (omega arith) (omega arith)
  answer_few m (Request position) k h = few 5 7 2 2 0 _ (omega arith) (omega arith) (omega arith) (omega arith)
      (request_sends d line c t position k)
  answer_few m (Report position) k h = reported position k h
  answer_few m (ShorteningGranted stamp position) k h = shortened_few position k h
  answer_few m (ShorteningRejected stamp position) k h = quiet _ refl (omega arith) (omega arith)
  answer_few m (EndOfMission position) k h = ended_few position k h
  answer_few m InitiationOfSession k h = few 0 0 0 1 64 _ (omega arith) (omega arith) (omega arith) (omega arith)
      (sends_then 0 d 0 0 0 0 0 0 1 64 0 (close_session line c t >> set_phase t Opened)
      (say t unknown_group SystemVersion) k (omega arith) (omega arith)
      (sends_then 0 d 0 0 0 0 0 0 0 64 0 (close_session line c t) (set_phase t Opened) k (omega arith) (omega arith)
      (close_session_few k h) (sends_none 0 d 0 0 _ refl refl refl))
      (sends_quiet 0 d 0 0 0 1 0 _ refl (omega arith) (omega arith)))
  answer_few m TerminationOfSession k h = closed_few (say t unknown_group TerminationAcknowledged) k h
      (λ j. sends_quiet 0 d 0 0 0 1 0 _ refl (omega arith) (omega arith))
  answer_few m (StartOfMission is_valid position) k h = start_few is_valid position k
  answer_few m SessionEstablished k h = quiet _ refl (omega arith) (omega arith)
