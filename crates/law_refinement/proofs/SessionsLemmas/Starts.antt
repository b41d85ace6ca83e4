-- A start of mission: it is rejected, goes on within the train's hand, begins at the registrar, or waits for its right.
use Rattle.std.proofs.Common.{[], ◌&&◌, ◌++◌, ◌+◌, ◌∙◌, ◌∷◌, ◌≡◌, ap, arith, Bool, false, if◌then◌else◌, inl, inr}
use Rattle.std.proofs.Common.{is_some, List, None, Option, option_map, refl, Some, subst, sym, true, ℕ}
use Rattle.law_base.proofs.CountingLemmas.Sums.{one_if_true}
use Rattle.law_base.specs.Counting.Network.{acted, to_one}
use Rattle.law_invariants.specs.Flow.Counts.{hands, missions}
use Rattle.law_invariants.specs.Flow.Flow.{Flow}
use Rattle.law_invariants.specs.Flow.Keeping.{nothing_came}
use Rattle.law_invariants.specs.Flow.Leads.{one_message, said_by}
use Rattle.law_invariants.specs.Flow.Shows.{is_in_hand, shown, Shows}
use Rattle.law_invariants.specs.Flow.Sound.{IsFlowSound}
use Rattle.law_refinement.proofs.AbstractionLemmas.Hands.{sends_both, sends_single}
use Rattle.law_refinement.proofs.AbstractionLemmas.Marks.{hand_at_centre}
use Rattle.law_refinement.proofs.AbstractionLemmas.Missions.{none_here}
use Rattle.law_refinement.proofs.AbstractionLemmas.Shows.{part_changes, part_stays}
use Rattle.law_refinement.proofs.SessionsLemmas.Begins.{put_to_use, shows_begin, shows_wait}
use Rattle.law_refinement.proofs.SessionsLemmas.Changes.{act, heard_alone, one_said, SendsNothing, shows_change}
use Rattle.law_refinement.proofs.SessionsLemmas.Changes.{shows_talk, silent, supervises_is}
use Rattle.law_refinement.specs.Sessions.Heard.{LeadsAlone, message}
use Rattle.rbc_spec.proofs.Runs.{each_within}
use Rattle.rbc_spec.specs.Acts.{◌>>◌, begun, Reply}
use Rattle.rbc_spec.specs.Centre as centre
use Rattle.rbc_spec.specs.Centre.{Centre, is_free, is_open, is_registrar_of, Phase}
use Rattle.rbc_spec.specs.Frame.{AskRight, Body}
use Rattle.rbc_spec.specs.Line.{is_centre, is_home, Line, registrar}
use Rattle.rbc_spec.specs.LineCentre as line_centre
use Rattle.rbc_spec.specs.LineCentre.{hears, is_given_to, is_mark_open, LineState, nothing, Said, says, supervises}
use Rattle.rbc_spec.specs.Maps.{put, put_pair}
use Rattle.rbc_spec.specs.Message.{StartOfMission, TrackBody, TrainAccepted, TrainMessage, TrainRejected, unknown_group}
use Rattle.rbc_spec.specs.OwnSteps.{begins, may_start, Rejects, restarted, Starts, waits}
use Rattle.rbc_spec.specs.Place.{covered, fit_place, Place, Position}
use Rattle.rbc_spec.specs.SectionRuns.{all_of, within}
use Rattle.rbc_spec.specs.Step.{hear_and_answer, silence, ticked}

module _ (line : Line) (w : Flow) (v : LineState) (sound : IsFlowSound line w) (sees : Shows line w v)
    (c t_train t stamp : ℕ) (at : is_centre line c ≡ true)
    (is_valid : Bool) (position : Position) where
  abbrev k : Centre
  k = w.at c

  abbrev m : TrainMessage
  m = message t_train t (StartOfMission is_valid position)

  abbrev reply : Reply
  reply = hear_and_answer line c m (ticked stamp k)

  abbrev now : LineState
  now = hears c m v

  abbrev Goes : Reply → Type 0
  Goes r = LeadsAlone line w c m r v

  -- the centre sends at most one message
  abbrev says_one : Centre → TrackBody → Reply
  says_one y body = record {
    state = y;
    frames = λ d. [];
    sayings =
        record { nid_engine = t; message = record { t_train = k.said t + 1; nid_lrbg = unknown_group; body = body } }
        ∷ [];
    words = [];
  }

  one_said_now : (body : TrackBody) → said_by (says_one k body) ≡ one_message t c unknown_group body [] now
  one_said_now body = one_said line w v c t unknown_group body [] sees

  abbrev heard_k : Centre
  heard_k = record (ticked stamp k) { heard = put k.heard t (Some t_train) }

  -- ## A start that is rejected

  abbrev told_one : Centre
  told_one = record heard_k { said = put k.said t (k.said t + 1) }

  rejected_shown : Shows line (acted w c told_one (λ d. [])) (says t c now)
  rejected_shown = shows_talk line w v sound sees c at told_one (λ d. []) (silent c) v.phase
      (put_pair v.heard t c (Some t_train)) (put_pair v.said t c (v.said t c + 1)) refl refl refl refl
      (part_stays Phase c v.phase k.phase (λ u. sees.phase u c))
      (part_changes (Option ℕ) c t (Some t_train) v.heard k.heard told_one.heard (λ u. sees.heard u c) (λ u. refl))
      (part_changes ℕ c t (v.said t c + 1) v.said k.said told_one.said (λ u. sees.said u c)
      (λ u. ap (λ n. put k.said t (n + 1) u) (sym (sees.said t c))))

  rejects : Rejects t c now (one_message t c unknown_group TrainRejected [] now) (says t c now)
  rejects = record { said_is = refl; new_is = refl }

  goes_rejected : reply ≡ says_one told_one TrainRejected
      → Starts line t c (fit_place line is_valid position) now (one_message t c unknown_group TrainRejected [] now)
      (says t c now) → Goes reply
  goes_rejected is own = subst (λ (r : Reply). LeadsAlone line w c m r v) (sym is)
      (heard_alone line w c m v (says_one told_one TrainRejected) (says t c now)
      (subst (λ (said : Said). Starts line t c (fit_place line is_valid position) now said (says t c now))
      (sym (one_said_now TrainRejected)) own) rejected_shown)

  without_place : fit_place line is_valid position ≡ None → Goes reply
  unfolding ◌>>◌
  without_place none = goes_rejected (rw none refl) (rw none rejects)

  module _ (place : Place) (fit : fit_place line is_valid position ≡ Some place) where
    -- ## Within the train's hand

    module _ (n : centre.Mission) (has : k.mission t ≡ Some n) where
      supervised : supervises now c t ≡ true
      supervised = supervises_is line w v sound sees c t ∙ ap is_some has

      in_hand_is : all_of (λ s. is_given_to t (v.mark s)) (covered line place)
          ≡ all_of (within n.hand) (covered line place)
      in_hand_is = ap (λ (test : ℕ → Bool). all_of test (covered line place))
          (λ i s. (hand_at_centre line w v t sound sees c n has).each s i)

      restart_rejected : all_of (within n.hand) (covered line place) ≡ false → Goes reply
      unfolding ◌>>◌
      restart_rejected out = goes_rejected (rw fit (rw has (rw out refl)))
          (rw fit (rw supervised (rw (in_hand_is ∙ out) rejects)))

      abbrev restarting : Centre
      restarting =
          record told_one {
            mission = put k.mission t
                (option_map (λ (x : centre.Mission).
                record x { place = place; has_data = false; is_ended = false; proposal = None }) (k.mission t));
          }

      restart_accepted : all_of (within n.hand) (covered line place) ≡ true → Goes reply
      unfolding ◌>>◌
      restart_accepted inside =
          let is : reply ≡ says_one restarting TrainAccepted = rw fit (rw has (rw inside (rw has refl))) in
          let own : Starts line t c (fit_place line is_valid position) now
          (one_message t c unknown_group TrainAccepted [] now) (says t c (restarted t place now)) =
          rw fit (rw supervised (rw (in_hand_is ∙ inside) (record { said_is = refl; new_is = refl }))) in
          subst (λ (r : Reply). LeadsAlone line w c m r v) (sym is)
          (heard_alone line w c m v (says_one restarting TrainAccepted) (says t c (restarted t place now))
          (subst (λ (said : Said). Starts line t c (fit_place line is_valid position) now said
          (says t c (restarted t place now))) (sym (one_said_now TrainAccepted)) own)
          (shows_change line w v sound sees c at restarting (λ d. []) (silent c) t n has
          (λ x. record x { place = place; has_data = false; is_ended = false; proposal = None })
          (λ x. record x { place = place; has_data = false; is_ended = false; proposal = None }) (λ u. refl) refl refl
          v.phase (put_pair v.heard t c (Some t_train)) (put_pair v.said t c (v.said t c + 1)) refl refl refl
          (part_stays Phase c v.phase k.phase (λ u. sees.phase u c))
          (part_changes (Option ℕ) c t (Some t_train) v.heard k.heard restarting.heard
          (λ u. sees.heard u c) (λ u. refl))
          (part_changes ℕ c t (v.said t c + 1) v.said k.said restarting.said (λ u. sees.said u c)
          (λ u. ap (λ x. put k.said t (x + 1) u) (sym (sees.said t c))))))

      restarts : (b : Bool) → all_of (within n.hand) (covered line place) ≡ b → Goes reply
      restarts true is = restart_accepted is
      restarts false is = restart_rejected is

    -- ## A new one

    module _ (has_none : k.mission t ≡ None) where
      unsupervised : supervises now c t ≡ false
      unsupervised = supervises_is line w v sound sees c t ∙ ap is_some has_none

      open_shown : (e : centre.Entry) (g : ℕ → Bool) → is_mark_open (shown e g) ≡ is_open e
      open_shown centre.Shut g = refl
      open_shown centre.Open g = refl
      open_shown (centre.Taken u) g = by_hand (g u)
        where
          by_hand : (b : Bool) → is_mark_open (if b then line_centre.Given u else line_centre.Kept u) ≡ false
          by_hand true = refl
          by_hand false = refl
      open_shown (centre.Out u) g = by_hand (g u)
        where
          by_hand : (b : Bool) → is_mark_open (if b then line_centre.Given u else line_centre.Kept u) ≡ false
          by_hand true = refl
          by_hand false = refl

      free_is_open : (s : ℕ) (b : Bool) → is_home line c s ≡ b
          → (is_home line c s && is_mark_open (v.mark s)) ≡ is_free line c k s
      free_is_open s true home = ap (λ x. is_home line c s && x) (ap is_mark_open (sees.mark s c home)
          ∙ open_shown (k.book s) (is_in_hand line w s))
      free_is_open s false home = ap (λ b. b && is_mark_open (v.mark s)) home
          ∙ sym (ap (λ b. b && is_open (k.book s)) home)

      pub may_is : may_start line now c place ≡ all_of (is_free line c k) (covered line place)
      may_is = ap (λ (test : ℕ → Bool). all_of test (covered line place))
          (λ i s. free_is_open s (is_home line c s) refl i)

      not_free : all_of (is_free line c k) (covered line place) ≡ false → Goes reply
      unfolding ◌>>◌
      not_free out = goes_rejected (rw fit (rw has_none (rw out refl)))
          (rw fit (rw unsupervised (rw (may_is ∙ out) rejects)))

      module _ (all_free : all_of (is_free line c k) (covered line place) ≡ true) where
        pub each_free : (s : ℕ) → within (covered line place) s ≡ true → is_free line c k s ≡ true
        each_free s inside = each_within (is_free line c k) (covered line place) all_free s inside

        abbrev book : ℕ → centre.Entry
        book = put_to_use line w v sound sees c t at place each_free t_train

        -- ## At the registrar

        module _ (here : is_registrar_of line c t ≡ true) where
          no_right : k.has_right t ≡ false → Goes reply
          unfolding ◌>>◌
          no_right gone = goes_rejected (rw fit (rw has_none (rw all_free (rw here (rw gone refl)))))
              (rw fit (rw unsupervised (rw (may_is ∙ all_free) (rw here (inr rejects)))))

          abbrev beginning : Centre
          beginning =
              record told_one
              { book = book; has_right = put k.has_right t false; mission = put k.mission t (Some (begun line place)) }

          pub accepted_is : k.has_right t ≡ true → reply ≡ says_one beginning TrainAccepted
          unfolding ◌>>◌
          accepted_is right = rw fit (rw has_none (rw all_free (rw here (rw right refl))))

          right_there : k.has_right t ≡ true → Goes reply
          right_there right =
              let nowhere : v.mission t ≡ None =
              sees.no_mission t (none_here line w c nothing_came beginning (λ d. [])
              (acted w c beginning (λ d. [])) t sound
              (act line w v sound sees c at beginning (λ d. []) (silent c))
              (omega (arith, one_if_true (k.has_right t) right))).1 in
              let own : Starts line t c (fit_place line is_valid position) now
              (one_message t c unknown_group TrainAccepted [] now) (says t c (begins line t c place now)) =
              rw fit (rw unsupervised
              (rw (may_is ∙ all_free) (rw here (inl (nowhere, record { said_is = refl; new_is = refl }))))) in
              subst (λ (r : Reply). LeadsAlone line w c m r v) (sym (accepted_is right))
              (heard_alone line w c m v (says_one beginning TrainAccepted) (says t c (begins line t c place now))
              (subst (λ (said : Said). Starts line t c (fit_place line is_valid position) now said
              (says t c (begins line t c place now))) (sym (one_said_now TrainAccepted)) own)
              (shows_begin line w v sound sees c t at place each_free t_train beginning right has_none refl
              refl refl refl refl refl refl))

          starts_here : (b : Bool) → k.has_right t ≡ b → Goes reply
          starts_here true is = right_there is
          starts_here false is = no_right is

        -- ## Elsewhere

        module _ (away : is_registrar_of line c t ≡ false) where
          waits_own : Starts line t c (fit_place line is_valid position) now nothing (waits line t c place now)
          waits_own =
              rw fit (rw unsupervised (rw (may_is ∙ all_free) (rw away (record { said_is = refl; new_is = refl }))))

          -- the centre at which the start waits, with these pending requests for rights
          abbrev waiting : (ℕ → Bool) → Centre
          waiting asked = record heard_k { book = book; wait = put k.wait t (Some place); has_asked = asked }

          abbrev asking : (ℕ → Bool) → (ℕ → List Body) → Reply
          asking asked frames = record { state = waiting asked; frames = frames; sayings = []; words = [] }

          goes_waiting : (asked : ℕ → Bool) (frames : ℕ → List Body) → SendsNothing c frames
              → reply ≡ asking asked frames → Goes reply
          goes_waiting asked frames sends is = subst (λ (r : Reply). LeadsAlone line w c m r v) (sym is)
              (heard_alone line w c m v (asking asked frames) (waits line t c place now) waits_own
              (shows_wait line w v sound sees c t at place each_free t_train (waiting asked) frames sends refl
              refl refl refl refl refl refl))

          asks_one : (r : ℕ) → SendsNothing c (λ d. to_one r (AskRight t ∷ []) d ++ [])
          asks_one r = record {
            missions = λ u. sends_both (missions u) c (to_one r (AskRight t ∷ [])) (λ d. [])
                (sends_single (missions u) c r (AskRight t) refl) ((silent c).missions u);
            hands = λ u s. sends_both (hands u s) c (to_one r (AskRight t ∷ [])) (λ d. [])
                (sends_single (hands u s) c r (AskRight t) refl) ((silent c).hands u s);
          }

          waits_on : (b : Bool) → k.has_asked t ≡ b → (o : Option ℕ) → registrar line t ≡ o → Goes reply
          unfolding ◌>>◌
          waits_on true asked o there =
              goes_waiting k.has_asked (λ d. []) (silent c)
              (rw fit (rw has_none (rw all_free (rw away (rw asked refl)))))
          waits_on false asked None there =
              goes_waiting (put k.has_asked t true) (λ d. []) (silent c)
              (rw fit (rw has_none (rw all_free (rw away (rw asked (rw there refl))))))
          waits_on false asked (Some r) there =
              goes_waiting (put k.has_asked t true) (λ d. to_one r (AskRight t ∷ []) d ++ []) (asks_one r)
              (rw fit (rw has_none (rw all_free (rw away (rw asked (rw there refl))))))

        starts_free : (b : Bool) → is_registrar_of line c t ≡ b → Goes reply
        starts_free true is = starts_here is (k.has_right t) refl
        starts_free false is = waits_on is (k.has_asked t) refl (registrar line t) refl

      starts_new : (b : Bool) → all_of (is_free line c k) (covered line place) ≡ b → Goes reply
      starts_new true is = starts_free is (is_registrar_of line c t) refl
      starts_new false is = not_free is

    starts_at : (o : Option centre.Mission) → k.mission t ≡ o → Goes reply
    starts_at None is = starts_new is (all_of (is_free line c k) (covered line place)) refl
    starts_at (Some n) is = restarts n is (all_of (within n.hand) (covered line place)) refl

  pub starts : silence line c (ticked stamp k) m ≡ None → Goes reply
  starts heard = by_place (fit_place line is_valid position) refl
    where
      by_place : (o : Option Place) → fit_place line is_valid position ≡ o → Goes reply
      by_place None is = without_place is
      by_place (Some place) is = starts_at place is (k.mission t) refl
