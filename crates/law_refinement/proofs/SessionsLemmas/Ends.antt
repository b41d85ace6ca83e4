-- Sessions that begin and end: pending things end with them.
use Rattle.std.proofs.Common.{[], ◌&&◌, ◌++◌, ◌+◌, ◌<◌, ◌==◌, ◌∙◌, ◌∷◌, ◌≡◌, ap, append-nil, arith, Bool, false}
use Rattle.std.proofs.Common.{if◌then◌else◌, List, map, None, not, Option, option_map, refl, Some, subst, sym, true, ℕ}
use Rattle.std.proofs.lemmas.Bool.{and_parts}
use Rattle.std.proofs.lemmas.Option.{slice_get_within}
use Rattle.std.specs.List.{filter, range_with_len}
use Rattle.law_base.proofs.CountingLemmas.Sums.{one_if_some, one_if_true}
use Rattle.law_base.specs.Counting.Network.{acted}
use Rattle.law_base.specs.Local.Local.{hand_has}
use Rattle.law_invariants.specs.Flow.Counts.{wait_has}
use Rattle.law_invariants.specs.Flow.Flow.{Flow}
use Rattle.law_invariants.specs.Flow.Keeping.{nothing_came}
use Rattle.law_invariants.specs.Flow.Leads.{one_message, said_by}
use Rattle.law_invariants.specs.Flow.Shows.{Shows}
use Rattle.law_invariants.specs.Flow.Sound.{IsFlowSound}
use Rattle.law_refinement.proofs.AbstractionLemmas.Shows.{opened, part_changes, shows_after, shut}
use Rattle.law_refinement.proofs.SessionsLemmas.Changes.{act, hand_changes, heard_alone, mark_same, mission_changes}
use Rattle.law_refinement.proofs.SessionsLemmas.Changes.{mission_same, none_here, one_said, silent}
use Rattle.law_refinement.specs.Abstraction.After.{MarkAfter, MissionAfter}
use Rattle.law_refinement.specs.Sessions.Heard.{LeadsAlone, message}
use Rattle.rbc_spec.proofs.Lists.{filter-none, itself, put_over, put_same}
use Rattle.rbc_spec.proofs.Runs.{filter_run}
use Rattle.rbc_spec.specs.Acts.{◌>>◌, Reply}
use Rattle.rbc_spec.specs.Centre as centre
use Rattle.rbc_spec.specs.Centre.{Centre, Closed, is_taken_for, Opened, Phase}
use Rattle.rbc_spec.specs.Line.{is_centre, is_home, Line, Section, section}
use Rattle.rbc_spec.specs.LineCentre as line_centre
use Rattle.rbc_spec.specs.LineCentre.{hears, is_waiting_at, LineMission, LineState, says, told}
use Rattle.rbc_spec.specs.Maps.{has, put}
use Rattle.rbc_spec.specs.Message.{InitiationOfSession, SystemVersion, TerminationAcknowledged, TerminationOfSession}
use Rattle.rbc_spec.specs.Message.{TrackBody, TrainBody, TrainMessage, unknown_group}
use Rattle.rbc_spec.specs.Outcome.{Told, Word}
use Rattle.rbc_spec.specs.OwnSteps.{Says, session_ends, with_phase, without_proposal}
use Rattle.rbc_spec.specs.Place.{covered, Place}
use Rattle.rbc_spec.specs.ReadOff.{seen}
use Rattle.rbc_spec.specs.SectionRuns.{within}
use Rattle.rbc_spec.specs.Sections.{section_count}
use Rattle.rbc_spec.specs.Step.{hear_and_answer, ticked}

home_below : (line : Line) (c s : ℕ) → is_home line c s ≡ true → s < section_count line
home_below line c s home = by_section (section line s) refl home
  where
    by_section : (o : Option Section) → section line s ≡ o → has (λ p. p.home == c) o ≡ true → s < section_count line
    by_section None is h = cc
    by_section (Some p) is h = slice_get_within line.sections s p is

module _ (line : Line) (w : Flow) (v : LineState) (sound : IsFlowSound line w) (sees : Shows line w v) (c t : ℕ)
    (at : is_centre line c ≡ true) where
  abbrev k : Centre
  k = w.at c

  -- the sections of a start that waits are of its home
  pub waited_home : (s : ℕ) → is_waiting_at line v t c s ≡ true → is_home line c s ≡ true
  waited_home s is =
      (sound.centres c at).wait_home t s (ap (λ (o : Option Place). has (λ p. within (covered line p) s) o)
      (sym (sees.wait t c)) ∙ is)

  none_waits : k.wait t ≡ None → (s : ℕ) → is_waiting_at line v t c s ≡ false
  none_waits none s = ap (λ (o : Option Place). has (λ p. within (covered line p) s) o) (sees.wait t c ∙ none)

  not_waited : (s : ℕ) → is_home line c s ≡ false → is_waiting_at line v t c s ≡ false
  not_waited s away = by_wait (is_waiting_at line v t c s) refl
    where
      by_wait : (b : Bool) → is_waiting_at line v t c s ≡ b → is_waiting_at line v t c s ≡ false
      by_wait true is = absurd (let wrong : false ≡ true = sym away ∙ waited_home s is in cc)
      by_wait false is = is

  -- the centre after a session that ended, if these sections are given back
  pub record IsEnded (y : Centre) (is_freed : ℕ → Bool) (phase : Phase) (t_train : ℕ) : Type 0 where
    pub freed : (s : ℕ) → is_freed s ≡ is_waiting_at line v t c s
    pub book : (s : ℕ) → y.book s ≡ (if is_freed s then (if k.wish s then centre.Shut else centre.Open) else k.book s)
    pub wish : (s : ℕ) → y.wish s ≡ (not (is_freed s) && k.wish s)
    pub phase_is : (u : ℕ) → y.phase u ≡ put k.phase t phase u
    pub heard : (u : ℕ) → y.heard u ≡ put k.heard t (Some t_train) u
    pub said : (u : ℕ) → y.said u ≡ put k.said t (k.said t + 1) u
    pub wait : (u : ℕ) → y.wait u ≡ put k.wait t None u
    pub mission : (u : ℕ)
        → y.mission u
        ≡ put k.mission t (option_map (λ (m : centre.Mission). record m { proposal = None }) (k.mission t)) u

  module _ (y : Centre) (is_freed : ℕ → Bool) (phase : Phase) (t_train : ℕ) (body : TrainBody)
      (is : IsEnded y is_freed phase t_train) where
    abbrev after : LineState
    after = says t c (with_phase t c phase (session_ends line t c (hears c (message t_train t body) v)))

    abbrev new : Flow
    new = acted w c y (λ d. [])

    missions_end : (o : Option centre.Mission) → k.mission t ≡ o → (u : ℕ)
        → MissionAfter line w c nothing_came y (λ d. []) u (v.mission u) (after.mission u)
    missions_end (Some m) has u = mission_changes line w v sound sees c at y (λ d. []) (silent c) t m has
        (λ n. record n { proposal = None }) (without_proposal c) is.mission
        (rw (itself c) refl) refl u
    missions_end None has u = subst (MissionAfter line w c nothing_came y (λ d. []) u (v.mission u)) (sym line_same)
        (mission_same line w v sound sees c at y (λ d. []) (silent c) u (ap (option_map (seen c)) centre_same))
      where
        centre_same : y.mission u ≡ k.mission u
        centre_same = is.mission u
            ∙ put_same t (option_map (λ (m : centre.Mission). record m { proposal = None }) (k.mission t)) k.mission
            (has ∙ sym (ap (option_map (λ (m : centre.Mission). record m { proposal = None })) has)) u

        by_mission : (o : Option LineMission) → v.mission t ≡ o → option_map (without_proposal c) o ≡ o
        by_mission None there = refl
        by_mission (Some n) there = rw (none_here line w v sound sees c t n has there) refl

        line_same : after.mission u ≡ v.mission u
        line_same = put_same t (option_map (without_proposal c) (v.mission t)) v.mission
            (sym (by_mission (v.mission t) refl)) u

    hands_stay : (o : Option centre.Mission) → k.mission t ≡ o → (u s : ℕ)
        → hand_has (y.mission u) s ≡ hand_has (k.mission u) s
    hands_stay (Some m) has u s = hand_changes line w v sound sees c at y (λ d. []) (silent c) t m has
        (λ n. record n { proposal = None }) (without_proposal c) is.mission
        (rw (itself c) refl) refl u s
    hands_stay None has u s = ap (λ (o : Option centre.Mission). hand_has o s) (is.mission u
        ∙ put_same t (option_map (λ (m : centre.Mission). record m { proposal = None }) (k.mission t)) k.mission
        (has ∙ sym (ap (option_map (λ (m : centre.Mission). record m { proposal = None })) has)) u)

    marks : (s d : ℕ) → is_home line d s ≡ true → (b x : Bool) → is_freed s ≡ b → k.wish s ≡ x
        → MarkAfter line w new s d (v.mark s) (after.mark s)
    marks s d home true true frees wished =
        let waits : is_waiting_at line v t c s ≡ true = sym (is.freed s) ∙ frees in
        let here = waited_home s waits in
        let shown : after.mark s ≡ line_centre.Shut = rw (waits, sees.wish s c here ∙ wished) refl in
        subst (MarkAfter line w new s d (v.mark s)) (sym shown)
        (shut line w c nothing_came y (λ e. []) new s d (act line w v sound sees c at y (λ e. []) (silent c)) home
        (v.mark s) here (is.book s ∙ rw (frees, wished) refl))
    marks s d home true false frees wished =
        let waits : is_waiting_at line v t c s ≡ true = sym (is.freed s) ∙ frees in
        let here = waited_home s waits in
        let shown : after.mark s ≡ line_centre.Open = rw (waits, sees.wish s c here ∙ wished) refl in
        subst (MarkAfter line w new s d (v.mark s)) (sym shown)
        (opened line w c nothing_came y (λ e. []) new s d (act line w v sound sees c at y (λ e. []) (silent c)) home
        (v.mark s) here (is.book s ∙ rw (frees, wished) refl))
    marks s d home false x frees wished =
        let waits : is_waiting_at line v t c s ≡ false = sym (is.freed s) ∙ frees in
        let shown : after.mark s ≡ v.mark s = rw waits refl in
        subst (MarkAfter line w new s d (v.mark s)) (sym shown)
        (mark_same line w v sound sees c at y (λ e. []) (silent c) s d (v.mark s) (is.book s ∙ rw frees refl)
        (λ u. hands_stay (k.mission t) refl u s))

    wish_ends : (s : ℕ) → is_home line c s ≡ true → after.wish s ≡ y.wish s
    wish_ends s home = ap (λ b. not b && v.wish s) (sym (is.freed s))
        ∙ ap (λ b. not (is_freed s) && b) (sees.wish s c home) ∙ sym (is.wish s)

    pub shows_end : Shows line new after
    shows_end = shows_after line w c nothing_came y (λ d. []) new v after sound sees at
        (act line w v sound sees c at y (λ d. []) (silent c)) (record {
          phase = part_changes Phase c t phase v.phase k.phase y.phase (λ u. sees.phase u c) is.phase_is;
          heard = part_changes (Option ℕ) c t (Some t_train) v.heard k.heard y.heard (λ u. sees.heard u c) is.heard;
          said = part_changes ℕ c t (v.said t c + 1) v.said k.said y.said (λ u. sees.said u c) (λ u. is.said u
              ∙ ap (λ n. put k.said t (n + 1) u) (sym (sees.said t c)));
          wait = part_changes (Option Place) c t None v.wait k.wait y.wait (λ u. sees.wait u c) is.wait;
          wish = wish_ends;
          other_wish = λ s away. ap (λ b. not b && v.wish s) (not_waited s away);
          mark = λ s d home. marks s d home (is_freed s) (k.wish s) refl refl;
          no_section =
              λ s none. ap (λ b. if b then (if v.wish s then line_centre.Shut else line_centre.Open) else v.mark s)
              (not_waited s (ap (has (λ p. p.home == c)) none));
          mission = missions_end (k.mission t) refl;
        })

  -- ## The acts of the centre

  module _ (place : Place) (waits : k.wait t ≡ Some place) where
    waits_there : (s : ℕ) → is_waiting_at line v t c s ≡ within (covered line place) s
    waits_there s = ap (λ (o : Option Place). has (λ p. within (covered line p) s) o) (sees.wait t c ∙ waits)

    abbrev is_given_back : ℕ → Bool
    is_given_back s = (within (covered line place) s && is_home line c s) && is_taken_for t (k.book s)

    given_back : (s : ℕ) → is_given_back s ≡ is_waiting_at line v t c s
    given_back s = by_cover (within (covered line place) s) refl
      where
        by_cover : (b : Bool) → within (covered line place) s ≡ b → is_given_back s ≡ is_waiting_at line v t c s
        by_cover true is =
            let there : is_waiting_at line v t c s ≡ true = waits_there s ∙ is in
            let held : wait_has line (k.wait t) s ≡ true = ap (λ (o : Option Place). wait_has line o s) waits ∙ is in
            let home = waited_home s there in
            let taken : is_taken_for t (k.book s) ≡ true =
            one_if_some (is_taken_for t (k.book s))
            (omega (arith, (sound.centres c at).claims s t home, one_if_true _ held)) in
            rw (is, home, taken) (sym there)
        by_cover false is = rw is (sym (waits_there s ∙ is))

    -- the same sections are reported
    same_told : map (λ s. Told s) (filter (λ s. is_given_back s && k.wish s)
        (range_with_len (covered line place).first (covered line place).count)) ≡ told line (is_waiting_at line v t c) v
    same_told =
        ap (λ (test : ℕ → Bool). map (λ s. Told s)
        (filter test (range_with_len (covered line place).first (covered line place).count)))
        (λ i s. wished_back s (is_given_back s) refl i)
        ∙ ap (map (λ s. Told s))
        (sym (filter_run (λ s. is_waiting_at line v t c s && v.wish s) (covered line place) (section_count line)
        (λ s is. sym (waits_there s) ∙ (and_parts (is_waiting_at line v t c s) (v.wish s) is).0)
        (λ s is. home_below line c s (waited_home s (waits_there s ∙ is)))))
      where
        wished_back : (s : ℕ) (b : Bool) → is_given_back s ≡ b
            → (is_given_back s && k.wish s) ≡ (is_waiting_at line v t c s && v.wish s)
        wished_back s true is =
            let there : is_waiting_at line v t c s ≡ true = sym (given_back s) ∙ is in
            ap (λ b. b && k.wish s) is ∙ sym (sees.wish s c (waited_home s there)) ∙ sym (ap (λ b. b && v.wish s) there)
        wished_back s false is = ap (λ b. b && k.wish s) is ∙ sym (ap (λ b. b && v.wish s) (sym (given_back s) ∙ is))

  -- ## The message

  module _ (t_train : ℕ) where
    abbrev m : TrainBody → TrainMessage
    m body = message t_train t body

    -- the last message of the centre
    abbrev answer : Centre → TrackBody → List Word → Reply
    answer y body words = record {
      state = y;
      frames = λ d. [];
      sayings =
          record { nid_engine = t; message = record { t_train = k.said t + 1; nid_lrbg = unknown_group; body = body } }
          ∷ [];
      words = words;
    }

    says_end : (y : Centre) (is_freed : ℕ → Bool) (phase : Phase) (body : TrainBody) (track_body : TrackBody)
        (words : List Word) → IsEnded y is_freed phase t_train
        → words ≡ told line (is_waiting_at line v t c) v
        → Says t c unknown_group track_body (told line (is_waiting_at line v t c) v) (hears c (m body) v)
        (with_phase t c phase (session_ends line t c (hears c (m body) v)))
        (said_by (answer y track_body words))
        (says t c (with_phase t c phase (session_ends line t c (hears c (m body) v))))
    says_end y is_freed phase body track_body words is same = record {
      said_is = one_said line w v c t unknown_group track_body words sees
          ∙ ap (λ (x : List Word). one_message t c unknown_group track_body x v) same;
      new_is = refl;
    }

    opens : (y : Centre) (is_freed : ℕ → Bool) (words : List Word) → IsEnded y is_freed Opened t_train
        → words ≡ told line (is_waiting_at line v t c) v
        → LeadsAlone line w c (m InitiationOfSession) (answer y SystemVersion words) v
    opens y is_freed words is same = heard_alone line w c (m InitiationOfSession) v (answer y SystemVersion words)
        (after y is_freed Opened t_train InitiationOfSession is)
        (says_end y is_freed Opened InitiationOfSession SystemVersion words is same)
        (shows_end y is_freed Opened t_train InitiationOfSession is)

    closes : (y : Centre) (is_freed : ℕ → Bool) (words : List Word) → IsEnded y is_freed Closed t_train
        → words ≡ told line (is_waiting_at line v t c) v
        → LeadsAlone line w c (m TerminationOfSession) (answer y TerminationAcknowledged words) v
    closes y is_freed words is same = heard_alone line w c (m TerminationOfSession) v
        (answer y TerminationAcknowledged words) (after y is_freed Closed t_train TerminationOfSession is)
        (says_end y is_freed Closed TerminationOfSession TerminationAcknowledged words is same)
        (shows_end y is_freed Closed t_train TerminationOfSession is)

    none_told : k.wait t ≡ None → told line (is_waiting_at line v t c) v ≡ []
    none_told none = ap (λ (test : ℕ → Bool). map (λ s. Told s) (filter test (range_with_len 0 (section_count line))))
        (λ i s. ap (λ b. b && v.wish s) (none_waits none s) i)
        ∙ ap (map (λ s. Told s)) (filter-none (range_with_len 0 (section_count line)))

    module _ (stamp : ℕ) where
      abbrev reply : TrainBody → Reply
      reply body = hear_and_answer line c (m body) (ticked stamp k)

      -- no start waits
      abbrev left : (ℕ → Phase) → Centre
      left phases = record (ticked stamp k) {
        heard = put k.heard t (Some t_train);
        phase = phases;
        mission = put k.mission t (option_map (λ (n : centre.Mission). record n { proposal = None }) (k.mission t));
        said = put k.said t (k.said t + 1);
      }

      is_left : k.wait t ≡ None → (phases : ℕ → Phase) (phase : Phase) → ((u : ℕ) → phases u ≡ put k.phase t phase u)
          → IsEnded (left phases) (λ s. false) phase t_train
      is_left none phases phase same = record {
        freed = λ s. sym (none_waits none s);
        book = λ s. refl;
        wish = λ s. refl;
        phase_is = same;
        heard = λ u. refl;
        said = λ u. refl;
        wait = λ u. sym (put_same t None k.wait none u);
        mission = λ u. refl;
      }

      -- a start that waits is dropped
      module _ (place : Place) (waits : k.wait t ≡ Some place) where
        abbrev freed_words : List Word
        freed_words =
            map (λ s. Told s) (filter (λ s. is_given_back place waits s && k.wish s)
            (range_with_len (covered line place).first (covered line place).count))

        -- as the acts have them, in order
        abbrev closing_words : List Word
        closing_words = (freed_words ++ []) ++ []

        abbrev opening_words : List Word
        opening_words = closing_words ++ []

        abbrev dropped : (ℕ → Phase) → Centre
        dropped phases = record (left phases) {
          book = λ s. if is_given_back place waits s then (if k.wish s then centre.Shut else centre.Open) else k.book s;
          wish = λ s. not (is_given_back place waits s) && k.wish s;
          wait = put k.wait t None;
        }

        is_dropped : (phases : ℕ → Phase) (phase : Phase) → ((u : ℕ) → phases u ≡ put k.phase t phase u)
            → IsEnded (dropped phases) (is_given_back place waits) phase t_train
        is_dropped phases phase same = record {
          freed = given_back place waits;
          book = λ s. refl;
          wish = λ s. refl;
          phase_is = same;
          heard = λ u. refl;
          said = λ u. refl;
          wait = λ u. refl;
          mission = λ u. refl;
        }

      pub begins : LeadsAlone line w c (m InitiationOfSession) (reply InitiationOfSession) v
      unfolding ◌>>◌
      begins = by_wait (k.wait t) refl
        where
          by_wait : (o : Option Place) → k.wait t ≡ o
              → LeadsAlone line w c (m InitiationOfSession) (reply InitiationOfSession) v
          by_wait None none =
              let is : reply InitiationOfSession ≡ answer (left (put (put k.phase t Closed) t Opened))
              SystemVersion [] = rw none refl in
              subst (λ (r : Reply). LeadsAlone line w c (m InitiationOfSession) r v) (sym is)
              (opens (left (put (put k.phase t Closed) t Opened)) (λ s. false) []
              (is_left none _ Opened (put_over t Opened Closed k.phase)) (sym (none_told none)))
          by_wait (Some place) waits =
              let is : reply InitiationOfSession ≡ answer (dropped place waits (put (put k.phase t Closed) t Opened))
              SystemVersion (opening_words place waits) = rw waits refl in
              subst (λ (r : Reply). LeadsAlone line w c (m InitiationOfSession) r v) (sym is)
              (opens (dropped place waits (put (put k.phase t Closed) t Opened)) (is_given_back place waits)
              (opening_words place waits) (is_dropped place waits _ Opened (put_over t Opened Closed k.phase))
              (append-nil ((freed_words place waits ++ []) ++ []) ∙ append-nil (freed_words place waits ++ [])
              ∙ append-nil (freed_words place waits) ∙ same_told place waits))

      pub ends : LeadsAlone line w c (m TerminationOfSession) (reply TerminationOfSession) v
      unfolding ◌>>◌
      ends = by_wait (k.wait t) refl
        where
          by_wait : (o : Option Place) → k.wait t ≡ o
              → LeadsAlone line w c (m TerminationOfSession) (reply TerminationOfSession) v
          by_wait None none =
              let is : reply TerminationOfSession ≡ answer (left (put k.phase t Closed)) TerminationAcknowledged [] =
              rw none refl in
              subst (λ (r : Reply). LeadsAlone line w c (m TerminationOfSession) r v) (sym is)
              (closes (left (put k.phase t Closed)) (λ s. false) [] (is_left none _ Closed (λ u. refl))
              (sym (none_told none)))
          by_wait (Some place) waits =
              let is : reply TerminationOfSession ≡ answer (dropped place waits (put k.phase t Closed))
              TerminationAcknowledged (closing_words place waits) = rw waits refl in
              subst (λ (r : Reply). LeadsAlone line w c (m TerminationOfSession) r v) (sym is)
              (closes (dropped place waits (put k.phase t Closed)) (is_given_back place waits)
              (closing_words place waits) (is_dropped place waits _ Closed (λ u. refl))
              (append-nil (freed_words place waits ++ []) ∙ append-nil (freed_words place waits)
              ∙ same_told place waits))
