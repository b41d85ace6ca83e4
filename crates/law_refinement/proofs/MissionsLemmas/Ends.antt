use Rattle.std.proofs.Common.{[], ◌==◌, ◌∙◌, ◌≡◌, ap, Bool, None, Option, option_map, refl, Some, subst, sym, true, ℕ}
use Rattle.std.proofs.lemmas.Option.{same_Some}
use Rattle.std.specs.Option.{option_map_or}
use Rattle.law_base.proofs.RulesLemmas.SentAnswers.{report_leaves}
use Rattle.law_invariants.specs.Flow.Flow.{Flow}
use Rattle.law_invariants.specs.Flow.Leads.{replied, said_by}
use Rattle.law_invariants.specs.Flow.Shows.{Shows}
use Rattle.law_invariants.specs.Flow.Sound.{IsFlowSound}
use Rattle.law_refinement.proofs.MissionsLemmas.Clears.{report_here_keeps}
use Rattle.law_refinement.proofs.MissionsLemmas.Ended.{as_ending, ending_reaches, ending_sets, nothing_ahead}
use Rattle.law_refinement.proofs.MissionsLemmas.Ended.{said_alone, then_state}
use Rattle.law_refinement.proofs.MissionsLemmas.Heard.{Reaches, reaches_then, state_then}
use Rattle.law_refinement.proofs.MissionsLemmas.Reports.{Comes, report_comes, track_is}
use Rattle.law_refinement.proofs.MissionsLemmas.Sets.{Sets}
use Rattle.law_refinement.proofs.MissionsLemmas.Stands.{stand_keeps, standing_words, stands_so, stood, StoodSo}
use Rattle.law_refinement.specs.Missions.Parts.{Answers, ends, own_end}
use Rattle.rbc_spec.proofs.Lists.{put_same}
use Rattle.rbc_spec.proofs.Worlds.{alike_then, then_alike, then_resting}
use Rattle.rbc_spec.specs.Acts.{◌>>◌, Act, Reply, rest, with_mission}
use Rattle.rbc_spec.specs.Centre.{Centre, Mission}
use Rattle.rbc_spec.specs.Line.{is_centre, IsLine, Line}
use Rattle.rbc_spec.specs.LineCentre.{LineMission, LineState, nothing}
use Rattle.rbc_spec.specs.Message.{EndOfMission, TrainMessage}
use Rattle.rbc_spec.specs.OwnSteps.{ended, Ending}
use Rattle.rbc_spec.specs.Place.{Place, place_on, Position}
use Rattle.rbc_spec.specs.Quiet.{both}
use Rattle.rbc_spec.specs.ReadOff.{seen}
use Rattle.rbc_spec.specs.Rules.{report_here, stand_still}
use Rattle.rbc_spec.specs.SectionRuns.{no_run}

module _ (line : Line) (ok : IsLine line) (w : Flow) (sound : IsFlowSound line w) (v : LineState)
    (sees : Shows line w v) (c : ℕ) (to : is_centre line c ≡ true) (t_train t : ℕ) (position : Position)
    (m : Mission) (at : (w.at c).mission t ≡ Some m) where
  abbrev message : TrainMessage
  message = record { t_train = t_train; nid_engine = t; body = EndOfMission position }

  abbrev report : Act
  report = report_here line c t position m

  abbrev stand : Act
  stand = with_mission t (stand_still line c t position)

  abbrev first : Act
  first = report >> stand

  abbrev second : Act
  second = with_mission t (ends line c t)

  abbrev start : Centre
  start = w.at c

  abbrev here : Option Place
  here = place_on line m.place.track position

  abbrev is_still : Bool
  is_still = position.v_train == 0

  -- ## The report

  abbrev mid : Flow
  mid = replied w c (report start)

  done : Comes line ok w sound v sees c t to m at here (report start)
  done = report_comes line ok w sound v sees c t to m at position

  mid_sound : IsFlowSound line (replied w c (report start))
  mid_sound = report_here_keeps line ok w sound v sees c t to m at position

  -- ## At standstill

  -- the effect of the report and of the acts at standstill
  record Both (q : Reply) : Type 0 where
    shown : LineState
    own : Ending line t c is_still here v (said_by q) (ended t shown)
    shows : Shows line (replied w c q) shown
    keeps : IsFlowSound line (replied w c q)
    left : Option Mission
    left_is : q.state.mission t ≡ left
    shown_is : shown.mission t ≡ option_map (seen c) left

  both_said : (a b : Act) → said_by ((a >> b) start) ≡ both (said_by (a start)) (said_by (b (a start).state))
  unfolding ◌>>◌
  both_said a b = refl

  none_stands : done.left ≡ None → Both (first start)
  none_stands gone = record {
    shown = done.mid;
    own = subst (λ x. Ending line t c is_still here v x (ended t done.mid)) (sym (both_said report stand))
        (as_ending line t c v is_still here (said_by (report start)) (said_by (stand (report start).state))
        done.mid done.mid done.own
        (ap said_by resting ∙ ap (λ ws. record { sayings = []; words = ws }) (sym no_more.0))
        (ap (ended t) (sym no_more.1)));
    shows = subst (λ q. Shows line (replied w c q) done.mid) (sym all_resting) done.shows;
    keeps = subst (λ q. IsFlowSound line (replied w c q)) (sym all_resting) mid_sound;
    left = None;
    left_is = ap (λ (q : Reply). q.state.mission t) all_resting ∙ done.left_is ∙ gone;
    shown_is = done.shown_is ∙ ap (option_map (seen c)) gone;
  }
    where
      no_more : (standing_words line t c is_still here done.mid ≡ [])
          × (stood line t c is_still here done.mid ≡ done.mid)
      no_more = nothing_ahead line t c done.mid is_still here (done.none_left gone)

      resting : stand (report start).state ≡ rest (report start).state
      resting =
          ap (λ (o : Option Mission). option_map_or (λ n. stand_still line c t position n (report start).state) o
          (rest (report start).state)) (done.left_is ∙ gone)

      all_resting : first start ≡ report start
      all_resting = then_resting report stand start resting

  some_stands : (n : Mission) → done.left ≡ Some n → Both (first start)
  some_stands n is = subst Both (sym goes_on) (record {
    shown = so.mid;
    own = subst (λ x. Ending line t c is_still here v x (ended t so.mid))
        (sym (both_said report (stand_still line c t position n)))
        (as_ending line t c v is_still here (said_by (report start))
        (said_by (stand_still line c t position n (report start).state)) done.mid so.mid
        done.own so.tells so.mid_is);
    shows = both_reach.shows;
    keeps = both_reach.sound;
    left = Some so.left;
    left_is = left_so;
    shown_is = so.shown_is;
  })
    where
      there : (mid.at c).mission t ≡ Some n
      there = ap (λ (x : Centre). x.mission t) (state_then w c (report start)) ∙ done.left_is ∙ is

      reported_so : (with_mission t (report_here line c t position) start).state.mission t ≡ Some n
      reported_so =
          ap (λ (o : Option Mission).
          (option_map_or (λ x. report_here line c t position x start) o (rest start)).state.mission t) at
          ∙ done.left_is ∙ is

      track : n.place.track ≡ m.place.track
      track = let was = report_leaves line c t position start n reported_so in
          was.2.track ∙ ap (λ (x : Mission). x.place.track) (same_Some was.0 m (sym was.1 ∙ at))

      so_at : StoodSo line ok mid mid_sound done.mid done.shows c t to n there is_still here
          (stand_still line c t position n (mid.at c))
      so_at = subst (λ o. StoodSo line ok mid mid_sound done.mid done.shows c t to n there is_still o
          (stand_still line c t position n (mid.at c))) (ap (λ x. place_on line x position) track)
          (stands_so line ok mid mid_sound done.mid done.shows c t to n there position)

      so : StoodSo line ok mid mid_sound done.mid done.shows c t to n there is_still here
          (stand_still line c t position n (report start).state)
      so = subst (λ (x : Centre). StoodSo line ok mid mid_sound done.mid done.shows c t to n there is_still here
          (stand_still line c t position n x)) (state_then w c (report start)) so_at

      sound_so : IsFlowSound line (replied mid c (stand_still line c t position n (report start).state))
      sound_so = subst (λ (x : Centre). IsFlowSound line (replied mid c (stand_still line c t position n x)))
          (state_then w c (report start))
          (stand_keeps line ok mid mid_sound done.mid done.shows c t to n there position)

      both_reach : Reaches line w c ((report >> stand_still line c t position n) start) so.mid
      both_reach = reaches_then line w c report (stand_still line c t position n) start so.mid
          (record { shows = so.shows; sound = sound_so })

      left_so : ((report >> stand_still line c t position n) start).state.mission t ≡ Some so.left
      left_so = state_of (stand_still line c t position n) ∙ so.left_is
        where
          state_of : (b : Act) → ((report >> b) start).state.mission t ≡ (b (report start).state).state.mission t
          state_of b = ap (λ (x : Centre). x.mission t) (then_state report b start)

      goes_on : first start ≡ (report >> stand_still line c t position n) start
      goes_on = then_alike report stand (stand_still line c t position n) start
          (ap (λ (o : Option Mission). option_map_or (λ x. stand_still line c t position x (report start).state) o
          (rest (report start).state)) (done.left_is ∙ is))

  by_report : (o : Option Mission) → done.left ≡ o → Both (first start)
  by_report None gone = none_stands gone
  by_report (Some n) is = some_stands n is

  stands : Both (first start)
  stands = by_report done.left refl

  -- ## The mission is ended

  abbrev after : Flow
  after = replied w c (first start)

  -- the effect of the last act
  record Last (q : Reply) : Type 0 where
    silent : said_by q ≡ nothing
    reaches : Reaches line after c q (ended t stands.shown)

  rest_after : stands.left ≡ None → Reaches line w c ((first >> second) start) (ended t stands.shown)
  rest_after none = subst (λ q. Reaches line w c q (ended t stands.shown)) (sym resting)
      (subst (Reaches line w c (first start))
      (λ i. record stands.shown {
        mission = λ u. sym (put_same t (option_map ends_so (stands.shown.mission t)) stands.shown.mission no_more u)
            i;
      }) (record { shows = stands.shows; sound = stands.keeps }))
    where
      ends_so : LineMission → LineMission
      ends_so n = record n { is_ended = true; proposal = None }

      resting : (first >> second) start ≡ first start
      resting =
          then_resting first second start
          (ap (λ (o : Option Mission). option_map_or (λ n. ends line c t n (first start).state) o
          (rest (first start).state)) (stands.left_is ∙ none))

      shown_none : stands.shown.mission t ≡ None
      shown_none = stands.shown_is ∙ ap (option_map (seen c)) none

      no_more : stands.shown.mission t ≡ option_map ends_so (stands.shown.mission t)
      no_more = shown_none ∙ sym (ap (option_map ends_so) shown_none)

  some_after : (n : Mission) → stands.left ≡ Some n → Last (ends line c t n (first start).state)
  some_after n is = subst (λ (x : Centre). Last (ends line c t n x)) (state_then w c (first start)) (record {
    silent = λ i. record { sayings = sets.sayings i; words = sets.words i };
    reaches = ending_reaches line ok after stands.keeps stands.shown stands.shows c t to n there;
  })
    where
      there : (after.at c).mission t ≡ Some n
      there = ap (λ (x : Centre). x.mission t) (state_then w c (first start)) ∙ stands.left_is ∙ is

      sets : Sets c t (Some (record n { pool = no_run; is_ended = true; proposal = None })) (after.at c)
          (ends line c t n (after.at c))
      sets = ending_sets line ok after stands.keeps stands.shown stands.shows c t to n there

  answers_as : (q : Reply) → said_by q ≡ said_by (first start) → Reaches line w c q (ended t stands.shown)
      → Answers line w c message q v
  answers_as q same reaches = record {
    mid = ended t stands.shown;
    own = subst (λ o. Ending line t c is_still o v (said_by q) (ended t stands.shown))
        (sym (track_is line ok w sound v sees c t to m at position))
        (subst (λ said. Ending line t c is_still here v said (ended t stands.shown)) (sym same) stands.own);
    shows = reaches.shows;
    sound = reaches.sound;
  }

  by_left : (o : Option Mission) → stands.left ≡ o → Answers line w c message ((first >> second) start) v
  by_left None none = answers_as ((first >> second) start)
      (ap said_by
      (then_resting first second start
      (ap (λ (o : Option Mission). option_map_or (λ n. ends line c t n (first start).state) o
      (rest (first start).state)) (stands.left_is ∙ none))))
      (rest_after none)
  by_left (Some n) is = subst (λ q. Answers line w c message q v) (sym goes_on)
      (answers_as ((first >> ends line c t n) start) (said_alone first (ends line c t n) start (some_after n is).silent)
      (reaches_then line w c first (ends line c t n) start (ended t stands.shown) (some_after n is).reaches))
    where
      goes_on : (first >> second) start ≡ (first >> ends line c t n) start
      goes_on = then_alike first second (ends line c t n) start
          (ap (λ (o : Option Mission). option_map_or (λ x. ends line c t x (first start).state) o
          (rest (first start).state)) (stands.left_is ∙ is))

  pub end_answers : Answers line w c message (own_end line c t position (w.at c)) v
  end_answers = subst (λ q. Answers line w c message q v)
      (sym (alike_then (with_mission t (report_here line c t position) >> stand) first second start
      (alike_then (with_mission t (report_here line c t position)) report stand start
      (ap (λ (o : Option Mission). option_map_or (λ n. report_here line c t position n start) o (rest start)) at))))
      (by_left stands.left refl)
