-- A position report, of a train that is supervised here or not: the centre's acts are the own step of the one line
-- centre.
use Rattle.std.proofs.Common.{[], ◌&&◌, ◌<◌, ◌==◌, ◌∙◌, ◌∷◌, ◌≡◌, ap, arith, Bool, eqb-true, false, if◌then◌else◌}
use Rattle.std.proofs.Common.{is_some, None, not, Option, option_map, refl, Some, subst, suc, sym, true, zero, ℕ}
use Rattle.std.proofs.lemmas.Bool.{ne_eqb}
use Rattle.std.proofs.lemmas.List.Elements.{All-contains}
use Rattle.std.specs.Option.{option_map_or}
use Rattle.std.specs.Prelude.{Contains, MatchBool}
use Rattle.law_base.proofs.CountingLemmas.Places.{placed_parts}
use Rattle.law_base.proofs.CountingLemmas.Resource.{carried_more, carried_none}
use Rattle.law_base.proofs.CountingLemmas.Sums.{links_some, one_if_some, sum_some}
use Rattle.law_base.specs.Counting.Network.{way}
use Rattle.law_base.specs.Counting.Resource.{carried, placed, Resource}
use Rattle.law_base.specs.Counting.Sums.{sum_below}
use Rattle.law_invariants.proofs.FlowLemmas.Seats.{carried_some}
use Rattle.law_invariants.proofs.HandoverLemmas.Taking.{goes_take_over}
use Rattle.law_invariants.proofs.NoCopyLemmas.Messages.{fair_take_over}
use Rattle.law_invariants.proofs.SoundLemmas.Reports.{take_over_sound}
use Rattle.law_invariants.specs.Flow.Counts.{hands, missions, yield_inside}
use Rattle.law_invariants.specs.Flow.Flow.{centre_count, Flow}
use Rattle.law_invariants.specs.Flow.Keeping.{nothing_came}
use Rattle.law_invariants.specs.Flow.Leads.{replied, Reports, said_by}
use Rattle.law_invariants.specs.Flow.Shows.{parted, Shows}
use Rattle.law_invariants.specs.Flow.Sound.{IsBodySound, IsFlowSound, IsYieldSound}
use Rattle.law_refinement.proofs.AbstractionLemmas.Shows.{by_itself, part_stays, unseen_shown}
use Rattle.law_refinement.proofs.MissionsLemmas.Clears.{clears, report_here_keeps}
use Rattle.law_refinement.proofs.MissionsLemmas.Heard.{act_sound}
use Rattle.law_refinement.proofs.MissionsLemmas.Leaves.{kept_shown}
use Rattle.law_refinement.proofs.MissionsLemmas.Sets.{Sets, sets_rest}
use Rattle.law_refinement.specs.Missions.Parts.{Answers, own_report}
use Rattle.rbc_spec.proofs.Lists.{itself, put_same}
use Rattle.rbc_spec.specs.Acts.{Reply, rest}
use Rattle.rbc_spec.specs.Centre as centre
use Rattle.rbc_spec.specs.Centre.{Centre, Expectation, Mission}
use Rattle.rbc_spec.specs.Frame.{Body, TakingOver, Yield, yielded_place}
use Rattle.rbc_spec.specs.Line.{is_centre, IsLine, Line}
use Rattle.rbc_spec.specs.LineCentre.{is_at, is_given_to, LineMission, LineState, nothing, supervises}
use Rattle.rbc_spec.specs.Maps.{has}
use Rattle.rbc_spec.specs.Message.{Report, TrainMessage}
use Rattle.rbc_spec.specs.OwnSteps.{reported, SaysNothing, track_of}
use Rattle.rbc_spec.specs.Place.{Place, place_on, Position}
use Rattle.rbc_spec.specs.ReadOff.{seen}
use Rattle.rbc_spec.specs.Rules.{clear, report_here, take_over}

module _ (line : Line) (ok : IsLine line) (w : Flow) (sound : IsFlowSound line w) (v : LineState)
    (sees : Shows line w v) (c t : ℕ) (to : is_centre line c ≡ true) where
  abbrev k : Centre
  k = w.at c

  -- ## A train that is supervised here

  module _ (m : Mission) (at : (w.at c).mission t ≡ Some m) where
    pub track_is : (position : Position) → place_on line (track_of v t) position ≡ place_on line m.place.track position
    track_is position = ap (λ (o : Option LineMission). place_on line (option_map_or (λ n. n.place.track) o 0) position)
        (sees.mission t c m at)

    pub supervised_here : supervises v c t ≡ true
    supervised_here = ap (has (λ (n : LineMission). is_at c n.supervisor)) (sees.mission t c m at) ∙ itself c

    -- an act that does nothing shows nothing else
    pub rest_shown : Shows line (replied w c (rest k)) v
    rest_shown = subst (Shows line (replied w c (rest k)))
        (λ i. record v { mission = λ u. put_same t (Some (seen c m)) v.mission (sees.mission t c m at) u i })
        (kept_shown line w sound v sees c t to m at m (rest k) refl
        (subst (λ o. Sets c t o k (rest k)) at (sets_rest c t k)))

    -- the effect of the report, as the line has it
    pub record Comes (o : Option Place) (q : Reply) : Type 0 where
      pub mid : LineState
      pub own : Reports line t c o v (said_by q) mid
      pub shows : Shows line (replied w c q) mid
      pub left : Option Mission
      pub left_is : q.state.mission t ≡ left
      pub shown_is : mid.mission t ≡ option_map (seen c) left
      pub none_left : left ≡ None → (place : Place) → o ≡ Some place → (s : ℕ) → is_given_to t (mid.mark s) ≡ false

    pub report_comes : (position : Position)
        → Comes (place_on line m.place.track position) (report_here line c t position m k)
    report_comes position = by_place (place_on line m.place.track position)
      where
        by_place : (o : Option Place) → Comes o (option_map_or (clear line c t m) o rest k)
        by_place None =
            record {
              mid = v;
              own = record { said_is = refl; new_is = refl };
              shows = rest_shown;
              left = Some m;
              left_is = at;
              shown_is = sees.mission t c m at;
              none_left = λ gone. cc;
            }
        by_place (Some place) = let done = clears line ok w sound v sees c t to m at place in
            record {
              mid = reported line t c place v;
              own = record { said_is = done.tells; new_is = refl };
              shows = done.shows;
              left = done.left;
              left_is = done.left_is;
              shown_is = done.shown_is;
              none_left =
                  λ gone x here. done.none_left gone;
            }

  -- ## A train that is not

  module _ (none : (w.at c).mission t ≡ None) where
    -- the shown mission of a train is at a centre that has it, or on the way
    elsewhere : (n : LineMission) → v.mission t ≡ Some n → is_at c n.supervisor ≡ false
    elsewhere n is = by_count (placed (missions t) (centre_count line) w) refl
      where
        same_as : (x : LineMission) → v.mission t ≡ Some x → is_at c x.supervisor ≡ false → is_at c n.supervisor ≡ false
        same_as x this away = let same : ◌≡◌ {A = Option LineMission} (Some x) (Some n) = sym this ∙ is in
            let one : x ≡ n = cc in ap (λ (z : LineMission). is_at c z.supervisor) (sym one) ∙ away

        at_centre : (d : ℕ) (o : Option Mission) → (w.at d).mission t ≡ o → is_some o ≡ true
            → is_at c n.supervisor ≡ false
        at_centre d None here some = cc
        at_centre d (Some x) here some = same_as (seen d x) (sees.mission t d x here)
            (ne_eqb d c (λ same. let wrong : ◌≡◌ {A = Option Mission} None (Some x) = sym none
            ∙ ap (λ z. (w.at z).mission t) (sym same) ∙ here in cc))

        on_way : (a b : ℕ) (f : Body) → Contains (way w a b) f → 0 < yield_inside t f → is_at c n.supervisor ≡ false
        on_way a b (Yield h u heard has_data is_ended place hand) there some =
            let same = eqb-true u t (one_if_some (u == t) some) in
            let fits : IsYieldSound line a b u place hand =
            All-contains (IsBodySound line a b) (way w a b) (Yield h u heard has_data is_ended place hand)
            (sound.bodies.each a b) there in
            let of_t : Yield h u heard has_data is_ended place hand
            ≡ Yield h t heard has_data is_ended (yielded_place fits.place) hand =
            ap (λ x. Yield h x heard has_data is_ended place hand) same
            ∙ ap (λ p. Yield h t heard has_data is_ended p hand) fits.is_carried in
            same_as (parted heard has_data is_ended fits.place)
            (sees.on_way a b h t heard has_data is_ended fits.place hand (subst (Contains (way w a b)) of_t there))
            refl
        on_way a b f there some = absurd (let no : ⊥ = omega (arith, some) in no)

        by_centres : 0 < placed (missions t) (centre_count line) w → (i : ℕ)
            → sum_below (centre_count line) (λ d. (missions t).held d (w.at d)) ≡ i → is_at c n.supervisor ≡ false
        by_centres some zero nowhere =
            let link = links_some (centre_count line) (λ a b. carried (missions t) a b (way w a b))
            (omega (arith, nowhere, some, placed_parts (missions t) (centre_count line) w)) in
            let body = carried_some (missions t) link.0 link.1 (way w link.0 link.1) link.4 in
            on_way link.0 link.1 body.0 body.1 body.2
        by_centres some (suc i) somewhere =
            let who = sum_some (centre_count line) (λ d. (missions t).held d (w.at d)) (omega (arith, somewhere)) in
            at_centre who.0 ((w.at who.0).mission t) refl (one_if_some _ who.2)

        by_count : (i : ℕ) → placed (missions t) (centre_count line) w ≡ i → is_at c n.supervisor ≡ false
        by_count zero nowhere =
            absurd (let wrong : ◌≡◌ {A = Option LineMission} None (Some n) = sym (sees.no_mission t nowhere) ∙ is in cc)
        by_count (suc i) some =
            by_centres (omega (arith, some)) (sum_below (centre_count line) (λ d. (missions t).held d (w.at d))) refl

    pub unsupervised : supervises v c t ≡ false
    unsupervised = by_mission (v.mission t) refl
      where
        by_mission : (o : Option LineMission) → v.mission t ≡ o
            → has (λ (n : LineMission). is_at c n.supervisor) o ≡ false
        by_mission None is = refl
        by_mission (Some n) is = elsewhere n is

    nothing_inside : (r : Resource Centre Body) (d : ℕ) (b : Bool) (o : Option Expectation)
        → ((e : ℕ) → r.inside c d (TakingOver e t) ≡ 0)
        → carried r c d (option_map_or (λ e. if b then TakingOver e.number t ∷ [] else []) o []) ≡ 0
    nothing_inside r d b None none_in = carried_none r c d
    nothing_inside r d false (Some e) none_in = carried_none r c d
    nothing_inside r d true (Some e) none_in =
        omega (arith, carried_more r c d (TakingOver e.number t) [], carried_none r c d, none_in e.number)

    abbrev is_new : ℕ → Bool
    is_new d = is_centre line d && has (λ e. not e.is_taking) (k.expects d t)

    pub taken_over_shown : Shows line (replied w c (take_over line t k)) v
    taken_over_shown = unseen_shown line w c nothing_came (take_over line t k).state (take_over line t k).frames
        (replied w c (take_over line t k)) v v.phase v.heard v.said sound sees to
        (by_itself line w c (take_over line t k).state (take_over line t k).frames sound.counted to)
        (record {
          book = λ s. refl;
          wish = λ s. refl;
          wait = λ u. refl;
          mission = λ u. refl;
          hand = λ u s. refl;
          no_mission_came = λ u. refl;
          no_hand_came = λ u s. refl;
          no_mission_sent = λ u d. nothing_inside (missions u) d (is_new d) (k.expects d t) (λ e. refl);
          no_hand_sent = λ u s d. nothing_inside (hands u s) d (is_new d) (k.expects d t) (λ e. refl);
        })
        (part_stays centre.Phase c v.phase k.phase (λ u. sees.phase u c))
        (part_stays (Option ℕ) c v.heard k.heard (λ u. sees.heard u c))
        (part_stays ℕ c v.said k.said (λ u. sees.said u c))

    pub taken_over_keeps : IsFlowSound line (replied w c (take_over line t k))
    taken_over_keeps = act_sound line ok c w sound to (take_over line t k)
        (take_over_sound line ok c t k (sound.centres c to))
        (λ y counts ready. fair_take_over line c y counts t k) (goes_take_over line t k)

-- ## A report

module _ (line : Line) (ok : IsLine line) (w : Flow) (sound : IsFlowSound line w) (v : LineState)
    (sees : Shows line w v) (c : ℕ) (to : is_centre line c ≡ true) (t_train t : ℕ) (position : Position) where
  abbrev message : TrainMessage
  message = record { t_train = t_train; nid_engine = t; body = Report position }

  by_mission : (o : Option Mission) → (w.at c).mission t ≡ o
      → Answers line w c message (option_map_or (λ m. report_here line c t position m (w.at c)) o
      (take_over line t (w.at c))) v
  by_mission None none = record {
    mid = v;
    own = subst (λ b. MatchBool b (Reports line t c (place_on line (track_of v t) position) v nothing v)
        (SaysNothing v nothing v))
        (sym (unsupervised line ok w sound v sees c t to none)) (record { said_is = refl; new_is = refl });
    shows = taken_over_shown line ok w sound v sees c t to none;
    sound = taken_over_keeps line ok w sound v sees c t to none;
  }
  by_mission (Some m) at =
      let q : Reply = report_here line c t position m (w.at c) in
      let done = report_comes line ok w sound v sees c t to m at position in
      record {
        mid = done.mid;
        own = subst (λ b. MatchBool b (Reports line t c (place_on line (track_of v t) position) v (said_by q) done.mid)
            (SaysNothing v (said_by q) done.mid))
            (sym (supervised_here line ok w sound v sees c t to m at))
            (subst (λ o. Reports line t c o v (said_by q) done.mid)
            (sym (track_is line ok w sound v sees c t to m at position)) done.own);
        shows = done.shows;
        sound = report_here_keeps line ok w sound v sees c t to m at position;
      }

  pub report_answers : Answers line w c message (own_report line c t position (w.at c)) v
  report_answers = by_mission ((w.at c).mission t) refl
