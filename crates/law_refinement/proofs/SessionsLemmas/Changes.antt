-- Messages that change a mission and sessions only.
use Rattle.std.proofs.Common.{[], ⊎_elim, ◌+◌, ◌<◌, ◌==◌, ◌∙◌, ◌∷◌, ◌≡◌, ◌≢◌, ap, arith, Bool, eqb-true, false, is_some}
use Rattle.std.proofs.Common.{List, None, Option, option_map, refl, Some, subst, suc, sym, true, zero, ℕ}
use Rattle.std.proofs.lemmas.Bool.{cases_Bool, cases_eq}
use Rattle.std.proofs.lemmas.List.Elements.{All-contains}
use Rattle.std.specs.Prelude.{Contains}
use Rattle.law_base.proofs.CountingLemmas.Places.{placed_parts}
use Rattle.law_base.proofs.CountingLemmas.Resource.{carried_none}
use Rattle.law_base.proofs.CountingLemmas.Sums.{links_some, one_if_some, sum_some}
use Rattle.law_base.specs.Counting.Network.{acted, way}
use Rattle.law_base.specs.Counting.Resource.{carried, placed}
use Rattle.law_base.specs.Counting.Sums.{one_if, sum_below}
use Rattle.law_base.specs.Local.Local.{hand_has}
use Rattle.law_invariants.proofs.FlowLemmas.Seats.{carried_some}
use Rattle.law_invariants.specs.Flow.Counts.{hands, missions, yield_inside}
use Rattle.law_invariants.specs.Flow.Flow.{centre_count, Flow}
use Rattle.law_invariants.specs.Flow.Keeping.{nothing_came}
use Rattle.law_invariants.specs.Flow.Leads.{HeardAs, one_message, replied, said_by}
use Rattle.law_invariants.specs.Flow.Shows.{parted, Shows}
use Rattle.law_invariants.specs.Flow.Sound.{IsBodySound, IsFlowSound, IsYieldSound}
use Rattle.law_refinement.proofs.AbstractionLemmas.Hands.{mark_stays, sends_none}
use Rattle.law_refinement.proofs.AbstractionLemmas.Missions.{supervised}
use Rattle.law_refinement.proofs.AbstractionLemmas.Shows.{by_itself, part_stays, shows_after, unseen_shown}
use Rattle.law_refinement.specs.Abstraction.Acts.{IsAct, SendsNone}
use Rattle.law_refinement.specs.Abstraction.After.{MarkAfter, MissionAfter, PartAfter}
use Rattle.law_refinement.specs.Abstraction.After.MissionAfter.{is_here, stays}
use Rattle.law_refinement.specs.Sessions.Heard.{LeadsAlone}
use Rattle.rbc_spec.proofs.Lists.{itself, put_other, put_there}
use Rattle.rbc_spec.specs.Acts.{Reply}
use Rattle.rbc_spec.specs.Centre as centre
use Rattle.rbc_spec.specs.Centre.{Centre, Phase}
use Rattle.rbc_spec.specs.Frame.{Body, Yield, yielded_place}
use Rattle.rbc_spec.specs.Line.{is_centre, Line}
use Rattle.rbc_spec.specs.LineCentre.{hears, is_at, LineMission, LineState, Mark, supervises}
use Rattle.rbc_spec.specs.Maps.{put}
use Rattle.rbc_spec.specs.Message.{TrackBody, TrainMessage}
use Rattle.rbc_spec.specs.Outcome.{Word}
use Rattle.rbc_spec.specs.Place.{Place}
use Rattle.rbc_spec.specs.ReadOff.{seen}
use Rattle.rbc_spec.specs.SectionRuns.{SectionRun, within}

-- # The state that is shown after a message that changes only a mission and sessions. Messages that only the own step
-- answers.

-- the own step is the whole answer
pub heard_alone : (line : Line) (w : Flow) (c : ℕ) (m : TrainMessage) (v : LineState) (r : Reply) (mid : LineState)
    → HeardAs line (hears c m v) c m m.body (said_by r) mid
    → Shows line (replied w c r) mid → LeadsAlone line w c m r v
heard_alone line w c m v r mid own shows = record { mid = mid; own = own; shows = shows }

-- a message that a centre sends is counted as the line shows it
pub one_said : (line : Line) (w : Flow) (v : LineState) (c t group : ℕ) (body : TrackBody) (words : List Word)
    → Shows line w v
    → record {
      sayings = record {
        nid_engine = t;
        message = record { t_train = (w.at c).said t + 1; nid_lrbg = group; body = body };
      } ∷ [];
      words =
          words;
    } ≡ one_message t c group body words v
one_said line w v c t group body words sees =
    ap (λ n. record {
      sayings = record {
        nid_engine = t;
        message = record { t_train = n + 1; nid_lrbg = group; body = body };
      } ∷ [];
      words =
          words;
    }) (sym (sees.said t c))

-- frames that carry no mission and no hand
pub record SendsNothing (c : ℕ) (frames : ℕ → List Body) : Type 0 where
  pub missions : (t : ℕ) → SendsNone (missions t) c frames
  pub hands : (t s : ℕ) → SendsNone (hands t s) c frames

pub silent : (c : ℕ) → SendsNothing c (λ d. [])
silent c = record { missions = λ t d. carried_none (missions t) c d; hands = λ t s d. carried_none (hands t s) c d }

module _ (line : Line) (w : Flow) (v : LineState) (sound : IsFlowSound line w) (sees : Shows line w v) (c : ℕ)
    (at : is_centre line c ≡ true) (y : Centre) (frames : ℕ → List Body)
    (sends : SendsNothing c frames) where
  abbrev pub new : Flow
  new = acted w c y frames

  pub act : IsAct line w c nothing_came y frames (acted w c y frames)
  act = by_itself line w c y frames sound.counted at

  -- a section of the book as before, in a hand as before
  pub mark_same : (s d : ℕ) (old : Mark) → y.book s ≡ (w.at c).book s
      → ((t : ℕ) → hand_has (y.mission t) s ≡ hand_has ((w.at c).mission t) s) → MarkAfter line w new s d old old
  mark_same s d old book hand = mark_stays line w c nothing_came y frames new s d old act book
      (λ t used.
      omega (arith, ap one_if (hand t), sends_none (hands t s) (centre_count line) c frames (sends.hands t s)))

  -- a mission as before
  pub mission_same : (t : ℕ) → option_map (seen c) (y.mission t) ≡ option_map (seen c) ((w.at c).mission t)
      → MissionAfter line w c nothing_came y frames t (v.mission t) (v.mission t)
  mission_same t same = stays refl same refl (sends.missions t)

  -- only sessions, recorded stamps and counts of messages change
  pub shows_talk : (phase : ℕ → ℕ → Phase) (heard : ℕ → ℕ → Option ℕ) (said : ℕ → ℕ → ℕ) → y.book ≡ (w.at c).book
      → y.wish ≡ (w.at c).wish → y.wait ≡ (w.at c).wait → y.mission ≡ (w.at c).mission
      → PartAfter c v.phase y.phase phase → PartAfter c v.heard y.heard heard → PartAfter c v.said y.said said
      → Shows line new (record v { phase = phase; heard = heard; said = said })
  shows_talk phase heard said book wish wait mission phases hears says =
      unseen_shown line w c nothing_came y frames new v phase heard said sound sees at act (record {
        book = λ s. ap (λ (f : ℕ → centre.Entry). f s) book;
        wish = λ s. ap (λ (f : ℕ → Bool). f s) wish;
        wait = λ t. ap (λ (f : ℕ → Option Place). f t) wait;
        mission = λ t. ap (λ (f : ℕ → Option centre.Mission). option_map (seen c) (f t)) mission;
        hand = λ t s. ap (λ (f : ℕ → Option centre.Mission). hand_has (f t) s) mission;
        no_mission_came = λ t. refl;
        no_hand_came = λ t s. refl;
        no_mission_sent = sends.missions;
        no_hand_sent = sends.hands;
      }) phases hears says

  -- ## The mission of train t changes

  module _ (t : ℕ) (m : centre.Mission) (has : (w.at c).mission t ≡ Some m) (change : centre.Mission → centre.Mission)
      (on_line : LineMission → LineMission)
      (changed : (u : ℕ) → y.mission u ≡ put (w.at c).mission t (option_map change ((w.at c).mission t)) u)
      (same : on_line (seen c m) ≡ seen c (change m)) (hand : (change m).hand ≡ m.hand) where
    here : y.mission t ≡ Some (change m)
    here = changed t ∙ put_there (w.at c).mission t (option_map change ((w.at c).mission t))
        ∙ ap (option_map change) has

    other : (u : ℕ) → u ≢ t → y.mission u ≡ (w.at c).mission u
    other u apart = changed u ∙ put_other (w.at c).mission t u (option_map change ((w.at c).mission t)) apart

    pub hand_changes : (u s : ℕ) → hand_has (y.mission u) s ≡ hand_has ((w.at c).mission u) s
    hand_changes u s = ⊎_elim
        (λ (is : u ≡ t). ap (λ x. hand_has (y.mission x) s) is ∙ ap (λ (o : Option centre.Mission). hand_has o s) here
        ∙ ap (λ (r : SectionRun). within r s) hand
        ∙ sym (ap (λ x. hand_has ((w.at c).mission x) s) is ∙ ap (λ (o : Option centre.Mission). hand_has o s) has))
        (λ (apart : u ≢ t). ap (λ (o : Option centre.Mission). hand_has o s) (other u apart))
        (cases_eq u t)

    pub mission_changes : (u : ℕ) → MissionAfter line w c nothing_came y frames u (v.mission u)
        (put v.mission t (option_map on_line (v.mission t)) u)
    mission_changes u = ⊎_elim
        (λ (is : u ≡ t). subst (λ x. MissionAfter line w c nothing_came y frames x (v.mission x)
        (put v.mission t (option_map on_line (v.mission t)) x)) (sym is)
        (is_here (change m) (put_there v.mission t (option_map on_line (v.mission t))
        ∙ ap (option_map on_line) (sees.mission t c m has) ∙ ap (λ (x : LineMission). Some x) same) here
        (supervised line w c nothing_came y frames new t sound act m has) (sends.missions t)))
        (λ (apart : u ≢ t). subst (MissionAfter line w c nothing_came y frames u (v.mission u))
        (sym (put_other v.mission t u (option_map on_line (v.mission t)) apart))
        (mission_same u (ap (option_map (seen c)) (other u apart))))
        (cases_eq u t)

    -- and else only sessions, recorded stamps and counts of messages
    pub shows_change : (phase : ℕ → ℕ → Phase) (heard : ℕ → ℕ → Option ℕ) (said : ℕ → ℕ → ℕ) → y.book ≡ (w.at c).book
        → y.wish ≡ (w.at c).wish → y.wait ≡ (w.at c).wait
        → PartAfter c v.phase y.phase phase → PartAfter c v.heard y.heard heard → PartAfter c v.said y.said said
        → Shows line new
        (record v
        { phase = phase; heard = heard; said = said; mission = put v.mission t (option_map on_line (v.mission t)) })
    shows_change phase heard said book wish wait phases hears says =
        shows_after line w c nothing_came y frames new v
        (record v
        { phase = phase; heard = heard; said = said; mission = put v.mission t (option_map on_line (v.mission t)) })
        sound sees at act (record {
          phase = phases;
          heard = hears;
          said = says;
          wait = part_stays (Option Place) c v.wait y.wait (λ u. sees.wait u c
              ∙ ap (λ (f : ℕ → Option Place). f u) (sym wait));
          wish = λ s home. sees.wish s c home ∙ ap (λ (f : ℕ → Bool). f s) (sym wish);
          other_wish = λ s away. refl;
          mark = λ s d home. mark_same s d (v.mark s) (ap (λ (f : ℕ → centre.Entry). f s) book) (λ u. hand_changes u s);
          no_section = λ s none. refl;
          mission = mission_changes;
        })

-- # A mission that a centre does not have is at no such supervisor.

module _ (line : Line) (w : Flow) (v : LineState) (sound : IsFlowSound line w) (sees : Shows line w v) (c t : ℕ) where
  pub none_here : (n : LineMission) → (w.at c).mission t ≡ None → v.mission t ≡ Some n → is_at c n.supervisor ≡ false
  none_here n none is = by_count (placed (missions t) (centre_count line) w) refl
    where
      some_is : (x : LineMission) → v.mission t ≡ Some x → x ≡ n
      some_is x there = let same : ◌≡◌ {A = Option LineMission} (Some x) (Some n) = sym there ∙ is in cc

      at_centre : (d : ℕ) (o : Option centre.Mission) → (w.at d).mission t ≡ o → is_some o ≡ true
          → is_at c n.supervisor ≡ false
      at_centre d None here has = cc
      at_centre d (Some m) here has = ⊎_elim
          (λ (same : (d == c) ≡ true). absurd (let wrong : ◌≡◌ {A = Option centre.Mission} None (Some m) = sym none
          ∙ sym (ap (λ x. (w.at x).mission t) (eqb-true d c same)) ∙ here in cc))
          (λ (apart : (d == c) ≡ false). ap (λ (x : LineMission). is_at c x.supervisor)
          (sym (some_is (seen d m) (sees.mission t d m here))) ∙ apart)
          (cases_Bool (d == c))

      on_link : (a b : ℕ) (f : Body) → Contains (way w a b) f → 0 < yield_inside t f → is_at c n.supervisor ≡ false
      on_link a b (Yield h u heard has_data is_ended place hand) there has =
          let fits : IsYieldSound line a b u place hand =
          All-contains (IsBodySound line a b) (way w a b) (Yield h u heard has_data is_ended place hand)
          (sound.bodies.each a b) there in
          let of_t : Yield h u heard has_data is_ended place hand
          ≡ Yield h t heard has_data is_ended (yielded_place fits.place) hand =
          ap (λ x. Yield h x heard has_data is_ended place hand) (eqb-true u t (one_if_some (u == t) has))
          ∙ ap (λ p. Yield h t heard has_data is_ended p hand) fits.is_carried in
          ap (λ (x : LineMission). is_at c x.supervisor) (sym (some_is (parted heard has_data is_ended fits.place)
          (sees.on_way a b h t heard has_data is_ended fits.place hand (subst (Contains (way w a b)) of_t there))))
      on_link a b f there has = absurd (let no : ⊥ = omega (arith, has) in no)

      by_centres : (m : ℕ) → 0 < placed (missions t) (centre_count line) w
          → sum_below (centre_count line) (λ d. (missions t).held d (w.at d)) ≡ m → is_at c n.supervisor ≡ false
      by_centres zero some nowhere =
          let link = links_some (centre_count line) (λ a b. carried (missions t) a b (way w a b))
          (omega (arith, nowhere, some, placed_parts (missions t) (centre_count line) w)) in
          let body = carried_some (missions t) link.0 link.1 (way w link.0 link.1) link.4 in
          on_link link.0 link.1 body.0 body.1 body.2
      by_centres (suc m) some has =
          let who = sum_some (centre_count line) (λ d. (missions t).held d (w.at d)) (omega (arith, has)) in
          at_centre who.0 ((w.at who.0).mission t) refl (one_if_some _ who.2)

      by_count : (m : ℕ) → placed (missions t) (centre_count line) w ≡ m → is_at c n.supervisor ≡ false
      by_count zero nothing =
          absurd (let wrong : ◌≡◌ {A = Option LineMission} None (Some n) = sym (sees.no_mission t nothing) ∙ is in cc)
      by_count (suc m) some = by_centres (sum_below (centre_count line) (λ d. (missions t).held d (w.at d)))
          (omega (arith, some)) refl

  -- a centre supervises the trains that it has missions of
  pub supervises_is : supervises v c t ≡ is_some ((w.at c).mission t)
  supervises_is = by_mission ((w.at c).mission t) refl
    where
      by_line : (o : Option LineMission) → (w.at c).mission t ≡ None → v.mission t ≡ o → supervises v c t ≡ false
      by_line None none is = rw is refl
      by_line (Some n) none is = rw is (none_here n none is)

      by_mission : (o : Option centre.Mission) → (w.at c).mission t ≡ o → supervises v c t ≡ is_some o
      by_mission None none = by_line (v.mission t) none refl
      by_mission (Some m) has = rw (sees.mission t c m has) (rw (itself c) refl)
