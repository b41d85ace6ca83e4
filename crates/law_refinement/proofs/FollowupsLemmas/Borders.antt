-- The acts after an extension at the border. The train gets the distance to the border by a quiet step. More sections
-- are asked for, which is not seen.
use Rattle.std.proofs.Common.{[], ◌&&◌, ◌++◌, ◌+◌, ◌-◌, ◌<◌, ◌==◌, ◌∙◌, ◌∷◌, ◌≡◌, ◌≢◌, ap, arith, Bool, false}
use Rattle.std.proofs.Common.{if◌then◌else◌, is_none, min, nat_lt, None, not, Option, refl, Some, subst, sym, true, ℕ}
use Rattle.std.proofs.lemmas.Bool.{and_from, and_parts, eqb-false}
use Rattle.std.proofs.lemmas.Option.{slice_get_within}
use Rattle.std.specs.Option.{option_map_or}
use Rattle.law_base.proofs.CountingLemmas.Resource.{carried_none}
use Rattle.law_base.specs.Counting.Resource.{Resource}
use Rattle.law_invariants.proofs.FlowLemmas.Shown.{leads_then}
use Rattle.law_invariants.proofs.FlowLemmas.Steps.{aside_sound}
use Rattle.law_invariants.proofs.HandoverLemmas.Moves.{goes_announce_if, goes_ask_if}
use Rattle.law_invariants.proofs.NoCopyLemmas.Borders.{fair_announce_if, fair_ask_if}
use Rattle.law_invariants.proofs.SoundLemmas.Leaving.{next_is_centre}
use Rattle.law_invariants.proofs.SoundLemmas.Requests.{all_next, announce_sound, ask_sound, place_stays}
use Rattle.law_invariants.proofs.SoundLemmas.Sends.{if_reply, or_reply, rest_sound, Sound}
use Rattle.law_invariants.specs.Flow.Counts.{hands, missions}
use Rattle.law_invariants.specs.Flow.Flow.{Flow}
use Rattle.law_invariants.specs.Flow.Leads.{Leads, replied, said_by}
use Rattle.law_invariants.specs.Flow.Shows.{Shows}
use Rattle.law_invariants.specs.Flow.Sound.{IsFlowSound, IsOfNext}
use Rattle.law_refinement.proofs.AbstractionLemmas.Hands.{sends_both, sends_single}
use Rattle.law_refinement.proofs.AbstractionLemmas.Marks.{hand_at_centre}
use Rattle.law_refinement.proofs.FollowupsLemmas.Keeps.{act_sound}
use Rattle.law_refinement.proofs.FollowupsLemmas.Moves.{leading, leads_or_act, Moves, moves_if, moves_or, rest_moves}
use Rattle.law_refinement.proofs.FollowupsLemmas.Moves.{said_moves, unseen_change, unseen_moves, unseen_still}
use Rattle.law_refinement.specs.Abstraction.Acts.{SendsNone}
use Rattle.law_refinement.specs.Followups.Borders.{IsNextOf, MayAnnounce, MayOrder}
use Rattle.rbc_spec.proofs.Lists.{find-range, itself, none_is, put_there}
use Rattle.rbc_spec.proofs.Places.{homes_run}
use Rattle.rbc_spec.proofs.Runs.{within_from, within_shared, within_true}
use Rattle.rbc_spec.specs.Acts.{◌>>◌, Act, announce, ask_route, part_at, rest}
use Rattle.rbc_spec.specs.Centre.{Centre, Mission}
use Rattle.rbc_spec.specs.Frame.{Announce, Body, RouteAsk}
use Rattle.rbc_spec.specs.Line.{is_centre, is_home, IsLine, Line, next_centre, Section, section, start}
use Rattle.rbc_spec.specs.LineCentre.{is_given_to, LineState, says}
use Rattle.rbc_spec.specs.Message.{Transition}
use Rattle.rbc_spec.specs.Place.{group_start}
use Rattle.rbc_spec.specs.Quiet.{Order, Orders}
use Rattle.rbc_spec.specs.ReadOff.{seen}
use Rattle.rbc_spec.specs.Rules.{announce_if_due, ask_route_if_due, at_border}
use Rattle.rbc_spec.specs.SectionRuns.{is_empty, most_in_hand, next_after, SectionRun, within}
use Rattle.rbc_spec.specs.Sections.{home_run, is_on, nid_rbc, section_count}

pub none_or : (b : Bool) → (b ≡ true → ⊥) → b ≡ false
none_or true never = absurd (never refl)
none_or false never = refl

some_of : (b : Bool) → not b ≡ true → b ≡ false
some_of true is = cc
some_of false is = refl

-- a section with a home is one of the line's
home_below : (line : Line) (d s : ℕ) → is_home line d s ≡ true → s < section_count line
home_below line d s is = by_section (section line s) refl is
  where
    by_section : (o : Option Section) → section line s ≡ o → option_map_or (λ p. p.home == d) o false ≡ true
        → s < section_count line
    by_section None at home = cc
    by_section (Some p) at home = slice_get_within line.sections s p at

module _ (line : Line) (ok : IsLine line) (w : Flow) (sound : IsFlowSound line w) (v : LineState)
    (sees : Shows line w v) (c : ℕ) (to : is_centre line c ≡ true) (t d : ℕ) where
  -- ## Nothing

  pub rest_leads : Leads line w c (rest (w.at c)) v
  rest_leads = leading line w c v (rest (w.at c)) (rest_moves line w sound v sees c to)
      (aside_sound line w sound c to (w.at c)
      (record {
        book = refl;
        wish = refl;
        mission = refl;
        wait = refl;
        has_right = refl;
        expects = refl;
        announced = refl;
        asks = λ u first is. is;
        heard = λ u h. h;
      }))

  -- ## More sections are asked for

  ask_moves : (m : Mission) → Moves line w c (ask_route t d m (w.at c)) v
  unfolding ◌>>◌
  ask_moves m = unseen_moves line w sound v sees c to (ask_route t d m (w.at c)) refl
      (unseen_still c (w.at c) (ask_route t d m (w.at c)).state (ask_route t d m (w.at c)).frames refl refl refl refl
      (λ u. none (missions u) refl) (λ u s. none (hands u s) refl)) refl refl refl
    where
      asks : Body
      asks = RouteAsk t (next_after m.hand) (min (most_in_hand - m.hand.count) (512 - next_after m.hand))

      none : (r : Resource Centre Body) → r.inside c d asks ≡ 0
          → SendsNone r c (λ e. (if e == d then asks ∷ [] else []) ++ [])
      none r nothing = sends_both r c (λ e. if e == d then asks ∷ [] else []) (λ e. [])
          (sends_single r c d asks nothing) (λ e. carried_none r c e)

  asks_moves : Moves line w c (ask_route_if_due line t d (w.at c)) v
  asks_moves = moves_or line w c v ((w.at c).mission t) _ (rest (w.at c))
      (λ m at. moves_if line w c v
      (((is_home line d (next_after m.hand) && is_on line m.place.track (next_after m.hand))
      && nat_lt m.hand.count most_in_hand) && (is_empty m.pool && is_none ((w.at c).route_ask t)))
      (ask_route t d m (w.at c)) (rest (w.at c)) (λ due. ask_moves m) (λ no. rest_moves line w sound v sees c to))
      (λ none. rest_moves line w sound v sees c to)

  abbrev may_ask : Mission → Bool
  may_ask m = ((is_home line d (next_after m.hand) && is_on line m.place.track (next_after m.hand))
      && nat_lt m.hand.count most_in_hand) && (is_empty m.pool && is_none ((w.at c).route_ask t))

  -- the sections that are asked for are of the next centre
  of_next : (m : Mission) → next_centre line c m.place.track ≡ Some d → may_ask m ≡ true
      → IsOfNext line c (next_after m.hand)
  of_next m next due =
      let ends = and_parts (is_home line d (next_after m.hand)) (is_on line m.place.track (next_after m.hand))
      (and_parts (is_home line d (next_after m.hand) && is_on line m.place.track (next_after m.hand))
      (nat_lt m.hand.count most_in_hand)
      (and_parts ((is_home line d (next_after m.hand) && is_on line m.place.track (next_after m.hand))
      && nat_lt m.hand.count most_in_hand) (is_empty m.pool && is_none ((w.at c).route_ask t)) due).0).0 in
      all_next line c d m.place.track (next_after m.hand) ends.1 next ends.0

  asks_sound : is_centre line d ≡ true → IsNextOf line c t d (w.at c)
      → Sound line c (ask_route_if_due line t d (w.at c))
  asks_sound there next = or_reply line c ((w.at c).mission t) _ (rest (w.at c))
      (λ m at. if_reply line c (may_ask m) (ask_route t d m (w.at c)) (rest (w.at c))
      (λ due. ask_sound line ok c t d m (w.at c) (sound.centres c to) there (of_next m (next m at) due))
      (λ no. rest_sound line c (w.at c) (sound.centres c to)))
      (λ none. rest_sound line c (w.at c) (sound.centres c to))

  pub asks_leads : is_centre line d ≡ true → IsNextOf line c t d (w.at c)
      → Leads line w c (ask_route_if_due line t d (w.at c)) v
  asks_leads there next = leading line w c v (ask_route_if_due line t d (w.at c)) asks_moves
      (act_sound line ok c w sound to (ask_route_if_due line t d (w.at c)) (asks_sound there next)
      (λ y counts ready. fair_ask_if line c y counts t d (w.at c)) (goes_ask_if line t d (w.at c)))

  -- ## The border

  module _ (m : Mission) (at : (w.at c).mission t ≡ Some m)
      (filled : is_empty (part_at line d m.place.track m.hand) ≡ false) (may : MayOrder line c t d (w.at c) m) where
    abbrev part : SectionRun
    part = part_at line d m.place.track m.hand

    -- the border is in the hand, and of home d
    first_in : (within m.hand part.first ≡ true) × (is_home line d part.first ≡ true)
    first_in =
        let some : part.count ≢ 0 = eqb-false part.count 0 filled in
        let both = and_parts (within m.hand part.first) (within (home_run line d m.place.track) part.first)
        (sym (within_shared m.hand (home_run line d m.place.track) part.first)
        ∙ within_from part part.first (omega arith) (omega (arith, some))) in (
          both.0,
          (and_parts (is_home line d part.first) (is_on line m.place.track part.first)
              (sym (homes_run line d m.place.track part.first ok) ∙ both.1)).0,
        )

    given : (s : ℕ) → is_given_to t (v.mark s) ≡ within m.hand s
    given = (hand_at_centre line w v t sound sees c m at).each

    none_before : (s : ℕ) → s < part.first → (is_given_to t (v.mark s) && is_home line d s) ≡ false
    none_before s low = none_or (is_given_to t (v.mark s) && is_home line d s) (λ is.
        let both = and_parts (is_given_to t (v.mark s)) (is_home line d s) is in
        let in_hand : within m.hand s ≡ true = sym (given s) ∙ both.0 in
        let on = ((sound.centres c to).mission t m at).hand.on_track s in_hand in
        let in_run : within (home_run line d m.place.track) s ≡ true = homes_run line d m.place.track s ok
        ∙ and_from (is_home line d s) (is_on line m.place.track s) both.1 on in
        let ends = within_true part s (within_shared m.hand (home_run line d m.place.track) s
        ∙ and_from (within m.hand s) (within (home_run line d m.place.track) s) in_hand in_run) in
        let no : ⊥ = omega (arith, low, ends.0) in no)

    orders : Orders line v t c (said_by (announce line t m.place.group d m (w.at c))) (says t c v)
    unfolding ◌>>◌
    orders = record {
      mission = seen c m;
      next = d;
      border = part.first;
      of_train = sees.mission t c m at;
      supervises = refl;
      is_up = sees.phase t c ∙ may.is_up;
      next_is = may.next_is;
      at_border = find-range (λ s. is_given_to t (v.mark s) && is_home line d s) 0 (section_count line) part.first
          (omega arith) (omega (arith, home_below line d part.first first_in.1))
          (and_from (is_given_to t (v.mark part.first)) (is_home line d part.first) (given part.first ∙ first_in.0)
          first_in.1) (λ s low before. none_before s before);
      ahead = may.ahead;
      within_reach = may.within_reach;
      says = record {
        said_is = ap (λ (n : ℕ). record {
          sayings =
              record {
                nid_engine = t;
                message = record {
                  t_train = n + 1;
                  nid_lrbg = m.place.group;
                  body = Transition (start line part.first - group_start line m.place) line.nid_c (nid_rbc line d);
                };
              } ∷ [];
          words = [];
        }) (sym (sees.said t c));
        new_is = refl;
      };
    }

    abbrev tells : Body
    tells = Announce ((w.at c).announced + 1) t m.place.track

    no_more : (r : Resource Centre Body) → r.inside c d tells ≡ 0
        → SendsNone r c (λ e. (((if e == d then tells ∷ [] else []) ++ []) ++ []) ++ [])
    no_more r nothing = sends_both r c (λ e. ((if e == d then tells ∷ [] else []) ++ []) ++ []) (λ e. [])
        (sends_both r c (λ e. (if e == d then tells ∷ [] else []) ++ []) (λ e. [])
        (sends_both r c (λ e. if e == d then tells ∷ [] else []) (λ e. []) (sends_single r c d tells nothing)
        (λ e. carried_none r c e)) (λ e. carried_none r c e)) (λ e. carried_none r c e)

    announce_moves : Moves line w c (announce line t m.place.group d m (w.at c)) v
    unfolding ◌>>◌
    announce_moves = said_moves line w sound v sees c to t (Order t c)
        (announce line t m.place.group d m (w.at c)) (itself c) orders
        (unseen_change c t
        (λ (n : Mission). record n { handing = Some (record { number = (w.at c).announced + 1; to = d }) }) (w.at c)
        (announce line t m.place.group d m (w.at c)).state (announce line t m.place.group d m (w.at c)).frames
        (record { seen_same = λ n. refl; hand_same = λ n. refl }) refl refl refl refl (λ u. no_more (missions u) refl)
        (λ u s. no_more (hands u s) refl)) refl refl refl

  module _ (may : MayAnnounce line c t d (w.at c)) where
    abbrev is_due : Mission → Bool
    is_due m = is_none m.handing && not (is_empty (part_at line d m.place.track m.hand))

    due : (m : Mission) → (w.at c).mission t ≡ Some m → is_due m ≡ true
        → (m.handing ≡ None) × (is_empty (part_at line d m.place.track m.hand) ≡ false) × MayOrder line c t d (w.at c) m
    due m at is =
        let both = and_parts (is_none m.handing) (not (is_empty (part_at line d m.place.track m.hand))) is in
        let none = none_is m.handing both.0 in
        let filled = some_of (is_empty (part_at line d m.place.track m.hand)) both.1 in
        (none, filled, may m at none filled)

    announces_moves : Moves line w c (announce_if_due line t d (w.at c)) v
    announces_moves = moves_or line w c v ((w.at c).mission t) _ (rest (w.at c))
        (λ m at. moves_if line w c v (is_due m) (announce line t m.place.group d m (w.at c)) (rest (w.at c))
        (λ is. let so = due m at is in announce_moves m at so.1 so.2) (λ no. rest_moves line w sound v sees c to))
        (λ none. rest_moves line w sound v sees c to)

    announces_sound : Sound line c (announce_if_due line t d (w.at c))
    announces_sound = or_reply line c ((w.at c).mission t) _ (rest (w.at c))
        (λ m at. if_reply line c (is_due m) (announce line t m.place.group d m (w.at c)) (rest (w.at c))
        (λ is. let so = due m at is in
        announce_sound line ok c t m.place.group d m (w.at c) (sound.centres c to) at so.0 so.2.next_is so.1)
        (λ no. rest_sound line c (w.at c) (sound.centres c to)))
        (λ none. rest_sound line c (w.at c) (sound.centres c to))

    pub announces_leads : Leads line w c (announce_if_due line t d (w.at c)) v
    announces_leads = leading line w c v (announce_if_due line t d (w.at c)) announces_moves
        (act_sound line ok c w sound to (announce_if_due line t d (w.at c)) announces_sound
        (λ y counts ready. fair_announce_if line c y counts t d (w.at c)) (goes_announce_if line t d (w.at c)))

-- ## Of the state that the centre is in

module _ (line : Line) (w : Flow) (c t d : ℕ) (k : Centre) (v : LineState) (ok : IsLine line)
    (sound : IsFlowSound line w) (sees : Shows line w v) (to : is_centre line c ≡ true) (is : w.at c ≡ k) where
  pub rest_so : Leads line w c (rest k) v
  rest_so = subst (λ x. Leads line w c (rest x) v) is (rest_leads line ok w sound v sees c to t d)

  pub asks_so : is_centre line d ≡ true → IsNextOf line c t d k → Leads line w c (ask_route_if_due line t d k) v
  asks_so there next = subst (λ x. Leads line w c (ask_route_if_due line t d x) v) is
      (asks_leads line ok w sound v sees c to t d there (subst (IsNextOf line c t d) (sym is) next))

  pub announces_so : MayAnnounce line c t d k → Leads line w c (announce_if_due line t d k) v
  announces_so may = subst (λ x. Leads line w c (announce_if_due line t d x) v) is
      (announces_leads line ok w sound v sees c to t d (subst (MayAnnounce line c t d) (sym is) may))

pub border_so : (line : Line) (w : Flow) (c t d : ℕ) (k : Centre) (v : LineState) → IsLine line → IsFlowSound line w
    → Shows line w v → is_centre line c ≡ true → w.at c ≡ k
    → is_centre line d ≡ true → IsNextOf line c t d k → MayAnnounce line c t d k
    → Leads line w c (at_border line c t d k) v
border_so line w c t d k v ok sound sees to is there next may =
    leads_then line w c k v first (ask_route_if_due line t d) one
    (asks_so line (replied w c (first k)) c t d (first k).state one.new ok one.sound one.shows to
    (put_there w.at c (first k).state) there
    (λ n at. let was = place_stays line ok c t d k n at in ap (next_centre line c) (sym was.2) ∙ next was.0 was.1))
  where
    first : Act
    first = announce_if_due line t d

    one : Leads line w c (first k) v
    one = announces_so line w c t d k v ok sound sees to is may

-- after an extension, on the track of the mission
pub grants_so : (line : Line) (w : Flow) (c t track : ℕ) (k : Centre) (v : LineState) → IsLine line → IsFlowSound line w
    → Shows line w v → is_centre line c ≡ true → w.at c ≡ k
    → ((m : Mission) → k.mission t ≡ Some m → m.place.track ≡ track)
    → ((d : ℕ) → next_centre line c track ≡ Some d → MayAnnounce line c t d k)
    → Leads line w c (option_map_or (at_border line c t) (next_centre line c track) rest k) v
grants_so line w c t track k v ok sound sees to is on may =
    leads_or_act line w c v (next_centre line c track) (at_border line c t) rest k
    (λ d next. border_so line w c t d k v ok sound sees to is (next_is_centre line ok c d track next)
    (λ m at. ap (next_centre line c) (on m at) ∙ next) (may d next))
    (λ none. rest_so line w c t 0 k v ok sound sees to is)
