-- A request to shorten, and the steps after an extension.
use Rattle.std.proofs.Common.{[], ⊎_elim, ◌&&◌, ◌*◌, ◌+◌, ◌-◌, ◌<◌, ◌==◌, ◌||◌, ◌∙◌, ◌∷◌, ◌≡◌, ◌≢◌, ◌≤◌, ap, arith}
use Rattle.std.proofs.Common.{Bool, eq-eqb, false, is_none, leb-true, nat_le, None, not, Option, option_map, refl, Some}
use Rattle.std.proofs.Common.{subst, sym, true, ℕ}
use Rattle.std.proofs.lemmas.Bool.{and_from, and_parts, cases_eq, eqb-false, eqb-true, ne_eqb, not-false, or_cases}
use Rattle.std.proofs.lemmas.Option.{same_Some}
use Rattle.law_base.proofs.CountingLemmas.Resource.{carried_none}
use Rattle.law_base.proofs.RulesLemmas.Places.{border_ahead, not_for, placed_on}
use Rattle.law_base.specs.Rules.Distances.{extended, IsRequestHeard}
use Rattle.law_invariants.proofs.HandoverLemmas.Moves.{goes_propose_if}
use Rattle.law_invariants.proofs.NoCopyLemmas.Borders.{fair_propose_if}
use Rattle.law_invariants.proofs.SoundLemmas.Routes.{propose_sound}
use Rattle.law_invariants.specs.Flow.Counts.{hands, missions}
use Rattle.law_invariants.specs.Flow.Flow.{Flow}
use Rattle.law_invariants.specs.Flow.Leads.{Leads, one_message, replied, said_by}
use Rattle.law_invariants.specs.Flow.Shows.{Shows}
use Rattle.law_invariants.specs.Flow.Sound.{IsFlowSound, IsHandAt}
use Rattle.law_refinement.proofs.AbstractionLemmas.Marks.{hand_at_centre}
use Rattle.law_refinement.proofs.AbstractionLemmas.Shows.{part_changes}
use Rattle.law_refinement.proofs.FollowupsLemmas.Keeps.{act_sound}
use Rattle.law_refinement.proofs.FollowupsLemmas.Moves.{changed_shown, leading, Moves, moves_if, moves_or, one_quiet}
use Rattle.law_refinement.proofs.FollowupsLemmas.Moves.{rest_moves}
use Rattle.law_refinement.specs.Followups.Announced.{AnnouncesAll}
use Rattle.law_refinement.specs.Followups.Borders.{MayAnnounce, MayOrder}
use Rattle.rbc_spec.proofs.Lists.{none_is}
use Rattle.rbc_spec.proofs.Places.{end_of, section_on, start_is}
use Rattle.rbc_spec.proofs.Runs.{longest_is, within_from, within_joined, within_none, within_shared, within_true}
use Rattle.rbc_spec.specs.Acts.{◌>>◌, may_propose, part_at, propose, propose_if_so, rest}
use Rattle.rbc_spec.specs.Centre.{Centre, Closed, is_free, is_up, Mission, Opened, Phase, Up}
use Rattle.rbc_spec.specs.Line.{end, is_centre, IsLine, Line, next_centre, start}
use Rattle.rbc_spec.specs.LineCentre as line_centre
use Rattle.rbc_spec.specs.LineCentre.{LineMission, LineState, says}
use Rattle.rbc_spec.specs.Maps.{put, put_pair}
use Rattle.rbc_spec.specs.Message.{Request, ShorteningRequest, TrainMessage}
use Rattle.rbc_spec.specs.Outcome.{WrongPhase}
use Rattle.rbc_spec.specs.Place.{farthest, group_start, has_room, Place}
use Rattle.rbc_spec.specs.Quiet.{Propose, Proposes, TakesAll}
use Rattle.rbc_spec.specs.ReadOff.{seen}
use Rattle.rbc_spec.specs.Rules.{extension, may_follow}
use Rattle.rbc_spec.specs.SectionRuns.{is_empty, joined, most_in_hand, next_after, SectionRun, within}
use Rattle.rbc_spec.specs.Sections.{home_run, is_on}
use Rattle.rbc_spec.specs.Step.{is_out_of_phase}

-- # A request to shorten, if it may be sent, is a quiet step of the one line centre.

pub up_is : (phase : Phase) → is_up phase ≡ true → phase ≡ Up
up_is Closed up = cc
up_is Opened up = cc
up_is Up up = refl

no_more : (b : Bool) → not b ≡ true → b ≡ false
no_more true is = cc
no_more false is = refl

module _ (line : Line) (w : Flow) (sound : IsFlowSound line w) (v : LineState) (sees : Shows line w v) (c : ℕ)
    (to : is_centre line c ≡ true) (t s : ℕ) where
  module _ (m : Mission) (at : (w.at c).mission t ≡ Some m) (may : may_propose line t s m (w.at c) ≡ true) where
    stands : ((is_up ((w.at c).phase t) ≡ true) × (not m.is_ended ≡ true)) × (is_none m.proposal ≡ true)
    stands = let parts = and_parts ((is_up ((w.at c).phase t) && not m.is_ended) && is_none m.proposal) _ may in
        let going = and_parts (is_up ((w.at c).phase t) && not m.is_ended) (is_none m.proposal) parts.0 in
        (and_parts (is_up ((w.at c).phase t)) (not m.is_ended) going.0, going.1)

    reaches : ((within m.hand s ≡ true) × (not (s == m.hand.first) ≡ true))
        × (nat_le m.place.front (10 * start line s) ≡ true) × (has_room line m.place (start line s) ≡ true)
    reaches = let parts = and_parts ((is_up ((w.at c).phase t) && not m.is_ended) && is_none m.proposal)
        ((((within m.hand s && not (s == m.hand.first)) && nat_le m.place.front (10 * start line s))
        && has_room line m.place (start line s))) may in
        let room = and_parts ((within m.hand s && not (s == m.hand.first)) && nat_le m.place.front (10 * start line s))
        (has_room line m.place (start line s)) parts.1 in
        let front = and_parts (within m.hand s && not (s == m.hand.first))
        (nat_le m.place.front (10 * start line s)) room.0 in
        (and_parts (within m.hand s) (not (s == m.hand.first)) front.0, front.1, room.1)

    -- the mission with the request
    abbrev asked : ℕ → Mission
    asked count = record m { proposal = Some (record { stamp = count + 1; last_kept = s - 1 }) }

    abbrev pub asks : ℕ → LineMission → LineMission
    asks count n = record n { proposal = Some (record { stamp = count + 1; last_kept = s - 1 }) }

    abbrev pub after : LineState
    after = says t c (line_centre.change_mission t (asks (v.said t c)) v)

    not_first : m.hand.first < s
    not_first = ⊎_elim
        (λ (same : s ≡ m.hand.first). absurd (let wrong : false ≡ true = sym (no_more (s == m.hand.first) reaches.0.1)
        ∙ eq-eqb s m.hand.first same in cc))
        (λ (apart : s ≢ m.hand.first). let low = (within_true m.hand s reaches.0.0).0 in omega (arith, low, apart))
        (cases_eq s m.hand.first)

    said_so : said_by (propose line t s m (w.at c))
        ≡ one_message t c m.place.group (ShorteningRequest (start line s - group_start line m.place)) [] v
    unfolding ◌>>◌
    said_so =
        ap (λ (n : ℕ).
        record {
          sayings = record {
            nid_engine = t;
            message =
                record {
                  t_train = n + 1;
                  nid_lrbg = m.place.group;
                  body = ShorteningRequest (start line s - group_start line m.place);
                };
          } ∷ [];
          words = [];
        }) (sym (sees.said t c))

    proposes : Proposes line v t c s (said_by (propose line t s m (w.at c))) after
    proposes = record {
      mission = seen c m;
      hand = m.hand;
      of_train = sees.mission t c m at;
      supervises = refl;
      is_up = sees.phase t c ∙ up_is ((w.at c).phase t) stands.0.0;
      goes_on = no_more m.is_ended stands.0.1;
      none_stands = none_is m.proposal stands.1;
      is_hand = hand_at_centre line w v t sound sees c m at;
      in_hand = reaches.0.0;
      not_first = not_first;
      not_past = leb-true m.place.front (10 * start line s) reaches.1;
      within_reach = leb-true (start line s) (group_start line m.place + farthest) reaches.2;
      says = record { said_is = said_so; new_is = refl };
    }

    seen_so : option_map (asks (v.said t c)) (v.mission t) ≡ Some (seen c (asked ((w.at c).said t)))
    seen_so = ap (λ (n : ℕ). option_map (asks n) (v.mission t)) (sees.said t c)
        ∙ ap (option_map (asks ((w.at c).said t))) (sees.mission t c m at)

    pub shows_so : Shows line (replied w c (propose line t s m (w.at c))) after
    unfolding ◌>>◌
    shows_so =
        subst (λ (o : Option LineMission). Shows line (replied w c (propose line t s m (w.at c)))
        (says t c (line_centre.set_mission t o v))) (sym seen_so)
        (changed_shown line w sound v sees c to t m (asked ((w.at c).said t)) (propose line t s m (w.at c)).state
        (λ d. []) (λ u d. carried_none (missions u) c d) (λ u e d. carried_none (hands u e) c d) at refl refl refl
        (put_pair v.said t c (v.said t c + 1))
        (part_changes ℕ c t (v.said t c + 1) v.said (w.at c).said
        (propose line t s m (w.at c)).state.said (λ u. sees.said u c)
        (λ u. ap (λ n. put (w.at c).said t (n + 1) u) (sym (sees.said t c)))) refl refl refl
        (ap (λ (o : Option Mission). put (w.at c).mission t
        (option_map
        (λ (n : Mission). record n { proposal = Some (record { stamp = (w.at c).said t + 1; last_kept = s - 1 }) })
        o)) at))

    pub takes_so : TakesAll line v (Propose t c s ∷ []) (said_by (propose line t s m (w.at c))) after
    takes_so = one_quiet line w c v (Propose t c s) (said_by (propose line t s m (w.at c))) after proposes

    proposal_moves : Moves line w c (propose line t s m (w.at c)) v
    proposal_moves = record {
      quiets = Propose t c s ∷ [];
      new = after;
      takes = takes_so;
      own_centre = and_from (c == c) true (eq-eqb c c refl) refl;
      shows = shows_so;
    }

  pub propose_moves : Moves line w c (propose_if_so line t s (w.at c)) v
  propose_moves = moves_or line w c v ((w.at c).mission t) _ (rest (w.at c))
      (λ m at. moves_if line w c v (may_propose line t s m (w.at c)) (propose line t s m (w.at c)) (rest (w.at c))
      (λ may. proposal_moves m at may) (λ no. rest_moves line w sound v sees c to))
      (λ none. rest_moves line w sound v sees c to)

-- if it may be sent, it is that one quiet step
pub proposal_takes : (line : Line) (w : Flow) (c t s : ℕ) (k : Centre) (v : LineState) → IsFlowSound line w
    → Shows line w v → is_centre line c ≡ true → w.at c ≡ k
    → (m : Mission) → k.mission t ≡ Some m → may_propose line t s m k ≡ true
    → (new : LineState) × TakesAll line v (Propose t c s ∷ []) (said_by (propose line t s m k)) new
    × Shows line (replied w c (propose line t s m k)) new
proposal_takes line w c t s k v sound sees to is = subst
    (λ (x : Centre). (m : Mission) → x.mission t ≡ Some m → may_propose line t s m x ≡ true
    → (new : LineState) × TakesAll line v (Propose t c s ∷ []) (said_by (propose line t s m x)) new
    × Shows line (replied w c (propose line t s m x)) new) is
    (λ m at may. (
      after line w sound v sees c to t s m at may,
      takes_so line w sound v sees c to t s m at may,
      shows_so line w sound v sees c to t s m at may,
    ))

pub propose_leads : (line : Line) (w : Flow) (c t s : ℕ) (k : Centre) (v : LineState) → IsLine line → IsFlowSound line w
    → Shows line w v → is_centre line c ≡ true → w.at c ≡ k
    → Leads line w c (propose_if_so line t s k) v
propose_leads line w c t s k v ok sound sees to is = subst (λ x. Leads line w c (propose_if_so line t s x) v) is
    (leading line w c v (propose_if_so line t s (w.at c)) (propose_moves line w sound v sees c to t s)
    (act_sound line ok c w sound to (propose_if_so line t s (w.at c))
    (propose_sound line ok c t s (w.at c) (sound.centres c to))
    (λ y counts ready. fair_propose_if line c y counts t s (w.at c)) (goes_propose_if line t s (w.at c))))

-- # After the extension by a request, the border may be sent.

-- a section does not end before its start
start_first : (line : Line) (track s : ℕ) → is_on line track s ≡ true → start line s ≤ end line s
start_first line track s on = let p = section_on line track s on in
    omega (arith, start_is line track s p.0 p.1, end_of line track s p.0 p.1)

module _ (line : Line) (ok : IsLine line) (c d : ℕ) (k : Centre) (m : TrainMessage) (n : Mission) (place : Place)
    (h : IsRequestHeard line c k m n place) (hand : IsHandAt line n.place n.hand) where
  abbrev more : SectionRun
  more = extension line c k (record n { place = place })

  abbrev longer : Mission
  longer = extended line c k place n

  track_is : place.track ≡ n.place.track
  track_is = (placed_on line n.place.track h.position place h.place_is).track_is

  last_on : is_on line place.track (next_after n.hand - 1) ≡ true
  last_on = subst (λ x. is_on line x (next_after n.hand - 1) ≡ true) (sym track_is)
      (hand.on_track (next_after n.hand - 1)
      (within_from n.hand (next_after n.hand - 1) (omega (arith, hand.some)) (omega (arith, hand.some))))

  some : is_empty n.hand ≡ false
  some = ne_eqb n.hand.count 0 (λ e. let no : ⊥ = omega (arith, e, hand.some) in no)

  up : k.phase m.nid_engine ≡ Up
  up = up_is (k.phase m.nid_engine) (not-false (is_up (k.phase m.nid_engine))
      (sym (ap (is_out_of_phase k m.nid_engine) h.asks)
      ∙ not_for line c k m (Request h.position) 3 WrongPhase h.asks h.heard refl))

  module _ (none : is_empty (part_at line d place.track n.hand) ≡ true)
      (filled : is_empty (part_at line d place.track longer.hand) ≡ false) where
    abbrev part : SectionRun
    part = part_at line d place.track longer.hand

    both : (within (joined n.hand more) part.first ≡ true) × (within (home_run line d place.track) part.first ≡ true)
    both = let count : part.count ≢ 0 = eqb-false part.count 0 filled in
        and_parts (within (joined n.hand more) part.first) (within (home_run line d place.track) part.first)
        (sym (within_shared (joined n.hand more) (home_run line d place.track) part.first)
        ∙ within_from part part.first (omega arith) (omega (arith, count)))

    -- the border was reached by the extension
    came : within more part.first ≡ true
    came = ⊎_elim
        (λ (old : within n.hand part.first ≡ true). let wrong : false
        ≡ true = sym (within_none (part_at line d place.track n.hand) part.first
        (eqb-true (part_at line d place.track n.hand).count 0 none))
        ∙ within_shared n.hand (home_run line d place.track) part.first
        ∙ and_from (within n.hand part.first) (within (home_run line d place.track) part.first) old both.1 in cc)
        (λ (new : within more part.first ≡ true). new)
        (or_cases (within n.hand part.first) (within more part.first)
        (sym (within_joined n.hand more part.first refl) ∙ both.0))

    within_reach : start line part.first ≤ group_start line place + farthest
    within_reach =
        let passes : may_follow line c k (record n { place = place }) part.first ≡ true =
        (longest_is (may_follow line c k (record n { place = place })) (next_after n.hand)
        (most_in_hand - n.hand.count)).each part.first came in
        let parts = and_parts (is_on line place.track part.first
        && (is_free line c k part.first || within n.pool part.first))
        (nat_le (end line part.first) (group_start line place + farthest)) passes in
        let on = (and_parts (is_on line place.track part.first) (is_free line c k part.first
        || within n.pool part.first) parts.0).0 in
        omega (
          arith,
          start_first line place.track part.first on,
          leb-true (end line part.first) (group_start line place + farthest) parts.1,
        )

  -- the border may be sent, if no handover was announced and the hand had no section of the next centre
  pub request_may_announce : (j : Centre) → next_centre line c place.track ≡ Some d
      → (n.handing ≡ None → is_empty (part_at line d place.track n.hand) ≡ true)
      → j.mission m.nid_engine ≡ Some longer → j.phase m.nid_engine ≡ k.phase m.nid_engine
      → MayAnnounce line c m.nid_engine d j
  request_may_announce j next unannounced at phase o there none filled =
      subst (λ x. x.handing ≡ None → is_empty (part_at line d x.place.track x.hand) ≡ false
      → MayOrder line c m.nid_engine d j x) (same_Some longer o (sym at ∙ there))
      (λ none_now filled_now. let before = unannounced none_now in record {
        is_up = phase ∙ up;
        next_is = next;
        ahead = border_ahead line c k m n place h d ok last_on some before filled_now;
        within_reach = within_reach before filled_now;
      }) none filled

  -- as is so if the centre announces all
  pub announced_before : AnnouncesAll line c k → next_centre line c place.track ≡ Some d → n.handing ≡ None
      → is_empty (part_at line d place.track n.hand) ≡ true
  announced_before all next none = ap (λ x. is_empty (part_at line d x n.hand)) track_is
      ∙ all m.nid_engine n h.mission d none (ap (next_centre line c) (sym track_is) ∙ next)
