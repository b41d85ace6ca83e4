-- The parts that an act of a centre keeps, and the end of a mission without its pool.
use Rattle.std.proofs.Common.{[], ◌++◌, ◌+◌, ◌∙◌, ◌≡◌, ◌≤◌, ap, arith, None, Option, option_map, refl, Some, subst, sym}
use Rattle.std.proofs.Common.{true, ℕ}
use Rattle.law_base.proofs.CountingLemmas.Resource.{carried_none}
use Rattle.law_base.proofs.LocalLemmas.Worlds.{is_ordered}
use Rattle.law_base.specs.Counting.Network.{TakesHead, took}
use Rattle.law_base.specs.Counting.Resource.{IsFair, Resource}
use Rattle.law_invariants.proofs.FlowLemmas.Kept.{acted_sound, delivered_sound}
use Rattle.law_invariants.proofs.HandoverLemmas.Kept.{orderly_pairs}
use Rattle.law_invariants.proofs.HandoverLemmas.Orderly.{Goes, goes_change, goes_returned, goes_then}
use Rattle.law_invariants.proofs.HandoverLemmas.Steps.{none_is_allowed, taken_pairs}
use Rattle.law_invariants.proofs.NoCopyLemmas.Leaving.{fair_returned, Makes}
use Rattle.law_invariants.proofs.NoCopyLemmas.Parts.{away_part, gone_here, gone_other, none_part, part_gone}
use Rattle.law_invariants.proofs.NoCopyLemmas.Ready.{Ready}
use Rattle.law_invariants.proofs.NoCopyLemmas.Rights.{rights_counted, rights_ready, rights_tally}
use Rattle.law_invariants.proofs.NoCopyLemmas.Tally.{eased, Fair, fair_both, fair_change, fair_set, fair_then, gone}
use Rattle.law_invariants.proofs.NoCopyLemmas.Tally.{IsTally, mission_back, mission_of, mission_put, Tally}
use Rattle.law_invariants.proofs.NoCopyLemmas.Tokens.{tokens_counted, tokens_ready, tokens_tally}
use Rattle.law_invariants.proofs.SoundLemmas.Again.{changed_sound}
use Rattle.law_invariants.proofs.SoundLemmas.Reports.{other_words, without_pool}
use Rattle.law_invariants.proofs.SoundLemmas.Sends.{leaves, returned_sent, Sound, then_sound}
use Rattle.law_invariants.specs.Flow.Counts.{hands, missions}
use Rattle.law_invariants.specs.Flow.Flow.{centre_count, Flow}
use Rattle.law_invariants.specs.Flow.Keeping.{came_with, IsFairAct, LeavesSound, nothing_came}
use Rattle.law_invariants.specs.Flow.Leads.{replied}
use Rattle.law_invariants.specs.Flow.Pairs.{before}
use Rattle.law_invariants.specs.Flow.Shows.{Shows}
use Rattle.law_invariants.specs.Flow.Sound.{IsCentreSound, IsFlowSound}
use Rattle.law_invariants.specs.Handover.Orderly.{Allowance, IsOrderly, IsOrderlyWith, IsTakenWith, none_allowed}
use Rattle.law_refinement.proofs.AbstractionLemmas.Hands.{sends_both, sends_home}
use Rattle.law_refinement.proofs.AbstractionLemmas.Shows.{part_stays}
use Rattle.law_refinement.proofs.FollowupsLemmas.Moves.{changed_shown}
use Rattle.law_refinement.specs.Abstraction.Acts.{SendsNone}
use Rattle.law_refinement.specs.Followups.Shown.{ends, IsShownSo}
use Rattle.rbc_spec.proofs.Lists.{put_over, put_there}
use Rattle.rbc_spec.specs.Acts.{◌>>◌, change_mission, Reply, return_pool, returned}
use Rattle.rbc_spec.specs.Centre.{Centre, Mission}
use Rattle.rbc_spec.specs.Frame.{Body}
use Rattle.rbc_spec.specs.Line.{is_centre, IsLine, Line}
use Rattle.rbc_spec.specs.LineCentre as line_centre
use Rattle.rbc_spec.specs.LineCentre.{LineMission, LineState}
use Rattle.rbc_spec.specs.Maps.{put}
use Rattle.rbc_spec.specs.OwnSteps.{ended}
use Rattle.rbc_spec.specs.SectionRuns.{no_run}

-- # The invariants that an act of a centre keeps. It keeps all if it makes no counted amount, leaves sound parts, and
-- is
-- orderly.

module _ (line : Line) (ok : IsLine line) (c : ℕ) where
  -- of each counted amount the act makes no more than arrived
  abbrev pub MakesNoMore : Centre → (Resource Centre Body → ℕ) → Reply → Type 0
  MakesNoMore k came q = (y : Tally) → IsTally line c y → Ready line c y k → Fair line c y k (came y.res) 0 q

  as_fair : (k : Centre) (came : ℕ) (q : Reply) (y : Tally) → IsTally line c y → Fair line c y k came 0 q
      → IsFair y.res (centre_count line) c k came q.state q.frames
  as_fair k came q y is fair =
      record { law = omega (arith, fair.law, is.held k, is.cap k, is.held q.state, is.cap q.state) }

  -- the act is fair, since it makes no more than arrived
  pub made_fair : (k : Centre) (came : Resource Centre Body → ℕ) (q : Reply) → IsCentreSound line c k
      → MakesNoMore k came q → IsFairAct line c k came q.state q.frames
  made_fair k came q sound makes = record {
    rights = λ t. let is = rights_counted line c t in
        as_fair k (came (rights_tally line c t).res) q (rights_tally line c t) is
        (makes (rights_tally line c t) is (rights_ready line c t k));
    tokens = λ t s. let is = tokens_counted line (is_ordered line ok) c t s in
        as_fair k (came (tokens_tally line c t s).res) q (tokens_tally line c t s) is
        (makes (tokens_tally line c t s) is (tokens_ready line (is_ordered line ok) c t s k));
  }

  module _ (w : Flow) (sound : IsFlowSound line w) (to : is_centre line c ≡ true) (q : Reply)
      (leaves : LeavesSound line c q.state q.frames) where
    -- by itself
    pub act_keeps : IsFairAct line c (w.at c) nothing_came q.state q.frames → IsOrderly (w.at c) q.state q.frames
        → IsFlowSound line (replied w c q)
    act_keeps fair orderly = acted_sound line w sound c to q.state q.frames leaves fair
        (λ i j t at there. orderly_pairs w sound.counted c q.state q.frames none_allowed orderly
        (λ d u h so. absurd (none_is_allowed so)) i j t (sound.pairs i j t at there))

    -- if it yields only an announced handover that is taken over
    pub act_sound_with : (allow : Allowance)
        → ((d u h : ℕ) → allow d u h ≡ true → (before w c d u h ≡ 0) × (h ≤ (w.at c).announced))
        → MakesNoMore (w.at c) nothing_came q
        → IsOrderlyWith allow (w.at c) q.state q.frames → IsFlowSound line (replied w c q)
    act_sound_with allow may makes orderly =
        acted_sound line w sound c to q.state q.frames leaves
        (made_fair (w.at c) nothing_came q (sound.centres c to) makes)
        (λ i j t at there. orderly_pairs w sound.counted c q.state q.frames allow orderly may i j t
        (sound.pairs i j t at there))

    pub act_sound : MakesNoMore (w.at c) nothing_came q → IsOrderly (w.at c) q.state q.frames
        → IsFlowSound line (replied w c q)
    act_sound makes orderly = act_keeps (made_fair (w.at c) nothing_came q (sound.centres c to) makes) orderly

    -- at the head of a link
    module _ (a : ℕ) (f : Body) (from : is_centre line a ≡ true) (head : TakesHead w a c f) where
      pub head_keeps : IsFairAct line c (w.at c) (came_with a c f) q.state q.frames
          → IsTakenWith a f (w.at c) q.state q.frames → IsFlowSound line (replied (took w a c) c q)
      head_keeps fair taken = delivered_sound line w sound c to q.state q.frames leaves a f head from fair
          (λ i j t at there. taken_pairs w sound.counted a c f head q.state q.frames taken
          (λ u. sound.pairs c a u to from) i j t (sound.pairs i j t at there))

      pub head_sound : MakesNoMore (w.at c) (came_with a c f) q → IsTakenWith a f (w.at c) q.state q.frames
          → IsFlowSound line (replied (took w a c) c q)
      head_sound makes taken = head_keeps (made_fair (w.at c) (came_with a c f) q (sound.centres c to) makes) taken

-- # The pool of a mission is returned and the mission is ended: the last acts of an end of mission.

abbrev without : Mission → Mission
without n = record n { pool = no_run }

abbrev over : Mission → Mission
over n = record n { is_ended = true; proposal = None }

-- ## It makes nothing

module _ (line : Line) (c : ℕ) (y : Tally) (is : IsTally line c y) (t : ℕ) (m : Mission) (k : Centre)
    (has : k.mission t ≡ Some m) (ready : Ready line c y k) where
  no_more : gone y t m.pool + mission_of y (put k.mission t (option_map without (k.mission t)) y.train) ≤ 0
      + mission_of y (k.mission y.train)
  no_more = mission_put line c y k t (option_map without (k.mission t)) (gone y t m.pool) 0
      (λ here. omega (
        arith,
        ap (λ (o : Option Mission). mission_of y (option_map without o)) has,
        ap (mission_of y) has,
        gone_here line c y is t m.pool,
        away_part line c y is m.pool,
        none_part y,
      ))
      (λ other. omega (arith, gone_other line c y is t m.pool other))

  no_less : y.exact ≡ true → 0 + mission_of y (k.mission y.train) ≤ gone y t m.pool
      + mission_of y (put k.mission t (option_map without (k.mission t)) y.train)
  no_less so = mission_back line c y k t (option_map without (k.mission t)) (gone y t m.pool) 0
      (λ here. omega (
        arith,
        ap (λ (o : Option Mission). mission_of y (option_map without o)) has,
        ap (mission_of y) has,
        part_gone line c y is so t m.pool here,
        none_part y,
      ))
      (λ other. omega arith)

  pool_fair : Makes line c y is k (return_pool line c t m k)
  pool_fair = eased line c y 0 0 k (return_pool line c t m k) (omega (arith, no_more)) (λ so. omega (arith, no_less so))
      (fair_then line c y (returned line c t m.place.track m.pool) (change_mission t without) k
      (fair_returned line c y is t m.place.track m.pool k
      (λ exact here. (ready.stands exact m (ap (λ v. k.mission v) (sym here) ∙ has)).pool_on))
      (fair_set line c y t (option_map without (k.mission t)) k))

  ends_fair : Makes line c y is k (ends line c t m k)
  ends_fair = fair_both line c y (return_pool line c t m) (change_mission t over) k pool_fair
      (fair_change line c y t over _ (λ n. (refl, refl)))

-- ## The state after it

ends_sound : (line : Line) → IsLine line → (c t : ℕ) (m : Mission) (k : Centre) → IsCentreSound line c k
    → Sound line c (ends line c t m k)
ends_sound line ok c t m k old = then_sound line c (return_pool line c t m) (change_mission t over) k
    (then_sound line c (returned line c t m.place.track m.pool) (change_mission t without) k
    (leaves line c old (returned_sent line c ok t m.place.track m.pool k))
    (λ j same sound. changed_sound line c j sound t without (λ n at. refl)
    (λ n at. without_pool line ok c j n (sound.mission t n at))))
    (λ i same last. changed_sound line c i last t over (λ n there. refl)
    (λ n there. other_words line ok c i n n.has_data true None (last.mission t n there)))

ends_goes : (line : Line) (c t : ℕ) (m : Mission) (k : Centre) → Goes k (ends line c t m k)
ends_goes line c t m k = goes_then (return_pool line c t m) (change_mission t over) k
    (goes_then (returned line c t m.place.track m.pool) (change_mission t without) k
    (goes_returned line c t m.place.track m.pool k) (goes_change t without _ (λ n. refl)))
    (goes_change t over _ (λ n. refl))

-- ## The shown state

module _ (line : Line) (ok : IsLine line) (w : Flow) (sound : IsFlowSound line w) (v : LineState)
    (sees : Shows line w v) (c : ℕ) (to : is_centre line c ≡ true) (t : ℕ)
    (m : Mission) (at : (w.at c).mission t ≡ Some m) where
  -- the frames, in the order of the acts
  home_alone : (r : Resource Centre Body) → SendsNone r c (returned line c t m.place.track m.pool (w.at c)).frames
      → SendsNone r c (λ d. ((returned line c t m.place.track m.pool (w.at c)).frames d ++ []) ++ [])
  home_alone r none = sends_both r c (λ d. (returned line c t m.place.track m.pool (w.at c)).frames d ++ []) (λ d. [])
      (sends_both r c (returned line c t m.place.track m.pool (w.at c)).frames (λ d. []) none (λ d. carried_none r c d))
      (λ d. carried_none r c d)

  mission_now : (ends line c t m (w.at c)).state.mission ≡ put (w.at c).mission t (Some (over (without m)))
  unfolding ◌>>◌
  mission_now =
      λ i u. (put_over t (option_map over (put (w.at c).mission t (option_map without ((w.at c).mission t)) t))
      (option_map without ((w.at c).mission t)) (w.at c).mission u
      ∙ ap (λ (o : Option Mission). put (w.at c).mission t (option_map over o) u)
      (put_there (w.at c).mission t (option_map without ((w.at c).mission t)))
      ∙ ap (λ (o : Option Mission). put (w.at c).mission t (option_map over (option_map without o)) u) at) i

  ends_shown : Shows line (replied w c (ends line c t m (w.at c))) (ended t v)
  unfolding ◌>>◌
  ends_shown =
      subst (λ (o : Option LineMission). Shows line (replied w c (ends line c t m (w.at c)))
      (line_centre.set_mission t o v))
      (sym (ap (λ (o : Option LineMission).
      option_map (λ (n : LineMission). record n { is_ended = true; proposal = None }) o) (sees.mission t c m at)))
      (changed_shown line w sound v sees c to t m (over (without m)) (ends line c t m (w.at c)).state
      (ends line c t m (w.at c)).frames
      (λ u. home_alone (missions u) (sends_home line c t u 0 m.place.track m.pool (w.at c)).1)
      (λ u s. home_alone (hands u s) (sends_home line c t u s m.place.track m.pool (w.at c)).0) at refl refl refl
      v.said (part_stays ℕ c v.said (w.at c).said (λ u. sees.said u c)) refl refl refl mission_now)

pub ended_so : (line : Line) (w : Flow) (c t : ℕ) (m : Mission) (k : Centre) (v : LineState) → IsLine line
    → IsFlowSound line w → Shows line w v → is_centre line c ≡ true → w.at c ≡ k
    → k.mission t ≡ Some m → IsShownSo line w c (ends line c t m k) (ended t v)
unfolding ◌>>◌
ended_so line w c t m k v ok sound sees to is at =
    subst (λ x. IsShownSo line w c (ends line c t m x) (ended t v)) is (record {
      silent = refl;
      shows = ends_shown line ok w sound v sees c to t m here;
      sound = act_sound line ok c w sound to (ends line c t m (w.at c))
          (ends_sound line ok c t m (w.at c) (sound.centres c to))
          (λ y counts ready. ends_fair line c y counts t m (w.at c) here ready) (ends_goes line c t m (w.at c));
    })
  where
    here : (w.at c).mission t ≡ Some m
    here = ap (λ (x : Centre). x.mission t) is ∙ at
