-- A message and then an act: the parts that both keep.
use Rattle.std.proofs.Common.{[], ⊎_elim, ◌∙◌, ◌≡◌, ◌≢◌, ap, arith, is_some, Option, refl, Some, subst, true, ℕ}
use Rattle.std.proofs.lemmas.Bool.{cases_eq}
use Rattle.law_base.proofs.CountingLemmas.Resource.{carried_none}
use Rattle.law_base.proofs.LocalLemmas.Worlds.{is_ordered}
use Rattle.law_base.specs.Counting.Network.{acted}
use Rattle.law_base.specs.Counting.Resource.{IsFair, Resource}
use Rattle.law_invariants.proofs.FlowLemmas.Kept.{acted_sound}
use Rattle.law_invariants.proofs.FlowLemmas.Shown.{acted_twice}
use Rattle.law_invariants.proofs.FlowLemmas.Steps.{aside_sound}
use Rattle.law_invariants.proofs.HandoverLemmas.Kept.{orderly_pairs}
use Rattle.law_invariants.proofs.HandoverLemmas.Steps.{none_is_allowed}
use Rattle.law_invariants.proofs.NoCopyLemmas.Ready.{Ready}
use Rattle.law_invariants.proofs.NoCopyLemmas.Rights.{rights_counted, rights_ready, rights_tally}
use Rattle.law_invariants.proofs.NoCopyLemmas.Tally.{Fair, IsTally, Tally}
use Rattle.law_invariants.proofs.NoCopyLemmas.Tokens.{tokens_counted, tokens_ready, tokens_tally}
use Rattle.law_invariants.specs.Flow.Counts.{hands, missions}
use Rattle.law_invariants.specs.Flow.Flow.{centre_count, Flow}
use Rattle.law_invariants.specs.Flow.Keeping.{IsFairAct, LeavesSound, nothing_came}
use Rattle.law_invariants.specs.Flow.Leads.{LeadsOwn, replied}
use Rattle.law_invariants.specs.Flow.Shows.{Shows}
use Rattle.law_invariants.specs.Flow.Sound.{IsCentreSound, IsFlowSound}
use Rattle.law_invariants.specs.Handover.Orderly.{IsOrderly, none_allowed}
use Rattle.law_refinement.proofs.AbstractionLemmas.Shows.{by_itself, part_changes, part_stays, unseen_shown}
use Rattle.law_refinement.specs.Missions.Parts.{Answers}
use Rattle.rbc_spec.proofs.Lists.{put_here, put_other, put_there}
use Rattle.rbc_spec.specs.Acts.{◌>>◌, Act, hear, Reply}
use Rattle.rbc_spec.specs.Centre.{Centre, Phase}
use Rattle.rbc_spec.specs.Frame.{Body}
use Rattle.rbc_spec.specs.Line.{is_centre, IsLine, Line}
use Rattle.rbc_spec.specs.LineCentre.{hears, LineState}
use Rattle.rbc_spec.specs.Maps.{put, put_pair}
use Rattle.rbc_spec.specs.Message.{TrainMessage}
use Rattle.rbc_spec.specs.Step.{ticked}

-- # A message is recorded, and then an act follows: the state that the one line centre shows after both.

-- ## One act after another

-- after an act all is sound, and this is shown
pub record Reaches (line : Line) (w : Flow) (c : ℕ) (r : Reply) (new : LineState) : Type 0 where
  pub shows : Shows line (replied w c r) new
  pub sound : IsFlowSound line (replied w c r)

pub state_then : (w : Flow) (c : ℕ) (r : Reply) → (replied w c r).at c ≡ r.state
state_then w c r = put_there w.at c r.state

pub reaches_then : (line : Line) (w : Flow) (c : ℕ) (a b : Act) (k : Centre) (new : LineState)
    → Reaches line (replied w c (a k)) c (b (a k).state) new → Reaches line w c ((a >> b) k) new
unfolding ◌>>◌
reaches_then line w c a b k new two = record {
  shows = subst (λ u. Shows line u new) (acted_twice w c (a k).state (b (a k).state).state (a k).frames
      (b (a k).state).frames) two.shows;
  sound = subst (IsFlowSound line) (acted_twice w c (a k).state (b (a k).state).state (a k).frames
      (b (a k).state).frames) two.sound;
}

-- ## A message is recorded

module _ (line : Line) (w : Flow) (sound : IsFlowSound line w) (v : LineState) (sees : Shows line w v) (c : ℕ)
    (to : is_centre line c ≡ true) (stamp : ℕ) (m : TrainMessage) where
  abbrev pub k : Centre
  k = ticked stamp (w.at c)

  abbrev pub y : Centre
  y = (hear m k).state

  heard_more : (u : ℕ) → is_some ((w.at c).heard u) ≡ true
      → is_some (put (w.at c).heard m.nid_engine (Some m.t_train) u) ≡ true
  heard_more u is =
      ⊎_elim (λ (here : u ≡ m.nid_engine). ap is_some (put_here (w.at c).heard m.nid_engine u (Some m.t_train) here))
      (λ (other : u ≢ m.nid_engine). ap is_some (put_other (w.at c).heard m.nid_engine u (Some m.t_train) other)
      ∙ is) (cases_eq u m.nid_engine)

  pub sound_then : IsFlowSound line (replied w c (hear m k))
  sound_then =
      aside_sound line w sound c to y
      (record {
        book = refl;
        wish = refl;
        mission = refl;
        wait = refl;
        has_right = refl;
        expects = refl;
        announced = refl;
        asks = λ u first is. is;
        heard = heard_more;
      })

  pub shows_then : Shows line (replied w c (hear m k)) (hears c m v)
  shows_then = unseen_shown line w c nothing_came y (λ d. []) (acted w c y (λ d. [])) v v.phase
      (put_pair v.heard m.nid_engine c (Some m.t_train)) v.said sound sees to
      (by_itself line w c y (λ d. []) sound.counted to)
      (record {
        book = λ s. refl;
        wish = λ s. refl;
        wait = λ t. refl;
        mission = λ t. refl;
        hand = λ t s. refl;
        no_mission_came = λ t. refl;
        no_hand_came = λ t s. refl;
        no_mission_sent = λ t d. carried_none (missions t) c d;
        no_hand_sent = λ t s d. carried_none (hands t s) c d;
      })
      (part_stays Phase c v.phase y.phase (λ t. sees.phase t c))
      (part_changes (Option ℕ) c m.nid_engine (Some m.t_train) v.heard (w.at c).heard y.heard
      (λ u. sees.heard u c) (λ u. refl))
      (part_stays ℕ c v.said y.said (λ t. sees.said t c))

  -- after it an act is the own step
  pub heard_first : (act : Act) → Answers line (replied w c (hear m k)) c m (act ((replied w c (hear m k)).at c))
      (hears c m v) → LeadsOwn line w c m ((hear m >> act) k) v
  unfolding ◌>>◌
  heard_first act one =
      at_state (subst (λ x. Answers line (replied w c (hear m k)) c m (act x) (hears c m v))
      (state_then w c (hear m k)) one)
    where
      at_state : Answers line (replied w c (hear m k)) c m (act y) (hears c m v)
          → LeadsOwn line w c m ((hear m >> act) k) v
      at_state two = let both = reaches_then line w c (hear m) act k two.mid
          (record { shows = two.shows; sound = two.sound }) in
          record { mid = two.mid; own = two.own; shows = both.shows; sound = both.sound }

-- # The invariants that an act of a centre keeps. It keeps all if it makes no counted amount, leaves sound parts, and
-- is
-- orderly.

module _ (line : Line) (ok : IsLine line) (c : ℕ) where
  -- of each counted amount the act makes no more than arrived
  abbrev pub MakesNoMore : Centre → (Resource Centre Body → ℕ) → Reply → Type 0
  MakesNoMore k came q = (y : Tally) → IsTally line c y → Ready line c y k → Fair line c y k (came y.res) 0 q

  as_fair : (k : Centre) (came : ℕ) (q : Reply) (y : Tally) → IsTally line c y → Fair line c y k came 0 q
      → IsFair y.res (centre_count line) c k came q.state q.frames
  as_fair k came q y is fair =
      record { law = omega (arith, fair.law, is.held k, is.cap k, is.held q.state, is.cap q.state) }

  -- the act is fair, since it makes no more than arrived
  pub made_fair : (k : Centre) (came : Resource Centre Body → ℕ) (q : Reply) → IsCentreSound line c k
      → MakesNoMore k came q → IsFairAct line c k came q.state q.frames
  made_fair k came q sound makes = record {
    rights = λ t. let is = rights_counted line c t in
        as_fair k (came (rights_tally line c t).res) q (rights_tally line c t) is
        (makes (rights_tally line c t) is (rights_ready line c t k));
    tokens = λ t s. let is = tokens_counted line (is_ordered line ok) c t s in
        as_fair k (came (tokens_tally line c t s).res) q (tokens_tally line c t s) is
        (makes (tokens_tally line c t s) is (tokens_ready line (is_ordered line ok) c t s k));
  }

  module _ (w : Flow) (sound : IsFlowSound line w) (to : is_centre line c ≡ true) (q : Reply)
      (leaves : LeavesSound line c q.state q.frames) where
    -- by itself
    pub act_keeps : IsFairAct line c (w.at c) nothing_came q.state q.frames → IsOrderly (w.at c) q.state q.frames
        → IsFlowSound line (replied w c q)
    act_keeps fair orderly = acted_sound line w sound c to q.state q.frames leaves fair
        (λ i j t at there. orderly_pairs w sound.counted c q.state q.frames none_allowed orderly
        (λ d u h so. absurd (none_is_allowed so)) i j t (sound.pairs i j t at there))

    pub act_sound : MakesNoMore (w.at c) nothing_came q → IsOrderly (w.at c) q.state q.frames
        → IsFlowSound line (replied w c q)
    act_sound makes orderly = act_keeps (made_fair (w.at c) nothing_came q (sound.centres c to) makes) orderly
