-- An order to end the session is a quiet step, if the train has no mission here and no section of this home.
use Rattle.std.proofs.Common.{[], ◌&&◌, ◌+◌, ◌<◌, ◌==◌, ◌∙◌, ◌∷◌, ◌≡◌, ap, arith, false, is_some, None, Option, refl}
use Rattle.std.proofs.Common.{Some, subst, suc, sym, true, zero, ℕ}
use Rattle.std.proofs.lemmas.Bool.{eqb-true}
use Rattle.std.proofs.lemmas.List.Elements.{All-contains}
use Rattle.std.specs.Prelude.{Contains}
use Rattle.law_base.proofs.CountingLemmas.Places.{placed_parts}
use Rattle.law_base.proofs.CountingLemmas.Resource.{carried_none}
use Rattle.law_base.proofs.CountingLemmas.Sums.{links_some, one_if_some, sum_some}
use Rattle.law_base.specs.Counting.Network.{way}
use Rattle.law_base.specs.Counting.Resource.{carried, placed}
use Rattle.law_base.specs.Counting.Sums.{sum_below}
use Rattle.law_invariants.proofs.FlowLemmas.Seats.{carried_some}
use Rattle.law_invariants.proofs.HandoverLemmas.Moves.{goes_end_order}
use Rattle.law_invariants.proofs.NoCopyLemmas.Leaving.{fair_end_order}
use Rattle.law_invariants.proofs.SoundLemmas.Leaving.{ordered_end}
use Rattle.law_invariants.specs.Flow.Counts.{hands, missions, yield_inside}
use Rattle.law_invariants.specs.Flow.Flow.{centre_count, Flow}
use Rattle.law_invariants.specs.Flow.Keeping.{nothing_came}
use Rattle.law_invariants.specs.Flow.Leads.{Leads, said_by}
use Rattle.law_invariants.specs.Flow.Shows.{parted, Shows}
use Rattle.law_invariants.specs.Flow.Sound.{IsBodySound, IsFlowSound, IsYieldSound}
use Rattle.law_refinement.proofs.FollowupsLemmas.Keeps.{act_sound}
use Rattle.law_refinement.proofs.FollowupsLemmas.Moves.{leading, Moves, moves_if, rest_moves, said_moves}
use Rattle.law_refinement.proofs.FollowupsLemmas.Proposals.{up_is}
use Rattle.law_refinement.specs.Abstraction.After.{IsUnseen}
use Rattle.rbc_spec.proofs.Lists.{itself}
use Rattle.rbc_spec.specs.Acts.{end_order, rest, say}
use Rattle.rbc_spec.specs.Centre as centre
use Rattle.rbc_spec.specs.Centre.{Centre, is_up}
use Rattle.rbc_spec.specs.Frame.{Body, Yield}
use Rattle.rbc_spec.specs.Line.{is_centre, is_home, IsLine, Line}
use Rattle.rbc_spec.specs.LineCentre.{At, is_given_to, LineMission, LineState, Parted, says}
use Rattle.rbc_spec.specs.Maps.{put}
use Rattle.rbc_spec.specs.Message.{EndSession, unknown_group}
use Rattle.rbc_spec.specs.Quiet.{EndOrder, EndsSession}
use Rattle.rbc_spec.specs.ReadOff.{seen}
use Rattle.rbc_spec.specs.Sections.{nid_rbc}

module _ (line : Line) (w : Flow) (sound : IsFlowSound line w) (v : LineState)
    (sees : Shows line w v) (c : ℕ) (t : ℕ) where
  -- ## Who supervises

  -- the line shows a train as supervised only by centres that have its mission
  pub supervised_there : (w.at c).mission t ≡ None → (m : LineMission) → v.mission t ≡ Some m → m.supervisor ≡ At c → ⊥
  supervised_there none_here m is by_c = by_count (placed (missions t) (centre_count line) w) refl
    where
      at : (d : ℕ) (o : Option centre.Mission) → (w.at d).mission t ≡ o → is_some o ≡ true → ⊥
      at d None there has = cc
      at d (Some x) there has =
          let same : ◌≡◌ {A = Option LineMission} (Some (seen d x)) (Some m) = sym (sees.mission t d x there) ∙ is in
          let of_d : seen d x ≡ m = cc in
          let here : At d ≡ At c = ap (λ (y : LineMission). y.supervisor) of_d ∙ by_c in
          let c_is : d ≡ c = cc in
          let wrong : ◌≡◌ {A = Option centre.Mission} None (Some x) = sym none_here
          ∙ ap (λ e. (w.at e).mission t) (sym c_is) ∙ there in cc

      on : (a b : ℕ) (f : Body) → Contains (way w a b) f → 0 < yield_inside t f → ⊥
      on a b (Yield h u heard has_data is_ended place hand) there has =
          let of_t = eqb-true u t (one_if_some (u == t) has) in
          let fits : IsYieldSound line a b u place hand =
          All-contains (IsBodySound line a b) (way w a b) (Yield h u heard has_data is_ended place hand)
          (sound.bodies.each a b) there in
          let same : ◌≡◌ {A = Option LineMission} (Some (parted heard has_data is_ended fits.place)) (Some m)
          = sym (sees.on_way a b h t heard has_data is_ended fits.place hand (subst (Contains (way w a b))
          (ap (λ x. Yield h x heard has_data is_ended place hand) of_t
          ∙ ap (λ p. Yield h t heard has_data is_ended p hand) fits.is_carried) there)) ∙ is in
          let of_it : parted heard has_data is_ended fits.place ≡ m = cc in
          let wrong : Parted heard ≡ At c = ap (λ (y : LineMission). y.supervisor) of_it ∙ by_c in cc
      on a b f there has = absurd (let no : ⊥ = omega (arith, has) in no)

      by_centres : (n : ℕ) → 0 < placed (missions t) (centre_count line) w
          → sum_below (centre_count line) (λ d. (missions t).held d (w.at d)) ≡ n → ⊥
      by_centres zero some none =
          let link = links_some (centre_count line) (λ a b. carried (missions t) a b (way w a b))
          (omega (arith, none, some, placed_parts (missions t) (centre_count line) w)) in
          let body = carried_some (missions t) link.0 link.1 (way w link.0 link.1) link.4 in
          on link.0 link.1 body.0 body.1 body.2
      by_centres (suc n) some has =
          let who = sum_some (centre_count line) (λ d. (missions t).held d (w.at d)) (omega (arith, has)) in
          at who.0 ((w.at who.0).mission t) refl (one_if_some _ who.2)

      by_count : (n : ℕ) → placed (missions t) (centre_count line) w ≡ n → ⊥
      by_count zero none = let wrong : ◌≡◌ {A = Option LineMission} None (Some m) =
          sym (sees.no_mission t none) ∙ is in cc
      by_count (suc n) some = by_centres (sum_below (centre_count line) (λ d. (missions t).held d (w.at d)))
          (omega (arith, some)) refl

  -- ## The order

  module _ (to : is_centre line c ≡ true) (none_here : (w.at c).mission t ≡ None)
      (none_given : (s : ℕ) → (is_home line c s && is_given_to t (v.mark s)) ≡ false) where
    ends : is_up ((w.at c).phase t) ≡ true
        → EndsSession line v t c (said_by (say t unknown_group (EndSession line.nid_c (nid_rbc line c)) (w.at c)))
        (says t c v)
    ends up = record {
      not_here = supervised_there none_here;
      is_up = sees.phase t c ∙ up_is ((w.at c).phase t) up;
      none_given = none_given;
      says = record {
        said_is =
            ap (λ (n : ℕ).
            record {
              sayings = record {
                nid_engine = t;
                message =
                    record { t_train = n + 1; nid_lrbg = unknown_group; body = EndSession line.nid_c (nid_rbc line c) };
              } ∷ [];
              words = [];
            }) (sym (sees.said t c));
        new_is = refl;
      };
    }

    unseen : IsUnseen c (w.at c) nothing_came (record (w.at c) { said = put (w.at c).said t ((w.at c).said t + 1) })
        (λ d. [])
    unseen = record {
      book = λ s. refl;
      wish = λ s. refl;
      wait = λ u. refl;
      mission = λ u. refl;
      hand = λ u s. refl;
      no_mission_came = λ u. refl;
      no_hand_came = λ u s. refl;
      no_mission_sent = λ u d. carried_none (missions u) c d;
      no_hand_sent = λ u s d. carried_none (hands u s) c d;
    }

    pub end_moves : Moves line w c (end_order line c t (w.at c)) v
    end_moves = moves_if line w c v (is_up ((w.at c).phase t))
        (say t unknown_group (EndSession line.nid_c (nid_rbc line c)) (w.at c)) (rest (w.at c))
        (λ up. said_moves line w sound v sees c to t (EndOrder t c)
        (say t unknown_group (EndSession line.nid_c (nid_rbc line c)) (w.at c)) (itself c)
        (ends up) unseen refl refl refl)
        (λ down. rest_moves line w sound v sees c to)

pub end_leads : (line : Line) (w : Flow) (c t : ℕ) (k : Centre) (v : LineState) → IsLine line → IsFlowSound line w
    → Shows line w v → is_centre line c ≡ true → w.at c ≡ k
    → k.mission t ≡ None → ((s : ℕ) → (is_home line c s && is_given_to t (v.mark s)) ≡ false)
    → Leads line w c (end_order line c t k) v
end_leads line w c t k v ok sound sees to is none_here none_given =
    subst (λ x. Leads line w c (end_order line c t x) v) is
    (leading line w c v (end_order line c t (w.at c))
    (end_moves line w sound v sees c t to (ap (λ (x : Centre). x.mission t) is ∙ none_here) none_given)
    (act_sound line ok c w sound to (end_order line c t (w.at c))
    (ordered_end line ok c t (w.at c) (sound.centres c to))
    (λ y counts ready. fair_end_order line c y counts t (w.at c)) (goes_end_order line c t (w.at c))))
