use Rattle.std.proofs.Common.{[], ◌&&◌, ◌*◌, ◌+◌, ◌-◌, ◌==◌, ◌∙◌, ◌∷◌, ◌≡◌, ◌≢◌, ◌≤◌, All, ap, arith, Bool, eq-eqb}
use Rattle.std.proofs.Common.{eqb-true, false, if◌then◌else◌, nat_le, None, not, Option, option_map, refl, Some, subst}
use Rattle.std.proofs.Common.{sym, true, ℕ}
use Rattle.std.proofs.lemmas.Bool.{and_parts, cond-true, eqb-false}
use Rattle.std.proofs.lemmas.List.Elements.{All-cons, All-nil}
use Rattle.std.specs.Option.{option_map_or}
use Rattle.law_base.proofs.LocalLemmas.Homes.{within_kept, within_rest}
use Rattle.law_base.proofs.LocalLemmas.Missions.{none_within}
use Rattle.law_base.proofs.RulesLemmas.Places.{placed_on}
use Rattle.law_invariants.proofs.SoundLemmas.Again.{changed_sound, free_sound}
use Rattle.law_invariants.proofs.SoundLemmas.Held.{ends_less, IsReported, reported, still}
use Rattle.law_invariants.proofs.SoundLemmas.Leaving.{part_leaves, part_then, to_centre, whole_leaves}
use Rattle.law_invariants.proofs.SoundLemmas.Sends.{if_sound, joined_without, leaves, not_away, one_sent, or_reply}
use Rattle.law_invariants.proofs.SoundLemmas.Sends.{or_sound, rest_sound, returned_sent, Sound, tail_after, tail_part}
use Rattle.law_invariants.proofs.SoundLemmas.Sends.{then_sound, whole_tail}
use Rattle.law_invariants.specs.Flow.Sound.{IsBodySound, IsCentreSound, IsMissionAt}
use Rattle.rbc_spec.proofs.Runs.{longest_few, within_from, within_true}
use Rattle.rbc_spec.proofs.Worlds.{rests_or_cuts}
use Rattle.rbc_spec.specs.Acts.{◌>>◌, Act, cancel, change_mission, close, leave, part_at, rest, return_pool, returned}
use Rattle.rbc_spec.specs.Acts.{send, set_mission, with_mission}
use Rattle.rbc_spec.specs.Centre.{Centre, Expectation, Mission, Proposal}
use Rattle.rbc_spec.specs.Frame.{Cancel, TakingOver}
use Rattle.rbc_spec.specs.Line.{end, is_centre, is_home, IsLine, Line, next_centre}
use Rattle.rbc_spec.specs.Place.{is_cleared, Place, place_on, Position}
use Rattle.rbc_spec.specs.Rules.{answer_granted, clear, cleared, cut, end_mission, granted, report, report_here}
use Rattle.rbc_spec.specs.Rules.{stand_still, take_over}
use Rattle.rbc_spec.specs.SectionRuns.{is_empty, joined, next_after, no_run, part_before, part_from, SectionRun, within}
use Rattle.rbc_spec.specs.Sections.{is_on}

module _ (line : Line) (ok : IsLine line) (c : ℕ) where
  -- ## Report

  front_left : (k : Centre) (m : Mission) (place : Place) (n : ℕ) → IsMissionAt line c k m → place.track ≡ m.place.track
      → IsReported line place → n ≤ m.hand.count → n ≢ m.hand.count
      → IsMissionAt line c k (record m { place = place; hand = part_from (m.hand.first + n) m.hand })
  front_left k m place n is same at few other = record {
    hand = record {
      some = omega (arith, few, other);
      few = omega (arith, is.hand.few);
      on_track = λ s has. subst (λ t. is_on line t s ≡ true) (sym same)
          (is.hand.on_track s (and_parts (within m.hand s) _ (sym (within_rest m.hand n s few) ∙ has)).0);
      group = at.group;
      front = at.front;
    };
    pool_follows = λ some. is.pool_follows some ∙ (omega (arith, few, other));
    pool_away = is.pool_away;
    pool_on = λ s has. subst (λ t. is_on line t s ≡ true) (sym same) (is.pool_on s has);
    pool_next = λ s d next has. is.pool_next s d (ap (next_centre line c) (sym same) ∙ next) has;
    handing_to = λ h handed. ap (next_centre line c) same ∙ is.handing_to h handed;
    handing_number = is.handing_number;
    hand_ends = ends_less line c k m (record m { place = place; hand = part_from (m.hand.first + n) m.hand })
        is same (λ stands. stands)
        (λ s has. (and_parts (within m.hand s) _ (sym (within_rest m.hand n s few) ∙ has)).0);
  }

  clear_sound : (t : ℕ) (m : Mission) (place : Place) (k : Centre) → IsCentreSound line c k → k.mission t ≡ Some m
      → place.track ≡ m.place.track → IsReported line place
      → Sound line c (clear line c t m place k)
  clear_sound t m place k old at same there =
      let is = old.mission t m at in
      let r : SectionRun = cleared line place m in
      let few = longest_few (is_cleared line place) m.hand.first m.hand.count in
      if_sound line c (r.count == m.hand.count) _ _ k
      (λ all. whole_leaves line ok c k old t m at m m.place.track (joined m.hand m.pool)
      (λ s home. joined_without m.hand m.pool s (λ some more. is.pool_follows more)
      (not_away (within m.pool s) (is_home line c s) home (is.pool_away s)))
      (to_centre line ok c k m is))
      (λ some. part_leaves line ok c k old t m at (record m { place = place; hand = part_from (next_after r) m.hand })
      m.place.track r
      (λ s home has. let in_r = within_true r s has in within_from m.hand s in_r.0 (omega (arith, in_r, few)))
      (λ s home. within_rest m.hand r.count s few)
      (front_left k m place r.count is same there few (eqb-false r.count m.hand.count some)))

  pub report_here_sound : (t : ℕ) (position : Position) (m : Mission) (k : Centre) → IsCentreSound line c k
      → k.mission t ≡ Some m → Sound line c (report_here line c t position m k)
  report_here_sound t position m k old at =
      or_sound line c (place_on line m.place.track position) (clear line c t m) rest k
      (λ place is. let there = placed_on line m.place.track position place is in
      clear_sound t m place k old at there.track_is (reported line position place there.extent_is))
      (λ none. rest_sound line c k old)

  pub take_over_sound : (t : ℕ) (k : Centre) → IsCentreSound line c k → Sound line c (take_over line t k)
  take_over_sound t k old =
      leaves line c (free_sound line c k old (take_over line t k).state refl refl refl refl (λ u is. is)
      (omega arith) old.asks) (record {
        inside = λ d out. none_outside (is_centre line d) _ (k.expects d t) d out;
        bodies = λ d. each d _ (k.expects d t);
      })
    where
      none_outside : (at new : Bool) (o : Option Expectation) (d : ℕ) → at ≡ false
          → option_map_or (λ e. if at && new then TakingOver e.number t ∷ [] else []) o [] ≡ []
      none_outside true new o d out = cc
      none_outside false new (Some e) d out = refl
      none_outside false new None d out = refl

      each : (d : ℕ) (new : Bool) (o : Option Expectation)
          → All (IsBodySound line c d) (option_map_or (λ e. if new then TakingOver e.number t ∷ [] else []) o [])
      each d true (Some e) = All-cons (IsBodySound line c d) (TakingOver e.number t) [] (record {})
          (All-nil (IsBodySound line c d))
      each d false (Some e) = All-nil (IsBodySound line c d)
      each d new None = All-nil (IsBodySound line c d)

  pub report_sound : (t : ℕ) (position : Position) (k : Centre) → IsCentreSound line c k
      → Sound line c (report line c t position k)
  report_sound t position k old = or_reply line c (k.mission t) _ (take_over line t k)
      (λ m at. report_here_sound t position m k old at)
      (λ none. take_over_sound t k old)

  -- ## End of mission

  pub without_pool : (k : Centre) (m : Mission) → IsMissionAt line c k m
      → IsMissionAt line c k (record m { pool = no_run })
  without_pool k m is =
      record {
        hand = is.hand;
        pool_follows = λ some. cc;
        pool_away = λ s has. absurd (none_within s has);
        pool_on = λ s has. absurd (none_within s has);
        pool_next = λ s d next has. absurd (none_within s has);
        handing_to = is.handing_to;
        handing_number = is.handing_number;
        hand_ends = is.hand_ends;
      }

  pub other_words : (k : Centre) (m : Mission) (has_data is_ended : Bool) (proposal : Option Proposal)
      → IsMissionAt line c k m
      → IsMissionAt line c k (record m { has_data = has_data; is_ended = is_ended; proposal = proposal })
  other_words k m has_data is_ended proposal is =
      record {
        hand = is.hand;
        pool_follows = is.pool_follows;
        pool_away = is.pool_away;
        pool_on = is.pool_on;
        pool_next = is.pool_next;
        handing_to = is.handing_to;
        handing_number =
            is.handing_number;
        hand_ends = is.hand_ends;
      }

  pub pool_returned : (t : ℕ) (m : Mission) (k : Centre) → IsCentreSound line c k
      → Sound line c (return_pool line c t m k)
  pool_returned t m k old = then_sound line c (returned line c t m.place.track m.pool)
      (change_mission t (λ n. record n { pool = no_run })) k
      (leaves line c old (returned_sent line c ok t m.place.track m.pool k))
      (λ j is sound. changed_sound line c j sound t (λ n. record n { pool = no_run }) (λ n at. refl)
      (λ n at. without_pool j n (sound.mission t n at)))

  -- ## Shortening

  cancel_sound : (t : ℕ) (m : Mission) (k : Centre) → IsCentreSound line c k → k.mission t ≡ Some m
      → Sound line c (cancel t m k)
  cancel_sound t m k old at = or_sound line c m.handing (λ h. send h.to (Cancel h.number t)
      >> change_mission t (λ n. record n { handing = None })) rest k
      (λ h handed. then_sound line c (send h.to (Cancel h.number t))
      (change_mission t (λ n. record n { handing = None })) k
      (leaves line c old (one_sent line c h.to (Cancel h.number t) k
      (to_centre line ok c k m (old.mission t m at) h handed) (old.mission_known t m at).0))
      (λ j is sound. changed_sound line c j sound t (λ n. record n { handing = None }) (λ n there. refl)
      (λ n there. unhanded j n (sound.mission t n there))))
      (λ none. rest_sound line c k old)
    where
      unhanded : (j : Centre) (n : Mission) → IsMissionAt line c j n
          → IsMissionAt line c j (record n { handing = None })
      unhanded j n is =
          record {
            hand = is.hand;
            pool_follows = is.pool_follows;
            pool_away = is.pool_away;
            pool_on = is.pool_on;
            pool_next = is.pool_next;
            handing_to = λ h some. cc;
            handing_number = λ h some. cc;
            hand_ends =
                ends_less line c j n (record n { handing = None }) is refl (λ stands. cc) (λ s has. has);
          }

  kept_sound : (k : Centre) (m : Mission) (n : ℕ) → IsMissionAt line c k m → (part_from n m.hand).count ≢ m.hand.count
      → IsMissionAt line c k (record m { hand = part_before n m.hand; pool = no_run; proposal = None })
  kept_sound k m n is other = record {
    hand = record {
      some = omega (arith, other, is.hand.some);
      few = omega (arith, is.hand.few);
      on_track = λ s has. is.hand.on_track s (and_parts (within m.hand s) _ (sym (within_kept m.hand n s) ∙ has)).0;
      group = is.hand.group;
      front = is.hand.front;
    };
    pool_follows = λ some. cc;
    pool_away = λ s has. absurd (none_within s has);
    pool_on = λ s has. absurd (none_within s has);
    pool_next = λ s d next has. absurd (none_within s has);
    handing_to = is.handing_to;
    handing_number = is.handing_number;
    hand_ends = ends_less line c k m (record m { hand = part_before n m.hand; pool = no_run; proposal = None })
        is refl (λ stands. stands)
        (λ s has. (and_parts (within m.hand s) _ (sym (within_kept m.hand n s) ∙ has)).0);
  }

  then_if : (a f g : Act) (b : Bool) (k : Centre) → (b ≡ true → Sound line c ((a >> f) k))
      → (b ≡ false → Sound line c ((a >> g) k)) → Sound line c ((a >> (if b then f else g)) k)
  then_if a f g true k one two = one refl
  then_if a f g false k one two = two refl

  pub cut_sound : (t last_kept : ℕ) (m n : Mission) (k : Centre) → IsCentreSound line c k → k.mission t ≡ Some n
      → n.hand ≡ m.hand → IsMissionAt line c k m
      → Sound line c (cut line c t last_kept m k)
  cut_sound t last_kept m n k old at same is =
      let tail : SectionRun = part_from (last_kept + 1) m.hand in
      let kept : Mission = record m { hand = part_before (last_kept + 1) m.hand; pool = no_run; proposal = None } in
      let cancels : Act =
      option_map_or (λ h. if is_empty (part_at line h.to m.place.track kept.hand) then cancel t kept else rest)
      m.handing rest in
      let r : SectionRun = joined tail m.pool in
      let same_hand : (s : ℕ) → within m.hand s ≡ within n.hand s = λ s. ap (λ h. within h s) (sym same) in
      let r_is : (s : ℕ) → is_home line c s ≡ true → within r s ≡ within tail s
      = λ s home. joined_without tail m.pool s (λ some more. is.pool_follows more
      ∙ sym (tail_after (last_kept + 1) m.hand some))
      (not_away (within m.pool s) (is_home line c s) home (is.pool_away s)) in
      then_if (leave line c t m.place.track r) (close line c t m) (set_mission t (Some kept) >> cancels)
      (tail.count == m.hand.count) k
      (λ all. whole_leaves line ok c k old t n at m m.place.track r
      (λ s home. r_is s home ∙ whole_tail (last_kept + 1) m.hand s (eqb-true tail.count m.hand.count all) ∙ same_hand s)
      (to_centre line ok c k m is))
      (λ other. part_then line ok c k old t n at kept m.place.track r cancels
      (λ s home has. sym (same_hand s) ∙ tail_part (last_kept + 1) m.hand s (sym (r_is s home) ∙ has))
      (λ s home. within_kept m.hand (last_kept + 1) s ∙ ap (λ b. b && not (within tail s)) (same_hand s)
      ∙ ap (λ b. within n.hand s && not b) (sym (r_is s home)))
      (kept_sound k m (last_kept + 1) is (eqb-false tail.count m.hand.count other))
      (λ j sound there more. or_sound line c m.handing _ rest j
      (λ h handed. if_sound line c (is_empty (part_at line h.to m.place.track kept.hand)) (cancel t kept) rest j
      (λ gone. cancel_sound t kept j sound there) (λ some. rest_sound line c j sound))
      (λ none. rest_sound line c j sound)))

  granted_sound : (t : ℕ) (position : Position) (m : Mission) (p : Proposal) (k : Centre) → IsCentreSound line c k
      → k.mission t ≡ Some m → Sound line c (granted line c t position m p k)
  granted_sound t position m p k old at =
      let f : Mission → Mission = λ n. record n { proposal = None } in
      let cuts : Act =
      option_map_or (λ place. if nat_le place.front (10 * end line p.last_kept) then cut line c t p.last_kept m else
      rest) (place_on line m.place.track position) rest in
      let j : Centre = (change_mission t f k).state in
      let there : j.mission t ≡ Some (f m) =
      cond-true (t == t) (option_map f (k.mission t)) (k.mission t) (eq-eqb t t refl) ∙ ap (option_map f) at in
      let change = changed_sound line c k old t f (λ n is. refl)
      (λ n is. other_words k n n.has_data n.is_ended None (old.mission t n is)) in
      then_sound line c (change_mission t f) cuts k change
      (λ i is sound. subst (λ (x : Centre). Sound line c (cuts x)) (sym is)
      (or_sound line c (place_on line m.place.track position) _ rest j
      (λ place on. if_sound line c (nat_le place.front (10 * end line p.last_kept)) (cut line c t p.last_kept m) rest j
      (λ kept. cut_sound t p.last_kept m (f m) j change.centre there refl
      (still line c k j m (omega arith) (old.mission t m at)))
      (λ past. rest_sound line c j change.centre))
      (λ none. rest_sound line c j change.centre)))

  pub granting_sound : (t : ℕ) (position : Position) (k : Centre) → IsCentreSound line c k
      → Sound line c (answer_granted line c t position k)
  granting_sound t position k old = or_reply line c (k.mission t) _ (rest k)
      (λ m at. or_reply line c m.proposal (λ p. granted line c t position m p k) (rest k)
      (λ p is. granted_sound t position m p k old at) (λ none. rest_sound line c k old))
      (λ none. rest_sound line c k old)

  -- ## End of mission

  pub stand_sound : (t : ℕ) (position : Position) (m : Mission) (k : Centre) → IsCentreSound line c k
      → k.mission t ≡ Some m → Sound line c (stand_still line c t position m k)
  stand_sound t position m k old at = rests_or_cuts (λ act. Sound line c (act k)) line c t position m
      (rest_sound line c k old) (λ n some fits. cut_sound t (m.hand.first + n - 1) m m k old
      at refl (old.mission t m at))

  pub end_sound : (t : ℕ) (position : Position) (k : Centre) → IsCentreSound line c k
      → Sound line c (end_mission line c t position k)
  end_sound t position k old = then_sound line c (with_mission t (report_here line c t position)
      >> with_mission t (stand_still line c t position)) (with_mission t ends) k
      (then_sound line c (with_mission t (report_here line c t position))
      (with_mission t (stand_still line c t position)) k
      (or_reply line c (k.mission t) _ (rest k) (λ m at. report_here_sound t position m k old at)
      (λ none. rest_sound line c k old))
      (λ j is sound. or_reply line c (j.mission t) (λ m. stand_still line c t position m j) (rest j)
      (λ m at. stand_sound t position m j sound at) (λ none. rest_sound line c j sound)))
      (λ j is sound. or_reply line c (j.mission t) (λ m. ends m j) (rest j)
      (λ m at. then_sound line c (return_pool line c t m)
      (change_mission t (λ n. record n { is_ended = true; proposal = None })) j (pool_returned t m j sound)
      (λ i same last. changed_sound line c i last t (λ n. record n { is_ended = true; proposal = None })
      (λ n there. refl)
      (λ n there. other_words i n n.has_data true None (last.mission t n there))))
      (λ none. rest_sound line c j sound))
    where
      ends : Mission → Act
      ends m = return_pool line c t m >> change_mission t (λ n. record n { is_ended = true; proposal = None })
