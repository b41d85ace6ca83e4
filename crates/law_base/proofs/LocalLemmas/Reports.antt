-- A centre that is local stays so as its trains report, shorten, and end.
use Rattle.std.proofs.Common.{◌&&◌, ◌*◌, ◌+◌, ◌-◌, ◌==◌, ◌∙◌, ◌≡◌, ◌≤◌, ap, arith, Bool, eqb-true, false, if◌then◌else◌}
use Rattle.std.proofs.Common.{nat_le, None, not, option_map, refl, Some, subst, sym, true, ℕ}
use Rattle.std.proofs.lemmas.Bool.{and_parts, eqb-false}
use Rattle.std.specs.Option.{option_map_or}
use Rattle.law_base.proofs.LocalLemmas.Changes.{changed, ends_here, freed_local, goes_on, hand_home}
use Rattle.law_base.proofs.LocalLemmas.Changes.{registrar_of_mission}
use Rattle.law_base.proofs.LocalLemmas.Homes.{within_kept, within_rest}
use Rattle.law_base.proofs.LocalLemmas.Missions.{if_act, or_act, place_of, then_both}
use Rattle.law_base.proofs.LocalLemmas.Stays.{alike_stays, all_home, close_here, leave_home, no_pool_returned}
use Rattle.law_base.proofs.LocalLemmas.Stays.{no_take_over, or_stays, rest_stays, Stays, then_stays}
use Rattle.law_base.specs.Local.Local.{hand_has, IsLocalAt, IsLocalMission, IsOrdered}
use Rattle.rbc_spec.proofs.Lists.{put_here}
use Rattle.rbc_spec.proofs.Runs.{joined_empty, longest_few, same_tests, within_from, within_true}
use Rattle.rbc_spec.proofs.Worlds.{alike_then, resting_then, rests_or_cuts, then_alike, then_resting}
use Rattle.rbc_spec.specs.Acts.{◌>>◌, Act, cancel, change_mission, close, freed, leave, part_at, rest, return_pool}
use Rattle.rbc_spec.specs.Acts.{set_mission, with_some}
use Rattle.rbc_spec.specs.Centre.{Centre, is_taken_for, Mission, Proposal}
use Rattle.rbc_spec.specs.Line.{end, Line}
use Rattle.rbc_spec.specs.Maps.{put}
use Rattle.rbc_spec.specs.Place.{extent, is_cleared, Place, place_on, Position}
use Rattle.rbc_spec.specs.Rules.{answer_granted, clear, cleared, cut, end_mission, granted, report, report_here}
use Rattle.rbc_spec.specs.Rules.{stand_still, take_over}
use Rattle.rbc_spec.specs.SectionRuns.{is_empty, joined, next_after, no_run, part_before, part_from, SectionRun, within}
use Rattle.rbc_spec.specs.Sections.{is_on}

none_left : (b : Bool) → false ≡ (b && not b)
none_left true = refl
none_left false = refl

module _ (line : Line) (c : ℕ) (ordered : IsOrdered line) where
  -- ## Sections that leave

  -- the whole hand leaves, and the mission closes
  pub whole_leaves : (t : ℕ) (m n : Mission) (track : ℕ) (r : SectionRun) (k : Centre) → IsLocalAt line c k
      → k.mission t ≡ Some n → m.handing ≡ None
      → ((s : ℕ) → within r s ≡ within n.hand s) → Stays line c ((leave line c t track r >> close line c t m) k)
  whole_leaves t m n track r k h at none same =
      let here = registrar_of_mission line c k t n h at in
      alike_stays line c ((leave line c t track r >> close line c t m) k)
      ((freed line c (is_taken_for t) r >> close line c t m) k)
      (alike_then (leave line c t track r) (freed line c (is_taken_for t) r) (close line c t m) k
      (leave_home line c t track r k
      (all_home line c track r ordered (λ s is. hand_home line c k t n h at s (sym (same s) ∙ is)))))
      (then_stays line c (freed line c (is_taken_for t) r) (close line c t m) k (λ d. refl)
      (alike_stays line c (close line c t m (freed line c (is_taken_for t) r k).state) _
      (close_here line c t m (freed line c (is_taken_for t) r k).state none here)
      (record {
        state = freed_local line c k t r None (put k.has_right t true) h
            (λ s. none_left (within n.hand s) ∙ ap (λ b. within n.hand s && not b) (sym (same s))
            ∙ sym (ap (λ o. hand_has o s && not (within r s)) at))
            (ends_here line c k t here);
        frames = λ d. refl;
      })))

  -- a part of the hand leaves, and the mission goes on with the rest
  pub part_leaves : (t : ℕ) (n p : Mission) (track : ℕ) (r : SectionRun) (k : Centre) → IsLocalAt line c k
      → k.mission t ≡ Some n → IsLocalMission line p
      → ((s : ℕ) → within r s ≡ true → within n.hand s ≡ true)
      → ((s : ℕ) → within p.hand s ≡ (within n.hand s && not (within r s)))
      → Stays line c ((leave line c t track r >> set_mission t (Some p)) k)
  part_leaves t n p track r k h at local part left =
      alike_stays line c ((leave line c t track r >> set_mission t (Some p)) k)
      ((freed line c (is_taken_for t) r >> set_mission t (Some p)) k)
      (alike_then (leave line c t track r) (freed line c (is_taken_for t) r) (set_mission t (Some p)) k
      (leave_home line c t track r k
      (all_home line c track r ordered (λ s is. hand_home line c k t n h at s (part s is)))))
      (then_stays line c (freed line c (is_taken_for t) r) (set_mission t (Some p)) k (λ d. refl) (record {
        state = freed_local line c k t r (Some p) k.has_right h
            (λ s. left s ∙ sym (ap (λ o. hand_has o s && not (within r s)) at))
            (goes_on line c k t n p h at local);
        frames = λ d. refl;
      }))

  -- ## Report

  pub cleared_away : (t : ℕ) (m : Mission) (place : Place) (k : Centre) → IsLocalAt line c k → k.mission t ≡ Some m
      → place.track ≡ m.place.track
      → Stays line c (clear line c t m place k)
  cleared_away t m place k h at same =
      let local = h.mission t m at in
      let r : SectionRun = cleared line place m in
      let few = longest_few (is_cleared line place) m.hand.first m.hand.count in
      if_act line c (r.count == m.hand.count) _ _ k
      (λ all. whole_leaves t m m m.place.track (joined m.hand m.pool) k h at local.no_handing
      (λ s. joined_empty m.hand m.pool s (ap is_empty local.no_pool)))
      (λ rest_stays. part_leaves t m (record m { place = place; hand = part_from (next_after r) m.hand })
      m.place.track r k h at
      (rest_local (cleared line place m).count m place local same few (eqb-false r.count m.hand.count rest_stays))
      (λ s is. let in_r = within_true r s is in within_from m.hand s in_r.0 (omega (arith, in_r, few)))
      (λ s. within_rest m.hand r.count s few))
    where
      rest_local : (n : ℕ) (m : Mission) (place : Place) → IsLocalMission line m → place.track ≡ m.place.track
          → n ≤ m.hand.count → (n ≡ m.hand.count → ⊥)
          → IsLocalMission line (record m { place = place; hand = part_from (m.hand.first + n) m.hand })
      rest_local n m place local same few other = record {
        no_pool = local.no_pool;
        no_handing = local.no_handing;
        some = omega (arith, few, other);
        few = omega (arith, local.few);
        on_track = λ s is. subst (λ t. is_on line t s ≡ true) (sym same)
            (local.on_track s (and_parts (within m.hand s) _ (sym (within_rest m.hand n s few) ∙ is)).0);
      }

  pub reported_here : (t : ℕ) (position : Position) (m : Mission) (k : Centre) → IsLocalAt line c k
      → k.mission t ≡ Some m → Stays line c (report_here line c t position m k)
  reported_here t position m k h at = or_act line c (place_on line m.place.track position) (clear line c t m) rest k
      (λ place is. cleared_away t m place k h at (place_of m.place.track (extent line position) place is).0)
      (λ none. rest_stays line c k h)

  pub answered_report : (t : ℕ) (position : Position) (k : Centre) → IsLocalAt line c k
      → Stays line c (report line c t position k)
  answered_report t position k h = or_stays line c (k.mission t) _ (take_over line t k)
      (λ m at. reported_here t position m k h at)
      (λ none. alike_stays line c (take_over line t k) (rest k) (no_take_over line t k (λ d. h.not_expected d t))
      (rest_stays line c k h))

  -- ## Shortening

  cut_local : (n : ℕ) (m : Mission) → IsLocalMission line m → ((part_from (n + 1) m.hand).count ≡ m.hand.count → ⊥)
      → IsLocalMission line (record m { hand = part_before (n + 1) m.hand; pool = no_run; proposal = None })
  cut_local n m local other = record {
    no_pool = refl;
    no_handing = local.no_handing;
    some = omega (arith, other, local.some);
    few = omega (arith, local.few);
    on_track = λ s is. local.on_track s (and_parts (within m.hand s) _ (sym (within_kept m.hand (n + 1) s) ∙ is)).0;
  }

  whole_tail : (n : ℕ) (hand : SectionRun) (s : ℕ) → (part_from (n + 1) hand).count ≡ hand.count
      → within (part_from (n + 1) hand) s ≡ within hand s
  whole_tail n hand s all = same_tests _ _
      (λ is. let at = within_true (part_from (n + 1) hand) s is in
      within_from hand s (omega (arith, at)) (omega (arith, at)))
      (λ is. let at = within_true hand s is in
      within_from (part_from (n + 1) hand) s (omega (arith, at, all)) (omega (arith, at, all)))

  tail_part : (n : ℕ) (hand : SectionRun) (s : ℕ) → within (part_from (n + 1) hand) s ≡ true → within hand s ≡ true
  tail_part n hand s is = let at = within_true (part_from (n + 1) hand) s is in
      within_from hand s (omega (arith, at)) (omega (arith, at))

  then_if : (a f g : Act) (b : Bool) (k : Centre) → (b ≡ true → Stays line c ((a >> f) k))
      → (b ≡ false → Stays line c ((a >> g) k)) → Stays line c ((a >> (if b then f else g)) k)
  then_if a f g true k one two = one refl
  then_if a f g false k one two = two refl

  pub cut_off : (t last_kept : ℕ) (m n : Mission) (k : Centre) → IsLocalAt line c k → k.mission t ≡ Some n
      → n.hand ≡ m.hand → IsLocalMission line m
      → Stays line c (cut line c t last_kept m k)
  cut_off t last_kept m n k h at same local =
      let tail : SectionRun = part_from (last_kept + 1) m.hand in
      let kept : Mission = record m { hand = part_before (last_kept + 1) m.hand; pool = no_run; proposal = None } in
      let cancels : Act =
      option_map_or (λ i. if is_empty (part_at line i.to m.place.track kept.hand) then cancel t kept else rest)
      m.handing rest in
      let r_is : (s : ℕ) → within (joined tail m.pool) s ≡ within tail s =
      λ s. joined_empty tail m.pool s (ap is_empty local.no_pool) in
      let same_hand : (s : ℕ) → within m.hand s ≡ within n.hand s = λ s. ap (λ r. within r s) (sym same) in
      then_if (leave line c t m.place.track (joined tail m.pool)) (close line c t m) (set_mission t (Some kept)
      >> cancels) (tail.count == m.hand.count) k
      (λ all. whole_leaves t m n m.place.track (joined tail m.pool) k h at local.no_handing
      (λ s. r_is s ∙ whole_tail last_kept m.hand s (eqb-true tail.count m.hand.count all) ∙ same_hand s))
      (λ other. alike_stays line c _ _
      (then_alike (leave line c t m.place.track (joined tail m.pool)) (set_mission t (Some kept) >> cancels)
      (set_mission t (Some kept)) k
      (then_resting (set_mission t (Some kept)) cancels _
      (ap (λ o. option_map_or (λ i. if is_empty (part_at line i.to m.place.track kept.hand)
      then cancel t kept else rest) o rest
      (set_mission t (Some kept) (leave line c t m.place.track (joined tail m.pool) k).state).state) local.no_handing)))
      (part_leaves t n kept m.place.track (joined tail m.pool) k h at
      (cut_local last_kept m local (eqb-false tail.count m.hand.count other))
      (λ s is. sym (same_hand s) ∙ tail_part last_kept m.hand s (sym (r_is s) ∙ is))
      (λ s. within_kept m.hand (last_kept + 1) s ∙ ap (λ b. b && not (within tail s)) (same_hand s)
      ∙ ap (λ b. within n.hand s && not b) (sym (r_is s)))))

  pub shortened : (t : ℕ) (position : Position) (m : Mission) (p : Proposal) (k : Centre)
      → IsLocalAt line c k → k.mission t ≡ Some m
      → Stays line c (granted line c t position m p k)
  shortened t position m p k h at =
      let f : Mission → Mission = λ n. record n { proposal = None } in
      let cuts : Act =
      option_map_or (λ place. if nat_le place.front (10 * end line p.last_kept) then cut line c t p.last_kept m else
      rest) (place_on line m.place.track position) rest in
      let change = changed line c t f k h (λ n is. refl) (λ n is. unproposed n (h.mission t n is)) in
      let after : put k.mission t (option_map f (k.mission t)) t ≡ Some (f m) =
      put_here k.mission t t (option_map f (k.mission t)) refl ∙ ap (option_map f) at in
      then_stays line c (change_mission t f) cuts k (λ d. refl)
      (or_act line c (place_on line m.place.track position) _ rest (change_mission t f k).state
      (λ place is. if_act line c (nat_le place.front (10 * end line p.last_kept)) (cut line c t p.last_kept m) rest
      (change_mission t f k).state
      (λ kept. cut_off t p.last_kept m (f m) (change_mission t f k).state change.state after refl (h.mission t m at))
      (λ past. rest_stays line c (change_mission t f k).state change.state))
      (λ none. rest_stays line c (change_mission t f k).state change.state))
    where
      unproposed : (n : Mission) → IsLocalMission line n → IsLocalMission line (record n { proposal = None })
      unproposed n local =
          record {
            no_pool = local.no_pool;
            no_handing = local.no_handing;
            some = local.some;
            few = local.few;
            on_track = local.on_track;
          }

  pub answered_shortening : (t : ℕ) (position : Position) (k : Centre) → IsLocalAt line c k
      → Stays line c (answer_granted line c t position k)
  answered_shortening t position k h = or_stays line c (k.mission t) _ (rest k)
      (λ m at. or_stays line c m.proposal (λ p. granted line c t position m p k) (rest k)
      (λ p is. shortened t position m p k h at) (λ none. rest_stays line c k h))
      (λ none. rest_stays line c k h)

  -- ## End of mission

  abbrev end_of : ℕ → Mission → Act
  end_of t m = return_pool line c t m >> change_mission t (λ n. record n { is_ended = true; proposal = None })

  stood : (t : ℕ) (position : Position) (m : Mission) (k : Centre) → IsLocalAt line c k → k.mission t ≡ Some m
      → Stays line c (stand_still line c t position m k)
  stood t position m k h at = rests_or_cuts (λ act. Stays line c (act k)) line c t position m (rest_stays line c k h)
      (λ n some fits. cut_off t (m.hand.first + n - 1) m m k h at refl (h.mission t m at))

  pub ended : (t : ℕ) (position : Position) (k : Centre) → IsLocalAt line c k
      → Stays line c (end_mission line c t position k)
  ended t position k h =
      then_both line c (with_some (λ j. j.mission t) (report_here line c t position)
      >> with_some (λ j. j.mission t) (stand_still line c t position)) (with_some (λ j. j.mission t) (end_of t)) k
      (then_both line c (with_some (λ j. j.mission t) (report_here line c t position))
      (with_some (λ j. j.mission t) (stand_still line c t position)) k
      (or_stays line c (k.mission t) _ (rest k) (λ m at. reported_here t position m k h at)
      (λ none. rest_stays line c k h))
      (λ j stays. or_stays line c (j.mission t) _ (rest j) (λ m at. stood t position m j stays at)
      (λ none. rest_stays line c j stays)))
      (λ j stays. or_stays line c (j.mission t) _ (rest j) (λ m at. end_stays t m j stays at)
      (λ none. rest_stays line c j stays))
    where
      end_stays : (t : ℕ) (m : Mission) (j : Centre) → IsLocalAt line c j → j.mission t ≡ Some m
          → Stays line c (end_of t m j)
      end_stays t m j stays at =
          alike_stays line c (end_of t m j) (change_mission t (λ n. record n { is_ended = true; proposal = None }) j)
          (resting_then (return_pool line c t m) (change_mission t (λ n. record n { is_ended = true; proposal = None }))
          j (no_pool_returned line c t m j at (stays.mission t m at).no_pool))
          (changed line c t (λ n. record n { is_ended = true; proposal = None }) j stays (λ n is. refl)
          (λ n is. let local = stays.mission t n is in record {
            no_pool = local.no_pool;
            no_handing = local.no_handing;
            some = local.some;
            few = local.few;
            on_track = local.on_track;
          }))
