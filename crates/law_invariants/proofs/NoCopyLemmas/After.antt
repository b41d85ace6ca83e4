-- After a report, an end of mission and a shortening a handover may still be yielded.
use Rattle.std.proofs.Common.{◌+◌, ◌-◌, ◌<◌, ◌==◌, ◌∙◌, ◌≡◌, ap, arith, Bool, false, if◌then◌else◌, leb-true, ltb-true}
use Rattle.std.proofs.Common.{nat_le, nat_lt, None, Option, refl, Some, subst, sym, true, ℕ}
use Rattle.std.proofs.lemmas.Bool.{and_parts, eqb-true}
use Rattle.std.specs.Option.{option_map_or}
use Rattle.law_base.proofs.RulesLemmas.Places.{placed_on}
use Rattle.law_base.proofs.RulesLemmas.SentAnswers.{report_leaves}
use Rattle.law_base.specs.Local.Local.{hand_has}
use Rattle.law_invariants.proofs.NoCopyLemmas.Parts.{Follows, out_of_joined, tail_follows}
use Rattle.law_invariants.proofs.NoCopyLemmas.Ready.{Leaves, Ready, ready_cancel, ready_closed, ready_left}
use Rattle.law_invariants.proofs.NoCopyLemmas.Tally.{Tally}
use Rattle.rbc_spec.proofs.Runs.{none_within, within_after, within_part_before, within_part_from, within_true}
use Rattle.rbc_spec.proofs.Worlds.{rests_or_cuts}
use Rattle.rbc_spec.specs.Acts.{◌>>◌, cancel, close, leave, part_at, rest, set_mission, with_mission}
use Rattle.rbc_spec.specs.Centre.{Centre, Handing, Mission}
use Rattle.rbc_spec.specs.Line.{Line}
use Rattle.rbc_spec.specs.Place.{Place, place_on, Position}
use Rattle.rbc_spec.specs.Rules.{clear, cleared, cut, report_here, stand_still}
use Rattle.rbc_spec.specs.SectionRuns.{is_empty, joined, next_after, no_run, part_before, part_from, within}

module _ (line : Line) (c : ℕ) (y : Tally) where
  ready_clear : (t : ℕ) (m : Mission) (place : Place) (k : Centre) → k.mission t ≡ Some m → place.track ≡ m.place.track
      → Ready line c y k → Ready line c y (clear line c t m place k).state
  ready_clear t m place k has same ready = by_count ((cleared line place m).count == m.hand.count)
    where
      left : Leaves line c y k t (cleared line place m)
          (record m { place = place; hand = part_from (next_after (cleared line place m)) m.hand })
      left = record {
        hand = λ in_rest home. let both =
            and_parts (within m.hand y.section) (nat_le (next_after (cleared line place m)) y.section)
            (sym (within_part_from m.hand (next_after (cleared line place m)) y.section) ∙ in_rest) in (
              ap (λ o. hand_has o y.section) has ∙ both.0,
              within_after (cleared line place m) y.section
                  (leb-true (next_after (cleared line place m)) y.section both.1),
            );
        way = λ h stands. (m, has, stands);
        less = (
          m,
          has,
          record {
            track = same;
            hand = λ in_rest.
                (and_parts (within m.hand y.section) (nat_le (next_after (cleared line place m)) y.section)
                (sym (within_part_from m.hand (next_after (cleared line place m)) y.section) ∙ in_rest)).0;
            pool = λ is. is;
          },
          (λ h is. (h, is, refl)),
        );
      }

      some_left : (o n : Mission) → ◌≡◌ {A = Option Mission} (Some o) (Some n) → o ≡ n
      some_left o n same = cc

      by_count : (b : Bool)
          → Ready line c y ((if b then (leave line c t m.place.track (joined m.hand m.pool) >> close line c t m)
          else (leave line c t m.place.track (cleared line place m)
          >> set_mission t
          (Some (record m { place = place; hand = part_from (next_after (cleared line place m)) m.hand }))))
          k).state
      by_count true = ready_closed line c y t m.place.track (joined m.hand m.pool) m k ready
      by_count false = ready_left line c y t m.place.track (cleared line place m)
          (Some (record m { place = place; hand = part_from (next_after (cleared line place m)) m.hand })) k
          (λ n same. subst (Leaves line c y k t (cleared line place m)) (some_left _ n same) left) ready

  pub ready_report_here : (t : ℕ) (position : Position) (m : Mission) (k : Centre) → k.mission t ≡ Some m
      → Ready line c y k → Ready line c y (report_here line c t position m k).state
  ready_report_here t position m k has ready = by_place (place_on line m.place.track position) refl
    where
      by_place : (o : Option Place) → place_on line m.place.track position ≡ o
          → Ready line c y (option_map_or (clear line c t m) o rest k).state
      by_place None at = ready
      by_place (Some place) at =
          ready_clear t m place k has (placed_on line m.place.track position place at).track_is ready

  pub ready_reported : (t : ℕ) (position : Position) (k : Centre) → Ready line c y k
      → Ready line c y (with_mission t (report_here line c t position) k).state
  ready_reported t position k ready = by_mission (k.mission t) refl
    where
      by_mission : (o : Option Mission) → k.mission t ≡ o
          → Ready line c y (option_map_or (λ m. report_here line c t position m k) o (rest k)).state
      by_mission None has = ready
      by_mission (Some m) has = ready_report_here t position m k has ready

  -- ## The sections ahead are cut off

  abbrev kept_by : ℕ → Mission → Mission
  kept_by last_kept m = record m { hand = part_before (last_kept + 1) m.hand; pool = no_run; proposal = None }

  -- the kept part of the hand is neither in its tail nor in the pool
  kept_apart : (last_kept : ℕ) (m : Mission) → Follows m → within (part_before (last_kept + 1) m.hand) y.section ≡ true
      → (within m.hand y.section ≡ true) × (within (joined (part_from (last_kept + 1) m.hand) m.pool) y.section ≡ false)
  kept_apart last_kept m follows kept =
      let both = and_parts (within m.hand y.section) (nat_lt y.section (last_kept + 1))
      (sym (within_part_before m.hand (last_kept + 1) y.section) ∙ kept) in (
        both.0,
        out_of_joined y (part_from (last_kept + 1) m.hand) m.pool
            (λ some more. tail_follows y (last_kept + 1) m follows some more)
            (not_tail (within (part_from (last_kept + 1) m.hand) y.section) refl
            (ltb-true y.section (last_kept + 1) both.1))
            (not_pool (within m.pool y.section) refl (is_empty m.pool) refl (within_true m.hand y.section both.0).1),
      )
    where
      not_tail : (b : Bool) → within (part_from (last_kept + 1) m.hand) y.section ≡ b
          → y.section < last_kept + 1 → b ≡ false
      not_tail false is low = refl
      not_tail true is low =
          absurd (let high = leb-true (last_kept + 1) y.section
          (and_parts (within m.hand y.section) (nat_le (last_kept + 1) y.section)
          (sym (within_part_from m.hand (last_kept + 1) y.section) ∙ is)).1 in omega (arith, low, high))

      not_pool : (b : Bool) → within m.pool y.section ≡ b → (e : Bool) → is_empty m.pool ≡ e
          → y.section < next_after m.hand → b ≡ false
      not_pool false is e none low = refl
      not_pool true is false some low = absurd (let ends = within_true m.pool y.section is in
          omega (arith, ends.0, low, follows some))
      not_pool true is true none low = absurd (let ends = within_true m.pool y.section is in
          let nothing : m.pool.count ≡ 0 = eqb-true m.pool.count 0 none in omega (arith, ends.0, ends.1, nothing))

  ready_cut : (t last_kept : ℕ) (m : Mission) (k : Centre) → k.mission t ≡ Some m → Follows m → Ready line c y k
      → Ready line c y (cut line c t last_kept m k).state
  unfolding ◌>>◌
  ready_cut t last_kept m k has follows ready = by_count ((part_from (last_kept + 1) m.hand).count == m.hand.count)
    where
      left : Leaves line c y k t (joined (part_from (last_kept + 1) m.hand) m.pool) (kept_by last_kept m)
      left = record {
        hand = λ kept home. let both = kept_apart last_kept m follows kept in
            (ap (λ o. hand_has o y.section) has ∙ both.0, both.1);
        way = λ h stands. (m, has, stands);
        less = (
          m,
          has,
          record {
            track = refl;
            hand = λ kept. (kept_apart last_kept m follows kept).0;
            pool = λ is. absurd (let wrong : false ≡ true = sym (none_within y.section) ∙ is in cc);
          },
          (λ h is. (h, is, refl)),
        );
      }

      some_left : (o n : Mission) → ◌≡◌ {A = Option Mission} (Some o) (Some n) → o ≡ n
      some_left o n same = cc

      after_cut : Centre
      after_cut =
          ((leave line c t m.place.track (joined (part_from (last_kept + 1) m.hand) m.pool)
          >> set_mission t (Some (kept_by last_kept m))) k).state

      cancels : (o : Option Handing) (j : Centre) → Ready line c y j
          → Ready line c y
          (option_map_or (λ h. if is_empty (part_at line h.to m.place.track (kept_by last_kept m).hand) then cancel
          t (kept_by last_kept m) else rest) o rest j).state
      cancels None j at = at
      cancels (Some h) j at = by_part (is_empty (part_at line h.to m.place.track (kept_by last_kept m).hand))
        where
          by_part : (b : Bool) → Ready line c y ((if b then cancel t (kept_by last_kept m) else rest) j).state
          by_part true = ready_cancel line c y t (kept_by last_kept m) j at
          by_part false = at

      by_count : (b : Bool)
          → Ready line c y ((leave line c t m.place.track (joined (part_from (last_kept + 1) m.hand) m.pool)
          >> (if b then close line c t m
          else (set_mission t (Some (kept_by last_kept m))
          >> option_map_or (λ h. if is_empty (part_at line h.to m.place.track (kept_by last_kept m).hand)
          then cancel t (kept_by last_kept m) else rest) m.handing rest))) k).state
      by_count true = ready_closed line c y t m.place.track (joined (part_from (last_kept + 1) m.hand) m.pool) m k ready
      by_count false =
          cancels m.handing after_cut
          (ready_left line c y t m.place.track (joined (part_from (last_kept + 1) m.hand) m.pool)
          (Some (kept_by last_kept m)) k
          (λ n same. subst (Leaves line c y k t (joined (part_from (last_kept + 1) m.hand) m.pool))
          (some_left _ n same) left) ready)

  -- ## End of mission

  -- after a report the pool follows the hand
  pub follows_reported : (t : ℕ) (position : Position) (k : Centre)
      → ((m : Mission) → k.mission t ≡ Some m → Follows m) → (n : Mission)
      → (with_mission t (report_here line c t position) k).state.mission t ≡ Some n → Follows n
  follows_reported t position k follow n at some = let was = report_leaves line c t position k n at in
      ap (λ r. r.first) was.2.pool ∙ follow was.0 was.1 (sym (ap is_empty was.2.pool) ∙ some) ∙ sym was.2.ends

  pub ready_stood : (t : ℕ) (position : Position) (k : Centre) → ((m : Mission) → k.mission t ≡ Some m → Follows m)
      → Ready line c y k
      → Ready line c y (with_mission t (stand_still line c t position) k).state
  ready_stood t position k follow ready = by_mission (k.mission t) refl
    where
      by_mission : (o : Option Mission) → k.mission t ≡ o
          → Ready line c y (option_map_or (λ m. stand_still line c t position m k) o (rest k)).state
      by_mission None has = ready
      by_mission (Some m) has = rests_or_cuts (λ act. Ready line c y (act k).state) line c t position m ready
          (λ n some fits. ready_cut t (m.hand.first + n - 1) m k has (follow m has) ready)

  pub ready_both : (t : ℕ) (position : Position) (k : Centre) → ((m : Mission) → k.mission t ≡ Some m → Follows m)
      → Ready line c y k
      → Ready line c y ((with_mission t (report_here line c t position)
      >> with_mission t (stand_still line c t position)) k).state
  unfolding ◌>>◌
  ready_both t position k follow ready = ready_stood t position (with_mission t (report_here line c t position) k).state
      (follows_reported t position k follow) (ready_reported t position k ready)
