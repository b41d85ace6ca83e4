-- Laws of a report, and of the frames that an answer sends on a link.
use Rattle.std.proofs.Common.{◌+◌, ◌==◌, ◌∙◌, ◌≡◌, ◌≢◌, ◌≤◌, ◌⊎◌, ap, arith, Bool, false, if◌then◌else◌, None, Option}
use Rattle.std.proofs.Common.{option_map, refl, Some, subst, sym, true, ℕ}
use Rattle.std.proofs.lemmas.Bool.{and_parts, eqb-false}
use Rattle.std.proofs.lemmas.Option.{same_Some}
use Rattle.std.specs.Option.{option_map_or}
use Rattle.law_base.proofs.RulesLemmas.Places.{placed_on}
use Rattle.law_base.proofs.RulesLemmas.Sends.{Sends, sends_less, sends_none, sends_quiet, sends_then}
use Rattle.law_base.proofs.RulesLemmas.SentActs.{close_leaves_none, close_sends, home_high, home_none, leave_any}
use Rattle.law_base.proofs.RulesLemmas.SentActs.{leave_low}
use Rattle.rbc_spec.proofs.Lists.{put_there}
use Rattle.rbc_spec.proofs.Runs.{joined_count, longest_is, within_part_from}
use Rattle.rbc_spec.specs.Acts.{◌>>◌, Act, change_mission, close, leave, Reply, rest, return_pool, returned}
use Rattle.rbc_spec.specs.Acts.{set_mission, with_mission}
use Rattle.rbc_spec.specs.Centre.{Centre, Mission}
use Rattle.rbc_spec.specs.Line.{Line}
use Rattle.rbc_spec.specs.Maps.{put}
use Rattle.rbc_spec.specs.Place.{is_cleared, Place, place_on, Position}
use Rattle.rbc_spec.specs.Rules.{clear, cleared, report_here}
use Rattle.rbc_spec.specs.SectionRuns.{joined, next_after, no_run, part_from, SectionRun, within}

-- # The mission of a train after its report.

-- n is left of m: on its track, with its pool, its handover and the last sections of its hand
pub record IsLeft (m n : Mission) : Type 0 where
  pub track : n.place.track ≡ m.place.track
  pub pool : n.pool ≡ m.pool
  pub handing : n.handing ≡ m.handing
  pub ends : next_after n.hand ≡ next_after m.hand
  pub hand : (s : ℕ) → within n.hand s ≡ true → within m.hand s ≡ true

all_left : (m n : Mission) → m ≡ n → IsLeft m n
all_left m n same =
    subst (IsLeft m) same (record { track = refl; pool = refl; handing = refl; ends = refl; hand = λ s has. has })

module _ (line : Line) (c t : ℕ) where
  clear_leaves : (m : Mission) (place : Place) (k : Centre) → place.track ≡ m.place.track → (n : Mission)
      → (clear line c t m place k).state.mission t ≡ Some n → IsLeft m n
  unfolding ◌>>◌
  clear_leaves m place k same n = by_count ((cleared line place m).count == m.hand.count)
    where
      new : Mission
      new = record m { place = place; hand = part_from (next_after (cleared line place m)) m.hand }

      left : IsLeft m new
      left = record {
        track = same;
        pool = refl;
        handing = refl;
        ends = let few = (longest_is (is_cleared line place) m.hand.first m.hand.count).fits in omega (arith, few);
        hand = λ s has.
            (and_parts (within m.hand s) _ (sym (within_part_from m.hand (next_after (cleared line place m)) s)
            ∙ has)).0;
      }

      by_count : (b : Bool)
          → ((if b then (leave line c t m.place.track (joined m.hand m.pool) >> close line c t m) else
          (leave line c t m.place.track (cleared line place m) >> set_mission t (Some new))) k).state.mission t ≡ Some n
          → IsLeft m n
      by_count true at =
          absurd (let wrong : ◌≡◌ {A = Option Mission} None (Some n) = sym
          (close_leaves_none 0 0 line c t m (leave line c t m.place.track (joined m.hand m.pool) k).state) ∙ at in cc)
      by_count false at =
          subst (IsLeft m)
          (same_Some new n
          (sym (put_there (leave line c t m.place.track (cleared line place m) k).state.mission t (Some new))
          ∙ at)) left

  pub report_leaves : (position : Position) (k : Centre) (n : Mission)
      → (with_mission t (report_here line c t position) k).state.mission t ≡ Some n → (m : Mission)
      × (k.mission t ≡ Some m) × IsLeft m n
  report_leaves position k n = by_mission (k.mission t) refl
    where
      by_place : (m : Mission) → k.mission t ≡ Some m → (o : Option Place) → place_on line m.place.track position ≡ o
          → (option_map_or (clear line c t m) o rest k).state.mission t ≡ Some n
          → (m : Mission) × (k.mission t ≡ Some m) × IsLeft m n
      by_place m has None is at = (m, has, all_left m n (same_Some m n (sym has ∙ at)))
      by_place m has (Some place) is at =
          (m, has, clear_leaves m place k (placed_on line m.place.track position place is).track_is n at)

      by_mission : (o : Option Mission) → k.mission t ≡ o
          → (option_map_or (λ m. report_here line c t position m k) o (rest k)).state.mission t ≡ Some n → (m : Mission)
          × (k.mission t ≡ Some m) × IsLeft m n
      by_mission None has at = (n, at, all_left n n refl)
      by_mission (Some m) has at = by_place m has (place_on line m.place.track position) refl at

-- # The frames of the answer to a train's message on a link.

module _ (d : ℕ) (line : Line) (c t : ℕ) where
  -- the limits of a step's frames, messages and replies
  abbrev pub Few : ℕ → Reply → Type 0
  Few bound r = Sends bound d 0 8 3 2 64 r

  module _ (m : Mission) (few : m.hand.count + m.pool.count ≤ 64)
      (follows : (m.pool.count ≡ 0) ⊎ (next_after m.hand ≤ m.pool.first)) where
    abbrev bound : ℕ
    bound = next_after m.hand

    -- ## Report

    pub cleared_count : (place : Place) → (cleared line place m).count ≤ m.hand.count
    cleared_count place = (longest_is (is_cleared line place) m.hand.first m.hand.count).fits

    -- the mission after sections were cleared
    abbrev pub after_cleared : Place → Mission
    after_cleared place = record m { place = place; hand = part_from (next_after (cleared line place m)) m.hand }

    pub closed_sends : (place : Place) (k : Centre)
        → Sends bound d 0 5 3 0 64 ((leave line c t m.place.track (joined m.hand m.pool) >> close line c t m) k)
    closed_sends place k =
        let count = joined_count m.hand m.pool in
        sends_less bound d 0 5 3 0 ((joined m.hand m.pool).count + 0 + 0) 0 5 3 0 64 _ (omega arith) (omega arith)
        (omega arith) (omega arith) (omega (arith, count, few))
        (sends_then bound d 0 3 5 1 2 0 0 ((joined m.hand m.pool).count + 0) 0
        (leave line c t m.place.track (joined m.hand m.pool)) (close line c t m) k (omega arith) (omega arith)
        (sends_less bound d 0 2 1 0 ((joined m.hand m.pool).count + 0) 0 3 1 0 ((joined m.hand m.pool).count + 0) _
        (omega arith) (omega arith) (omega arith) (omega arith) (omega arith)
        (leave_any bound d line c t m.place.track (joined m.hand m.pool) k))
        (close_sends bound d line c t m _))

    kept_sends : (place : Place) (k : Centre) → (cleared line place m).count ≢ m.hand.count
        → Sends bound d 0 1 1 0 64 ((leave line c t m.place.track (cleared line place m)
        >> set_mission t (Some (after_cleared place))) k)
    kept_sends place k part =
        let count = cleared_count place in
        sends_less bound d 0 1 1 0 ((cleared line place m).count + 0 + 0) 0 1 1 0 64 _ (omega arith) (omega arith)
        (omega arith) (omega arith) (omega (arith, count, few))
        (sends_then bound d 0 1 1 1 0 0 0 ((cleared line place m).count + 0) 0
        (leave line c t m.place.track (cleared line place m)) (set_mission t (Some (after_cleared place))) k
        (omega arith) (omega arith)
        (leave_low bound d line c t m.place.track (cleared line place m) k (omega (arith, count, part)))
        (sends_none bound d 1 1 _ refl refl refl))

    pub closed_state : (k : Centre)
        → ((leave line c t m.place.track (joined m.hand m.pool) >> close line c t m) k).state.mission t ≡ None
    unfolding ◌>>◌
    closed_state k = close_leaves_none 0 0 line c t m _

    pub kept_state : (place : Place) (k : Centre)
        → ((leave line c t m.place.track (cleared line place m) >> set_mission t (Some (after_cleared place)))
        k).state.mission t ≡ Some (after_cleared place)
    unfolding ◌>>◌
    kept_state place k = put_there (leave line c t m.place.track (cleared line place m) k).state.mission t
        (Some (after_cleared place))

    -- the pool of the train's mission, which is in advance of the hand, is returned
    pool_sends : (n : Mission) (k : Centre) → n.pool ≡ m.pool
        → Sends bound d 1 2 1 0 0 (returned line c t n.place.track n.pool k)
    pool_sends n k is = home_high bound d line c t n.place.track n.pool k
        (subst (λ (r : SectionRun). (r.count ≡ 0) ⊎ (bound ≤ r.first)) (sym is) follows)

    same_pool : (j : Centre) (n o : Mission) → j.mission t ≡ Some n → j.mission t ≡ Some o
        → n.pool ≡ m.pool → o.pool ≡ m.pool
    same_pool j n o one two is = let same : Some n ≡ Some o = sym one ∙ two in let e : n ≡ o = cc in
        ap (λ (x : Mission). x.pool) (sym e) ∙ is

    report_open : (act : Act) (n : Mission) (k : Centre) → Sends bound d 0 1 1 0 64 (act k)
        → (act k).state.mission t ≡ Some n → n.pool ≡ m.pool → Few bound (act k)
    report_open act n k sends is same = sends_less bound d 0 1 1 0 64 0 8 3 2 64 _ (omega arith) (omega arith)
        (omega arith) (omega arith) (omega arith) sends

    report_closed : (act : Act) (k : Centre) → Sends bound d 0 5 3 0 64 (act k)
        → (act k).state.mission t ≡ None → Few bound (act k)
    report_closed act k sends is = sends_less bound d 0 5 3 0 64 0 8 3 2 64 _ (omega arith) (omega arith) (omega arith)
        (omega arith) (omega arith) sends

    report_at : (place : Place) (k : Centre) → Few bound (clear line c t m place k)
    report_at place k = by_rest ((cleared line place m).count == m.hand.count) refl
      where
        by_rest : (b : Bool) → ((cleared line place m).count == m.hand.count) ≡ b
            → Few bound ((if b then (leave line c t m.place.track (joined m.hand m.pool) >> close line c t m)
            else (leave line c t m.place.track (cleared line place m) >> set_mission t (Some (after_cleared place)))) k)
        by_rest true all = report_closed (leave line c t m.place.track (joined m.hand m.pool) >> close line c t m) k
            (closed_sends place k) (closed_state k)
        by_rest false part = report_open (leave line c t m.place.track (cleared line place m)
            >> set_mission t (Some (after_cleared place))) (after_cleared place) k
            (kept_sends place k (eqb-false (cleared line place m).count m.hand.count part)) (kept_state place k) refl

    pub report_few : (position : Position) (k : Centre) → k.mission t ≡ Some m
        → Few bound (report_here line c t position m k)
    report_few position k is = by_place (place_on line m.place.track position)
      where
        by_place : (o : Option Place) → Few bound (option_map_or (clear line c t m) o rest k)
        by_place (Some place) = report_at place k
        by_place None =
            report_open rest m k (sends_quiet bound d 0 1 1 0 64 (rest k) refl (omega arith) (omega arith)) is refl

    -- ## End of mission

    abbrev pub without_pool : Mission → Mission
    without_pool n = record n { pool = no_run }

    abbrev pub as_ended : Mission → Mission
    as_ended n = record n { is_ended = true; proposal = None }

    abbrev pub ends : Mission → Act
    ends n = return_pool line c t n >> change_mission t as_ended

    abbrev pub ends_if_so : Act
    ends_if_so j = option_map_or (λ n. ends n j) (j.mission t) (rest j)

    pub ends_none : (low : ℕ) (j : Centre) → j.mission t ≡ None → Sends bound d low low 0 0 0 (ends_if_so j)
    ends_none low j none = subst (λ o. Sends bound d low low 0 0 0 (option_map_or (λ n. ends n j) o (rest j)))
        (sym none) (sends_none bound d low low (rest j) refl refl refl)

    ends_none_state : (j : Centre) → j.mission t ≡ None → (ends_if_so j).state.mission t ≡ None
    ends_none_state j none = ap (λ o. (option_map_or {U = Reply} (λ n. ends n j) o (rest j)).state.mission t) none
        ∙ none

    ends_sends : (n : Mission) (j : Centre) → n.pool ≡ m.pool → Sends bound d 1 2 1 0 0 (ends n j)
    ends_sends n j same = sends_then bound d 1 2 2 1 0 0 0 0 0 (return_pool line c t n) (change_mission t as_ended) j
        (omega arith) (omega arith)
        (sends_then bound d 1 2 2 1 0 0 0 0 0 (returned line c t n.place.track n.pool) (change_mission t without_pool) j
        (omega arith) (omega arith) (pool_sends n j same) (sends_none bound d 2 2 _ refl refl refl))
        (sends_none bound d 2 2 _ refl refl refl)

    ends_some : (n : Mission) (j : Centre) → j.mission t ≡ Some n → n.pool ≡ m.pool
        → Sends bound d 1 2 1 0 0 (ends_if_so j)
    ends_some n j is same = subst (λ o. Sends bound d 1 2 1 0 0 (option_map_or (λ n. ends n j) o (rest j)))
        (sym is) (ends_sends n j same)

    pub ended_state : (n : Mission) (j : Centre) → j.mission t ≡ Some n
        → (ends n j).state.mission t ≡ Some (as_ended (without_pool n))
    unfolding ◌>>◌
    ended_state n j is =
        put_there (put j.mission t (option_map without_pool (j.mission t))) t
        (option_map as_ended (put j.mission t (option_map without_pool (j.mission t)) t))
        ∙ ap (option_map as_ended) (put_there j.mission t (option_map without_pool (j.mission t))
        ∙ ap (option_map without_pool) is)

    ends_some_state : (n : Mission) (j : Centre) → j.mission t ≡ Some n
        → (ends_if_so j).state.mission t ≡ Some (as_ended (without_pool n))
    ends_some_state n j is = ap (λ o. (option_map_or {U = Reply} (λ n. ends n j) o (rest j)).state.mission t) is
        ∙ ended_state n j is

    pool_gone : (low high : ℕ) (j : Centre) (n o : Mission) → j.mission t ≡ Some n → n.pool.count ≡ 0
        → j.mission t ≡ Some o → Sends bound d low high 0 0 0 (returned line c t o.place.track o.pool j)
    pool_gone low high j n o one none two =
        let same : Some n ≡ Some o = sym one ∙ two in
        let e : n ≡ o = cc in
        home_none bound d line c t low high o.place.track o.pool j (ap (λ (x : Mission). x.pool.count) (sym e) ∙ none)

    pub end_open : (act : Act) (n : Mission) (k : Centre) → Sends bound d 0 1 1 0 64 (act k)
        → (act k).state.mission t ≡ Some n → n.pool ≡ m.pool
        → Few bound ((act >> ends_if_so) k)
    end_open act n k sends is same = sends_less bound d 0 2 (1 + 1) (0 + 0) (64 + 0) 0 8 3 2 64 _ (omega arith)
        (omega arith) (omega arith) (omega arith) (omega arith)
        (sends_then bound d 0 1 2 1 1 0 0 64 0 act ends_if_so k (omega arith) (omega arith) sends
        (ends_some n (act k).state is same))

    pub end_closed : (act : Act) (k : Centre) → Sends bound d 0 5 3 0 64 (act k) → (act k).state.mission t ≡ None
        → Few bound ((act >> ends_if_so) k)
    end_closed act k sends is = sends_less bound d 0 5 (3 + 0) (0 + 0) (64 + 0) 0 8 3 2 64 _ (omega arith) (omega arith)
        (omega arith) (omega arith) (omega arith)
        (sends_then bound d 0 5 5 3 0 0 0 64 0 act ends_if_so k (omega arith) (omega arith) sends
        (ends_none 5 (act k).state is))
