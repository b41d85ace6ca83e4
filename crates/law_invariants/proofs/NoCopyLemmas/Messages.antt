-- The answer to a train's message makes nothing.
use Rattle.std.proofs.Common.{[], ⊎_elim, ◌&&◌, ◌*◌, ◌+◌, ◌-◌, ◌<◌, ◌==◌, ◌∙◌, ◌∷◌, ◌≡◌, ◌≤◌, ap, arith, Bool, eq-eqb}
use Rattle.std.proofs.Common.{eqb-true, false, if◌then◌else◌, inl, inr, nat_le, None, not, Option, option_map, refl}
use Rattle.std.proofs.Common.{Some, sym, true, ℕ}
use Rattle.std.proofs.lemmas.Bool.{and_from, and_parts, cases_lt, le-leb, leb-true}
use Rattle.std.specs.Option.{option_map_or}
use Rattle.law_base.proofs.CountingLemmas.Resource.{carried_more, carried_none, sent_none}
use Rattle.law_base.proofs.CountingLemmas.Sums.{put_same, sum_zero}
use Rattle.law_base.specs.Counting.Resource.{carried, sent_by}
use Rattle.law_invariants.proofs.NoCopyLemmas.After.{follows_reported, ready_both, ready_reported}
use Rattle.law_invariants.proofs.NoCopyLemmas.Borders.{fair_request}
use Rattle.law_invariants.proofs.NoCopyLemmas.Leaving.{fair_cancel, fair_leave, fair_returned, IsOnTrack, leave_close}
use Rattle.law_invariants.proofs.NoCopyLemmas.Leaving.{leave_set, left_back, left_law, Makes}
use Rattle.law_invariants.proofs.NoCopyLemmas.Parts.{away_part, covered_parts, cut_back, cut_parts, empty_part, Follows}
use Rattle.law_invariants.proofs.NoCopyLemmas.Parts.{gone_here, gone_other, in_joined, joined_back, joined_part}
use Rattle.law_invariants.proofs.NoCopyLemmas.Parts.{none_part, part_gone, tail_follows, two_parts}
use Rattle.law_invariants.proofs.NoCopyLemmas.Ready.{Ready, Stands, stands_again}
use Rattle.law_invariants.proofs.NoCopyLemmas.Starts.{fair_close_session, fair_start}
use Rattle.law_invariants.proofs.NoCopyLemmas.Tally.{alike, eased, Fair, fair_both, fair_change, fair_or, fair_plain}
use Rattle.law_invariants.proofs.NoCopyLemmas.Tally.{fair_rest, fair_say, fair_set, fair_then, gone, IsTally}
use Rattle.law_invariants.proofs.NoCopyLemmas.Tally.{mission_back, mission_of, mission_put, part, Tally, whole}
use Rattle.law_invariants.specs.Flow.Flow.{centre_count}
use Rattle.rbc_spec.proofs.Runs.{longest_is, parts_count, within_after, within_from, within_part_from, within_true}
use Rattle.rbc_spec.proofs.Worlds.{rests_or_cuts}
use Rattle.rbc_spec.specs.Acts.{◌>>◌, Act, cancel, change_mission, close, leave, part_at, rest, return_pool, returned}
use Rattle.rbc_spec.specs.Acts.{say, set_mission, with_mission}
use Rattle.rbc_spec.specs.Centre.{Centre, Expectation, Handing, Mission, Opened, Proposal, Up}
use Rattle.rbc_spec.specs.Frame.{TakingOver}
use Rattle.rbc_spec.specs.Line.{end, is_centre, Line}
use Rattle.rbc_spec.specs.Maps.{has, put}
use Rattle.rbc_spec.specs.Message.{DataAcknowledged, EndOfMission, InitiationOfSession, Report, Request}
use Rattle.rbc_spec.specs.Message.{SessionEstablished, ShorteningGranted, ShorteningRejected, StartOfMission}
use Rattle.rbc_spec.specs.Message.{SystemVersion, TerminationAcknowledged, TerminationOfSession, TrainBody, TrainData}
use Rattle.rbc_spec.specs.Message.{TrainMessage, unknown_group}
use Rattle.rbc_spec.specs.Place.{is_cleared, Place, place_on, Position}
use Rattle.rbc_spec.specs.Rules.{answered, clear, cleared, close_session, cut, end_mission, granted, report}
use Rattle.rbc_spec.specs.Rules.{report_here, set_phase, stand_still, take_over}
use Rattle.rbc_spec.specs.SectionRuns.{is_empty, joined, next_after, no_run, part_before, part_from, SectionRun, within}

module _ (line : Line) (c : ℕ) (y : Tally) (is : IsTally line c y) where
  -- the mission counts as this one does, and its pool follows its hand
  abbrev pub Has : ℕ → Mission → Centre → Type 0
  Has t m k = mission_of y (k.mission t) ≡ whole y m.hand m.pool

  -- ## Reports

  cleared_parts : (place : Place) (m : Mission) → part y (cleared line place m)
      + part y (part_from (next_after (cleared line place m)) m.hand) ≤ part y m.hand
  cleared_parts place m =
      two_parts y (cleared line place m) (part_from (next_after (cleared line place m)) m.hand) m.hand
      (λ in_r. let ends = within_true (cleared line place m) y.section in_r in
      within_from m.hand y.section ends.0
      (omega (arith, ends.1, (longest_is (is_cleared line place) m.hand.first m.hand.count).fits)))
      (λ in_rest. let both = and_parts (within m.hand y.section) (nat_le (next_after (cleared line place m)) y.section)
      (sym (within_part_from m.hand (next_after (cleared line place m)) y.section) ∙ in_rest) in (
        both.0,
        within_after (cleared line place m) y.section
            (leb-true (next_after (cleared line place m)) y.section both.1),
      ))

  cleared_back : (place : Place) (m : Mission) → part y m.hand ≤ part y (cleared line place m)
      + part y (part_from (next_after (cleared line place m)) m.hand)
  cleared_back place m = covered_parts y (cleared line place m)
      (part_from (next_after (cleared line place m)) m.hand) m.hand
      (λ in_hand. ⊎_elim
      (λ (low : y.section < next_after (cleared line place m)).
      inl (within_from (cleared line place m) y.section (within_true m.hand y.section in_hand).0 low))
      (λ (high : next_after (cleared line place m) ≤ y.section).
      inr (within_part_from m.hand (next_after (cleared line place m)) y.section
      ∙ and_from (within m.hand y.section) (nat_le (next_after (cleared line place m)) y.section) in_hand
      (le-leb (next_after (cleared line place m)) y.section high)))
      (cases_lt y.section (next_after (cleared line place m))))

  -- if losses are counted, the train's mission is in order
  abbrev pub IsStanding : ℕ → Mission → Centre → Type 0
  IsStanding t m k = y.exact ≡ true → t ≡ y.train → Stands line c y k m

  pub standing : (t : ℕ) (m : Mission) (k : Centre) → k.mission t ≡ Some m → Ready line c y k → IsStanding t m k
  standing t m k has ready so here = ready.stands so m (ap (λ v. k.mission v) (sym here) ∙ has)

  -- a hand's part, with the pool, is on the mission's track
  joined_on : (t : ℕ) (a : SectionRun) (m : Mission) (k : Centre) → IsStanding t m k
      → (within a y.section ≡ true → within m.hand y.section ≡ true)
      → (is_empty a ≡ false → is_empty m.pool ≡ false → m.pool.first ≡ next_after a)
      → IsOnTrack line c y is t m.place.track (joined a m.pool)
  joined_on t a m k stands in_hand follows so here in_both =
      ⊎_elim (λ (p : within a y.section ≡ true). (stands so here).hand_on (in_hand p))
      (λ (p : within m.pool y.section ≡ true). (stands so here).pool_on p)
      (in_joined y a m.pool follows in_both)

  fair_clear : (t : ℕ) (m : Mission) (place : Place) (k : Centre) → Has t m k → Follows m → IsStanding t m k
      → Makes line c y is k (clear line c t m place k)
  fair_clear t m place k has follows stands = by_count ((cleared line place m).count == m.hand.count)
    where
      in_hand : within (cleared line place m) y.section ≡ true → within m.hand y.section ≡ true
      in_hand in_r = let ends = within_true (cleared line place m) y.section in_r in
          within_from m.hand y.section ends.0
          (omega (arith, ends.1, (longest_is (is_cleared line place) m.hand.first m.hand.count).fits))

      by_count : (b : Bool)
          → Makes line c y is k ((if b then (leave line c t m.place.track (joined m.hand m.pool) >> close line c t m)
          else (leave line c t m.place.track (cleared line place m)
          >> set_mission t
          (Some (record m { place = place; hand = part_from (next_after (cleared line place m)) m.hand })))) k)
      by_count true = leave_close line c y is t m.place.track (joined m.hand m.pool) m k
          (omega (arith, has, joined_part y m.hand m.pool (λ some more. follows more)))
          (λ so. omega (arith, has, joined_back y m.hand m.pool (λ some more. follows more)))
          (joined_on t m.hand m k stands (λ h. h) (λ some more. follows more)) (λ so here. let at = stands so here in
          (at.alone, at.to_registrar))
      by_count false = leave_set line c y is t m.place.track (cleared line place m)
          (Some (record m { place = place; hand = part_from (next_after (cleared line place m)) m.hand })) k
          (omega (arith, has, cleared_parts place m)) (λ so. omega (arith, has, cleared_back place m))
          (λ so here in_r. (stands so here).hand_on (in_hand in_r))

  pub fair_report_here : (t : ℕ) (position : Position) (m : Mission) (k : Centre) → Has t m k → Follows m
      → IsStanding t m k → Makes line c y is k (report_here line c t position m k)
  fair_report_here t position m k has follows stands = by_place (place_on line m.place.track position)
    where
      by_place : (o : Option Place) → Makes line c y is k (option_map_or (clear line c t m) o rest k)
      by_place None = fair_rest line c y k
      by_place (Some place) = fair_clear t m place k has follows stands

  none_inside : (d : ℕ) (b : Bool) (t : ℕ) (o : Option Expectation)
      → carried y.res c d (option_map_or (λ e. if b then TakingOver e.number t ∷ [] else []) o []) ≡ 0
  none_inside d b t None = carried_none y.res c d
  none_inside d false t (Some e) = carried_none y.res c d
  none_inside d true t (Some e) =
      omega (
        arith,
        carried_more y.res c d (TakingOver e.number t) [],
        carried_none y.res c d,
        is.plain c d (TakingOver e.number t) refl,
      )

  pub fair_take_over : (t : ℕ) (k : Centre) → Makes line c y is k (take_over line t k)
  unfolding sent_by
  fair_take_over t k = alike line c y k 0 0 (take_over line t k) (omega (
    arith,
    sum_zero (centre_count line) (λ d. carried y.res c d ((take_over line t k).frames d))
        (λ d at. none_inside d (is_centre line d && has (λ e. not e.is_taking) (k.expects d t)) t (k.expects d t)),
  ))

  -- each mission's pool follows its hand
  abbrev pub AllFollow : Centre → Type 0
  AllFollow k = (t : ℕ) (m : Mission) → k.mission t ≡ Some m → Follows m

  fair_report : (t : ℕ) (position : Position) (k : Centre) → AllFollow k → Ready line c y k
      → Makes line c y is k (report line c t position k)
  fair_report t position k follows ready = fair_or line c y (k.mission t) _ k (take_over line t k)
      (λ m stands. fair_report_here t position m k (ap (mission_of y) stands) (follows t m stands)
      (standing t m k stands ready))
      (λ none. fair_take_over t k)

  -- ## The pool

  -- a change of the mission as it is
  pub fair_changed : (t : ℕ) (f : Mission → Mission) (k : Centre)
      → Fair line c y k (mission_of y (put k.mission t (option_map f (k.mission t)) y.train))
      (mission_of y (k.mission y.train)) (change_mission t f k)
  fair_changed t f k = alike line c y k _ _ (change_mission t f k)
      (omega (arith, sent_none y.res (centre_count line) c))

  -- a part of the pool is returned
  pub pool_goes : (t track : ℕ) (r : SectionRun) (f : Mission → Mission) (m : Mission) (k : Centre)
      → k.mission t ≡ Some m → whole y (f m).hand (f m).pool + part y r ≤ whole y m.hand m.pool
      → (y.exact ≡ true → whole y m.hand m.pool ≤ whole y (f m).hand (f m).pool + part y r)
      → IsOnTrack line c y is t track r → Makes line c y is k ((returned line c t track r >> change_mission t f) k)
  unfolding ◌>>◌
  pool_goes t track r f m k stands le all on =
      eased line c y 0 0 k ((returned line c t track r >> change_mission t f) k)
      (omega (
        arith,
        mission_put line c y k t (option_map f (k.mission t)) (gone y t r) 0
            (λ here. omega (
              arith,
              le,
              ap (mission_of y) stands,
              ap (λ o. mission_of y (option_map f o)) stands,
              gone_here line c y is t r,
              away_part line c y is r,
            ))
            (λ other. omega (arith, gone_other line c y is t r other)),
      ))
      (λ so. omega (
        arith,
        mission_back line c y k t (option_map f (k.mission t)) (gone y t r) 0
            (λ here. omega (
              arith,
              all so,
              ap (mission_of y) stands,
              ap (λ o. mission_of y (option_map f o)) stands,
              part_gone line c y is so t r here,
            )) (λ other. omega arith),
      ))
      (fair_then line c y (returned line c t track r) (change_mission t f) k
      (fair_returned line c y is t track r k on) (fair_changed t f k))

  pub fair_return_pool : (t : ℕ) (m : Mission) (k : Centre) → k.mission t ≡ Some m → IsStanding t m k
      → Makes line c y is k (return_pool line c t m k)
  fair_return_pool t m k has stands = pool_goes t m.place.track m.pool (λ n. record n { pool = no_run }) m k has
      (omega (arith, none_part y)) (λ so. omega (arith, none_part y)) (λ so here. (stands so here).pool_on)

  -- ## Shortening

  abbrev kept_by : ℕ → Mission → Mission
  kept_by last_kept m = record m { hand = part_before (last_kept + 1) m.hand; pool = no_run; proposal = None }

  tail_le : (last_kept : ℕ) (m : Mission) → Follows m → part y (joined (part_from (last_kept + 1) m.hand) m.pool)
      ≤ part y (part_from (last_kept + 1) m.hand) + part y m.pool
  tail_le last_kept m follows = joined_part y (part_from (last_kept + 1) m.hand) m.pool
      (λ some more. tail_follows y (last_kept + 1) m follows some more)

  pub fair_cut : (t last_kept : ℕ) (m : Mission) (k : Centre) → Has t m k → Follows m → IsStanding t m k
      → Makes line c y is k (cut line c t last_kept m k)
  unfolding ◌>>◌
  fair_cut t last_kept m k stands follows standing =
      by_count ((part_from (last_kept + 1) m.hand).count == m.hand.count) refl
    where
      left : Centre
      left = (leave line c t m.place.track (joined (part_from (last_kept + 1) m.hand) m.pool) k).state

      cancels : (o : Option Handing) (j : Centre)
          → Makes line c y is j
          (option_map_or (λ h. if is_empty (part_at line h.to m.place.track (kept_by last_kept m).hand) then cancel t
          (kept_by last_kept m) else rest) o rest j)
      cancels None j = fair_rest line c y j
      cancels (Some h) j = by_part (is_empty (part_at line h.to m.place.track (kept_by last_kept m).hand))
        where
          by_part : (b : Bool) → Makes line c y is j ((if b then cancel t (kept_by last_kept m) else rest) j)
          by_part true = fair_cancel line c y is t (kept_by last_kept m) j
          by_part false = fair_rest line c y j

      keeps : Act
      keeps = set_mission t (Some (kept_by last_kept m))
          >> option_map_or (λ h. if is_empty (part_at line h.to m.place.track (kept_by last_kept m).hand) then cancel t
          (kept_by last_kept m) else rest) m.handing rest

      leaves : Act
      leaves = leave line c t m.place.track (joined (part_from (last_kept + 1) m.hand) m.pool) >> keeps

      tail_on : IsOnTrack line c y is t m.place.track (joined (part_from (last_kept + 1) m.hand) m.pool)
      tail_on = joined_on t (part_from (last_kept + 1) m.hand) m k standing
          (λ in_tail. (and_parts (within m.hand y.section) (nat_le (last_kept + 1) y.section)
          (sym (within_part_from m.hand (last_kept + 1) y.section) ∙ in_tail)).0)
          (λ some more. tail_follows y (last_kept + 1) m follows some more)

      tail_back : part y (part_from (last_kept + 1) m.hand) + part y m.pool
          ≤ part y (joined (part_from (last_kept + 1) m.hand) m.pool)
      tail_back = joined_back y (part_from (last_kept + 1) m.hand) m.pool
          (λ some more. tail_follows y (last_kept + 1) m follows some more)

      whole_tail : (part_from (last_kept + 1) m.hand).count ≡ m.hand.count
          → part y m.hand ≤ part y (part_from (last_kept + 1) m.hand)
      whole_tail all =
          omega (
            arith,
            cut_back y (last_kept + 1) m.hand,
            empty_part y (part_before (last_kept + 1) m.hand)
                (eq-eqb (part_before (last_kept + 1) m.hand).count 0 (none all (parts_count m.hand (last_kept + 1)))),
          )
        where
          none : {a b n : ℕ} → b ≡ n → a + b ≡ n → a ≡ 0
          none one two = omega (arith, one, two)

      by_count : (b : Bool) → ((part_from (last_kept + 1) m.hand).count == m.hand.count) ≡ b
          → Makes line c y is k ((leave line c t m.place.track (joined (part_from (last_kept + 1) m.hand) m.pool)
          >> (if b then close line c t m
          else (set_mission t (Some (kept_by last_kept m))
          >> option_map_or (λ h. if is_empty (part_at line h.to m.place.track (kept_by last_kept m).hand)
          then cancel t (kept_by last_kept m) else rest) m.handing rest))) k)
      by_count true all = leave_close line c y is t m.place.track (joined (part_from (last_kept + 1) m.hand) m.pool) m k
          (omega (arith, stands, tail_le last_kept m follows, cut_parts y (last_kept + 1) m.hand))
          (λ so. omega (
            arith,
            stands,
            tail_back,
            whole_tail (eqb-true (part_from (last_kept + 1) m.hand).count m.hand.count all),
          )) tail_on
          (λ so here. let at = standing so here in (at.alone, at.to_registrar))
      by_count false some = eased line c y 0 0 k (leaves k)
          (omega (
            arith,
            left_law line c y is t k (joined (part_from (last_kept + 1) m.hand) m.pool)
                (Some (kept_by last_kept m))
                (omega (arith, stands, tail_le last_kept m follows, cut_parts y (last_kept + 1) m.hand, none_part y)),
          ))
          (λ so. omega (
            arith,
            left_back line c y is so t k (joined (part_from (last_kept + 1) m.hand) m.pool)
                (Some (kept_by last_kept m))
                (omega (arith, stands, tail_back, cut_back y (last_kept + 1) m.hand, none_part y)),
          ))
          (fair_then line c y (leave line c t m.place.track (joined (part_from (last_kept + 1) m.hand) m.pool)) keeps k
          (fair_leave line c y is t m.place.track (joined (part_from (last_kept + 1) m.hand) m.pool) k tail_on)
          (fair_then line c y (set_mission t (Some (kept_by last_kept m)))
          (option_map_or (λ h. if is_empty (part_at line h.to m.place.track (kept_by last_kept m).hand) then cancel t
          (kept_by last_kept m) else rest) m.handing rest) left
          (fair_set line c y t (Some (kept_by last_kept m)) left)
          (cancels m.handing (set_mission t (Some (kept_by last_kept m)) left).state)))

  fair_granted : (t : ℕ) (position : Position) (m : Mission) (p : Proposal) (k : Centre) → k.mission t ≡ Some m
      → Follows m → Ready line c y k → Makes line c y is k (granted line c t position m p k)
  fair_granted t position m p k stands follows ready =
      fair_both line c y (change_mission t (λ n. record n { proposal = None })) _ k
      (fair_change line c y t (λ n. record n { proposal = None }) k (λ n. (refl, refl)))
      (by_place (place_on line m.place.track position))
    where
      middle : Centre
      middle = (change_mission t (λ n. record n { proposal = None }) k).state

      still : Has t m middle
      still = ap (mission_of y)
          (put_same k.mission t (option_map {T = Mission} {U = Mission} (λ n. record n { proposal = None })
          (k.mission t)))
          ∙ ap (λ o. mission_of y (option_map {T = Mission} {U = Mission} (λ n. record n { proposal = None }) o)) stands

      by_place : (o : Option Place)
          → Makes line c y is middle
          (option_map_or (λ place. if nat_le place.front (10 * end line p.last_kept) then cut line c t p.last_kept
          m else rest) o rest middle)
      by_place None = fair_rest line c y middle
      by_place (Some place) = by_front (nat_le place.front (10 * end line p.last_kept))
        where
          by_front : (b : Bool) → Makes line c y is middle ((if b then cut line c t p.last_kept m else rest) middle)
          by_front true = fair_cut t p.last_kept m middle still follows
              (λ so here. stands_again line c y k middle m refl (standing t m k stands ready so here))
          by_front false = fair_rest line c y middle

  -- ## End of mission

  fair_end_mission : (t : ℕ) (position : Position) (k : Centre) → AllFollow k → Ready line c y k
      → Makes line c y is k (end_mission line c t position k)
  fair_end_mission t position k follows ready =
      fair_both line c y (with_mission t (report_here line c t position)
      >> with_mission t (stand_still line c t position)) (with_mission t ends) k
      (fair_both line c y (with_mission t (report_here line c t position))
      (with_mission t (stand_still line c t position)) k
      (fair_or line c y (k.mission t) _ k (rest k)
      (λ m stands. fair_report_here t position m k (ap (mission_of y) stands) (follows t m stands)
      (standing t m k stands ready)) (λ none. fair_rest line c y k))
      (fair_or line c y (reported.mission t) (λ m. stand_still line c t position m reported) reported (rest reported)
      (λ m stands. rests_or_cuts (λ act. Makes line c y is reported (act reported)) line c t position m
      (fair_rest line c y reported)
      (λ n some fits. fair_cut t (m.hand.first + n - 1) m reported (ap (mission_of y) stands)
      (follows_reported line c y t position k (follows t) m stands)
      (standing t m reported stands (ready_reported line c y t position k ready))))
      (λ none. fair_rest line c y reported)))
      (fair_or line c y (stood.mission t) (λ m. ends m stood) stood (rest stood)
      (λ m stands. fair_both line c y (return_pool line c t m)
      (change_mission t (λ n. record n { is_ended = true; proposal = None })) stood
      (fair_return_pool t m stood stands
      (standing t m stood stands (ready_both line c y t position k (follows t) ready)))
      (fair_change line c y t (λ n. record n { is_ended = true; proposal = None }) _ (λ n. (refl, refl))))
      (λ none. fair_rest line c y stood))
    where
      ends : Mission → Act
      ends m = return_pool line c t m >> change_mission t (λ n. record n { is_ended = true; proposal = None })

      reported : Centre
      reported = (with_mission t (report_here line c t position) k).state

      stood : Centre
      stood = ((with_mission t (report_here line c t position)
          >> with_mission t (stand_still line c t position)) k).state

  -- ## A message

  pub fair_answered : (m : TrainMessage) (body : TrainBody) (k : Centre) → AllFollow k → Ready line c y k
      → Makes line c y is k (answered line c m body k)
  fair_answered m (TrainData position) k follows ready =
      fair_both line c y (change_mission m.nid_engine (λ n. record n { has_data = true }))
      (say m.nid_engine unknown_group (DataAcknowledged m.t_train)) k
      (fair_change line c y m.nid_engine (λ n. record n { has_data = true }) k (λ n. (refl, refl)))
      (fair_say line c y m.nid_engine unknown_group (DataAcknowledged m.t_train) _)
  fair_answered m (Request position) k follows ready =
      fair_request line c y is m.nid_engine position k (follows m.nid_engine)
  fair_answered m (Report position) k follows ready = fair_report m.nid_engine position k follows ready
  fair_answered m (ShorteningGranted stamp position) k follows ready =
      fair_or line c y (k.mission m.nid_engine) _ k (rest k)
      (λ n stands. fair_or line c y n.proposal _ k (rest k)
      (λ p asked. fair_granted m.nid_engine position n p k stands (follows m.nid_engine n stands) ready)
      (λ none. fair_rest line c y k)) (λ none. fair_rest line c y k)
  fair_answered m (ShorteningRejected stamp position) k follows ready =
      fair_change line c y m.nid_engine (λ n. record n { proposal = None }) k (λ n. (refl, refl))
  fair_answered m (EndOfMission position) k follows ready = fair_end_mission m.nid_engine position k follows ready
  fair_answered m InitiationOfSession k follows ready =
      fair_both line c y (close_session line c m.nid_engine >> set_phase m.nid_engine Opened)
      (say m.nid_engine unknown_group SystemVersion) k
      (fair_both line c y (close_session line c m.nid_engine) (set_phase m.nid_engine Opened) k
      (fair_close_session line c y is m.nid_engine k) (fair_plain line c y _ _ refl refl refl))
      (fair_say line c y m.nid_engine unknown_group SystemVersion _)
  fair_answered m TerminationOfSession k follows ready =
      fair_both line c y (close_session line c m.nid_engine) (say m.nid_engine unknown_group TerminationAcknowledged) k
      (fair_close_session line c y is m.nid_engine k)
      (fair_say line c y m.nid_engine unknown_group TerminationAcknowledged _)
  fair_answered m (StartOfMission is_valid position) k follows ready =
      fair_start line c y is m.nid_engine is_valid position k
  fair_answered m SessionEstablished k follows ready =
      fair_plain line c y k (set_phase m.nid_engine Up k) refl refl refl
