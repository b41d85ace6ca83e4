-- The frames of an end of mission on a link.
use Rattle.std.proofs.Common.{⊎_elim, ◌+◌, ◌-◌, ◌<◌, ◌==◌, ◌∙◌, ◌≡◌, ◌≢◌, ◌≤◌, ◌⊎◌, ap, arith, Bool, eq-eqb, eqb-true}
use Rattle.std.proofs.Common.{false, if◌then◌else◌, inl, inr, None, Option, option_map, refl, Some, subst, sym, true, ℕ}
use Rattle.std.proofs.lemmas.Bool.{cases_eq, cond-false, cond-true, eqb-false, ne_eqb}
use Rattle.std.specs.Option.{option_map_or}
use Rattle.law_base.proofs.RulesLemmas.Sends.{Sends, sends_less, sends_none, sends_quiet, sends_then}
use Rattle.law_base.proofs.RulesLemmas.SentActs.{cancel_sends, home_none, leave_high, leave_low, without_handing}
use Rattle.law_base.proofs.RulesLemmas.SentAnswers.{after_cleared, cleared_count, closed_sends, closed_state}
use Rattle.law_base.proofs.RulesLemmas.SentAnswers.{end_closed, end_open, Few, kept_state}
use Rattle.rbc_spec.proofs.Lists.{put_there}
use Rattle.rbc_spec.proofs.Runs.{joined_count}
use Rattle.rbc_spec.proofs.Worlds.{alike_then, rests_or_cuts, then_alike}
use Rattle.rbc_spec.specs.Acts.{◌>>◌, Act, cancel, change_mission, close, leave, part_at, Reply, rest, return_pool}
use Rattle.rbc_spec.specs.Acts.{returned, send, set_mission}
use Rattle.rbc_spec.specs.Centre.{Centre, Handing, Mission}
use Rattle.rbc_spec.specs.Frame.{Cancel}
use Rattle.rbc_spec.specs.Line.{Line}
use Rattle.rbc_spec.specs.Place.{Place, place_on, Position}
use Rattle.rbc_spec.specs.Rules.{clear, cleared, cut, report_here, stand_still}
use Rattle.rbc_spec.specs.SectionRuns.{is_empty, joined, next_after, no_run, part_before, part_from, SectionRun}

module _ (d : ℕ) (line : Line) (c t : ℕ) where
  -- the limits of a step's frames, messages and replies, for some bound of its returned runs
  abbrev pub FewSo : Reply → Type 0
  FewSo r = (b : ℕ) × Few d line c t b r

  abbrev without_pool : Mission → Mission
  without_pool n = record n { pool = no_run }

  abbrev as_ended : Mission → Mission
  as_ended n = record n { is_ended = true; proposal = None }

  abbrev ends : Mission → Act
  ends n = return_pool line c t n >> change_mission t as_ended

  abbrev ends_if_so : Act
  ends_if_so j = option_map_or (λ n. ends n j) (j.mission t) (rest j)

  abbrev stands_if_so : Position → Act
  stands_if_so position j = option_map_or (λ n. stand_still line c t position n j) (j.mission t) (rest j)

  -- a mission without a pool ends, and sends nothing
  poolless_ends : (bound low : ℕ) (n : Mission) (j : Centre) → j.mission t ≡ Some n → n.pool.count ≡ 0
      → Sends bound d low low 0 0 0 (ends_if_so j)
  poolless_ends bound low n j is none =
      subst (λ o. Sends bound d low low 0 0 0 (option_map_or (λ n. ends n j) o (rest j))) (sym is)
      (sends_then bound d low low low 0 0 0 0 0 0 (return_pool line c t n) (change_mission t as_ended) j
      (omega arith) (omega arith)
      (sends_then bound d low low low 0 0 0 0 0 0 (returned line c t n.place.track n.pool)
      (change_mission t without_pool) j (omega arith) (omega arith)
      (home_none bound d line c t low low n.place.track n.pool j none) (sends_none bound d low low _ refl refl refl))
      (sends_none bound d low low _ refl refl refl))

  -- the mission after the cancellation
  cancelled_is : (n : Mission) (j : Centre) → j.mission t ≡ Some n → (o : Mission)
      × ((cancel t n j).state.mission t ≡ Some o) × (o.handing ≡ None) × (o.pool ≡ n.pool)
  unfolding ◌>>◌
  cancelled_is n j is = by_handing n.handing refl
    where
      by_handing : (h : Option Handing) → n.handing ≡ h
          → (o : Mission)
          × ((option_map_or (λ h. send h.to (Cancel h.number t)
          >> change_mission t (λ n. record n { handing = None })) h rest j).state.mission t ≡ Some o)
          × (o.handing ≡ None) × (o.pool ≡ n.pool)
      by_handing (Some h) at = (
        without_handing n,
        put_there j.mission t (option_map without_handing (j.mission t))
            ∙ ap (option_map without_handing) is,
        refl,
        refl,
      )
      by_handing None at = (n, is, at, refl)

  module _ (m : Mission) (x : ℕ) (some : x ≢ 0) (fits : x < m.hand.count)
      (follows : (m.pool.count ≡ 0) ⊎ (next_after m.hand ≤ m.pool.first)) (w : ℕ)
      (room : w + (m.hand.count + m.pool.count) ≤ 64) where
    abbrev bound : ℕ
    bound = m.hand.first + x

    abbrev last_kept : ℕ
    last_kept = m.hand.first + x - 1

    abbrev tail : SectionRun
    tail = part_from (last_kept + 1) m.hand

    abbrev kept : Mission
    kept = record m { hand = part_before (last_kept + 1) m.hand; pool = no_run; proposal = None }

    abbrev leaves : Act
    leaves = leave line c t m.place.track (joined tail m.pool)

    gone_high : ((joined tail m.pool).count ≡ 0) ⊎ (bound ≤ (joined tail m.pool).first)
    gone_high = ⊎_elim
        (λ (empty : tail.count ≡ 0). subst (λ (r : SectionRun). (r.count ≡ 0) ⊎ (bound ≤ r.first))
        (sym (cond-true (is_empty tail) m.pool (record { first = tail.first; count = tail.count + m.pool.count })
        (eq-eqb tail.count 0 empty)))
        (by_pool follows))
        (λ (more : tail.count ≢ 0). subst (λ (r : SectionRun). (r.count ≡ 0) ⊎ (bound ≤ r.first))
        (sym (cond-false (is_empty tail) m.pool (record { first = tail.first; count = tail.count + m.pool.count })
        (ne_eqb tail.count 0 more)))
        (inr (omega (arith, some))))
        (cases_eq tail.count 0)
      where
        by_pool : (m.pool.count ≡ 0) ⊎ (next_after m.hand ≤ m.pool.first) → (m.pool.count ≡ 0) ⊎ (bound ≤ m.pool.first)
        by_pool (inl none) = inl none
        by_pool (inr far) = inr (omega (arith, far, fits))

    leaves_sends : (k : Centre) → Sends bound d 1 2 1 0 (m.hand.count + m.pool.count) (leaves k)
    leaves_sends k =
        let count = joined_count tail m.pool in
        sends_less bound d 1 2 1 0 ((joined tail m.pool).count + 0) 1 2 1 0 (m.hand.count + m.pool.count) (leaves k)
        (omega arith) (omega arith) (omega arith) (omega arith) (omega (arith, count))
        (leave_high bound d line c t m.place.track (joined tail m.pool) k gone_high)

    -- the cut, after the frames of the report
    module _ (first : Act) (k : Centre) (low : Sends bound d 0 1 1 0 w (first k)) where
      first_then : (high n : ℕ) (act : Act) → 2 ≤ high → Sends bound d 2 high n 0 0 (act (leaves (first k).state).state)
          → Sends bound d 0 high (2 + n) 0 64 ((first >> (leaves >> act)) k)
      first_then high n act up sends = sends_less bound d 0 high (1 + (1 + n)) 0 (w + (m.hand.count + m.pool.count + 0))
          0 high (2 + n) 0 64 _ (omega arith) (omega arith) (omega arith) (omega arith) (omega (arith, room))
          (sends_then bound d 0 1 high 1 (1 + n) 0 0 w (m.hand.count + m.pool.count + 0) first (leaves >> act) k
          (omega arith) (omega (arith, up)) low
          (sends_then bound d 1 2 high 1 n 0 0 (m.hand.count + m.pool.count) 0 leaves act (first k).state (omega arith)
          (omega (arith, up)) (leaves_sends (first k).state) sends))

      -- the mission goes on, with its handover or without
      goes_after : (high n : ℕ) (act : Act) (o : Mission) → high ≤ 4 → n ≤ 3 → Sends bound d 0 high n 0 64 (act k)
          → (act k).state.mission t ≡ Some o → o.pool.count ≡ 0 → Few d line c t bound ((act >> ends_if_so) k)
      goes_after high n act o up most sends is none =
          sends_less bound d 0 high (n + 0) (0 + 0) (64 + 0) 0 8 3 2 64 _ (omega arith) (omega (arith, up))
          (omega (arith, most)) (omega arith) (omega arith)
          (sends_then bound d 0 high high n 0 0 0 64 0 act ends_if_so k (omega arith) (omega arith) sends
          (poolless_ends bound high o (act k).state is none))

      kept_few : Few d line c t bound (((first >> (leaves >> (set_mission t (Some kept) >> rest))) >> ends_if_so) k)
      unfolding ◌>>◌
      kept_few = goes_after 2 (2 + 0) (first >> (leaves >> (set_mission t (Some kept) >> rest))) kept
          (omega arith) (omega arith)
          (first_then 2 0 (set_mission t (Some kept) >> rest) (omega arith) (sends_none bound d 2 2 _ refl refl refl))
          (put_there (leaves (first k).state).state.mission t (Some kept)) refl

      cancelled_few : Few d line c t bound
          (((first >> (leaves >> (set_mission t (Some kept) >> cancel t kept))) >> ends_if_so) k)
      unfolding ◌>>◌
      cancelled_few =
          let j : Centre = (set_mission t (Some kept) (leaves (first k).state).state).state in
          let it = cancelled_is kept j (put_there (leaves (first k).state).state.mission t (Some kept)) in
          goes_after 4 (2 + 1) (first >> (leaves >> (set_mission t (Some kept) >> cancel t kept))) it.0
          (omega arith) (omega arith)
          (first_then 4 1 (set_mission t (Some kept) >> cancel t kept) (omega arith)
          (sends_less bound d 3 4 (0 + 1) 0 0 2 4 1 0 0 _ (omega arith) (omega arith) (omega arith)
          (omega arith) (omega arith)
          (sends_then bound d 3 3 4 0 1 0 0 0 0 (set_mission t (Some kept)) (cancel t kept)
          (leaves (first k).state).state (omega arith) (omega arith) (sends_none bound d 3 3 _ refl refl refl)
          (cancel_sends bound d line c t kept j))))
          it.1 (ap (λ (r : SectionRun). r.count) it.3)

      pub cut_few : Few d line c t bound (((first >> cut line c t last_kept m) >> ends_if_so) k)
      cut_few = by_tail (tail.count == m.hand.count) refl m.handing
        where
          by_part : (b : Bool)
              → Few d line c t bound
              (((first >> (leaves >> (set_mission t (Some kept) >> (if b then cancel t kept else rest))))
              >> ends_if_so) k)
          by_part true = cancelled_few
          by_part false = kept_few

          by_tail : (b : Bool) → (tail.count == m.hand.count) ≡ b → (h : Option Handing)
              → Few d line c t bound (((first >> (leaves >> (if b then close line c t m else (set_mission t (Some kept)
              >> option_map_or (λ h. if is_empty (part_at line h.to m.place.track kept.hand) then cancel t kept else
              rest) h rest)))) >> ends_if_so) k)
          by_tail true all h = let same = eqb-true tail.count m.hand.count all in
              absurd (let no : ⊥ = omega (arith, some, fits, same) in no)
          by_tail false part (Some h) = by_part (is_empty (part_at line h.to m.place.track kept.hand))
          by_tail false part None = kept_few

  -- ## An end of mission

  module _ (m : Mission) (few : m.hand.count + m.pool.count ≤ 64)
      (follows : (m.pool.count ≡ 0) ⊎ (next_after m.hand ≤ m.pool.first)) (position : Position) where
    rests : (first : Act) (n : Mission) (w : ℕ) (k : Centre) → Sends (next_after m.hand) d 0 1 1 0 w (first k)
        → (first k).state.mission t ≡ Some n → n.pool ≡ m.pool → w ≤ 64
        → FewSo (((first >> rest) >> ends_if_so) k)
    unfolding ◌>>◌
    rests first n w k sends is same room = (
      next_after m.hand,
      end_open d line c t m few follows (first >> rest) n k
          (sends_less (next_after m.hand) d 0 1 (1 + 0) 0 (w + 0) 0 1 1 0 64 _ (omega arith) (omega arith) (omega arith)
          (omega arith) (omega (arith, room))
          (sends_then (next_after m.hand) d 0 1 1 1 0 0 0 w 0 first rest k (omega arith) (omega arith) sends
          (sends_none (next_after m.hand) d 1 1 _ refl refl refl))) is same,
    )

    -- the mission goes on after its report
    goes_on : (first : Act) (n : Mission) (w : ℕ) (k : Centre)
        → ((b : ℕ) → n.hand.first < b → Sends b d 0 1 1 0 w (first k))
        → (first k).state.mission t ≡ Some n → n.pool ≡ m.pool
        → next_after n.hand ≡ next_after m.hand → w + (n.hand.count + n.pool.count) ≤ 64
        → Sends (next_after m.hand) d 0 1 1 0 w (first k)
        → FewSo (((first >> stands_if_so position) >> ends_if_so) k)
    goes_on first n w k sends is same ends_as room kept =
        subst FewSo (sym goes) (rests_or_cuts (λ act. FewSo (((first >> act) >> ends_if_so) k)) line c t position n
        (rests first n w k kept is same (omega (arith, room)))
        (λ x some fits. (
          n.hand.first + x,
          cut_few n x some fits (subst (λ (r : SectionRun). (r.count ≡ 0) ⊎ (next_after n.hand ≤ r.first)) (sym same)
              (by_pool follows)) w room first k (sends (n.hand.first + x) (omega (arith, some))),
        )))
      where
        goes : (((first >> stands_if_so position) >> ends_if_so) k)
            ≡ (((first >> stand_still line c t position n) >> ends_if_so) k)
        goes = alike_then (first >> stands_if_so position) (first >> stand_still line c t position n) ends_if_so k
            (then_alike first (stands_if_so position) (stand_still line c t position n) k
            (ap (λ o. option_map_or (λ n. stand_still line c t position n (first k).state) o (rest (first k).state))
            is))

        by_pool : (m.pool.count ≡ 0) ⊎ (next_after m.hand ≤ m.pool.first) → (m.pool.count ≡ 0)
            ⊎ (next_after n.hand ≤ m.pool.first)
        by_pool (inl none) = inl none
        by_pool (inr far) = inr (omega (arith, far, ends_as))

    closes : (first : Act) (k : Centre) → Sends (next_after m.hand) d 0 5 3 0 64 (first k)
        → (first k).state.mission t ≡ None → FewSo (((first >> stands_if_so position) >> ends_if_so) k)
    unfolding ◌>>◌
    closes first k sends is = subst FewSo (sym goes) (
      next_after m.hand,
      end_closed d line c t m few follows (first >> rest) k
          (sends_less (next_after m.hand) d 0 5 (3 + 0) 0 (64 + 0) 0 5 3 0 64 _ (omega arith) (omega arith)
          (omega arith) (omega arith) (omega arith)
          (sends_then (next_after m.hand) d 0 5 5 3 0 0 0 64 0 first rest k (omega arith) (omega arith) sends
          (sends_none (next_after m.hand) d 5 5 _ refl refl refl))) is,
    )
      where
        goes : (((first >> stands_if_so position) >> ends_if_so) k) ≡ (((first >> rest) >> ends_if_so) k)
        goes = alike_then (first >> stands_if_so position) (first >> rest) ends_if_so k
            (then_alike first (stands_if_so position) rest k
            (ap (λ o. option_map_or (λ n. stand_still line c t position n (first k).state) o (rest (first k).state))
            is))

    kept_low : (place : Place) (b : ℕ) (k : Centre) → next_after (cleared line place m) < b
        → Sends b d 0 1 1 0 (cleared line place m).count
        ((leave line c t m.place.track (cleared line place m)
        >> set_mission t (Some (after_cleared d line c t m few follows place))) k)
    kept_low place b k low = sends_less b d 0 1 (1 + 0) 0 ((cleared line place m).count + 0 + 0) 0 1 1 0
        (cleared line place m).count _ (omega arith) (omega arith) (omega arith) (omega arith) (omega arith)
        (sends_then b d 0 1 1 1 0 0 0 ((cleared line place m).count + 0) 0
        (leave line c t m.place.track (cleared line place m))
        (set_mission t (Some (after_cleared d line c t m few follows place))) k (omega arith) (omega arith)
        (leave_low b d line c t m.place.track (cleared line place m) k low)
        (sends_none b d 1 1 _ refl refl refl))

    end_at : (place : Place) (k : Centre) → FewSo (((clear line c t m place >> stands_if_so position) >> ends_if_so) k)
    end_at place k = by_rest ((cleared line place m).count == m.hand.count) refl
      where
        by_rest : (b : Bool) → ((cleared line place m).count == m.hand.count) ≡ b
            → FewSo ((((if b then (leave line c t m.place.track (joined m.hand m.pool) >> close line c t m)
            else (leave line c t m.place.track (cleared line place m)
            >> set_mission t (Some (after_cleared d line c t m few follows place))))
            >> stands_if_so position) >> ends_if_so) k)
        by_rest true all = closes (leave line c t m.place.track (joined m.hand m.pool) >> close line c t m) k
            (closed_sends d line c t m few follows place k) (closed_state d line c t m few follows k)
        by_rest false part =
            let count = cleared_count d line c t m few follows place in
            goes_on (leave line c t m.place.track (cleared line place m)
            >> set_mission t (Some (after_cleared d line c t m few follows place)))
            (after_cleared d line c t m few follows place) (cleared line place m).count k
            (λ b low. kept_low place b k (omega (arith, low))) (kept_state d line c t m few follows place k) refl
            (omega (arith, count)) (omega (arith, count, few))
            (kept_low place (next_after m.hand) k
            (let less = eqb-false (cleared line place m).count m.hand.count part in omega (arith, count, less)))

    pub end_few : (k : Centre) → k.mission t ≡ Some m
        → FewSo (((report_here line c t position m >> stands_if_so position) >> ends_if_so) k)
    end_few k is = by_place (place_on line m.place.track position)
      where
        by_place : (o : Option Place)
            → FewSo (((option_map_or (clear line c t m) o rest >> stands_if_so position) >> ends_if_so) k)
        by_place (Some place) = end_at place k
        by_place None =
            goes_on rest m 0 k (λ b low. sends_quiet b d 0 1 1 0 0 (rest k) refl (omega arith) (omega arith)) is refl
            refl (omega (arith, few)) (sends_quiet (next_after m.hand) d 0 1 1 0 0 (rest k) refl
            (omega arith) (omega arith))
