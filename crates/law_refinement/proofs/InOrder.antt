-- A step reports sections to the interlocking in the order of their numbers.
use Rattle.std.proofs.Common.{[], ◌&&◌, ◌*◌, ◌++◌, ◌+◌, ◌-◌, ◌<◌, ◌==◌, ◌∙◌, ◌≡◌, ◌≢◌, ◌≤◌, ap, append-nil, arith, Bool}
use Rattle.std.proofs.Common.{false, filter, if◌then◌else◌, List, map, nat_le, None, Option, refl, Some, subst, sym}
use Rattle.std.proofs.Common.{true, ℕ}
use Rattle.std.proofs.lemmas.Bool.{cond-false, ne_eqb}
use Rattle.std.specs.List.{range_with_len}
use Rattle.std.specs.Option.{option_map_or}
use Rattle.law_base.proofs.PiecesLemmas.GivenSections.{none_in_order, range_in_order, ranges_in_order}
use Rattle.law_base.proofs.RulesLemmas.SentActs.{close_leaves_none}
use Rattle.law_refinement.proofs.Words.{both, branch, cancel_silent, close_silent, IsNone, IsSilent, of_option, of_some}
use Rattle.law_refinement.proofs.Words.{silent, Tells}
use Rattle.rbc_spec.proofs.Lists.{put_there}
use Rattle.rbc_spec.proofs.Worlds.{rests_or_cuts}
use Rattle.rbc_spec.specs.Acts.{◌>>◌, Act, cancel, close, freed, leave, part_at, Reply, rest, returned, set_mission}
use Rattle.rbc_spec.specs.Acts.{with_mission}
use Rattle.rbc_spec.specs.Centre.{Centre, Entry, Handing, is_taken_for, Mission, Proposal}
use Rattle.rbc_spec.specs.Line.{end, is_home, Line}
use Rattle.rbc_spec.specs.Outcome.{Told, Word}
use Rattle.rbc_spec.specs.Place.{covered, Place, place_on, Position}
use Rattle.rbc_spec.specs.Rules.{clear, cleared, close_session, cut, drop_wait, end_mission, granted, report}
use Rattle.rbc_spec.specs.Rules.{report_here, stand_still, take_over}
use Rattle.rbc_spec.specs.Run.{TellsInOrder}
use Rattle.rbc_spec.specs.SectionRuns.{is_empty, joined, next_after, no_run, part_before, part_from, SectionRun, within}

abbrev pub IsOrdered : Act → Type 0
IsOrdered act = Tells TellsInOrder act

pub quiet : (a : Act) → IsSilent a → IsOrdered a
quiet a silent = record { each = λ k. subst TellsInOrder (sym (silent.each k)) none_in_order }

pub then_none : (a b : Act) → IsOrdered a → IsSilent b → IsOrdered (a >> b)
unfolding ◌>>◌
then_none a b first second =
    record {
      each = λ k. subst TellsInOrder (sym (ap (λ (ws : List Word). (a k).words ++ ws) (second.each (a k).state)
          ∙ append-nil (a k).words)) (first.each k);
    }

pub none_then : (a b : Act) → IsSilent a → IsOrdered b → IsOrdered (a >> b)
unfolding ◌>>◌
none_then a b first second =
    record {
      each = λ k. subst TellsInOrder (sym (ap (λ (ws : List Word). ws ++ (b (a k).state).words) (first.each k)))
          (second.each (a k).state);
    }

silent_after : (a b : Act) → IsSilent b → (k : Centre) → ((a >> b) k).words ≡ (a k).words
unfolding ◌>>◌
silent_after a b second k = ap (λ (ws : List Word). (a k).words ++ ws) (second.each (a k).state)
    ∙ append-nil (a k).words

module _ (line : Line) (c t : ℕ) where
  pub freed_in_order : (is_meant : Entry → Bool) (r : SectionRun) → IsOrdered (freed line c is_meant r)
  freed_in_order is_meant r =
      record {
        each = λ k. range_in_order (λ s. ((within r s && is_home line c s) && is_meant (k.book s))
            && k.wish s) r.first r.count;
      }

  leave_in_order : (track : ℕ) (r : SectionRun) → IsOrdered (leave line c t track r)
  leave_in_order track r = then_none _ _ (freed_in_order (is_taken_for t) r) (record { each = λ k. refl })

  pub drop_in_order : IsOrdered (drop_wait line c t)
  drop_in_order = of_some TellsInOrder none_in_order _ _
      (λ place. then_none _ _ (freed_in_order (is_taken_for t) (covered line place)) (record { each = λ k. refl }))

  pub close_session_in_order : IsOrdered (close_session line c t)
  close_session_in_order =
      none_then _ _ (both _ _ (record { each = λ k. refl }) (record { each = λ k. refl })) drop_in_order

  here_in_order : (position : Position) (m : Mission) → IsOrdered (report_here line c t position m)
  here_in_order position m = of_option TellsInOrder none_in_order (place_on line m.place.track position) _ _
      (λ place. branch TellsInOrder none_in_order _ _ _ (then_none _ _ (leave_in_order _ _) (close_silent line c t m))
      (then_none _ _ (leave_in_order _ _) (record { each = λ k. refl })))
      (quiet rest (record { each = λ k. refl }))

  pub report_in_order : (position : Position) → IsOrdered (report line c t position)
  report_in_order position = record { each = λ k. by_mission k (k.mission t) }
    where
      by_mission : (k : Centre) (o : Option Mission)
          → TellsInOrder (option_map_or (λ m. report_here line c t position m k) o (take_over line t k)).words
      by_mission k None = none_in_order
      by_mission k (Some m) = (here_in_order position m).each k

  abbrev kept_by : ℕ → Mission → Mission
  kept_by last_kept m = record m { hand = part_before (last_kept + 1) m.hand; pool = no_run; proposal = None }

  abbrev cancels : Mission → Handing → Act
  cancels n h = if is_empty (part_at line h.to n.place.track n.hand) then cancel t n else rest

  cut_in_order : (last_kept : ℕ) (m : Mission) → IsOrdered (cut line c t last_kept m)
  cut_in_order last_kept m =
      then_none _ _ (leave_in_order _ _)
      (branch IsNone refl _ _ _ (close_silent line c t m) (both _ _ (record { each = λ k. refl })
      (of_option IsNone refl m.handing (cancels (kept_by last_kept m)) rest
      (λ h. branch IsNone refl (is_empty (part_at line h.to m.place.track (kept_by last_kept m).hand))
      (cancel t (kept_by last_kept m)) rest (cancel_silent line c t (kept_by last_kept m))
      (record { each = λ k. refl })) (record { each = λ k. refl }))))

  pub granted_in_order : (position : Position) (m : Mission) (p : Proposal) → IsOrdered (granted line c t position m p)
  granted_in_order position m p = none_then _ _ (record { each = λ k. refl })
      (of_option TellsInOrder none_in_order (place_on line m.place.track position)
      (λ place. if nat_le place.front (10 * end line p.last_kept) then cut line c t p.last_kept m else rest) rest
      (λ place. branch TellsInOrder none_in_order (nat_le place.front (10 * end line p.last_kept))
      (cut line c t p.last_kept m) rest (cut_in_order p.last_kept m) (quiet rest (record { each = λ k. refl })))
      (quiet rest (record { each = λ k. refl })))

  -- ## End of mission

  -- a train at standstill has reports of sections of its hand, and of those in advance
  record TellsAhead (n : Mission) (words : List Word) : Type 0 where
    test : ℕ → Bool
    first : ℕ
    count : ℕ
    are : words ≡ map (λ s. Told s) (filter test (range_with_len first count))
    ahead : n.hand.first ≤ first

  cut_ahead_tells : (n : Mission) (x : ℕ) (j : Centre) → x ≢ 0 → x < n.hand.count
      → TellsAhead n (cut line c t (n.hand.first + x - 1) n j).words
  cut_ahead_tells n x j some fits = record {
    test = λ s. ((within gone s && is_home line c s) && is_taken_for t (j.book s)) && j.wish s;
    first = gone.first;
    count = gone.count;
    are = silent_after (leave line c t n.place.track gone) _
        (branch IsNone refl _ _ _ (close_silent line c t n) (both _ _ (record { each = λ k. refl })
        (of_option IsNone refl n.handing (cancels (kept_by last_kept n)) rest
        (λ h. branch IsNone refl (is_empty (part_at line h.to n.place.track (kept_by last_kept n).hand))
        (cancel t (kept_by last_kept n)) rest (cancel_silent line c t (kept_by last_kept n))
        (record { each = λ k. refl })) (record { each = λ k. refl })))) j
        ∙ silent_after (freed line c (is_taken_for t) gone) (returned line c t n.place.track gone)
        (record { each = λ k. refl }) j;
    ahead = let is : gone.first ≡ tail.first =
        ap (λ (r : SectionRun). r.first)
        (cond-false (is_empty tail) n.pool (record { first = tail.first; count = tail.count + n.pool.count })
        (ne_eqb tail.count 0 (omega (arith, some, fits)))) in
        omega (arith, is);
  }
    where
      last_kept : ℕ
      last_kept = n.hand.first + x - 1

      tail : SectionRun
      tail = part_from (last_kept + 1) n.hand

      gone : SectionRun
      gone = joined tail n.pool

  stand_tells : (position : Position) (n : Mission) (j : Centre)
      → TellsAhead n (stand_still line c t position n j).words
  stand_tells position n j = rests_or_cuts (λ act. TellsAhead n (act j).words) line c t position n
      (record { test = λ s. false; first = n.hand.first; count = 0; are = refl; ahead = omega arith })
      (λ x some fits. cut_ahead_tells n x j some fits)

  -- the replies of a report, and the state after it
  data TellsFirst (q : Reply) : Type 0 where
    ends_so : q.state.mission t ≡ None → TellsInOrder q.words → TellsFirst q
    goes_on : (n : Mission) → q.state.mission t ≡ Some n → (test : ℕ → Bool) (first count : ℕ)
        → q.words ≡ map (λ s. Told s) (filter test (range_with_len first count))
        → first + count ≤ n.hand.first → TellsFirst q

  clear_tells : (m : Mission) (place : Place) (k : Centre) → TellsFirst (clear line c t m place k)
  unfolding ◌>>◌
  clear_tells m place k = by_count ((cleared line place m).count == m.hand.count)
    where
      new : Mission
      new = record m { place = place; hand = part_from (next_after (cleared line place m)) m.hand }

      by_count : (b : Bool)
          → TellsFirst
          ((if b then (leave line c t m.place.track (joined m.hand m.pool) >> close line c t m) else
          (leave line c t m.place.track (cleared line place m) >> set_mission t (Some new))) k)
      by_count true =
          ends_so (close_leaves_none 0 0 line c t m (leave line c t m.place.track (joined m.hand m.pool) k).state)
          ((then_none _ _ (leave_in_order m.place.track (joined m.hand m.pool)) (close_silent line c t m)).each k)
      by_count false =
          goes_on new (put_there (leave line c t m.place.track (cleared line place m) k).state.mission t (Some new))
          (λ s. ((within (cleared line place m) s && is_home line c s) && is_taken_for t (k.book s)) && k.wish s)
          (cleared line place m).first (cleared line place m).count
          (append-nil ((freed line c (is_taken_for t) (cleared line place m) k).words ++ [])
          ∙ append-nil (freed line c (is_taken_for t) (cleared line place m) k).words) (omega arith)

  here_tells : (position : Position) (m : Mission) (k : Centre) → k.mission t ≡ Some m
      → TellsFirst (report_here line c t position m k)
  here_tells position m k has = by_place (place_on line m.place.track position)
    where
      by_place : (o : Option Place) → TellsFirst (option_map_or (clear line c t m) o rest k)
      by_place None = goes_on m has (λ s. false) 0 0 refl (omega arith)
      by_place (Some place) = clear_tells m place k

  both_tell : (position : Position) (k : Centre)
      → TellsInOrder ((with_mission t (report_here line c t position)
      >> with_mission t (stand_still line c t position)) k).words
  unfolding ◌>>◌
  both_tell position k = by_mission (k.mission t) refl
    where
      second : Centre → Reply
      second j = with_mission t (stand_still line c t position) j

      none_stands : (j : Centre) → j.mission t ≡ None → (second j).words ≡ []
      none_stands j none =
          ap (λ (o : Option Mission). (option_map_or (λ n. stand_still line c t position n j) o (rest j)).words) none

      some_stands : (j : Centre) (n : Mission) → j.mission t ≡ Some n
          → (second j).words ≡ (stand_still line c t position n j).words
      some_stands j n has =
          ap (λ (o : Option Mission). (option_map_or (λ n. stand_still line c t position n j) o (rest j)).words) has

      after_first : (q : Reply) → TellsFirst q → TellsInOrder (q.words ++ (second q.state).words)
      after_first q (ends_so none ordered) = subst (λ ws. TellsInOrder (q.words ++ ws)) (sym (none_stands q.state none))
          (subst TellsInOrder (sym (append-nil q.words)) ordered)
      after_first q (goes_on n has test first count are low) = let later = stand_tells position n q.state in
          let high = later.ahead in
          subst (λ ws. TellsInOrder (q.words ++ ws)) (sym (some_stands q.state n has ∙ later.are))
          (subst (λ ws. TellsInOrder
          (ws ++ map (λ s. Told s) (filter later.test (range_with_len later.first later.count)))) (sym are)
          (ranges_in_order test later.test first count later.first later.count (omega (arith, low, high))))

      by_mission : (o : Option Mission) → k.mission t ≡ o
          → TellsInOrder ((option_map_or (λ m. report_here line c t position m k) o (rest k)).words
          ++ (second (option_map_or (λ m. report_here line c t position m k) o (rest k)).state).words)
      by_mission None none = after_first (rest k) (ends_so none none_in_order)
      by_mission (Some m) has = after_first (report_here line c t position m k) (here_tells position m k has)

  pub end_in_order : (position : Position) → IsOrdered (end_mission line c t position)
  end_in_order position = then_none _ _ (record { each = λ k. both_tell position k })
      (of_some IsNone refl _ _ (λ m. both _ _ (both _ _ (record { each = λ k. refl }) (record { each = λ k. refl }))
      (record { each = λ k. refl })))
