-- The effect of a train's message is a walk.
use Rattle.std.proofs.Common.{◌&&◌, ◌*◌, ◌+◌, ◌-◌, ◌==◌, ◌∙◌, ◌≡◌, ◌≤◌, ap, arith, Bool, false, if◌then◌else◌, is_none}
use Rattle.std.proofs.Common.{nat_le, nat_lt, None, not, Option, option_map, refl, Some, subst, sym, true, ℕ}
use Rattle.std.proofs.lemmas.Bool.{and_parts}
use Rattle.std.proofs.lemmas.Option.{same_Some}
use Rattle.std.specs.Option.{option_map_or}
use Rattle.law_base.proofs.WalkLemmas.Acts.{accept_walks, announce_walks, begin_walks, close_walks, leave_walks}
use Rattle.law_base.proofs.WalkLemmas.Acts.{recall_walks, reject_walks, return_pool_walks}
use Rattle.law_base.proofs.WalkLemmas.Causes.{all_free, clears, cuts, ends, grows, IsAhead, May, MayBegin, next_of}
use Rattle.law_base.proofs.WalkLemmas.Causes.{no_proposal, Reports, restarts, Starts}
use Rattle.law_base.proofs.WalkLemmas.Moves.{asks_right, asks_route, books, both, by_bool, by_option, changes, if_some}
use Rattle.law_base.proofs.WalkLemmas.Moves.{joined, resting, rights, says, sets, step, takes_over, waits, Walk, Walks}
use Rattle.law_base.proofs.WalkLemmas.Moves.{with}
use Rattle.rbc_spec.proofs.Lists.{none_is, put_there}
use Rattle.rbc_spec.proofs.Runs.{joined_count, longest_few}
use Rattle.rbc_spec.proofs.Worlds.{rests_or_cuts}
use Rattle.rbc_spec.specs.Acts.{◌>>◌, Act, announce, ask_route, become, booked, cancel, change_mission, close, leave}
use Rattle.rbc_spec.specs.Acts.{part_at, rest, return_pool, say, send, set_mission, where_so, with_some}
use Rattle.rbc_spec.specs.Centre.{Centre, Handing, is_free, is_open, is_registrar_of, Mission, Proposal, Taken}
use Rattle.rbc_spec.specs.Frame.{AskRight}
use Rattle.rbc_spec.specs.Line.{end, is_home, Line, next_centre, registrar}
use Rattle.rbc_spec.specs.Maps.{put}
use Rattle.rbc_spec.specs.Message.{Authority}
use Rattle.rbc_spec.specs.Place.{covered, fit_place, is_cleared, Place, place_on, Position}
use Rattle.rbc_spec.specs.Rules.{accept, announce_if_due, answer_granted, ask_route_if_due, at_border, authority, begin}
use Rattle.rbc_spec.specs.Rules.{clear, cleared, cut, end_mission, extended_by, extension, grant, granted, reject}
use Rattle.rbc_spec.specs.Rules.{report, report_here, request, restart, stand_still, start_here, start_mission}
use Rattle.rbc_spec.specs.Rules.{start_new, start_waiting, take_over}
use Rattle.rbc_spec.specs.SectionRuns.{all_of, is_empty, joined as joined_runs, most_in_hand, next_after, no_run}
use Rattle.rbc_spec.specs.SectionRuns.{part_before, part_from, SectionRun, within}
use Rattle.rbc_spec.specs.Sections.{is_on}

module _ (line : Line) (c : ℕ) (may : May) (was : Centre) (t : ℕ) (its : may.train ≡ Some t) where
  abbrev pub Goes : Act → Type 0
  Goes act = Walks line c may was act

  -- ## Starts

  restart_walks : (is_valid : Bool) (position : Position) (place : Place) (m : Mission) → was.mission t ≡ Some m
      → Reports may.cause position → fit_place line is_valid position ≡ Some place
      → Walk line c may was was (restart line t place m was)
  restart_walks is_valid position place m has said fits = by_test (all_of (within m.hand) (covered line place)) refl
    where
      by_test : (b : Bool) → all_of (within m.hand) (covered line place) ≡ b
          → Walk line c may was was
          ((if b then (change_mission t
          (λ n. record n { place = place; has_data = false; is_ended = false; proposal = None })
          >> accept t) else reject t) was)
      by_test true all =
          joined (change_mission t
          (λ n. record n { place = place; has_data = false; is_ended = false; proposal = None })) (accept t) was
          (step line c may was
          (changes t (λ n. record n { place = place; has_data = false; is_ended = false; proposal = None }) was
          (restarts m place is_valid position has has said fits all))) (accept_walks line c may was t _)
      by_test false some = reject_walks line c may was t was

  start_here_walks : (place : Place) → MayBegin line c may t was place → (k : Centre) → k.mission t ≡ None
      → Walk line c may was k (start_here line t place k)
  unfolding ◌>>◌
  start_here_walks place why k none =
      by_bool line c may was (k.has_right t)
      ((((booked is_open (Taken t) (covered line place)
      >> become (λ j. record j { has_right = put j.has_right t false })) >> begin line t place) k)) (reject t k) k
      (λ has. joined (booked is_open (Taken t) (covered line place)
      >> become (λ j. record j { has_right = put j.has_right t false })) (begin line t place) k
      (joined (booked is_open (Taken t) (covered line place))
      (become (λ j. record j { has_right = put j.has_right t false })) k
      (step line c may was (books is_open t (covered line place) k)) (step line c may was (rights t false _)))
      (begin_walks line c may was t place why _ none))
      (λ has_not. reject_walks line c may was t k)

  -- a start waits at a place, and the right is asked for if it was not yet
  abbrev waits_at : Place → Act
  waits_at place = become (λ k. record k { wait = put k.wait t (Some place) })

  abbrev asking_for : Option ℕ → Act
  asking_for to = option_map_or (λ r. send r (AskRight t)) to rest
      >> become (λ k. record k { has_asked = put k.has_asked t true })

  waits_walks : (place : Place) → Starts line may.cause place → is_registrar_of line c t ≡ false
      → (k : Centre) (b : Bool) → k.has_asked t ≡ b → (to : Option ℕ) → registrar line t ≡ to
      → Walk line c may was k ((waits_at place >> where_so (λ j. not (j.has_asked t)) (asking_for to)) k)
  unfolding ◌>>◌
  waits_walks place fits away k true asked to is = rw asked (step line c may was (waits t place k fits asked))
  waits_walks place fits away k false unasked None is =
      rw unasked (step line c may was (asks_right t place None k its fits away is unasked))
  waits_walks place fits away k false unasked (Some r) is =
      rw unasked (step line c may was (asks_right t place (Some r) k its fits away is unasked))

  start_waiting_walks : (place : Place) → Starts line may.cause place → is_registrar_of line c t ≡ false
      → Goes (start_waiting line t place)
  unfolding ◌>>◌
  start_waiting_walks place fits away k =
      joined (booked is_open (Taken t) (covered line place)) (waits_at place
      >> where_so (λ j. not (j.has_asked t)) (asking_for (registrar line t))) k
      (step line c may was (books is_open t (covered line place) k))
      (waits_walks place fits away (booked is_open (Taken t) (covered line place) k).state (k.has_asked t)
      refl (registrar line t) refl)

  start_new_walks : (place : Place) → Starts line may.cause place → was.mission t ≡ None
      → Walk line c may was was (start_new line c t place was)
  start_new_walks place fits none = by_bool line c may was (all_of (is_free line c was) (covered line place))
      ((if is_registrar_of line c t then start_here line t place else start_waiting line t place) was)
      (reject t was) was
      (λ free. by_registrar (all_free fits free) (is_registrar_of line c t) refl)
      (λ used. reject_walks line c may was t was)
    where
      by_registrar : MayBegin line c may t was place → (b : Bool) → is_registrar_of line c t ≡ b
          → Walk line c may was was ((if b then start_here line t place else start_waiting line t place) was)
      by_registrar why true here = start_here_walks place why was none
      by_registrar why false away = start_waiting_walks place fits away was

  pub start_mission_walks : (is_valid : Bool) (position : Position) → Reports may.cause position
      → Walk line c may was was (start_mission line c t is_valid position was)
  start_mission_walks is_valid position said =
      by_option line c may was (fit_place line is_valid position)
      (λ place. option_map_or (λ m. restart line t place m was) (was.mission t) (start_new line c t place was))
      (reject t was) was
      (λ place fits. by_mission place fits (was.mission t) refl) (reject_walks line c may was t was)
    where
      by_mission : (place : Place) → fit_place line is_valid position ≡ Some place → (o : Option Mission)
          → was.mission t ≡ o
          → Walk line c may was was (option_map_or (λ m. restart line t place m was) o (start_new line c t place was))
      by_mission place fits None none = start_new_walks place (is_valid, position, said, fits) none
      by_mission place fits (Some m) has = restart_walks is_valid position place m has said fits

  -- ## Requests

  pub announce_if_walks : may.announces ≡ true → (d : ℕ) → IsAhead line c may d → (k : Centre)
      → k.announced ≡ was.announced → Walk line c may was k (announce_if_due line t d k)
  announce_if_walks so d ahead k same =
      by_option line c may was (k.mission t)
      (λ m. where_so (λ j. is_none m.handing && not (is_empty (part_at line d m.place.track m.hand)))
      (announce line t m.place.group d m) k) (rest k) k
      (λ m has. by_bool line c may was (is_none m.handing && not (is_empty (part_at line d m.place.track m.hand)))
      (announce line t m.place.group d m k) (rest k) k
      (λ due. announce_walks line c may was t its so m.place.group d m k has
      (none_is m.handing (and_parts (is_none m.handing) (not (is_empty (part_at line d m.place.track m.hand)))
      due).0) ahead same)
      (λ undue. resting line c may was k)) (resting line c may was k)

  abbrev may_ask : ℕ → Mission → Centre → Bool
  may_ask d m k = ((is_home line d (next_after m.hand) && is_on line m.place.track (next_after m.hand))
      && nat_lt m.hand.count most_in_hand) && (is_empty m.pool && is_none (k.route_ask t))

  -- more sections are asked for if the pool is empty
  ask_walks : (d : ℕ) → IsAhead line c may d → (m : Mission) (k : Centre) → k.mission t ≡ Some m → may_ask d m k ≡ true
      → Walk line c may was k (ask_route t d m k)
  unfolding ◌>>◌
  ask_walks d ahead m k has due =
      let both = and_parts ((is_home line d (next_after m.hand) && is_on line m.place.track (next_after m.hand))
      && nat_lt m.hand.count most_in_hand) (is_empty m.pool && is_none (k.route_ask t)) due in
      let none = and_parts (is_empty m.pool) (is_none (k.route_ask t)) both.1 in
      let room = and_parts _ (nat_lt m.hand.count most_in_hand) both.0 in
      let there = and_parts (is_home line d (next_after m.hand))
      (is_on line m.place.track (next_after m.hand)) room.0 in
      step line c may was (asks_route t d m k its has none.0 there.0 (none_is (k.route_ask t) none.1) ahead room.1)

  pub ask_if_walks : (d : ℕ) → IsAhead line c may d → Goes (ask_route_if_due line t d)
  ask_if_walks d ahead = with line c may was (λ k. k.mission t) (λ m. where_so (may_ask d m) (ask_route t d m))
      (λ k m has. by_bool line c may was (may_ask d m k) (ask_route t d m k) (rest k) k
      (λ due. ask_walks d ahead m k has due) (λ undue. resting line c may was k))

  grant_walks : may.announces ≡ true → (position : Position) → Reports may.cause position
      → (m : Mission) (place : Place) → place_on line m.place.track position ≡ Some place → (k : Centre)
      → k.mission t ≡ Some m → k.announced ≡ was.announced
      → Walk line c may was k (grant line c t (record m { place = place }) k)
  unfolding ◌>>◌
  grant_walks so position said m place placed k has same =
      let n = record m { place = place } in
      let r = extension line c k n in
      joined ((booked is_open (Taken t) r >> set_mission t (Some (extended_by r n)))
      >> say t n.place.group (Authority (authority line (extended_by r n))))
      (option_map_or (at_border line c t) (next_centre line c n.place.track) rest) k
      (joined (booked is_open (Taken t) r >> set_mission t (Some (extended_by r n)))
      (say t n.place.group (Authority (authority line (extended_by r n)))) k
      (joined (booked is_open (Taken t) r) (set_mission t (Some (extended_by r n))) k
      (step line c may was (books is_open t r k))
      (step line c may was (sets t (Some (extended_by r n)) (booked is_open (Taken t) r k).state
      (grows m place position k so has said placed))))
      (step line c may was (says t n.place.group (Authority (authority line (extended_by r n))) _)))
      (if_some line c may was (next_centre line c n.place.track) (at_border line c t) rest _
      (λ d next. let ahead = next_of n.place.track next in
      joined (announce_if_due line t d) (ask_route_if_due line t d) _ (announce_if_walks so d ahead _ same)
      (ask_if_walks d ahead _)) (resting line c may was _))

  pub request_walks : may.announces ≡ true → (position : Position) → Reports may.cause position
      → Walk line c may was was (request line c t position was)
  request_walks so position said = by_option line c may was (was.mission t)
      (λ m. option_map_or (λ place. grant line c t (record m { place = place })) (place_on line m.place.track position)
      rest was) (rest was) was
      (λ m has. if_some line c may was (place_on line m.place.track position)
      (λ place. grant line c t (record m { place = place })) rest was
      (λ place placed. grant_walks so position said m place placed was has refl) (resting line c may was was))
      (resting line c may was was)

  -- ## Reports

  clear_walks : may.speaks ≡ true → (m : Mission) (place : Place) (position : Position) → Reports may.cause position
      → (k : Centre) → k.mission t ≡ Some m → place_on line m.place.track position ≡ Some place
      → Walk line c may was k (clear line c t m place k)
  unfolding ◌>>◌
  clear_walks so m place position said k has placed = of_count ((cleared line place m).count == m.hand.count) refl
    where
      of_count : (b : Bool) → ((cleared line place m).count == m.hand.count) ≡ b
          → Walk line c may was k
          ((if b then (leave line c t m.place.track (joined_runs m.hand m.pool) >> close line c t m)
          else (leave line c t m.place.track (cleared line place m)
          >> set_mission t
          (Some (record m { place = place; hand = part_from (next_after (cleared line place m)) m.hand })))) k)
      of_count true all = joined (leave line c t m.place.track (joined_runs m.hand m.pool)) (close line c t m) k
          (leave_walks line c may was t its so m.place.track (joined_runs m.hand m.pool) m k has
          (omega (arith, joined_count m.hand m.pool))) (close_walks line c may was t its m m _ has refl)
      of_count false some = joined (leave line c t m.place.track (cleared line place m))
          (set_mission t
          (Some (record m { place = place; hand = part_from (next_after (cleared line place m)) m.hand }))) k
          (leave_walks line c may was t its so m.place.track (cleared line place m) m k has
          (omega (arith, longest_few (is_cleared line place) m.hand.first m.hand.count)))
          (step line c may was
          (sets t (Some (record m { place = place; hand = part_from (next_after (cleared line place m)) m.hand }))
          (leave line c t m.place.track (cleared line place m) k).state
          (clears m place position has said placed some)))

  pub report_here_walks : may.speaks ≡ true → (position : Position) → Reports may.cause position
      → (m : Mission) (k : Centre) → k.mission t ≡ Some m → Walk line c may was k (report_here line c t position m k)
  report_here_walks so position said m k has = by_place (place_on line m.place.track position) refl
    where
      by_place : (o : Option Place) → place_on line m.place.track position ≡ o
          → Walk line c may was k (option_map_or (clear line c t m) o rest k)
      by_place None none = resting line c may was k
      by_place (Some place) placed = clear_walks so m place position said k has placed

  pub report_walks : may.speaks ≡ true → (position : Position) → Reports may.cause position
      → Goes (report line c t position)
  report_walks so position said k = by_option line c may was (k.mission t) (λ m. report_here line c t position m k)
      (take_over line t k) k (λ m has. report_here_walks so position said m k has)
      (step line c may was (takes_over t k its))

  -- ## Shortening

  abbrev kept_by : ℕ → Mission → Mission
  kept_by last_kept m = record m { hand = part_before (last_kept + 1) m.hand; pool = no_run; proposal = None }

  abbrev cancels : Mission → ℕ → Option Handing → Act
  cancels m last_kept o =
      option_map_or (λ h. if is_empty (part_at line h.to m.place.track (kept_by last_kept m).hand) then cancel t
      (kept_by last_kept m) else rest) o rest

  -- a mission that was m, but for its request to shorten, is cut
  pub cut_walks : may.speaks ≡ true → (last_kept : ℕ) (m n : Mission) (k : Centre) → k.mission t ≡ Some n
      → record n { proposal = None } ≡ record m { proposal = None } → Walk line c may was k (cut line c t last_kept m k)
  unfolding ◌>>◌
  cut_walks so last_kept m n k has same = joined (leave line c t m.place.track (joined_runs tail m.pool))
      (if tail.count == m.hand.count then close line c t m else (set_mission t (Some kept)
      >> cancels m last_kept m.handing)) k
      (leave_walks line c may was t its so m.place.track (joined_runs tail m.pool) n k has
      (subst (λ (q : Mission). (joined_runs tail m.pool).count ≤ q.hand.count + q.pool.count) (sym same)
      (omega (arith, joined_count tail m.pool)))) (by_count (tail.count == m.hand.count) refl)
    where
      tail : SectionRun
      tail = part_from (last_kept + 1) m.hand

      kept : Mission
      kept = kept_by last_kept m

      left : Centre
      left = (leave line c t m.place.track (joined_runs tail m.pool) k).state

      by_part : (h : Handing) → m.handing ≡ Some h → (b : Bool)
          → is_empty (part_at line h.to m.place.track kept.hand) ≡ b
          → Walk line c may was (set_mission t (Some kept) left).state
          ((if b then cancel t kept else rest) (set_mission t (Some kept) left).state)
      by_part h stands true none = recall_walks line c may was t its kept (set_mission t (Some kept) left).state
          (put_there left.mission t (Some kept))
          (λ g is. subst (λ (x : Handing). is_empty (part_at line x.to m.place.track kept.hand) ≡ true)
          (same_Some h g (sym stands ∙ is)) none)
      by_part h stands false some = resting line c may was (set_mission t (Some kept) left).state

      by_handing : (o : Option Handing) → m.handing ≡ o
          → Walk line c may was (set_mission t (Some kept) left).state
          (cancels m last_kept o (set_mission t (Some kept) left).state)
      by_handing None none = resting line c may was (set_mission t (Some kept) left).state
      by_handing (Some h) stands = by_part h stands (is_empty (part_at line h.to m.place.track kept.hand)) refl

      by_count : (b : Bool) → (tail.count == m.hand.count) ≡ b
          → Walk line c may was left
          ((if b then close line c t m else (set_mission t (Some kept) >> cancels m last_kept m.handing)) left)
      by_count true all = close_walks line c may was t its m n left has (ap (λ (q : Mission). q.handing) same)
      by_count false some = joined (set_mission t (Some kept)) (cancels m last_kept m.handing) left
          (step line c may was (sets t (Some kept) left (cuts m n last_kept has same some))) (by_handing m.handing refl)

  granted_walks : may.speaks ≡ true → (position : Position) (m : Mission) (p : Proposal) (k : Centre)
      → k.mission t ≡ Some m → Walk line c may was k (granted line c t position m p k)
  granted_walks so position m p k has = joined (change_mission t (λ n. record n { proposal = None }))
      (option_map_or (λ place. if nat_le place.front (10 * end line p.last_kept) then cut line c t p.last_kept m else
      rest) (place_on line m.place.track position) rest) k
      (step line c may was (changes t (λ n. record n { proposal = None }) k no_proposal))
      (by_place (place_on line m.place.track position))
    where
      left : Centre
      left = (change_mission t (λ n. record n { proposal = None }) k).state

      unproposed : left.mission t ≡ Some (record m { proposal = None })
      unproposed = put_there k.mission t (option_map (λ (n : Mission). record n { proposal = None }) (k.mission t))
          ∙ ap (option_map (λ (n : Mission). record n { proposal = None })) has

      by_front : (b : Bool) → Walk line c may was left ((if b then cut line c t p.last_kept m else rest) left)
      by_front true = cut_walks so p.last_kept m (record m { proposal = None }) left unproposed refl
      by_front false = resting line c may was left

      by_place : (o : Option Place)
          → Walk line c may was left
          (option_map_or (λ place. if nat_le place.front (10 * end line p.last_kept) then cut line c t
          p.last_kept m else rest) o rest left)
      by_place None = resting line c may was left
      by_place (Some place) = by_front (nat_le place.front (10 * end line p.last_kept))

  pub answer_granted_walks : may.speaks ≡ true → (position : Position) → Goes (answer_granted line c t position)
  answer_granted_walks so position =
      with line c may was (λ k. k.mission t) (λ m. with_some (λ k. m.proposal) (granted line c t position m))
      (λ k m has. by_option line c may was m.proposal (λ p. granted line c t position m p k) (rest k) k
      (λ p some. granted_walks so position m p k has) (resting line c may was k))

  -- ## End of mission

  pub end_mission_walks : may.speaks ≡ true → (position : Position) → Reports may.cause position
      → Goes (end_mission line c t position)
  end_mission_walks so position said = both line c may was _ _
      (both line c may was (with_some (λ k. k.mission t) (report_here line c t position))
      (with_some (λ k. k.mission t) (stand_still line c t position))
      (with line c may was (λ k. k.mission t) (report_here line c t position)
      (λ k m has. report_here_walks so position said m k has))
      (with line c may was (λ k. k.mission t) (stand_still line c t position)
      (λ k m has. rests_or_cuts (λ act. Walk line c may was k (act k)) line c t position m (resting line c may was k)
      (λ n some fits. cut_walks so (m.hand.first + n - 1) m m k has refl))))
      (with line c may was (λ k. k.mission t) (λ m. return_pool line c t m
      >> change_mission t (λ n. record n { is_ended = true; proposal = None }))
      (λ k m has. joined (return_pool line c t m)
      (change_mission t (λ n. record n { is_ended = true; proposal = None })) k
      (return_pool_walks line c may was t its m k has)
      (step line c may was (changes t (λ n. record n { is_ended = true; proposal = None }) _ ends))))
