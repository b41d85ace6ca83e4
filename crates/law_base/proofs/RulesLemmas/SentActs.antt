-- The frames of each act on a link, in order, and the numbers of its messages and replies.
use Rattle.std.proofs.Common.{[], ◌&&◌, ◌+◌, ◌<◌, ◌==◌, ◌||◌, ◌∙◌, ◌∷◌, ◌≡◌, ◌≢◌, ◌≤◌, ◌⊎◌, ap, arith, Bool, eq-eqb}
use Rattle.std.proofs.Common.{false, filter, if◌then◌else◌, inl, inr, length, List, map, nat_lt, None, not, Option}
use Rattle.std.proofs.Common.{option_map, refl, Some, suc, true, zero, ℕ}
use Rattle.std.proofs.lemmas.Bool.{cond-true, eqb-false, le-ltb, lt-ltb, not-true, or_parts, or_right}
use Rattle.std.specs.List.{range_with_len}
use Rattle.std.specs.Option.{option_map_or}
use Rattle.law_base.proofs.RulesLemmas.Sends.{IsBeyond, key, Sends, sends_if, sends_less, sends_none, sends_saying}
use Rattle.law_base.proofs.RulesLemmas.Sends.{sends_some, sends_then, sends_words, sends_yes, side, side_below}
use Rattle.rbc_spec.proofs.Lists.{put_there}
use Rattle.rbc_spec.specs.Acts.{◌>>◌, Act, become, booked, cancel, change_mission, close, end_order, freed, leave}
use Rattle.rbc_spec.specs.Acts.{may_propose, part_at, propose, propose_if_so, rest, return_right, returned, say, send}
use Rattle.rbc_spec.specs.Acts.{set_mission, where_so, yield}
use Rattle.rbc_spec.specs.Centre.{Centre, Entry, Handing, is_registrar_of, is_taken_for, is_up, Mission, Out}
use Rattle.rbc_spec.specs.Frame.{Body, Cancel, ReturnRight, RouteReturn, Yield, yielded_place}
use Rattle.rbc_spec.specs.Line.{is_home, Line, registrar}
use Rattle.rbc_spec.specs.Links.{taking_over}
use Rattle.rbc_spec.specs.Maps.{put}
use Rattle.rbc_spec.specs.Message.{EndSession, unknown_group}
use Rattle.rbc_spec.specs.Outcome.{Told}
use Rattle.rbc_spec.specs.SectionRuns.{is_empty, next_after, SectionRun, shared, within}
use Rattle.rbc_spec.specs.Sections.{home_run, nid_rbc}

one_more : (b : Bool) (a n : ℕ) (xs : List ℕ) → length (map (λ s. Told s) xs) ≤ n
    → length (map (λ s. Told s) (if b then a ∷ xs else xs)) ≤ suc n
one_more true a n xs few = omega (arith, few)
one_more false a n xs few = omega (arith, few)

few_passing : (test : ℕ → Bool) (a n : ℕ) → length (map (λ s. Told s) (filter test (range_with_len a n))) ≤ n
few_passing test a zero = omega arith
few_passing test a (suc n) = one_more (test a) a n (filter test (range_with_len (a + 1) n)) (few_passing test (a + 1) n)

none_passing : (b : Bool) (body : Body) → (if b then [] else body ∷ []) ≡ (if not b then body ∷ [] else [])
none_passing true body = refl
none_passing false body = refl

abbrev pub without_handing : Mission → Mission
without_handing n = record n { handing = None }

module _ (bound d : ℕ) (line : Line) (c t : ℕ) where
  -- one frame to some centre
  pub sends_one : (low high e : ℕ) (body : Body) (k : Centre) → low ≤ key bound body → key bound body < high
      → IsBeyond bound low body → Sends bound d low high 1 0 0 (send e body k)
  sends_one low high e body k from to far =
      sends_yes bound d low high (d == e) body (send e body k) refl refl refl (λ is. (from, to, far))

  -- a returned run with known ranks
  home_sends : (low high track : ℕ) (r : SectionRun) (k : Centre)
      → ((shared r (home_run line d track)).count ≢ 0
      → (low ≤ side (nat_lt (next_after (shared r (home_run line d track))) bound))
      × (side (nat_lt (next_after (shared r (home_run line d track))) bound) < high)
      × (0 < low → bound ≤ (shared r (home_run line d track)).first))
      → Sends bound d low high 1 0 0 (returned line c t track r k)
  home_sends low high track r k between =
      let part : SectionRun = shared r (home_run line d track) in
      sends_yes bound d low high (not ((d == c) || is_empty part)) (RouteReturn t part) (returned line c t track r k)
      (none_passing ((d == c) || is_empty part) (RouteReturn t part)) refl refl
      (λ is. between
      (eqb-false part.count 0 (or_parts (d == c) (is_empty part) (not-true ((d == c) || is_empty part) is)).1))

  pub home_any : (track : ℕ) (r : SectionRun) (k : Centre) → Sends bound d 0 2 1 0 0 (returned line c t track r k)
  home_any track r k =
      home_sends 0 2 track r k
      (λ some. (
        omega arith,
        side_below (nat_lt (next_after (shared r (home_run line d track))) bound),
        λ none. absurd (omega (arith, none)),
      ))

  pub home_low : (track : ℕ) (r : SectionRun) (k : Centre) → next_after r < bound
      → Sends bound d 0 1 1 0 0 (returned line c t track r k)
  home_low track r k low = home_sends 0 1 track r k (λ some.
      let is : nat_lt (next_after (shared r (home_run line d track))) bound ≡ true =
      lt-ltb (next_after (shared r (home_run line d track))) bound (omega (arith, some, low)) in (
        omega arith,
        (let e : side (nat_lt (next_after (shared r (home_run line d track))) bound) ≡ 0 = ap side is in
            omega (arith, e)),
        λ none. absurd (omega (arith, none)),
      ))

  pub home_high : (track : ℕ) (r : SectionRun) (k : Centre) → (r.count ≡ 0) ⊎ (bound ≤ r.first)
      → Sends bound d 1 2 1 0 0 (returned line c t track r k)
  home_high track r k (inl none) = home_sends 1 2 track r k (λ some. absurd (omega (arith, some)))
  home_high track r k (inr high) = home_sends 1 2 track r k (λ some.
      let is : nat_lt (next_after (shared r (home_run line d track))) bound ≡ false =
      le-ltb (next_after (shared r (home_run line d track))) bound (omega (arith, some, high)) in
      let e : side (nat_lt (next_after (shared r (home_run line d track))) bound) ≡ 1 = ap side is in
      (omega (arith, e), omega (arith, e), λ low. omega (arith, some, high)))

  -- an empty run sends nothing
  pub home_none : (low high track : ℕ) (r : SectionRun) (k : Centre) → r.count ≡ 0
      → Sends bound d low high 0 0 0 (returned line c t track r k)
  home_none low high track r k none = sends_none bound d low high (returned line c t track r k)
      (cond-true ((d == c) || is_empty (shared r (home_run line d track))) []
      (RouteReturn t (shared r (home_run line d track)) ∷ [])
      (or_right (d == c) _ (eq-eqb (shared r (home_run line d track)).count 0 (omega (arith, none))))) refl refl

  -- ## Sections that leave

  pub freed_sends : (low high : ℕ) (is_meant : Entry → Bool) (r : SectionRun) (k : Centre)
      → Sends bound d low high 0 0 r.count (freed line c is_meant r k)
  freed_sends low high is_meant r k = sends_words bound d low high r.count (freed line c is_meant r k) refl refl
      (few_passing (λ s. ((within r s && is_home line c s) && is_meant (k.book s)) && k.wish s) r.first r.count)

  pub leave_any : (track : ℕ) (r : SectionRun) (k : Centre)
      → Sends bound d 0 2 1 0 (r.count + 0) (leave line c t track r k)
  leave_any track r k = sends_then bound d 0 0 2 0 1 0 0 r.count 0 (freed line c (is_taken_for t) r)
      (returned line c t track r) k (omega arith) (omega arith)
      (freed_sends 0 0 (is_taken_for t) r k) (home_any track r _)

  pub leave_low : (track : ℕ) (r : SectionRun) (k : Centre) → next_after r < bound
      → Sends bound d 0 1 1 0 (r.count + 0) (leave line c t track r k)
  leave_low track r k low = sends_then bound d 0 0 1 0 1 0 0 r.count 0 (freed line c (is_taken_for t) r)
      (returned line c t track r) k (omega arith) (omega arith)
      (freed_sends 0 0 (is_taken_for t) r k) (home_low track r _ low)

  pub leave_high : (track : ℕ) (r : SectionRun) (k : Centre) → (r.count ≡ 0) ⊎ (bound ≤ r.first)
      → Sends bound d 1 2 1 0 (r.count + 0) (leave line c t track r k)
  leave_high track r k high = sends_then bound d 1 1 2 0 1 0 0 r.count 0 (freed line c (is_taken_for t) r)
      (returned line c t track r) k (omega arith) (omega arith)
      (freed_sends 1 1 (is_taken_for t) r k) (home_high track r _ high)

  -- ## Closing

  pub cancel_sends : (m : Mission) (k : Centre) → Sends bound d 3 4 1 0 0 (cancel t m k)
  cancel_sends m k = by_handing m.handing
    where
      by_handing : (o : Option Handing)
          → Sends bound d 3 4 1 0 0
          (option_map_or (λ h. send h.to (Cancel h.number t)
          >> change_mission t (λ n. record n { handing = None })) o rest k)
      by_handing (Some h) = sends_then bound d 3 4 4 1 0 0 0 0 0 (send h.to (Cancel h.number t))
          (change_mission t (λ n. record n { handing = None })) k (omega arith) (omega arith)
          (sends_one 3 4 h.to (Cancel h.number t) k (omega arith) (omega arith) tt)
          (sends_none bound d 4 4 _ refl refl refl)
      by_handing None = sends_less bound d 3 4 0 0 0 3 4 1 0 0 (rest k) (omega arith) (omega arith) (omega arith)
          (omega arith) (omega arith) (sends_none bound d 3 4 (rest k) refl refl refl)

  pub right_sends : (k : Centre) → Sends bound d 4 5 1 0 0 (return_right line c t k)
  right_sends k = by_registrar (is_registrar_of line c t) (registrar line t)
    where
      by_registrar : (b : Bool) (o : Option ℕ)
          → Sends bound d 4 5 1 0 0
          ((if b then become (λ j. record j { has_right = put j.has_right t true }) else option_map_or
          (λ r. send r (ReturnRight t)) o rest) k)
      by_registrar true o = sends_less bound d 4 5 0 0 0 4 5 1 0 0 _ (omega arith) (omega arith) (omega arith)
          (omega arith) (omega arith)
          (sends_none bound d 4 5 (become (λ j. record j { has_right = put j.has_right t true }) k) refl refl refl)
      by_registrar false (Some r) = sends_one 4 5 r (ReturnRight t) k (omega arith) (omega arith) tt
      by_registrar false None = sends_less bound d 4 5 0 0 0 4 5 1 0 0 (rest k) (omega arith) (omega arith)
          (omega arith) (omega arith) (omega arith) (sends_none bound d 4 5 (rest k) refl refl refl)

  pub close_sends : (m : Mission) (k : Centre) → Sends bound d 3 5 2 0 0 (close line c t m k)
  close_sends m k = sends_then bound d 3 4 5 1 1 0 0 0 0 (set_mission t None >> cancel t m) (return_right line c t) k
      (omega arith) (omega arith)
      (sends_then bound d 3 3 4 0 1 0 0 0 0 (set_mission t None) (cancel t m) k (omega arith) (omega arith)
      (sends_none bound d 3 3 _ refl refl refl) (cancel_sends m _))
      (right_sends _)

  -- a return of the right keeps missions
  right_keeps : (k : Centre) → (return_right line c t k).state.mission t ≡ k.mission t
  right_keeps k = by_registrar (is_registrar_of line c t) (registrar line t)
    where
      by_registrar : (b : Bool) (o : Option ℕ)
          → ((if b then become (λ j. record j { has_right = put j.has_right t true }) else option_map_or
          (λ r. send r (ReturnRight t)) o rest) k).state.mission t ≡ k.mission t
      by_registrar true o = refl
      by_registrar false (Some r) = refl
      by_registrar false None = refl

  cancel_leaves_none : (m : Mission) (k : Centre) → k.mission t ≡ None → (cancel t m k).state.mission t ≡ None
  unfolding ◌>>◌
  cancel_leaves_none m k none = by_handing m.handing
    where
      by_handing : (o : Option Handing)
          → (option_map_or (λ h. send h.to (Cancel h.number t) >> change_mission t (λ n. record n { handing = None })) o
          rest k).state.mission t ≡ None
      by_handing (Some h) = put_there k.mission t (option_map without_handing (k.mission t))
          ∙ ap (option_map without_handing) none
      by_handing None = none

  -- a mission that closed is none
  pub close_leaves_none : (m : Mission) (k : Centre) → (close line c t m k).state.mission t ≡ None
  unfolding ◌>>◌
  close_leaves_none m k = right_keeps (cancel t m (set_mission t None k).state).state
      ∙ cancel_leaves_none m (set_mission t None k).state (put_there k.mission t None)

  -- ## Requests to shorten, and orders to end the session

  pub propose_sends : (low high s : ℕ) (k : Centre) → Sends bound d low high 0 1 0 (propose_if_so line t s k)
  unfolding ◌>>◌
  propose_sends low high s k = sends_some bound d low high 0 1 0 (k.mission t)
      (λ m. where_so (may_propose line t s m) (propose line t s m) k) (rest k)
      (λ m is. sends_if bound d low high 0 1 0 (may_propose line t s m k) (propose line t s m k)
      (rest k) (λ may. proposed m)
      (λ may_not. none))
      (λ is. none)
    where
      none : Sends bound d low high 0 1 0 (rest k)
      none = sends_saying bound d low high (rest k) refl (omega arith) refl

      proposed : (m : Mission) → Sends bound d low high 0 1 0 (propose line t s m k)
      proposed m = sends_saying bound d low high (propose line t s m k) refl (omega arith) refl

  pub end_order_sends : (low high : ℕ) (k : Centre) → Sends bound d low high 0 1 0 (end_order line c t k)
  end_order_sends low high k = sends_if bound d low high 0 1 0 (is_up (k.phase t)) _ (rest k)
      (λ up. sends_saying bound d low high (say t unknown_group (EndSession line.nid_c (nid_rbc line c)) k)
      refl (omega arith) refl)
      (λ down. sends_saying bound d low high (rest k) refl (omega arith) refl)

  -- ## Yielding

  -- the mission is yielded, after its pool is returned
  yield_sends : (low n : ℕ) (m : Mission) (h : Handing) (k : Centre) → low ≤ 2
      → Sends bound d low 2 n 0 0 (returned line c t m.place.track m.pool k)
      → Sends bound d low 3 (n + 1) 1 0 (yield line c t m h k)
  yield_sends low n m h k le pool =
      let heard : ℕ = option_map_or (λ n. n) (k.heard t) 0 in
      let body : Body = Yield h.number t heard m.has_data m.is_ended (yielded_place m.place) m.hand in
      let home : Act = returned line c t m.place.track m.pool >> booked (is_taken_for t) (Out t) m.hand in
      let over : Act = set_mission t None >> send h.to body in
      let last : Act = if is_empty (part_at line c m.place.track m.hand) then end_order line c t else rest in
      sends_less bound d low 3 (n + 0 + (0 + 1) + 0) 1 0 low 3 (n + 1) 1 0 ((home >> over >> last) k) (omega arith)
      (omega arith) (omega arith) (omega arith) (omega arith)
      (sends_then bound d low 3 3 (n + 0 + (0 + 1)) 0 0 1 0 0 (home >> over) last k (omega arith) (omega arith)
      (sends_then bound d low 2 3 (n + 0) (0 + 1) 0 0 0 0 home over k (omega arith) (omega arith)
      (sends_then bound d low 2 2 n 0 0 0 0 0 (returned line c t m.place.track m.pool)
      (booked (is_taken_for t) (Out t) m.hand) k (omega arith) (omega arith) pool
      (sends_none bound d 2 2 _ refl refl refl))
      (sends_then bound d 2 2 3 0 1 0 0 0 0 (set_mission t None) (send h.to body) _ (omega arith) (omega arith)
      (sends_none bound d 2 2 _ refl refl refl) (sends_one 2 3 h.to body _ (omega arith) (omega arith) tt)))
      (ordered (is_empty (part_at line c m.place.track m.hand)) _))
    where
      ordered : (b : Bool) (j : Centre) → Sends bound d 3 3 0 1 0 ((if b then end_order line c t else rest) j)
      ordered true j = end_order_sends 3 3 j
      ordered false j = sends_saying bound d 3 3 (rest j) refl (omega arith) refl

  pub over_sends : (low n e number : ℕ) (k : Centre) → low ≤ 2
      → ((m : Mission) → k.mission t ≡ Some m → Sends bound d low 2 n 0 0 (returned line c t m.place.track m.pool k))
      → Sends bound d low 3 (n + 1) 1 0 (taking_over line c e number t k)
  over_sends low n e number k le pool = sends_some bound d low 3 (n + 1) 1 0 (k.mission t) _ (rest k)
      (λ m is. sends_some bound d low 3 (n + 1) 1 0 m.handing _ (rest k)
      (λ h has. sends_if bound d low 3 (n + 1) 1 0 ((h.number == number) && (h.to == e)) (yield line c t m h k) (rest k)
      (λ due. yield_sends low n m h k le (pool m is)) (λ not_due. none))
      (λ has_none. none))
      (λ is. none)
    where
      none : Sends bound d low 3 (n + 1) 1 0 (rest k)
      none = sends_less bound d low 3 0 0 0 low 3 (n + 1) 1 0 (rest k) (omega arith) (omega arith) (omega arith)
          (omega arith) (omega arith) (sends_none bound d low 3 (rest k) refl refl refl)
