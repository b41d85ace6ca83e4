-- The frames of a step on a link, and the numbers of its messages and replies.
use Rattle.std.proofs.Common.{◌&&◌, ◌*◌, ◌+◌, ◌-◌, ◌==◌, ◌≤◌, arith, Bool, false, if◌then◌else◌, is_none, min, nat_le}
use Rattle.std.proofs.Common.{nat_lt, None, not, Option, refl, Some, true, ℕ}
use Rattle.std.specs.Option.{option_map_or}
use Rattle.law_base.proofs.RulesLemmas.Sends.{Sends, sends_if, sends_less, sends_none, sends_quiet, sends_some}
use Rattle.law_base.proofs.RulesLemmas.Sends.{sends_then}
use Rattle.law_base.proofs.RulesLemmas.SentActs.{cancel_sends, close_sends, leave_any, sends_one}
use Rattle.rbc_spec.proofs.Runs.{joined_count}
use Rattle.rbc_spec.specs.Acts.{◌>>◌, Act, announce, ask_route, become, booked, cancel, change_mission, close, leave}
use Rattle.rbc_spec.specs.Acts.{part_at, Reply, rest, say, send, set_mission, where_so, with_some}
use Rattle.rbc_spec.specs.Centre.{Centre, Handing, is_open, Mission, Proposal, Taken}
use Rattle.rbc_spec.specs.Frame.{Announce, Body, RouteAsk}
use Rattle.rbc_spec.specs.Line.{end, is_home, Line, next_centre, start}
use Rattle.rbc_spec.specs.Maps.{put}
use Rattle.rbc_spec.specs.Message.{Authority, Transition}
use Rattle.rbc_spec.specs.Place.{group_start, Place, place_on, Position}
use Rattle.rbc_spec.specs.Rules.{at_border, authority, cut, extended_by, extension, grant, granted, request}
use Rattle.rbc_spec.specs.SectionRuns.{is_empty, joined, next_after, no_run, part_before, part_from, SectionRun}
use Rattle.rbc_spec.specs.Sections.{is_on, nid_rbc}

module _ (d : ℕ) (line : Line) (c t : ℕ) where
  -- ## Shortening

  abbrev unproposed : Mission → Mission
  unproposed n = record n { proposal = None }

  module _ (m : Mission) (few : m.hand.count + m.pool.count ≤ 64) (last_kept : ℕ) where
    abbrev tail : SectionRun
    tail = part_from (last_kept + 1) m.hand

    abbrev kept : Mission
    kept = record m { hand = part_before (last_kept + 1) m.hand; pool = no_run; proposal = None }

    abbrev leaves : Act
    leaves = leave line c t m.place.track (joined tail m.pool)

    leaves_sends : (k : Centre) → Sends 0 d 0 2 1 0 64 (leaves k)
    leaves_sends k =
        let count = joined_count tail m.pool in
        sends_less 0 d 0 2 1 0 ((joined tail m.pool).count + 0) 0 2 1 0 64 (leaves k) (omega arith) (omega arith)
        (omega arith) (omega arith) (omega (arith, count, few))
        (leave_any 0 d line c t m.place.track (joined tail m.pool) k)

    cut_closed : (k : Centre) → Sends 0 d 0 5 3 1 64 ((leaves >> close line c t m) k)
    cut_closed k = sends_less 0 d 0 5 (1 + 2) (0 + 0) (64 + 0) 0 5 3 1 64 _ (omega arith) (omega arith) (omega arith)
        (omega arith) (omega arith)
        (sends_then 0 d 0 3 5 1 2 0 0 64 0 leaves (close line c t m) k (omega arith) (omega arith)
        (sends_less 0 d 0 2 1 0 64 0 3 1 0 64 (leaves k) (omega arith) (omega arith) (omega arith) (omega arith)
        (omega arith) (leaves_sends k)) (close_sends 0 d line c t m (leaves k).state))

    cut_kept : (k : Centre) → Sends 0 d 0 5 3 1 64 ((leaves >> (set_mission t (Some kept) >> rest)) k)
    unfolding ◌>>◌
    cut_kept k = sends_less 0 d 0 2 (1 + 0) (0 + 0) (64 + 0) 0 5 3 1 64 _ (omega arith) (omega arith) (omega arith)
        (omega arith) (omega arith)
        (sends_then 0 d 0 2 2 1 0 0 0 64 0 leaves (set_mission t (Some kept) >> rest) k (omega arith) (omega arith)
        (leaves_sends k) (sends_none 0 d 2 2 _ refl refl refl))

    cut_cancelled : (k : Centre) → Sends 0 d 0 5 3 1 64 ((leaves >> (set_mission t (Some kept) >> cancel t kept)) k)
    cut_cancelled k = sends_less 0 d 0 4 (1 + (0 + 1)) (0 + 0) (64 + 0) 0 5 3 1 64 _ (omega arith) (omega arith)
        (omega arith) (omega arith) (omega arith)
        (sends_then 0 d 0 3 4 1 1 0 0 64 0 leaves (set_mission t (Some kept) >> cancel t kept) k
        (omega arith) (omega arith)
        (sends_less 0 d 0 2 1 0 64 0 3 1 0 64 (leaves k) (omega arith) (omega arith) (omega arith) (omega arith)
        (omega arith) (leaves_sends k))
        (sends_then 0 d 3 3 4 0 1 0 0 0 0 (set_mission t (Some kept)) (cancel t kept) (leaves k).state (omega arith)
        (omega arith) (sends_none 0 d 3 3 _ refl refl refl)
        (cancel_sends 0 d line c t kept (set_mission t (Some kept) (leaves k).state).state)))

    cut_few : (k : Centre) → Sends 0 d 0 5 3 1 64 (cut line c t last_kept m k)
    cut_few k = by_tail (tail.count == m.hand.count) m.handing
      where
        by_part : (b : Bool)
            → Sends 0 d 0 5 3 1 64 ((leaves >> (set_mission t (Some kept) >> (if b then cancel t kept else rest))) k)
        by_part true = cut_cancelled k
        by_part false = cut_kept k

        by_tail : (b : Bool) (h : Option Handing)
            → Sends 0 d 0 5 3 1 64 ((leaves >> (if b then close line c t m else (set_mission t (Some kept)
            >> option_map_or (λ h. if is_empty (part_at line h.to m.place.track kept.hand) then cancel t kept else rest)
            h rest))) k)
        by_tail true h = cut_closed k
        by_tail false (Some h) = by_part (is_empty (part_at line h.to m.place.track kept.hand))
        by_tail false None = cut_kept k

    -- nothing is cut
    not_cut : (k : Centre) → Sends 0 d 0 5 3 1 64 (rest k)
    not_cut k = sends_quiet 0 d 0 5 3 1 64 (rest k) refl (omega arith) (omega arith)

  pub granted_few : (m : Mission) (p : Proposal) (position : Position) (k : Centre) → m.hand.count + m.pool.count ≤ 64
      → Sends 0 d 0 5 3 1 64 (granted line c t position m p k)
  unfolding ◌>>◌
  granted_few m p position k few = by_place (place_on line m.place.track position)
    where
      j : Centre
      j = (change_mission t unproposed k).state

      by_end : (b : Bool)
          → Sends 0 d 0 5 3 1 64 ((if b then cut line c t p.last_kept m else rest)
          (change_mission t unproposed k).state)
      by_end true = cut_few m few p.last_kept (change_mission t unproposed k).state
      by_end false = not_cut m few p.last_kept (change_mission t unproposed k).state

      by_place : (o : Option Place)
          → Sends 0 d 0 5 3 1 64
          (option_map_or (λ place. if nat_le place.front (10 * end line p.last_kept) then cut line c t p.last_kept m
          else rest) o rest (change_mission t unproposed k).state)
      by_place (Some place) = by_end (nat_le place.front (10 * end line p.last_kept))
      by_place None = not_cut m few p.last_kept (change_mission t unproposed k).state

  -- ## Request

  announce_sends : (group e : ℕ) (m : Mission) (k : Centre) → Sends 0 d 5 6 1 1 0 (announce line t group e m k)
  announce_sends group e m k =
      let number : ℕ = k.announced + 1 in
      let border : ℕ = (part_at line e m.place.track m.hand).first in
      let a : Act = send e (Announce number t m.place.track) in
      let b : Act = become (λ j. record j { announced = number }) in
      let f : Act = change_mission t (λ n. record n { handing = Some (record { number = number; to = e }) }) in
      let g : Act =
      say t group (Transition (start line border - group_start line m.place) line.nid_c (nid_rbc line e)) in
      sends_then 0 d 5 6 6 1 0 0 1 0 0 (a >> b >> f) g k (omega arith) (omega arith)
      (sends_then 0 d 5 6 6 1 0 0 0 0 0 (a >> b) f k (omega arith) (omega arith)
      (sends_then 0 d 5 6 6 1 0 0 0 0 0 a b k (omega arith) (omega arith)
      (sends_one 0 d line c t 5 6 e (Announce number t m.place.track) k (omega arith) (omega arith) tt)
      (sends_none 0 d 6 6 _ refl refl refl))
      (sends_none 0 d 6 6 _ refl refl refl))
      (sends_quiet 0 d 6 6 0 1 0 _ refl (omega arith) (omega arith))

  ask_sends : (e : ℕ) (m : Mission) (k : Centre) → Sends 0 d 6 7 1 0 0 (ask_route t e m k)
  ask_sends e m k =
      let body : Body = RouteAsk t (next_after m.hand) (min (32 - m.hand.count) (512 - next_after m.hand)) in
      sends_then 0 d 6 7 7 1 0 0 0 0 0 (send e body)
      (become (λ j. record j { route_ask = put j.route_ask t (Some (next_after m.hand)) })) k
      (omega arith) (omega arith)
      (sends_one 0 d line c t 6 7 e body k (omega arith) (omega arith) tt) (sends_none 0 d 7 7 _ refl refl refl)

  pub where_sends : (low high n s w : ℕ) (b : Bool) (x : Reply) (k : Centre) → Sends 0 d low high n s w x
      → Sends 0 d low high n s w (if b then x else rest k)
  where_sends low high n s w b x k sends =
      sends_if 0 d low high n s w b x (rest k) (λ is. sends)
      (λ no. sends_quiet 0 d low high n s w (rest k) refl (omega arith) (omega arith))

  pub some_sends : {X : Type 0} (low high n s w : ℕ) (o : Option X) (f : X → Reply) (k : Centre)
      → ((x : X) → Sends 0 d low high n s w (f x)) → Sends 0 d low high n s w (option_map_or f o (rest k))
  some_sends low high n s w o f k each = sends_some 0 d low high n s w o f (rest k) (λ x is. each x)
      (λ none. sends_quiet 0 d low high n s w (rest k) refl (omega arith) (omega arith))

  abbrev announces : ℕ → Act
  announces e =
      with_some (λ j. j.mission t)
      (λ m. where_so (λ j. is_none m.handing && not (is_empty (part_at line e m.place.track m.hand)))
      (announce line t m.place.group e m))

  abbrev asks : ℕ → Act
  asks e = with_some (λ j. j.mission t) (λ m. where_so
      (λ j. ((is_home line e (next_after m.hand) && is_on line m.place.track (next_after m.hand))
      && nat_lt m.hand.count 32) && (is_empty m.pool && is_none (j.route_ask t))) (ask_route t e m))

  asks_sends : (e : ℕ) (j : Centre) → Sends 0 d 6 7 1 0 0 (asks e j)
  asks_sends e j = some_sends 6 7 1 0 0 (j.mission t) _ j (λ m. where_sends 6 7 1 0 0 _ _ j (ask_sends e m j))

  announces_sends : (e : ℕ) (k : Centre) → Sends 0 d 5 6 1 1 0 (announces e k)
  announces_sends e k = some_sends 5 6 1 1 0 (k.mission t) _ k
      (λ m. where_sends 5 6 1 1 0 _ _ k (announce_sends m.place.group e m k))

  border_sends : (e : ℕ) (k : Centre) → Sends 0 d 5 7 2 1 0 (at_border line c t e k)
  border_sends e k = sends_then 0 d 5 6 7 1 1 1 0 0 0 (announces e) (asks e) k (omega arith) (omega arith)
      (announces_sends e k)
      (asks_sends e (announces e k).state)

  grant_sends : (m : Mission) (k : Centre) → Sends 0 d 5 7 2 2 0 (grant line c t m k)
  grant_sends m k =
      let r : SectionRun = extension line c k m in
      let n : Mission = extended_by r m in
      let says : Act = booked is_open (Taken t) r >> set_mission t (Some n)
      >> say t m.place.group (Authority (authority line n)) in
      sends_then 0 d 5 5 7 0 2 1 1 0 0 says
      (option_map_or (at_border line c t) (next_centre line c m.place.track) rest) k (omega arith) (omega arith)
      (sends_then 0 d 5 5 5 0 0 0 1 0 0 (booked is_open (Taken t) r >> set_mission t (Some n))
      (say t m.place.group (Authority (authority line n))) k (omega arith) (omega arith)
      (sends_then 0 d 5 5 5 0 0 0 0 0 0 (booked is_open (Taken t) r) (set_mission t (Some n)) k (omega arith)
      (omega arith) (sends_none 0 d 5 5 _ refl refl refl) (sends_none 0 d 5 5 _ refl refl refl))
      (sends_quiet 0 d 5 5 0 1 0 _ refl (omega arith) (omega arith)))
      (borders (next_centre line c m.place.track) (says k).state)
    where
      borders : (o : Option ℕ) (j : Centre) → Sends 0 d 5 7 2 1 0 (option_map_or (at_border line c t) o rest j)
      borders (Some e) j = border_sends e j
      borders None j = sends_quiet 0 d 5 7 2 1 0 (rest j) refl (omega arith) (omega arith)

  pub request_sends : (position : Position) (k : Centre) → Sends 0 d 5 7 2 2 0 (request line c t position k)
  request_sends position k = some_sends 5 7 2 2 0 (k.mission t) _ k
      (λ m. by_place m (place_on line m.place.track position))
    where
      by_place : (m : Mission) (o : Option Place)
          → Sends 0 d 5 7 2 2 0 (option_map_or (λ place. grant line c t (record m { place = place })) o rest k)
      by_place m (Some place) = grant_sends (record m { place = place }) k
      by_place m None = sends_quiet 0 d 5 7 2 2 0 (rest k) refl (omega arith) (omega arith)
