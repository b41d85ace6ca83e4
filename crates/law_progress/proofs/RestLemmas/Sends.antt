use Rattle.std.proofs.Common.{[], ◌&&◌, ◌+◌, ◌==◌, ◌||◌, ◌∙◌, ◌∷◌, ◌≡◌, ◌≤◌, ap, arith, Bool, false, if◌then◌else◌}
use Rattle.std.proofs.Common.{is_none, is_some, length, nat_lt, None, not, Option, refl, Some, suc, sym, true, zero, ℕ}
use Rattle.std.specs.Option.{option_map_or}
use Rattle.law_base.proofs.CountingLemmas.Resource.{carried_more, carried_none, sent_append, sent_none}
use Rattle.law_base.proofs.CountingLemmas.Sums.{sum_le, sum_more, sum_none}
use Rattle.law_base.specs.Counting.Resource.{carried, sent_by}
use Rattle.law_base.specs.Counting.Sums.{sum_below}
use Rattle.law_invariants.proofs.NoUnaskedLemmas.Asking.{one_sent}
use Rattle.law_invariants.specs.Flow.Flow.{centre_count}
use Rattle.law_progress.proofs.RestLemmas.Load.{left_of, load}
use Rattle.law_progress.specs.Rest.Rest.{work_of}
use Rattle.rbc_spec.specs.Acts.{◌>>◌, Act, become, booked, change_mission, end_order, freed, may_propose, part_at}
use Rattle.rbc_spec.specs.Acts.{propose, propose_if_so, Reply, rest, return_right, returned, say, send, where_so}
use Rattle.rbc_spec.specs.Acts.{with_some, yield}
use Rattle.rbc_spec.specs.Centre.{Centre, Handing, is_open, is_registrar_of, is_taken_for, is_up, Mission, Out}
use Rattle.rbc_spec.specs.Frame.{Announce, AskRight, Body, Cancel, carried_place, GiveRight, RefuseRight, ReturnRight}
use Rattle.rbc_spec.specs.Frame.{RouteAsk, RouteInfo, RouteReturn, RouteWithdraw, TakingOver, Yield, yielded_place}
use Rattle.rbc_spec.specs.Line.{Line, registrar, section}
use Rattle.rbc_spec.specs.Links.{announced, answered_ask, cancelled, expect, is_train, is_under, is_wanted, lendable}
use Rattle.rbc_spec.specs.Links.{may_take, of_train, received, right_asked, right_given, right_refused, right_returned}
use Rattle.rbc_spec.specs.Links.{route_asked, route_returned, route_told, route_withdrawn, take_mission, taking_over}
use Rattle.rbc_spec.specs.Links.{yielded}
use Rattle.rbc_spec.specs.Maps.{has, put}
use Rattle.rbc_spec.specs.Message.{EndSession, unknown_group}
use Rattle.rbc_spec.specs.Place.{covered, Place}
use Rattle.rbc_spec.specs.Rules.{begin, choose, drop_wait, reject}
use Rattle.rbc_spec.specs.SectionRuns.{all_of, is_empty, no_run, part_before, part_from, SectionRun, shared, within}
use Rattle.rbc_spec.specs.Sections.{home_run, nid_rbc}

ones : (m : ℕ) → sum_below m (λ d. 1) ≡ m
ones zero = sum_none (λ d. 1)
ones (suc m) = omega (arith, sum_more m (λ d. 1), ones m)

module _ (line : Line) (c : ℕ) where
  -- the frames of the reply are at most this much work
  pub record Sends (m : ℕ) (q : Reply) : Type 0 where
    pub law : sent_by (load (centre_count line)) (centre_count line) c q.frames ≤ m

  quiet : (q : Reply) → q.frames ≡ (λ d. []) → Sends 0 q
  quiet q none =
      record {
        law = omega (
          arith,
          ap (sent_by (load (centre_count line)) (centre_count line) c) none,
          sent_none (load (centre_count line)) (centre_count line) c,
        );
      }

  pub sends_rest : (k : Centre) → Sends 0 (rest k)
  sends_rest k = quiet (rest k) refl

  pub more : (l m : ℕ) (q : Reply) → l ≤ m → Sends l q → Sends m q
  more l m q le is = record { law = omega (arith, le, is.law) }

  -- in every state the frames of an act are at most this much work
  abbrev pub Each : ℕ → Act → Type 0
  Each m act = (k : Centre) → Sends m (act k)

  then_sends : {m l : ℕ} (a b : Act) (k : Centre) → Sends m (a k) → Sends l (b (a k).state) → Sends (m + l) ((a >> b) k)
  unfolding ◌>>◌
  then_sends a b k one two =
      record {
        law = omega (
          arith,
          one.law,
          two.law,
          sent_append (load (centre_count line)) (centre_count line) c
              (a k).frames (b (a k).state).frames,
        );
      }

  both : {m l : ℕ} (a b : Act) → Each m a → Each l b → Each (m + l) (a >> b)
  both a b one two k = then_sends a b k (one k) (two (a k).state)

  -- the first sends nothing
  after : {m : ℕ} (a b : Act) → Each 0 a → Each m b → Each m (a >> b)
  after {m} a b one two k = more (0 + m) m ((a >> b) k) (omega arith) (both a b one two k)

  if_sends : {m : ℕ} (b : Bool) (p q : Reply) → Sends m p → Sends m q → Sends m (if b then p else q)
  if_sends true p q one two = one
  if_sends false p q one two = two

  or_sends : {X : Type 0} {m : ℕ} (o : Option X) (f : X → Reply) (q : Reply) → ((x : X) → Sends m (f x)) → Sends m q
      → Sends m (option_map_or f o q)
  or_sends None f q some none = none
  or_sends (Some x) f q some none = some x

  if_act : {m : ℕ} (b : Bool) (f g : Act) → (b ≡ true → Each m f) → (b ≡ false → Each m g) → Each m (if b then f else g)
  if_act true f g one two = one refl
  if_act false f g one two = two refl

  or_act : {X : Type 0} {m : ℕ} (o : Option X) (f : X → Act) (g : Act) → ((x : X) → Each m (f x)) → Each m g
      → Each m (option_map_or f o g)
  or_act None f g some none = none
  or_act (Some x) f g some none = some x

  none_more : (m : ℕ) → Each m rest
  none_more m k = more 0 m (rest k) (omega arith) (sends_rest k)

  when : {m : ℕ} (test : Centre → Bool) (act : Act) → Each m act → Each m (where_so test act)
  when {m} test act is k = if_sends (test k) (act k) (rest k) (is k) (none_more m k)

  chosen : {m : ℕ} (test : Centre → Bool) (f g : Act) → Each m f → Each m g → Each m (choose test f g)
  chosen test f g one two k = if_sends (test k) (f k) (g k) (one k) (two k)

  some_act : {X : Type 0} {m : ℕ} (value : Centre → Option X) (act : X → Act) → ((x : X) → Each m (act x))
      → Each m (with_some value act)
  some_act {X} {m} value act is k = or_sends (value k) (λ x. act x k) (rest k) (λ x. is x k) (none_more m k)

  sends_one : (d : ℕ) (body : Body) (k : Centre) → Sends (work_of (centre_count line) body) (send d body k)
  sends_one d body k =
      record {
        law = one_sent (load (centre_count line)) (centre_count line) c d body
            (send d body k).frames (λ e. refl);
      }

  -- a run is returned in at most one frame for each home
  sends_returned : (t track : ℕ) (r : SectionRun) (k : Centre) → Sends (centre_count line) (returned line c t track r k)
  unfolding sent_by
  sends_returned t track r k = record {
    law = omega (
      arith,
      sum_le (centre_count line)
          (λ d. carried (load (centre_count line)) c d ((returned line c t track r k).frames d)) (λ d. 1)
          (λ d at. by_part d ((d == c) || is_empty (shared r (home_run line d track)))),
      ones (centre_count line),
    );
  }
    where
      by_part : (d : ℕ) (b : Bool)
          → carried (load (centre_count line)) c d
          (if b then [] else RouteReturn t (shared r (home_run line d track)) ∷ []) ≤ 1
      by_part d true = omega (arith, carried_none (load (centre_count line)) c d)
      by_part d false =
          omega (
            arith,
            carried_more (load (centre_count line)) c d (RouteReturn t (shared r (home_run line d track)))
                [],
            carried_none (load (centre_count line)) c d,
          )

  -- ## Acts

  sends_propose : (t s : ℕ) → Each 0 (propose_if_so line t s)
  sends_propose t s = some_act (λ k. k.mission t) (λ m. where_so (may_propose line t s m) (propose line t s m))
      (λ m. when (may_propose line t s m) (propose line t s m) (λ k. then_sends _ _ k (quiet _ refl) (quiet _ refl)))

  sends_begin : (t : ℕ) (place : Place) → Each 0 (begin line t place)
  sends_begin t place k = then_sends _ _ k (quiet _ refl) (quiet _ refl)

  sends_drop : (t : ℕ) → Each 0 (drop_wait line c t)
  sends_drop t = some_act (λ k. k.wait t) (λ place. freed line c (is_taken_for t) (covered line place)
      >> become (λ k. record k { wait = put k.wait t None }))
      (λ place k. then_sends _ _ k (quiet _ refl) (quiet _ refl))

  sends_back : (t : ℕ) → Each 1 (return_right line c t)
  sends_back t = if_act (is_registrar_of line c t) _ _ (λ here k. more 0 1 _ (omega arith) (quiet _ refl))
      (λ away. or_act (registrar line t) (λ r. send r (ReturnRight t)) rest
      (λ r. sends_one r (ReturnRight t)) (none_more 1))

  sends_end : (t : ℕ) → Each 0 (end_order line c t)
  sends_end t = when (λ k. is_up (k.phase t)) (say t unknown_group (EndSession line.nid_c (nid_rbc line c)))
      (λ k. quiet _ refl)

  sends_yield : (t : ℕ) (m : Mission) (h : Handing) → Each (centre_count line + 1) (yield line c t m h)
  sends_yield t m h k = more (((centre_count line + 0) + (0 + 1)) + 0) (centre_count line + 1)
      (yield line c t m h k) (omega arith)
      (both _ _ (both _ _ (both _ _ (sends_returned t m.place.track m.pool) (λ j. quiet _ refl))
      (both _ _ (λ j. quiet _ refl)
      (sends_one h.to (Yield h.number t (option_map_or (λ n. n) (k.heard t) 0) m.has_data m.is_ended
      (yielded_place m.place) m.hand))))
      (if_act (is_empty (part_at line c m.place.track m.hand)) (end_order line c t) rest
      (λ so. sends_end t) (λ so. sends_rest)) k)

  sends_over : (d number t : ℕ) → Each (centre_count line + 1) (taking_over line c d number t)
  sends_over d number t =
      some_act (λ k. k.mission t) _
      (λ m. some_act (λ k. m.handing) _ (λ h. when (λ k. (h.number == number) && (h.to == d))
      (yield line c t m h) (sends_yield t m h)))

  -- ## A frame that is taken

  sends_asked : (d t : ℕ) → Each 2 (right_asked line c d t)
  sends_asked d t = when (λ k. is_registrar_of line c t) _
      (chosen (λ k. k.has_right t) (become (λ k. record k { has_right = put k.has_right t false })
      >> send d (GiveRight t)) (send d (RefuseRight t))
      (after _ _ (λ k. quiet _ refl) (sends_one d (GiveRight t)))
      (λ k. more 1 2 _ (omega arith) (sends_one d (RefuseRight t) k)))

  sends_given : (t : ℕ) → Each 1 (right_given line c t)
  sends_given t =
      when (λ k. k.has_asked t) _ (after (answered_ask t) _ (λ k. quiet _ refl)
      (chosen (λ k. is_some (k.wait t) && is_none (k.mission t))
      (with_some (λ k. k.wait t) (λ place. become (λ k. record k { wait = put k.wait t None }) >> begin line t place))
      (return_right line c t)
      (λ k. more 0 1 _ (omega arith)
      (some_act (λ j. j.wait t) (λ place. become (λ j. record j { wait = put j.wait t None }) >> begin line t place)
      (λ place. both _ _ (λ j. quiet _ refl) (sends_begin t place)) k))
      (sends_back t)))

  sends_refused : (t : ℕ) → Each 0 (right_refused line c t)
  sends_refused t =
      when (λ k. k.has_asked t) _ (both (answered_ask t) _ (λ k. quiet _ refl)
      (when (λ k. is_some (k.wait t)) (drop_wait line c t >> reject t)
      (both (drop_wait line c t) (reject t) (sends_drop t) (λ k. quiet _ refl))))

  sends_right_back : (t : ℕ) → Each 0 (right_returned line c t)
  sends_right_back t k = by_registrar (is_registrar_of line c t) refl
    where
      by_registrar : (b : Bool) → is_registrar_of line c t ≡ b → Sends 0 (right_returned line c t k)
      by_registrar true here = when (λ j. is_registrar_of line c t && (not (j.has_right t) && is_none (j.mission t)))
          (return_right line c t)
          (if_act (is_registrar_of line c t) _ _ (λ so j. quiet _ refl)
          (λ away. absurd (let wrong : true ≡ false = sym here ∙ away in cc))) k
      by_registrar false away = rw away (sends_rest k)

  sends_lent : (d t first most : ℕ) → Each 2 (route_asked line c d t first most)
  sends_lent d t first most k = when (λ j. is_some (section line first))
      (booked is_open (Out t) (lendable line c k first most) >> send d (RouteInfo t (lendable line c k first most)))
      (after _ _ (λ j. quiet _ refl) (sends_one d (RouteInfo t (lendable line c k first most)))) k

  sends_told : (d t : ℕ) (r : SectionRun) → Each 1 (route_told line c d t r)
  sends_told d t r =
      when _ _ (after _ _ (λ k. quiet _ refl)
      (chosen (λ k. has (is_wanted line r) (k.mission t)) (change_mission t (λ m. record m { pool = r }))
      (if is_empty r then rest else send d (RouteReturn t r))
      (λ k. more 0 1 _ (omega arith) (quiet _ refl))
      (if_act (is_empty r) rest (send d (RouteReturn t r)) (λ none. none_more 1)
      (λ some. sends_one d (RouteReturn t r)))))

  sends_withdrawn : (t s : ℕ) → Each (centre_count line) (route_withdrawn line c t s)
  sends_withdrawn t s =
      some_act (λ k. k.mission t) _ (λ m. if_act (within m.pool s) (returned line c t m.place.track (part_from s m.pool)
      >> change_mission t (λ n. record n { pool = part_before s n.pool })) (propose_if_so line t s)
      (λ in_pool k. more (centre_count line + 0) (centre_count line) _ (omega arith)
      (both _ _ (sends_returned t m.place.track (part_from s m.pool)) (λ j. quiet _ refl) k))
      (λ not_in k. more 0 (centre_count line) _ (omega arith) (sends_propose t s k)))

  sends_home : (d t : ℕ) (r : SectionRun) → Each 0 (route_returned line c t r)
  sends_home d t r = both _ _ (λ k. quiet _ refl) (when _ (end_order line c t) (sends_end t))

  sends_taken : (d t heard : ℕ) (m : Mission) → Each 0 (take_mission line c d t heard m)
  sends_taken d t heard m =
      both _ _ (both _ _ (both _ _ (λ k. quiet _ refl) (λ k. quiet _ refl))
      (both _ _ (λ k. quiet _ refl) (λ k. quiet _ refl))) (some_act _ (propose_if_so line t) (sends_propose t))

  of_train_sends : {m : ℕ} (t : ℕ) (act : Act) → Each m act → Each m (of_train line t act)
  of_train_sends {m} t act is = if_act (is_train line t) act rest (λ so. is) (λ so. none_more m)

  if_so_sends : {m : ℕ} (b : Bool) (act : Act) → Each m act → Each m (if b then act else rest)
  if_so_sends {m} b act is = if_act b act rest (λ so. is) (λ so. none_more m)

  pub received_sends : (d : ℕ) (f : Body) → Each (left_of (centre_count line) f) (received line c d f)
  received_sends d (AskRight t) = of_train_sends t (right_asked line c d t) (sends_asked d t)
  received_sends d (GiveRight t) = of_train_sends t (right_given line c t) (sends_given t)
  received_sends d (RefuseRight t) = of_train_sends t (right_refused line c t) (sends_refused t)
  received_sends d (ReturnRight t) = of_train_sends t (right_returned line c t) (sends_right_back t)
  received_sends d (RouteAsk t first most) =
      of_train_sends t (route_asked line c d t first most) (sends_lent d t first most)
  received_sends d (RouteInfo t r) = of_train_sends t (route_told line c d t r) (sends_told d t r)
  received_sends d (RouteWithdraw t s) =
      of_train_sends t _ (if_so_sends (is_some (section line s)) (route_withdrawn line c t s) (sends_withdrawn t s))
  received_sends d (RouteReturn t r) =
      of_train_sends t _ (if_so_sends (all_of (λ s. is_some (section line s)) r)
      (route_returned line c t r) (sends_home d t r))
  received_sends d (Announce number t track) =
      of_train_sends t _ (if_so_sends (nat_lt track (length line.tracks)) (announced d number t)
      (when (λ k. is_none (k.expects d t)) (expect d t (Some (record { number = number; is_taking = false })))
      (λ k. quiet _ refl)))
  received_sends d (Cancel number t) =
      of_train_sends t (cancelled d number t)
      (when (λ k. is_under number (k.expects d t)) (expect d t None) (λ k. quiet _ refl))
  received_sends d (TakingOver number t) = of_train_sends t (taking_over line c d number t) (sends_over d number t)
  received_sends d (Yield number t heard has_data is_ended place hand) =
      of_train_sends t _ (or_act (carried_place place) (yielded line c d number t hand heard has_data is_ended) rest
      (λ at. when (λ k. may_take line c k d number t at hand) _
      (sends_taken d t heard
      (record {
        place = at;
        hand = hand;
        pool = no_run;
        has_data = has_data;
        is_ended = is_ended;
        proposal = None;
        handing = None;
      }))) sends_rest)
