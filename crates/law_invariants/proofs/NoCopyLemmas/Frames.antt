-- An arriving frame makes nothing beyond its own amount, and loses none of that if it is looked for.
use Rattle.std.proofs.Common.{◌&&◌, ◌*◌, ◌+◌, ◌==◌, ◌||◌, ◌∙◌, ◌≡◌, ◌≢◌, ◌≤◌, ap, arith, Bool, false, if◌then◌else◌}
use Rattle.std.proofs.Common.{is_none, is_some, length, max, nat_le, nat_lt, None, not, Option, refl, Some, subst, sym}
use Rattle.std.proofs.Common.{true, ℕ}
use Rattle.std.proofs.lemmas.Bool.{and_parts}
use Rattle.std.specs.List.{find, range_with_len}
use Rattle.std.specs.Option.{option_map_or}
use Rattle.law_base.specs.Walk.Trains.{train_of}
use Rattle.law_invariants.proofs.NoCopyLemmas.Borders.{fair_propose_if}
use Rattle.law_invariants.proofs.NoCopyLemmas.Leaving.{fair_yield_over, gives_back}
use Rattle.law_invariants.proofs.NoCopyLemmas.Parts.{none_part}
use Rattle.law_invariants.proofs.NoCopyLemmas.Ready.{Ready}
use Rattle.law_invariants.proofs.NoCopyLemmas.Rights.{Comes, fair_asked, fair_right_returned, IsDue, IsFrom, IsPlaced}
use Rattle.law_invariants.proofs.NoCopyLemmas.Rights.{lost, out_apart, plain, registrar_of, right_gone, used_out}
use Rattle.law_invariants.proofs.NoCopyLemmas.Routes.{fair_home, fair_route_asked, fair_told, fair_withdrawn}
use Rattle.law_invariants.proofs.NoCopyLemmas.Starts.{fair_given, fair_refused, IsAskedFor, WaitsHome}
use Rattle.law_invariants.proofs.NoCopyLemmas.Tally.{eased, fair_booked, fair_both, fair_if, fair_or, fair_plain}
use Rattle.law_invariants.proofs.NoCopyLemmas.Tally.{fair_rest, fair_set, fair_then, IsTally, mission_back, mission_of}
use Rattle.law_invariants.proofs.NoCopyLemmas.Tally.{mission_put, part, Tally}
use Rattle.law_invariants.specs.NoCopy.Stray.{has_place_for, is_plain}
use Rattle.rbc_spec.proofs.Lists.{none_is}
use Rattle.rbc_spec.proofs.Runs.{all_within, each_within}
use Rattle.rbc_spec.specs.Acts.{◌>>◌, Act, become, booked, propose_if_so, rest, set_mission, with_some}
use Rattle.rbc_spec.specs.Centre.{Centre, is_out_for, Mission, Taken}
use Rattle.rbc_spec.specs.Frame.{Announce, AskRight, Body, Cancel, carried_place, GiveRight, RefuseRight, ReturnRight}
use Rattle.rbc_spec.specs.Frame.{RouteAsk, RouteInfo, RouteReturn, RouteWithdraw, TakingOver, Yield, YieldedPlace}
use Rattle.rbc_spec.specs.Line.{is_home, Line, next_centre, Section, section, section_of_group}
use Rattle.rbc_spec.specs.Links.{announced, cancelled, expect, is_train, is_under, may_arrive, may_take, of_train}
use Rattle.rbc_spec.specs.Links.{received, right_asked, right_given, right_refused, right_returned, route_asked}
use Rattle.rbc_spec.specs.Links.{route_returned, route_told, route_withdrawn, take_mission, taking_over, yielded}
use Rattle.rbc_spec.specs.Maps.{has, put}
use Rattle.rbc_spec.specs.Place.{group_start, Place}
use Rattle.rbc_spec.specs.SectionRuns.{all_of, no_run, SectionRun, within}
use Rattle.rbc_spec.specs.Sections.{is_on, is_on_track}

module _ (line : Line) (c : ℕ) (y : Tally) (is : IsTally line c y) where
  -- ## Handovers

  taken_law : (d number t heard : ℕ) (has_data is_ended : Bool) (place : YieldedPlace) (m : Mission) (k : Centre)
      → m.pool ≡ no_run
      → y.entry (k.book y.section) + mission_of y (put k.mission t (Some m) y.train)
      ≤ (y.res.inside d c (Yield number t heard has_data is_ended place m.hand)
      + y.entry (if within m.hand y.section && is_out_for t (k.book y.section) then Taken t else k.book y.section))
      + mission_of y (k.mission y.train)
  taken_law d number t heard has_data is_ended place m k none =
      mission_put line c y k t (Some m) (y.entry (k.book y.section)) _
      (λ here. omega (
        arith,
        none_part y,
        ap (part y) none,
        subst (λ v. y.entry (k.book y.section) + (y.one + part y m.hand)
            ≤ y.res.inside d c (Yield number v heard has_data is_ended place m.hand)
            + y.entry (if within m.hand y.section
            && is_out_for v (k.book y.section) then Taken v else k.book y.section))
            (sym here) (is.takes d number heard has_data is_ended place m.hand (k.book y.section)),
      ))
      (λ other. omega (arith, by_tests other (within m.hand y.section) (is_out_for t (k.book y.section)) refl))
    where
      by_tests : t ≢ y.train → (w x : Bool) → is_out_for t (k.book y.section) ≡ x
          → y.entry (k.book y.section) ≤ y.entry (if w && x then Taken t else k.book y.section)
      by_tests other false x out = omega arith
      by_tests other true false out = omega arith
      by_tests other true true out = is.other t (k.book y.section) (Taken t) other (used_out t (k.book y.section) out)

  -- If losses are counted: no mission is here, and each own section of the hand is out for the train at the sender.
  abbrev CanTake : ℕ → ℕ → SectionRun → Centre → Type 0
  CanTake d t hand k = y.exact ≡ true → (k.mission t ≡ None)
      × (within hand y.section ≡ true → is_home line c y.section ≡ true → is_out_for t (k.book y.section) ≡ true)

  taken_back : y.exact ≡ true → (d number t heard : ℕ) (has_data is_ended : Bool) (place : YieldedPlace) (m : Mission)
      (k : Centre) → CanTake d t m.hand k
      → (y.res.inside d c (Yield number t heard has_data is_ended place m.hand)
      + y.entry (if within m.hand y.section && is_out_for t (k.book y.section) then Taken t else k.book y.section))
      + mission_of y (k.mission y.train)
      ≤ y.entry (k.book y.section) + mission_of y (put k.mission t (Some m) y.train)
  taken_back so d number t heard has_data is_ended place m k can =
      mission_back line c y k t (Some m) (y.entry (k.book y.section)) _
      (λ here. omega (
        arith,
        ap (mission_of y) (can so).0,
        subst (λ v. y.res.inside d c (Yield number v heard has_data is_ended place m.hand)
            + y.entry (if within m.hand y.section && is_out_for v (k.book y.section) then Taken v else k.book y.section)
            ≤ y.entry (k.book y.section) + (y.one + part y m.hand))
            (sym here) ((is.back so).takes d number heard has_data is_ended place m.hand (k.book y.section)
            (λ in_hand home. subst (λ v. is_out_for v (k.book y.section) ≡ true) here ((can so).1 in_hand home))),
      ))
      (λ other.
      omega (
        arith,
        is.others d c (Yield number t heard has_data is_ended place m.hand) other,
        by_tests other (within m.hand y.section) (is_out_for t (k.book y.section)) refl,
      ))
    where
      by_tests : t ≢ y.train → (w x : Bool) → is_out_for t (k.book y.section) ≡ x
          → y.entry (if w && x then Taken t else k.book y.section) ≤ y.entry (k.book y.section)
      by_tests other false x out = omega arith
      by_tests other true false out = omega arith
      by_tests other true true out = (is.back so).here (Taken t) (k.book y.section) refl
          (out_apart t y.train (k.book y.section) other out)

  fair_take : (d number t heard : ℕ) (has_data is_ended : Bool) (place : YieldedPlace) (m : Mission) (k : Centre)
      → m.pool ≡ no_run → CanTake d t m.hand k
      → Comes line c y is d (Yield number t heard has_data is_ended place m.hand) k (take_mission line c d t heard m k)
  unfolding ◌>>◌
  fair_take d number t heard has_data is_ended place m k none can =
      eased line c y _ 0 k _ (omega (arith, taken_law d number t heard has_data is_ended place m k none))
      (λ so. omega (arith, taken_back so d number t heard has_data is_ended place m k can))
      (fair_then line c y ((booked (is_out_for t) (Taken t) m.hand >> set_mission t (Some m))
      >> (hears >> expect d t None)) proposes k
      (fair_then line c y (booked (is_out_for t) (Taken t) m.hand >> set_mission t (Some m))
      (hears >> expect d t None) k
      (fair_then line c y (booked (is_out_for t) (Taken t) m.hand) (set_mission t (Some m)) k
      (fair_booked line c y (is_out_for t) (Taken t) m.hand k)
      (fair_set line c y t (Some m) (booked (is_out_for t) (Taken t) m.hand k).state))
      (fair_both line c y hears (expect d t None) middle (fair_plain line c y middle (hears middle) refl refl refl)
      (fair_plain line c y (hears middle).state (expect d t None (hears middle).state) refl refl refl)))
      (fair_or line c y (find (λ s. is_home line c s && last.wish s) (range_with_len m.hand.first m.hand.count))
      (λ s. propose_if_so line t s last) last (rest last) (λ s found. fair_propose_if line c y is t s last)
      (λ nothing. fair_rest line c y last)))
    where
      hears : Act
      hears = become (λ j. record j { heard = put j.heard t (Some (option_map_or (max heard) (j.heard t) heard)) })

      proposes : Act
      proposes = with_some (λ j. find (λ s. is_home line c s && j.wish s) (range_with_len m.hand.first m.hand.count))
          (propose_if_so line t)

      middle : Centre
      middle = ((booked (is_out_for t) (Taken t) m.hand >> set_mission t (Some m)) k).state

      last : Centre
      last = (((booked (is_out_for t) (Taken t) m.hand >> set_mission t (Some m))
          >> (hears >> expect d t None)) k).state

  -- ## A body

  of_lines_train : (d t : ℕ) (body : Body) (act : Act) (k : Centre) → train_of body ≡ t → IsDue line c y is d body k
      → Comes line c y is d body k (act k) → Comes line c y is d body k (of_train line t act k)
  of_lines_train d t body act k same due comes = by_train (is_train line t) refl
    where
      by_train : (b : Bool) → is_train line t ≡ b → Comes line c y is d body k ((if b then act else rest) k)
      by_train true known = comes
      by_train false foreign =
          lost line c y is d body k (rest k) (λ exact here. by_plain exact (is_plain body) refl (due exact here))
          (fair_rest line c y k)
        where
          by_plain : y.exact ≡ true → (b : Bool) → is_plain body ≡ b
              → (b || (is_train line (train_of body) && has_place_for line c d k body)) ≡ true
              → y.res.inside d c body ≡ 0
          by_plain exact true so placed = is.plain d c body so
          by_plain exact false so placed =
              absurd (let wrong : true
              ≡ false = sym (and_parts (is_train line (train_of body)) (has_place_for line c d k body) placed).0
              ∙ ap (is_train line) same ∙ foreign in cc)

  placed : (d : ℕ) (body : Body) (k : Centre) → is_plain body ≡ false → IsDue line c y is d body k
      → IsPlaced line c y is d body k
  placed d body k some due so here = and_parts (is_train line (train_of body)) (has_place_for line c d k body)
      (sym (ap (λ b. b || (is_train line (train_of body) && has_place_for line c d k body)) some) ∙ due so here)

  where_line : (b : Bool) (d : ℕ) (body : Body) (act : Act) (k : Centre)
      → (y.exact ≡ true → train_of body ≡ y.train → b ≡ false → y.res.inside d c body ≡ 0)
      → Comes line c y is d body k (act k) → Comes line c y is d body k ((if b then act else rest) k)
  where_line true d body act k none comes = comes
  where_line false d body act k none comes =
      lost line c y is d body k (rest k) (λ exact here. none exact here refl) (fair_rest line c y k)

  -- the sections of each start that waits are of home
  abbrev pub AllWaitHome : Centre → Type 0
  AllWaitHome k = (t : ℕ) → WaitsHome line c y is t k

  pub fair_received : (d : ℕ) (body : Body) (k : Centre) → AllWaitHome k → Ready line c y k → IsFrom line c y is d
      → IsDue line c y is d body k → Comes line c y is d body k (received line c d body k)
  fair_received d (AskRight t) k home ready from due =
      of_lines_train d t (AskRight t) (right_asked line c d t) k refl due
      (plain line c y is d (AskRight t) k _ refl (fair_asked line c y is d t k from))
  fair_received d (GiveRight t) k home ready from due =
      of_lines_train d t (GiveRight t) (right_given line c t) k refl due
      (eased line c y _ 0 k _ (omega (arith, gives_back line c y is d c t))
      (λ so. omega (arith, gives_back line c y is d c t)) (fair_given line c y is t k (home t) asked))
    where
      asked : IsAskedFor line c y is t k
      asked so here =
          let at = placed d (GiveRight t) k refl due so here in let both =
          and_parts (k.has_asked t) (not (k.has_right t)) at.1 in
          (both.0, right_gone line c y is t k here both.1, registrar_of line c y is so t here at.0)
  fair_received d (RefuseRight t) k home ready from due =
      of_lines_train d t (RefuseRight t) (right_refused line c t) k refl due
      (plain line c y is d (RefuseRight t) k _ refl (fair_refused line c y is t k))
  fair_received d (ReturnRight t) k home ready from due =
      of_lines_train d t (ReturnRight t) (right_returned line c t) k refl due
      (fair_right_returned line c y is d t k (placed d (ReturnRight t) k refl due))
  fair_received d (RouteAsk t first most) k home ready from due =
      of_lines_train d t (RouteAsk t first most) (route_asked line c d t first most) k refl due
      (plain line c y is d (RouteAsk t first most) k _ refl (fair_route_asked line c y is d t first most k from))
  fair_received d (RouteInfo t r) k home ready from due =
      of_lines_train d t (RouteInfo t r) (route_told line c d t r) k refl due
      (fair_told line c y is d t r k from (placed d (RouteInfo t r) k refl due))
  fair_received d (RouteWithdraw t s) k home ready from due =
      of_lines_train d t (RouteWithdraw t s) (if is_some (section line s) then route_withdrawn line c t s else rest)
      k refl due
      (where_line (is_some (section line s)) d (RouteWithdraw t s) (route_withdrawn line c t s) k
      (λ so here no. is.plain d c (RouteWithdraw t s) refl)
      (plain line c y is d (RouteWithdraw t s) k _ refl (fair_withdrawn line c y is t s k ready)))
  fair_received d (RouteReturn t r) k home ready from due =
      of_lines_train d t (RouteReturn t r) (if all_of (λ s. is_some (section line s)) r then route_returned line
      c t r else rest) k refl due
      (where_line (all_of (λ s. is_some (section line s)) r) d (RouteReturn t r) (route_returned line c t r) k
      (λ so here no.
      absurd (let wrong : true ≡ false = sym (of_sections (placed d (RouteReturn t r) k refl due so here).1) ∙ no in
      cc)) (fair_home line c y is d t r k (placed d (RouteReturn t r) k refl due)))
    where
      at_section : (s : ℕ) (o : Option Section) → has (λ p. p.home == c) o ≡ true → is_some o ≡ true
      at_section s None h = cc
      at_section s (Some p) h = refl

      of_sections : all_of (λ s. is_home line c s && is_out_for t (k.book s)) r ≡ true
          → all_of (λ s. is_some (section line s)) r ≡ true
      of_sections all = all_within (λ s. is_some (section line s)) r
          (λ s in_run. at_section s (section line s)
          (and_parts (is_home line c s) (is_out_for t (k.book s))
          (each_within (λ u. is_home line c u && is_out_for t (k.book u)) r all s in_run)).0)
  fair_received d (Announce number t track) k home ready from due =
      of_lines_train d t (Announce number t track)
      (if nat_lt track (length line.tracks) then announced d number t else rest) k refl due
      (where_line (nat_lt track (length line.tracks)) d (Announce number t track) (announced d number t) k
      (λ so here no. is.plain d c (Announce number t track) refl)
      (plain line c y is d (Announce number t track) k _ refl
      (fair_if line c y (is_none (k.expects d t)) k _ (rest k)
      (λ so. fair_plain line c y k (expect d t (Some (record { number = number; is_taking = false })) k) refl refl
      refl) (λ so. fair_rest line c y k))))
  fair_received d (Cancel number t) k home ready from due =
      of_lines_train d t (Cancel number t) (cancelled d number t) k refl due
      (plain line c y is d (Cancel number t) k _ refl
      (fair_if line c y (is_under number (k.expects d t)) k _ (rest k)
      (λ so. fair_plain line c y k (expect d t None k) refl refl refl) (λ so. fair_rest line c y k)))
  fair_received d (TakingOver number t) k home ready from due =
      of_lines_train d t (TakingOver number t) (taking_over line c d number t) k refl due
      (plain line c y is d (TakingOver number t) k _ refl (fair_yield_over line c y is d number t k ready))
  fair_received d (Yield number t heard has_data is_ended place hand) k home ready from due =
      of_lines_train d t body (option_map_or (yielded line c d number t hand heard has_data is_ended)
      (carried_place place) rest) k refl due (by_place (carried_place place) refl)
    where
      body : Body
      body = Yield number t heard has_data is_ended place hand

      stray : (b : Bool) → has (λ at. may_take line c k d number t at hand) (carried_place place) ≡ b → b ≡ false
          → y.exact ≡ true → t ≡ y.train → y.res.inside d c (Yield number t heard has_data is_ended place hand) ≡ 0
      stray b is_so untrue exact here =
          absurd (let wrong : true
          ≡ false = sym (placed d (Yield number t heard has_data is_ended place hand) k refl due exact here).1
          ∙ is_so ∙ untrue in cc)

      can : (at : Place) → may_take line c k d number t at hand ≡ true → CanTake d t hand k
      can at so exact =
          let parts = and_parts (has (λ e. (e.number == number) && e.is_taking) (k.expects d t)
          && (is_none (k.mission t) && not (k.has_right t)))
          ((is_on_track line at.track hand && has (is_on line at.track) (section_of_group line at.group))
          && (nat_le (10 * group_start line at) at.front && all_of (may_arrive line c k t at.track) hand)) so in
          let none = and_parts (has (λ e. (e.number == number) && e.is_taking) (k.expects d t)) (is_none (k.mission t)
          && not (k.has_right t)) parts.0 in
          let fits = and_parts (is_on_track line at.track hand
          && has (is_on line at.track) (section_of_group line at.group)) (nat_le (10 * group_start line at) at.front
          && all_of (may_arrive line c k t at.track) hand) parts.1 in
          let arrives = and_parts (nat_le (10 * group_start line at) at.front)
          (all_of (may_arrive line c k t at.track) hand) fits.1 in (
            none_is (k.mission t) (and_parts (is_none (k.mission t)) (not (k.has_right t)) none.1).0,
            (λ in_hand home. own (is_home line c y.section) home
                (each_within (may_arrive line c k t at.track) hand arrives.1 y.section in_hand)),
          )
        where
          own : (h : Bool) → h ≡ true → (if h then is_out_for t (k.book y.section)
              else has (λ p. not (has (λ n. n == p.home) (next_centre line c at.track))) (section line y.section))
              ≡ true → is_out_for t (k.book y.section) ≡ true
          own true at_home arrives = arrives
          own false at_home arrives = cc

      by_place : (o : Option Place) → carried_place place ≡ o
          → Comes line c y is d (Yield number t heard has_data is_ended place hand) k
          (option_map_or (yielded line c d number t hand heard has_data is_ended) o rest k)
      by_place None carried = lost line c y is d (Yield number t heard has_data is_ended place hand) k (rest k)
          (stray false (ap (has (λ at. may_take line c k d number t at hand)) carried) refl) (fair_rest line c y k)
      by_place (Some at) carried = fair_if line c y (may_take line c k d number t at hand) k _ (rest k)
          (λ so. fair_take d number t heard has_data is_ended place
          (record {
            place = at;
            hand = hand;
            pool = no_run;
            has_data = has_data;
            is_ended = is_ended;
            proposal = None;
            handing = None;
          }) k refl (can at so))
          (λ so. lost line c y is d (Yield number t heard has_data is_ended place hand) k (rest k)
          (stray (may_take line c k d number t at hand)
          (ap (has (λ p. may_take line c k d number t p hand)) carried) so) (fair_rest line c y k))
