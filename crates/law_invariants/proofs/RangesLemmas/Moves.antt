-- Each small move and each answer keeps a centre in its ranges, and sends bodies in their ranges, only on links.
use Rattle.std.proofs.Common.{[], ◌&&◌, ◌++◌, ◌+◌, ◌-◌, ◌<◌, ◌==◌, ◌∙◌, ◌≡◌, ◌≤◌, ap, arith, Bool, false, if◌then◌else◌}
use Rattle.std.proofs.Common.{ltb-true, max, min, None, Option, refl, Some, subst, sym, true, ℕ}
use Rattle.std.proofs.lemmas.Bool.{eqb-false}
use Rattle.std.proofs.lemmas.List.Elements.{All-append, All-nil}
use Rattle.std.specs.Option.{option_map_or}
use Rattle.law_base.proofs.RulesLemmas.Places.{fit_is}
use Rattle.law_base.proofs.WalkLemmas.Causes.{all_free, Alone, begins, by_itself, Came, Cause, Change, clears, comes}
use Rattle.law_base.proofs.WalkLemmas.Causes.{cuts, Expects, goes_back, goes_home, grows, hand_to, Hears, IsAhead}
use Rattle.law_base.proofs.WalkLemmas.Causes.{less_pool, May, MayBegin, MaySend, Message, next_of, no_more, no_pool}
use Rattle.law_base.proofs.WalkLemmas.Causes.{one_more, pools, position_of, Reports, restarts, said_before, said_now}
use Rattle.law_base.proofs.WalkLemmas.Causes.{Starts, to_some, Turn, waited, Wish}
use Rattle.law_base.proofs.WalkLemmas.Moves.{announces, Answer, asks_right, asks_route, begins_at, books, changes}
use Rattle.law_base.proofs.WalkLemmas.Moves.{Closed, closes, closes_handed, drops, expects, frees, gives, hears, lends}
use Rattle.law_base.proofs.WalkLemmas.Moves.{lends_some, makes, Move, no_handover, recalls, refuses, returns, sends}
use Rattle.law_base.proofs.WalkLemmas.Moves.{sets, takes_over, waits, waits_no_more, withdraws, yields}
use Rattle.law_invariants.proofs.RangesLemmas.Basics.{carried_range, extent_range, fit_range, home_below, next_linked}
use Rattle.law_invariants.proofs.RangesLemmas.Basics.{of_some, place_on_range, registrar_linked}
use Rattle.law_invariants.proofs.RangesLemmas.Kept.{AllSent, and_none, Expected, if_out, Kept, Leaves, Missions}
use Rattle.law_invariants.proofs.RangesLemmas.Kept.{none_sent, not_out, out_for, taken_over, to_one, went_home}
use Rattle.law_invariants.proofs.RangesLemmas.Kept.{with_book, with_change, with_expectation, with_heard}
use Rattle.law_invariants.proofs.RangesLemmas.Kept.{with_mission_of, with_wait, withdrawn}
use Rattle.law_invariants.proofs.RangesLemmas.Missions.{begun_range, cleared_range, come_range, cut_range}
use Rattle.law_invariants.proofs.RangesLemmas.Missions.{extended_range, handed_range, moved_range, pooled_range}
use Rattle.law_invariants.proofs.RangesLemmas.Missions.{shorter_range, unhanded_range, unpooled_range}
use Rattle.law_invariants.specs.Ranges.Ranges.{HasMessageRanges, HasMissionRanges, HasPositionRanges, HasStartRanges}
use Rattle.law_invariants.specs.Ranges.Ranges.{IsReportInRange, IsSentInRange}
use Rattle.rbc_spec.proofs.Runs.{longest_few}
use Rattle.rbc_spec.specs.Acts.{◌>>◌, Act, begun, freed, Reply, set_mission}
use Rattle.rbc_spec.specs.Centre.{Centre, Entry, Expectation, Handing, is_free, is_open, is_registrar_of, is_taken_for}
use Rattle.rbc_spec.specs.Centre.{Mission, Open, Out, Shut, Taken}
use Rattle.rbc_spec.specs.Frame.{Announce, AskRight, Body, Cancel, GiveRight, HasBodyRange, HasPlaceRange, HasRunRange}
use Rattle.rbc_spec.specs.Frame.{IsEngine, IsHandoverNumber, RefuseRight, RouteAsk, RouteInfo, Yield, yielded_place}
use Rattle.rbc_spec.specs.Line.{is_centre, is_home, is_linked, IsLine, Line, registrar, section}
use Rattle.rbc_spec.specs.Links.{is_wanted, lendable}
use Rattle.rbc_spec.specs.Maps.{has}
use Rattle.rbc_spec.specs.Message.{EndOfMission, Report, Request, ShorteningGranted, ShorteningRejected, StartOfMission}
use Rattle.rbc_spec.specs.Message.{TrainBody, TrainData, unknown_time}
use Rattle.rbc_spec.specs.Place.{covered, Place, place_on, Position}
use Rattle.rbc_spec.specs.Rules.{extended_by, extension}
use Rattle.rbc_spec.specs.SectionRuns.{most_in_hand, next_after, no_run, SectionRun, within}
use Rattle.rbc_spec.specs.Sections.{is_on}

-- the values of an event are in their ranges
abbrev pub IsInRange : Line → ℕ → Cause → Type 0
IsInRange line c Alone = ⊥
IsInRange line c Wish = Unit {0}
IsInRange line c (Message m) = HasMessageRanges m
IsInRange line c (Came d body) = (is_linked line c d ≡ true) × HasBodyRange body

reported : (line : Line) (c : ℕ) (cause : Cause) (position : Position) → IsInRange line c cause → Reports cause position
    → HasPositionRanges position
reported line c Alone position range said = absurd range
reported line c Wish position range said = absurd said
reported line c (Came d body) position range said = absurd said
reported line c (Message m) position range said = by_body m.body range.report said
  where
    by_body : (body : TrainBody) → IsReportInRange body → position_of body ≡ Some position → HasPositionRanges position
    by_body (TrainData p) is = of_some HasPositionRanges p is position
    by_body (Request p) is = of_some HasPositionRanges p is position
    by_body (Report p) is = of_some HasPositionRanges p is position
    by_body (ShorteningGranted stamp p) is = of_some HasPositionRanges p is position
    by_body (ShorteningRejected stamp p) is = of_some HasPositionRanges p is position
    by_body (EndOfMission p) is = of_some HasPositionRanges p is position
    by_body (StartOfMission is_valid p) is = of_some HasPositionRanges p is position
    by_body body is = λ at. cc

-- the train of the event has an engine, and the centre is of the line
abbrev pub IsOfTrain : Line → ℕ → May → Type 0
IsOfTrain line c may = (t : ℕ) → may.train ≡ Some t → IsEngine t × (is_centre line c ≡ true)

module _ (line : Line) (ok : IsLine line) (c stamp : ℕ) (may : May) (its : IsOfTrain line c may)
    (range : IsInRange line c may.cause) (was : Centre) (old_was : Kept line c stamp was)
    (room : was.announced < stamp) where
  abbrev Fine : Mission → Type 0
  Fine m = HasMissionRanges line c m

  brings : {cause : Cause} → may.cause ≡ cause → IsInRange line c cause
  brings is = subst (IsInRange line c) is range

  -- ## Places and centres

  placed : (m : Mission) (place : Place) (position : Position) → Reports may.cause position
      → place_on line m.place.track position ≡ Some place → HasPlaceRange (yielded_place place)
  placed m place position said at = place_on_range line ok position (reported line c may.cause position range said)
      m.place.track place at

  started : (place : Place) → Starts line may.cause place → HasStartRanges line place
  started place (is_valid, position, said, fits) = let fit = fit_is line is_valid position place fits in
      record {
        place = extent_range line ok position (reported line c may.cause position range said) place fit.1;
        hand = fit_range line ok place fit.0;
      }

  ahead : (d : ℕ) → IsAhead line c may d → is_linked line c d ≡ true
  ahead d (next_of track next) = next_linked line ok c track d next
  ahead d (by_itself alone) = absurd (brings alone)

  -- ## Missions

  may_begin : (t : ℕ) (place : Place) → MayBegin line c may t was place → HasStartRanges line place
  may_begin t place (waited at) = old_was.wait t place at
  may_begin t place (all_free fits free) = started place fits

  turned : (t : ℕ) (o : Option Mission) (k : Centre) → Kept line c stamp k → Turn line c may was t k o
      → Missions line c stamp o
  turned t _ k old (begins place why none) =
      of_some Fine (begun line place) (begun_range line ok c place (may_begin t place why))
  turned t _ k old (grows m place position j so has said at) =
      let n : Mission = record m { place = place } in
      of_some Fine (extended_by (extension line c j n) n)
      (extended_range line ok c j n
      (moved_range line ok c m place (placed m place position said at) (old.mission t m has)))
  turned t _ k old (clears m place position has said at some) =
      of_some Fine _ (cleared_range line ok c m place (placed m place position said at) some (old.mission t m has))
  turned t _ k old (cuts m n last_kept has same some) =
      of_some Fine _ (cut_range line ok c m (last_kept + 1) some (subst Fine same (old.mission t n has)))
  turned t _ k old (comes d number time carried place hand has_data is_ended so taken came carries) =
      let is = (brings came).1 in
      of_some Fine _
      (come_range line ok c
      (record {
        place = place;
        hand = hand;
        pool = no_run;
        has_data = has_data;
        is_ended = is_ended;
        proposal = None;
        handing = None;
      }) (carried_range carried place carries is.3) is.4)

  changed : (t : ℕ) (f : Mission → Mission) (k : Centre) → Kept line c stamp k → Change line may was t k f
      → (m : Mission) → k.mission t ≡ Some m → Fine (f m)
  changed t _ k old no_pool m at = unpooled_range line ok c m (old.mission t m at)
  changed t _ k old (less_pool s) m at = shorter_range line ok c m s (old.mission t m at)
  changed t _ k old (pools d r none came wanted) m at =
      pooled_range line ok c m r (brings came).1.1.count.1 (sym (ap (has (is_wanted line r)) at)
      ∙ wanted) (old.mission t m at)
  changed t _ k old (restarts n place is_valid position has had said fits all) m at =
      moved_range line ok c m place (started place (is_valid, position, said, fits)).place (old.mission t m at)
  changed t f k old change m at = old.mission t m at

  -- ## Frames

  sent : (d : ℕ) (body : Body) → MaySend line c may d body → (is_linked line c d ≡ true) × HasBodyRange body
  sent d _ (goes_back t is away at) = (registrar_linked line ok c t d (its t is).1 away at, (its t is).0)
  sent d _ (goes_home t r is some home came) =
      let run = (brings came).1.1 in let few = run.count.1 in let filled = eqb-false r.count 0 some in (
        (brings came).0,
        (
          (its t is).0,
          record {
            first = run.first;
            count = (omega (arith, filled), omega (arith, few));
            last = run.last;
          },
        ),
      )

  asked_for : (t : ℕ) (to : Option ℕ) → may.train ≡ Some t → is_registrar_of line c t ≡ false → registrar line t ≡ to
      → (e : ℕ) → AllSent line c e (to_some to (AskRight t) e ++ [])
  asked_for t None is away at e = All-nil (IsSentInRange line c e)
  asked_for t (Some r) is away at e =
      and_none line c e _
      (to_one line c r (AskRight t) (registrar_linked line ok c t r (its t is).1 away at) (its t is).0 e)

  called_off : (t : ℕ) (m : Mission) (h : Handing) (k : Centre) → Kept line c stamp k → may.train ≡ Some t
      → k.mission t ≡ Some m → m.handing ≡ Some h → (e : ℕ)
      → AllSent line c e (to_some (Some h.to) (Cancel h.number t) e ++ [])
  called_off t m h k old is has stands e = let to = (old.mission t m has).handing h stands in
      and_none line c e _ (to_one line c h.to (Cancel h.number t) to.1 (to.0, (its t is).0) e)

  -- ## Each small move

  heard_in : (t : ℕ) (k : Centre) (x : Option ℕ) → Kept line c stamp k → Hears may t k x → (time : ℕ)
      → x ≡ Some time → time < unknown_time
  heard_in t k _ old (said_now m is) = of_some (λ x. x < unknown_time) m.t_train (brings is).t_train
  heard_in t k _ old (said_before d number time has_data is_ended place hand is) =
      of_some (λ x. x < unknown_time) _ (later (k.heard t) (old.heard t))
    where
      low : time ≤ 4294967294
      low = (brings is).1.2

      later : (o : Option ℕ) → ((last : ℕ) → o ≡ Some last → last < unknown_time)
          → option_map_or (max time) o time < unknown_time
      later (Some last) known = omega (arith, low, known last refl)
      later None known = omega (arith, low)

  expected : (d t : ℕ) (e : Option Expectation) → Expects may d t e → Expected line c stamp d e
  expected d t _ (one_more number track came) =
      of_some (λ (e : Expectation). IsHandoverNumber e.number × (is_linked line c d ≡ true)) _
      ((brings came).1.0, (brings came).0)
  expected d t _ no_more = λ e is. cc

  freed_in : (is_meant : Entry → Bool) (r : SectionRun) (k : Centre) → Kept line c stamp k
      → Kept line c stamp (freed line c is_meant r k).state
  freed_in is_meant r k old = with_book line c stamp k _ old
      (λ s. if_out ((within r s && is_home line c s) && is_meant (k.book s)) (if k.wish s then Shut else Open)
      (k.book s) (if_out (k.wish s) Shut Open (λ t is. cc) (λ t is. cc)) (old.out s))

  gone : (t : ℕ) (k : Centre) → Kept line c stamp k → Kept line c stamp (set_mission t None k).state
  gone t k old = with_mission_of line c stamp k t None old (λ m is. cc)

  moves : (k : Centre) (q : Reply) → Move line c may was k q → Kept line c stamp k → Leaves line c stamp q
  moves _ _ (sends d body k why) old = let is = sent d body why in (old, to_one line c d body is.0 is.1)
  moves _ _ (returns t track r m k is has few) old = let fine = old.mission t m has in let hand = fine.hand.count.1 in
      let pool = fine.pool in
      (old, went_home line c ok t track r k (its t is).0 (its t is).1 (omega (arith, few, hand, pool)))
  moves _ _ (withdraws t s k home at) old =
      (old, withdrawn line c t s k (old.out s t at) (omega (arith, home_below line ok c s home)))
  moves _ _ (takes_over t k is) old = taken_over line c stamp t k (its t is).0 old
  moves _ _ (books is_meant t r k) old = (
    with_book line c stamp k _ old (λ s. if_out (within r s && is_meant (k.book s)) (Taken t) (k.book s) (λ u is. cc)
        (old.out s)),
    none_sent line c,
  )
  moves _ _ (lends is_meant t r k is) old = (
    with_book line c stamp k _ old (λ s. if_out (within r s && is_meant (k.book s)) (Out t) (k.book s)
        (out_for t (its t is).0) (old.out s)),
    none_sent line c,
  )
  moves _ _ (frees is_meant r k so) old = (freed_in is_meant r k old, none_sent line c)
  moves _ _ (makes s entry wish k none) old = (
    with_book line c stamp k _ old (λ u. if_out (u == s) entry (k.book u) (not_out entry none) (old.out u)),
    none_sent line c,
  )
  moves _ _ (expects d t e k so why) old =
      (with_expectation line c stamp k d t e old (expected d t e why), none_sent line c)
  moves _ _ (hears t x k why) old = (with_heard line c stamp k t x old (heard_in t k x old why), none_sent line c)
  moves _ _ (waits t place k fits asked) old = (
    with_wait line c stamp k t (Some place) old (of_some (HasStartRanges line) place (started place fits)),
    none_sent line c,
  )
  moves _ _ (waits_no_more t k) old = (with_wait line c stamp k t None old (λ p is. cc), none_sent line c)
  moves _ _ (asks_right t place to k is fits away at none) old = (
    with_wait line c stamp k t (Some place) old (of_some (HasStartRanges line) place (started place fits)),
    asked_for t to is away at,
  )
  moves _ _ (asks_route t d m k is has empty home none there more) old =
      let some = (old.mission t m has).hand.count.0 in let below = home_below line ok d (next_after m.hand) home in
      let few = ltb-true m.hand.count most_in_hand more in (
        old,
        λ e. and_none line c e _
            (to_one line c d
            (RouteAsk t (next_after m.hand) (min (most_in_hand - m.hand.count) (512 - next_after m.hand)))
            (ahead d there) (
              (its t is).0,
              record {
                first = omega (arith, below);
                count = (omega (arith, below, few), omega (arith, some));
                last = omega (arith, below);
              },
            ) e),
      )
  moves _ _ (announces t d m k is so has none there same) old = let low = old.clock in (
    with_change line c stamp (record k { announced = k.announced + 1 }) t (hand_to d (k.announced + 1)) counted
        (λ n at. handed_range line ok c n (k.announced + 1) d (omega arith, omega (arith, same, room, low))
        (ahead d there) (old.mission t n at)),
    λ e. and_none line c e _
        (and_none line c e _ (to_one line c d (Announce (k.announced + 1) t m.place.track) (ahead d there)
        ((omega arith, omega (arith, same, room, low)), (its t is).0, (old.mission t m has).place.track) e)),
  )
    where
      counted : Kept line c stamp (record k { announced = k.announced + 1 })
      counted =
          record {
            clock = old.clock;
            announced = omega (arith, same, room);
            out = old.out;
            heard = old.heard;
            mission = old.mission;
            wait = old.wait;
            expects = old.expects;
          }
  moves _ _ (recalls t m h k is has stands none) old = (
    with_change line c stamp k t no_handover old (λ n at. unhanded_range line ok c n (old.mission t n at)),
    called_off t m h k old is has stands,
  )
  moves _ _ (closes t m k has none) old = (gone t k old, none_sent line c)
  moves _ _ (closes_handed t m h k is has stands) old = (
    with_change line c stamp (set_mission t None k).state t no_handover (gone t k old)
        (λ n at. unhanded_range line ok c n ((gone t k old).mission t n at)),
    called_off t m h k old is has stands,
  )
  moves _ _ (yields t m h k is so has stands) old = let fine = old.mission t m has in
      let to = fine.handing h stands in (
        gone t k old,
        to_one line c h.to (Yield h.number t (option_map_or (λ n. n) (k.heard t) 0) m.has_data m.is_ended
            (yielded_place m.place) m.hand) to.1
            (to.0, (its t is).0, last (k.heard t) (old.heard t), fine.place, fine.hand),
      )
    where
      last : (o : Option ℕ) → ((time : ℕ) → o ≡ Some time → time < unknown_time)
          → option_map_or (λ n. n) o 0 ≤ 4294967294
      last (Some time) known = omega (arith, known time refl)
      last None known = omega arith
  moves _ _ (sets t o k turn) old = (with_mission_of line c stamp k t o old (turned t o k old turn), none_sent line c)
  moves _ _ (changes t f k change) old =
      (with_change line c stamp k t f old (changed t f k old change), none_sent line c)
  moves k q move old = (old, none_sent line c)

  -- ## Each answer

  lent_range : (first most : ℕ) → HasRunRange 1 31 (record { first = first; count = most })
      → HasRunRange 0 31 (lendable line c was first most)
  lent_range first most is =
      let few = longest_few (λ s. is_free line c was s && has (λ p. is_on line p.track s) (section line first))
      first most in
      let low = is.first in let last = is.last in let high = is.count.1 in
      record { first = low; count = (omega arith, omega (arith, few, high)); last = omega (arith, few, last) }

  pub answered : (d : ℕ) (body : Body) → is_linked line c d ≡ true → HasBodyRange body → (q : Reply)
      → Answer line c may was d body q → Kept line c stamp was → Leaves line c stamp q
  answered d _ from is _ (gives t here has) old = (old, to_one line c d (GiveRight t) from is)
  answered d _ from is _ (refuses t here) old = (old, to_one line c d (RefuseRight t) from is)
  answered d _ from is _ (begins_at t place asked at none) old =
      (with_wait line c stamp was t None old (λ p none. cc), none_sent line c)
  answered d _ from is _ (drops t place so asked at) old = (
    with_wait line c stamp (freed line c (is_taken_for t) (covered line place) was).state t None
        (freed_in (is_taken_for t) (covered line place) was old) (λ p none. cc),
    none_sent line c,
  )
  answered d _ from is _ (lends_some t first most there) old = (
    with_book line c stamp was _ old (λ s. if_out (within (lendable line c was first most) s && is_open (was.book s))
        (Out t) (was.book s) (out_for t is.0) (old.out s)),
    to_one line c d (RouteInfo t (lendable line c was first most)) from (is.0, lent_range first most is.1),
  )
  answered d body from is q answer old = (old, none_sent line c)

  joins : (a b : Act) (k : Centre) → (Kept line c stamp k → Leaves line c stamp (a k))
      → (Kept line c stamp (a k).state → Leaves line c stamp (b (a k).state)) → Kept line c stamp k
      → Leaves line c stamp ((a >> b) k)
  unfolding ◌>>◌
  joins a b k one two old = let first = one old in let second = two first.0 in (
    second.0,
    λ d. All-append (IsSentInRange line c d) ((a k).frames d) ((b (a k).state).frames d)
        (first.1 d) (second.1 d),
  )

  pub closed : Closed line c may was (λ k q. Kept line c stamp k → Leaves line c stamp q)
  closed = record { moves = moves; joins = joins }
