-- The next frame of a link is due, and no step of a centre loses a question.
use Rattle.std.proofs.Common.{◌&&◌, ◌+◌, ◌<◌, ◌==◌, ◌∙◌, ◌≡◌, ◌≢◌, ◌≤◌, ap, arith, Bool, false, if◌then◌else◌, is_none}
use Rattle.std.proofs.Common.{ltb-true, None, not, Option, option_map, refl, Some, subst, sym, true, ℕ}
use Rattle.std.proofs.lemmas.Bool.{and_from, and_parts, eqb-true}
use Rattle.std.specs.Option.{option_map_or}
use Rattle.law_base.proofs.CountingLemmas.Chain.{chain_took}
use Rattle.law_base.proofs.CountingLemmas.Network.{each_head}
use Rattle.law_base.proofs.CountingLemmas.Places.{held_carried_le_placed}
use Rattle.law_base.proofs.CountingLemmas.Resource.{carried_more}
use Rattle.law_base.proofs.CountingLemmas.Sums.{one_if_some, one_if_true}
use Rattle.law_base.proofs.WalkLemmas.Causes.{setting}
use Rattle.law_base.proofs.WalkLemmas.FrameAnswers.{received_taking}
use Rattle.law_base.proofs.WalkLemmas.Steps.{heard_train, heard_walks, may_do, set_walks, unset_walks}
use Rattle.law_base.specs.Counting.Network.{EachOnTheWay, TakesHead, took, way}
use Rattle.law_base.specs.Counting.Resource.{carried, placed, sent_by as all_sent}
use Rattle.law_base.specs.Counting.Sums.{one_if}
use Rattle.law_base.specs.Walk.Trains.{train_of}
use Rattle.law_invariants.proofs.FlowLemmas.Lists.{some_cap}
use Rattle.law_invariants.proofs.FlowLemmas.Taken.{body_sound, is_taken}
use Rattle.law_invariants.proofs.NoLossLemmas.Looked.{looked_for, right_comes}
use Rattle.law_invariants.proofs.NoStrayLemmas.Acts.{Comes, Goes, goes_rest, IsAnswering}
use Rattle.law_invariants.proofs.NoStrayLemmas.Moves.{comes_taken, of_moves}
use Rattle.law_invariants.proofs.NoUnaskedLemmas.Asking.{comes_with, none_comes, of_line}
use Rattle.law_invariants.proofs.NoUnaskedLemmas.Steps.{of_no_train}
use Rattle.law_invariants.specs.Flow.Flow.{centre_count, Flow}
use Rattle.law_invariants.specs.Flow.Pairs.{follows, is_number}
use Rattle.law_invariants.specs.Flow.Sound.{IsBodySound, IsFlowSound}
use Rattle.law_invariants.specs.Handover.Steps.{IsByItself, left_by, sent_by}
use Rattle.law_invariants.specs.NoCopy.Stray.{has_place_for}
use Rattle.law_invariants.specs.NoStray.Due.{IsDue}
use Rattle.law_invariants.specs.NoStray.Questions.{HasKnownOuts, IsBodyKnown}
use Rattle.law_invariants.specs.NoUnasked.Asked.{IsAsked, IsBodyAsked, OfRight, OfRoute, Question, questions}
use Rattle.rbc_spec.proofs.Lists.{itself, none_is}
use Rattle.rbc_spec.specs.Acts.{◌>>◌, become, hear, rest}
use Rattle.rbc_spec.specs.Centre.{Centre, Expectation}
use Rattle.rbc_spec.specs.Frame.{Announce, AskRight, Body, Cancel, Frame, GiveRight, RefuseRight, ReturnRight, RouteAsk}
use Rattle.rbc_spec.specs.Frame.{RouteInfo, RouteReturn, RouteWithdraw, TakingOver, Yield}
use Rattle.rbc_spec.specs.Line.{is_centre, is_home, IsLine, Line}
use Rattle.rbc_spec.specs.Links.{is_of_line, is_train, is_under, received}
use Rattle.rbc_spec.specs.Maps.{has, put}
use Rattle.rbc_spec.specs.Message.{TrainMessage}
use Rattle.rbc_spec.specs.Outcome as outcome
use Rattle.rbc_spec.specs.Outcome.{Early, Next, NoLink, Old, Reason}
use Rattle.rbc_spec.specs.SectionRuns.{all_of}
use Rattle.rbc_spec.specs.Step as step
use Rattle.rbc_spec.specs.Step.{Deliver, Effect, effect, Event, hear_and_answer, link_answer, Set, set, stamp_of}
use Rattle.rbc_spec.specs.Step.{state_after, taken_by, ticked, Train, Unset, unset}

-- # A frame at the head of a link of a sound flow is due.

not_so : (b : Bool) → not b ≡ true → b ≡ false
not_so true is = cc
not_so false is = refl

none_expected : (o : Option Expectation) → is_none (option_map (λ (e : Expectation). e.number) o) ≡ true → o ≡ None
none_expected None is = refl
none_expected (Some e) is = cc

under : (number : ℕ) (o : Option Expectation) → is_number number (option_map (λ (e : Expectation). e.number) o) ≡ true
    → is_under number o ≡ true
under number None is = cc
under number (Some e) is = is

asked_from : (first : ℕ) (o : Option ℕ) → has (λ n. n == first) o ≡ true → o ≡ Some first
asked_from first None is = cc
asked_from first (Some n) is = ap (λ (m : ℕ). Some m) (eqb-true n first is)

may_come : (b : Bool) (next mid : Option ℕ) → (if b then Some next else None) ≡ Some mid → b ≡ true
may_come true next mid is = refl
may_come false next mid is = cc

pub known_head : (line : Line) (w : Flow) → EachOnTheWay (IsBodyKnown line) w → (a c : ℕ) (f : Body)
    → TakesHead w a c f → IsBodyKnown line a c f
known_head line w bodies a c f takes = each_head (IsBodyKnown line) w a c f takes bodies

module _ (line : Line) (ok : IsLine line) (w : Flow) (sound : IsFlowSound line w) (asked : IsAsked line w)
    (bodies : EachOnTheWay (IsBodyKnown line) w) (a c : ℕ) (from : is_centre line a ≡ true)
    (to : is_centre line c ≡ true) where
  small : a < centre_count line
  small = ltb-true a (centre_count line) from

  below : c < centre_count line
  below = ltb-true c (centre_count line) to

  -- the refused question is pending
  refused_stands : (t : ℕ) → TakesHead w a c (RefuseRight t) → (w.at c).has_asked t ≡ true
  refused_stands t takes =
      at_asker (some_cap (questions x c) (centre_count line) w (omega (arith, there, (asked.questions x c).law)))
    where
      x : Question
      x = OfRight t

      there : 1 ≤ placed (questions x c) (centre_count line) w
      there = omega (
        arith,
        held_carried_le_placed (questions x c) (centre_count line) w c a c below small below,
        ap (carried (questions x c) a c) takes.head,
        carried_more (questions x c) a c (RefuseRight t) (way (took w a c) a c),
        one_if_true ((t == t) && (c == c)) (and_from (t == t) (c == c) (itself t) (itself c)),
      )

      at_asker : (h : ℕ) × (h < centre_count line) × (0 < one_if ((h == c) && (w.at h).has_asked t))
          → (w.at c).has_asked t ≡ true
      at_asker found = let both = and_parts (found.0 == c) ((w.at found.0).has_asked t)
          (one_if_some ((found.0 == c) && (w.at found.0).has_asked t) found.2) in
          subst (λ h. (w.at h).has_asked t ≡ true) (eqb-true found.0 c both.0) both.1

  -- a frame with something inside has its place
  placed_so : (f : Body) → (is_train line (train_of f) && has_place_for line c a (w.at c) f) ≡ true
      → has_place_for line c a (w.at c) f ≡ true
  placed_so f is = (and_parts (is_train line (train_of f)) (has_place_for line c a (w.at c) f) is).1

  pub due_head : (f : Body) → TakesHead w a c f → IsDue line a c (w.at c) f
  due_head (AskRight t) takes = (known_head line w bodies a c (AskRight t) takes).sent
  due_head (GiveRight t) takes =
      let free = right_comes line w a c t (GiveRight t) sound from to takes (ap one_if (itself t)) in
      let asks = and_parts ((w.at c).has_asked t) (not ((w.at c).has_right t))
      (placed_so (GiveRight t) (looked_for line ok w sound asked a c from to (GiveRight t) takes)) in
      (asks.0, not_so ((w.at c).has_right t) free.no_right, none_is ((w.at c).mission t) free.no_mission)
  due_head (RefuseRight t) takes = refused_stands t takes
  due_head (ReturnRight t) takes =
      let free = right_comes line w a c t (ReturnRight t) sound from to takes (ap one_if (itself t)) in (
        each_head (IsBodyAsked line) w a c (ReturnRight t) takes asked.bodies,
        not_so ((w.at c).has_right t) free.no_right,
        none_is ((w.at c).mission t) free.no_mission,
      )
  due_head (RouteAsk t first most) takes = each_head (IsBodyAsked line) w a c (RouteAsk t first most) takes asked.bodies
  due_head (RouteInfo t r) takes =
      let place = placed_so (RouteInfo t r) (looked_for line ok w sound asked a c from to (RouteInfo t r) takes) in
      let one = and_parts (has (λ first. first == r.first) ((w.at c).route_ask t)
      && (is_of_line line r && is_home line a r.first)) (all_of (is_home line a) r) place in
      let two = and_parts (has (λ first. first == r.first) ((w.at c).route_ask t)) (is_of_line line r
      && is_home line a r.first) one.0 in
      let three = and_parts (is_of_line line r) (is_home line a r.first) two.1 in
      (asked_from r.first ((w.at c).route_ask t) two.0, three.0, three.1, one.1)
  due_head (RouteWithdraw t s) takes = (known_head line w bodies a c (RouteWithdraw t s) takes).sent
  due_head (RouteReturn t r) takes = (
    (each_head (IsBodyAsked line) w a c (RouteReturn t r) takes asked.bodies).1,
    placed_so (RouteReturn t r) (looked_for line ok w sound asked a c from to (RouteReturn t r) takes),
  )
  due_head (Announce number t track) takes =
      let led = chain_took (follows t) w a c (Announce number t track) _ _ takes (sound.pairs a c t from to).chain in
      let so = sym
      (ap (λ b. if b then (if is_none (option_map (λ (e : Expectation). e.number) ((w.at c).expects a t)) then Some
      (Some number) else None) else Some (option_map (λ (e : Expectation). e.number) ((w.at c).expects a t)))
      (itself t)) ∙ led.1 in (
        (each_head (IsBodySound line) w a c (Announce number t track) takes sound.bodies).1,
        none_expected ((w.at c).expects a t)
            (may_come (is_none (option_map (λ (e : Expectation). e.number) ((w.at c).expects a t)))
            (Some number) led.0 so),
      )
  due_head (Cancel number t) takes =
      let led = chain_took (follows t) w a c (Cancel number t) _ _ takes (sound.pairs a c t from to).chain in
      let so = sym
      (ap (λ b. if b then (if is_number number (option_map (λ (e : Expectation). e.number) ((w.at c).expects a t))
      then Some None else None) else Some (option_map (λ (e : Expectation). e.number) ((w.at c).expects a t)))
      (itself t)) ∙ led.1 in
      under number ((w.at c).expects a t)
      (may_come (is_number number (option_map (λ (e : Expectation). e.number) ((w.at c).expects a t)))
      None led.0 so)
  due_head (TakingOver number t) takes = record {}
  due_head (Yield number t heard has_data is_ended carried hand) takes =
      let whole = body_sound line w sound a c number t heard has_data is_ended carried hand
      from to small below takes in (
        whole.place,
        whole.is_carried,
        is_taken line w sound a c number t heard has_data is_ended carried
            hand from to small below takes,
      )

-- # No step of a centre loses a question, by itself or at the head of a link with a frame that is due.

-- whether a frame is due does not depend on the clock and on the counts of taken frames
same_due : (line : Line) (a c stamp : ℕ) (taken : ℕ → ℕ) (k : Centre) (f : Body) → IsDue line a c k f
    → IsDue line a c (record k { clock = stamp; taken = taken }) f
same_due line a c stamp taken k (AskRight t) is = is
same_due line a c stamp taken k f is = is

module _ (line : Line) (ok : IsLine line) (c : ℕ) where
  -- ## By itself

  goes_message : (m : TrainMessage) (k : Centre) (o : Option Reason) → step.silence line c k m ≡ o → HasKnownOuts line k
      → Goes line c k (option_map_or {U = Effect} (λ why. record { reply = rest k; link = None; silence = Some why }) o
      (record { reply = hear_and_answer line c m k; link = None; silence = None })).reply
  goes_message m k (Some why) is outs = goes_rest line c k
  goes_message m k None is outs = of_moves line ok c (may_do m m.body)
      (of_line line (may_do m m.body) m.nid_engine refl (heard_train line c k m is)) (hear m k).state k
      (hear_and_answer line c m k) (heard_walks line c m k) outs

  goes_frame : (d : ℕ) (f : Frame) (k : Centre) (answer : outcome.Taken) → answer ≢ Next
      → Goes line c k (taken_by line c d f answer k)
  goes_frame d f k Next other = absurd (other refl)
  goes_frame d f k Old other = goes_rest line c k
  goes_frame d f k Early other = goes_rest line c k
  goes_frame d f k NoLink other = goes_rest line c k

  goes_event : (event : Event) (k : Centre) → IsByItself line c k event → HasKnownOuts line k
      → Goes line c k (effect line c k event).reply
  goes_event (Train m) k by_itself outs = goes_message m k (step.silence line c k m) refl outs
  goes_event (Set s) k by_itself outs = of_moves line ok c setting (of_no_train line) k k (set line c s k)
      (set_walks line c setting k refl s k) outs
  goes_event (Unset s) k by_itself outs = of_moves line ok c setting (of_no_train line) k k (unset line c s k)
      (unset_walks line c setting k refl s k) outs
  goes_event (Deliver d f) k by_itself outs = goes_frame d f k (link_answer line c k d f) by_itself

  same_itself : (event : Event) (stamp : ℕ) (k : Centre) → IsByItself line c k event
      → IsByItself line c (ticked stamp k) event
  same_itself (Train m) stamp k is = is
  same_itself (Set s) stamp k is = is
  same_itself (Unset s) stamp k is = is
  same_itself (Deliver d f) stamp k is = is

  -- whether a question is pending does not depend on the clock and on the frames sent before
  of_step : (came : Question → ℕ → ℕ) (k : Centre) (stamp : ℕ) (e : Effect) → Comes line c came (ticked stamp k) e.reply
      → IsAnswering line c came k (state_after stamp k e) e.reply.frames
  of_step came k stamp e is =
      record {
        law = by_question;
        bodies = is.bodies;
        outs = λ old. record { each = (is.outs (record { each = old.each })).each };
        waits =
            λ old. record { each = (is.waits (record { each = old.each })).each };
      }
    where
      by_question : (x : Question) (d : ℕ) → came x d + (questions x d).cap c (state_after stamp k e)
          ≤ all_sent (questions x d) (centre_count line) c e.reply.frames + (questions x d).cap c k
      by_question (OfRight t) d = is.law (OfRight t) d
      by_question (OfRoute t first) d = is.law (OfRoute t first) d

  pub step_answering : (event : Event) (k : Centre) → IsByItself line c k event → HasKnownOuts line k
      → IsAnswering line c none_comes k (left_by line c k event) (sent_by line c k event)
  step_answering event k by_itself outs =
      of_step none_comes k (stamp_of k event) (effect line c (ticked (stamp_of k event) k) event)
      (goes_event event (ticked (stamp_of k event) k) (same_itself event (stamp_of k event) k by_itself)
      (record { each = outs.each }))

  -- ## At the head of a link

  module _ (a : ℕ) (f : Frame) (small : a < centre_count line) (known : is_train line (train_of f.body) ≡ true) where
    comes_next : (k : Centre) → IsDue line a c k f.body → HasKnownOuts line k
        → Comes line c (comes_with a c f.body) k (taken_by line c a f Next k)
    unfolding ◌>>◌
    comes_next k due outs =
        counted (comes_taken line ok c a f.body j (received line c a f.body j) small known
        (same_due line a c k.clock (put k.taken a f.number) k f.body due) (record { each = outs.each })
        (received_taking line c a j f.body))
      where
        j : Centre
        j = (become (λ i. record i { taken = put i.taken a f.number }) k).state

        counted : Comes line c (comes_with a c f.body) j (received line c a f.body j)
            → Comes line c (comes_with a c f.body) k (taken_by line c a f Next k)
        counted comes =
            record {
              law = by_question;
              bodies = comes.bodies;
              outs = λ old. comes.outs (record { each = old.each });
              waits = λ old. comes.waits (record { each = old.each });
            }
          where
            by_question : (x : Question) (d : ℕ) → comes_with a c f.body x d
                + (questions x d).cap c (taken_by line c a f Next k).state
                ≤ all_sent (questions x d) (centre_count line) c (taken_by line c a f Next k).frames
                + (questions x d).cap c k
            by_question (OfRight t) d = comes.law (OfRight t) d
            by_question (OfRoute t first) d = comes.law (OfRoute t first) d

    pub taken_answering : (k : Centre) → link_answer line c k a f ≡ Next → IsDue line a c k f.body → HasKnownOuts line k
        → IsAnswering line c (comes_with a c f.body) k (left_by line c k (Deliver a f)) (sent_by line c k (Deliver a f))
    taken_answering k next due outs = of_step (comes_with a c f.body) k (stamp_of k (Deliver a f))
        (effect line c (ticked (stamp_of k (Deliver a f)) k) (Deliver a f))
        (by_answer (link_answer line c k a f) next)
      where
        by_answer : (answer : outcome.Taken) → answer ≡ Next
            → Comes line c (comes_with a c f.body) (ticked (stamp_of k (Deliver a f)) k)
            (taken_by line c a f answer (ticked (stamp_of k (Deliver a f)) k))
        by_answer Next at = comes_next (ticked (stamp_of k (Deliver a f)) k)
            (same_due line a c (stamp_of k (Deliver a f)) k.taken k f.body due) (record { each = outs.each })
        by_answer Old at = cc
        by_answer Early at = cc
        by_answer NoLink at = cc
