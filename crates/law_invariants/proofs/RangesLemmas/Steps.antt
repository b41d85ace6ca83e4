-- A step that is not refused leaves a centre in its ranges, and each of its frames has its own.
use Rattle.std.proofs.Common.{[], ⊎_elim, ◌+◌, ◌<◌, ◌∷◌, ◌≡◌, ◌≤◌, All, arith, Bool, false, if◌then◌else◌, inl, inr}
use Rattle.std.proofs.Common.{length, List, nat_lt, None, Option, refl, Some, subst, sym, true, ℕ}
use Rattle.std.proofs.lemmas.Bool.{ltb-false}
use Rattle.std.proofs.lemmas.List.Elements.{All-cons, All-head, All-nil, All-tail}
use Rattle.std.specs.Option.{option_map_or}
use Rattle.law_base.proofs.RulesLemmas.SentTaken.{counted}
use Rattle.law_base.proofs.WalkLemmas.Causes.{setting}
use Rattle.law_base.proofs.WalkLemmas.FrameAnswers.{of_taking, received_taking}
use Rattle.law_base.proofs.WalkLemmas.Frames.{frame_may}
use Rattle.law_base.proofs.WalkLemmas.Moves.{of_walk, Walk}
use Rattle.law_base.proofs.WalkLemmas.Steps.{clock_kept, heard_train, heard_walks, may_do, set_walks, stamp_above}
use Rattle.law_base.proofs.WalkLemmas.Steps.{unset_walks}
use Rattle.law_base.specs.Rules.Sending.{BringsFew, HoldsFew, IsCountedInRange, TakesFew}
use Rattle.law_base.specs.Walk.Trains.{train_of}
use Rattle.law_invariants.proofs.RangesLemmas.Basics.{known_engine, linked_centre, of_some}
use Rattle.law_invariants.proofs.RangesLemmas.Kept.{Kept, Leaves, none_sent, with_heard}
use Rattle.law_invariants.proofs.RangesLemmas.Moves.{answered, closed}
use Rattle.law_invariants.specs.Ranges.Ranges.{HasEventRanges, HasMessageRanges, HasStateParts, HasStateRanges}
use Rattle.law_invariants.specs.Ranges.Ranges.{IsSentInRange}
use Rattle.law_invariants.specs.Ranges.Stays.{IsFrameInRange, SendsInRange, StaysInRange}
use Rattle.rbc_spec.specs.Acts.{◌>>◌, hear, Reply, rest}
use Rattle.rbc_spec.specs.Centre.{beginning, Centre}
use Rattle.rbc_spec.specs.Frame.{Announce, AskRight, Body, Cancel, Frame, GiveRight, HasBodyRange, IsEngine, last_stamp}
use Rattle.rbc_spec.specs.Frame.{RefuseRight, ReturnRight, RouteAsk, RouteInfo, RouteReturn, RouteWithdraw, TakingOver}
use Rattle.rbc_spec.specs.Frame.{Yield}
use Rattle.rbc_spec.specs.Line.{is_centre, is_linked, IsLine, Line}
use Rattle.rbc_spec.specs.Links.{received}
use Rattle.rbc_spec.specs.Maps.{put}
use Rattle.rbc_spec.specs.Message.{TrainMessage, unknown_time}
use Rattle.rbc_spec.specs.Outcome.{Early, Next, NoLink, Old, Reason, Taken as LinkAnswer}
use Rattle.rbc_spec.specs.SectionRuns.{next_after}
use Rattle.rbc_spec.specs.Step.{ClockEnd, Deliver, Effect, effect, Event, has_full_link, hear_and_answer, LinkFull}
use Rattle.rbc_spec.specs.Step.{numbered, offered, refusal, Set, set, silence, stamp_of, taken_by, ticked, Train, Unset}
use Rattle.rbc_spec.specs.Step.{unset}

pub begins_in_range : (line : Line) (c : ℕ) → HasStateRanges line c (beginning line c)
unfolding beginning
begins_in_range line c = record {
  clock = omega arith;
  announced = omega arith;
  out = λ s t is. cc;
  heard = λ t time is. cc;
  mission = λ t m is. cc;
  wait = λ t place is. cc;
  expects = λ d t e is. cc;
}

-- ## The stamp

stamp_low : (line : Line) (c : ℕ) (k : Centre) (event : Event) → refusal line c k event ≡ None
    → stamp_of k event ≤ last_stamp
stamp_low line c k event none = ltb-false last_stamp (stamp_of k event)
    (not_past (nat_lt last_stamp (stamp_of k event)) (has_full_link line c k) none)
  where
    not_past : (a b : Bool) → (if a then Some ClockEnd else (if b then Some LinkFull else None)) ≡ None → a ≡ false
    not_past true b h = cc
    not_past false b h = refl

engine_of : (body : Body) → HasBodyRange body → IsEngine (train_of body)
engine_of (AskRight t) is = is
engine_of (GiveRight t) is = is
engine_of (RefuseRight t) is = is
engine_of (ReturnRight t) is = is
engine_of (RouteAsk t first most) is = is.0
engine_of (RouteInfo t r) is = is.0
engine_of (RouteWithdraw t s) is = is.0
engine_of (RouteReturn t r) is = is.0
engine_of (Announce number t track) is = is.1
engine_of (Cancel number t) is = is.1
engine_of (TakingOver number t) is = is.1
engine_of (Yield number t heard has_data is_ended place hand) is = is.1

-- the clock of the step is its stamp
module _ (line : Line) (ok : IsLine line) (c stamp : ℕ) where
  abbrev Goes : Centre → Reply → Type 0
  Goes k q = Kept line c stamp k → Leaves line c stamp q

  of_one : (t : ℕ) → IsEngine t → is_centre line c ≡ true → (u : ℕ) → Some t ≡ Some u
      → IsEngine u × (is_centre line c ≡ true)
  of_one t engine centre = of_some (λ u. IsEngine u × (is_centre line c ≡ true)) t (engine, centre)

  message : (m : TrainMessage) (k : Centre) → is_centre line c ≡ true → HasMessageRanges m → k.announced < stamp
      → (o : Option Reason) → silence line c k m ≡ o
      → Goes k (option_map_or {U = Effect} (λ why. record { reply = rest k; link = None; silence = Some why }) o
      (record { reply = hear_and_answer line c m k; link = None; silence = None })).reply
  message m k centre range room (Some why) is old = (old, none_sent line c)
  message m k centre range room None is old =
      let was : Centre = (hear m k).state in
      let heard = with_heard line c stamp k m.nid_engine (Some m.t_train) old
      (of_some (λ x. x < unknown_time) m.t_train range.t_train) in
      of_walk line c (may_do m m.body) was (Goes)
      (closed line ok c stamp (may_do m m.body)
      (of_one m.nid_engine (known_engine line ok m.nid_engine (heard_train line c k m is)) centre)
      range was heard room)
      k (hear_and_answer line c m k) (heard_walks line c m k) old

  frame : (d : ℕ) (body : Body) (k : Centre) → is_linked line c d ≡ true → HasBodyRange body → k.announced < stamp
      → Goes k (received line c d body k)
  frame d body k from is room old =
      let its = of_one (train_of body) (engine_of body is) (linked_centre line c d from) in
      of_taking line c d k body Goes (closed line ok c stamp (frame_may d body) its (from, is) k old room)
      (answered line ok c stamp (frame_may d body) its (from, is) k old room d body from is) (received line c d body k)
      (received_taking line c d k body) old

  delivered : (d : ℕ) (f : Frame) (k : Centre) → HasBodyRange f.body → k.announced < stamp → (b : Bool)
      → is_linked line c d ≡ b → Goes k (taken_by line c d f (if b then offered (k.taken d) f.number else NoLink) k)
  unfolding ◌>>◌
  delivered d f k is room false away old = (old, none_sent line c)
  delivered d f k is room true from old = by_answer (offered (k.taken d) f.number)
    where
      by_answer : (answer : LinkAnswer) → Leaves line c stamp (taken_by line c d f answer k)
      by_answer Next = frame d f.body (record k { taken = put k.taken d f.number }) from is room old
      by_answer Old = (old, none_sent line c)
      by_answer Early = (old, none_sent line c)
      by_answer NoLink = (old, none_sent line c)

  wish : (k : Centre) → Kept line c stamp k → k.announced < stamp → (q : Reply) → Walk line c setting k k q → Goes k q
  wish k old room q =
      of_walk line c setting k Goes (closed line ok c stamp setting (λ t is. cc) (record {}) k old room) k q

  effects : (event : Event) (k : Centre) → HasEventRanges line c event → k.announced < stamp
      → Goes k (effect line c k event).reply
  effects (Train m) k range room old = message m k range.0 range.1 room (silence line c k m) refl old
  effects (Set s) k range room old = wish k old room (set line c s k) (set_walks line c setting k refl s k) old
  effects (Unset s) k range room old = wish k old room (unset line c s k) (unset_walks line c setting k refl s k) old
  effects (Deliver d f) k range room old = delivered d f k range room (is_linked line c d) refl old

module _ (line : Line) (ok : IsLine line) (c : ℕ) where
  pub stays_in_range : (k : Centre) (event : Event) → HasEventRanges line c event → HasStateRanges line c k
      → refusal line c k event ≡ None → StaysInRange line c k event
  stays_in_range k event range old none =
      let stamp : ℕ = stamp_of k event in
      let above = stamp_above k event in
      let low = stamp_low line c k event none in
      let count = old.announced in
      let now : Kept line c stamp k =
      record {
        clock = low;
        announced = omega (arith, above, count);
        out = old.out;
        heard = old.heard;
        mission = old.mission;
        wait = old.wait;
        expects = old.expects;
      } in
      let after = effects line ok c stamp event (ticked stamp k) range (omega (arith, above, count)) now in
      let y : Centre = (effect line c (ticked stamp k) event).reply.state in
      record {
        centre = subst (λ x. HasStateParts line c x y.announced y.book y.heard y.mission y.wait y.expects)
            (sym (clock_kept line c event (ticked stamp k))) after.0;
        bodies = after.1;
      }

-- ## Its frames

pub holds_few : (line : Line) (c : ℕ) (k : Centre) → HasStateRanges line c k → HoldsFew line k
holds_few line c k old = record {
  missions = λ t m at. let is = old.mission t m at in let hand = is.hand.count.1 in let pool = is.pool in
      omega (arith, hand, pool);
  pools = λ t m at. ⊎_elim (λ (none : m.pool.count ≡ 0). inl none)
      (λ (after : m.pool.first ≡ next_after m.hand). inr (omega (arith, after))) (old.mission t m at).follows;
  waits = λ t place at. let few = (old.wait t place at).hand.count.1 in omega (arith, few);
}

brings_few : (body : Body) → HasBodyRange body → BringsFew body
brings_few (RouteReturn t r) range = let few = range.1.count.1 in omega (arith, few)
brings_few body range = tt

pub takes_few : (line : Line) (c : ℕ) (event : Event) → HasEventRanges line c event → TakesFew event
takes_few line c (Deliver d f) range = brings_few f.body range
takes_few line c event range = tt

-- bodies in range as frames, which are counted if there is a link
frames_range : (line : Line) (c d stamp n : ℕ) (bodies : List Body) → All (IsSentInRange line c d) bodies
    → (is_linked line c d ≡ true → All IsCountedInRange (numbered stamp n bodies))
    → All (IsFrameInRange line c d) (numbered stamp n bodies)
frames_range line c d stamp n [] sent count = All-nil (IsFrameInRange line c d)
frames_range line c d stamp n (b ∷ bs) sent count =
    let one = All-head (IsSentInRange line c d) b bs sent in
    let all = count one.linked in
    let first : Frame = record { number = n + 1; stamp = stamp; body = b } in
    let is = All-head IsCountedInRange first (numbered stamp (n + 1) bs) all in
    All-cons (IsFrameInRange line c d) first (numbered stamp (n + 1) bs)
    (record { linked = one.linked; ranges = record { number = is.number; stamp = is.stamp; body = one.body } })
    (frames_range line c d stamp (n + 1) bs (All-tail (IsSentInRange line c d) b bs sent)
    (λ linked. All-tail IsCountedInRange first (numbered stamp (n + 1) bs) all))

pub sends_in_range : (line : Line) → IsLine line → (c : ℕ) (k : Centre) (event : Event) → HasEventRanges line c event
    → HasStateRanges line c k → refusal line c k event ≡ None
    → SendsInRange line c k event
sends_in_range line ok c k event range old none d =
    let after = stays_in_range line ok c k event range old none in
    frames_range line c d (stamp_of k event) (length (k.sent d))
    ((effect line c (ticked (stamp_of k event) k) event).reply.frames d) (after.bodies d)
    (λ linked. counted d line c k event (holds_few line c k old) (takes_few line c event range) linked none)
