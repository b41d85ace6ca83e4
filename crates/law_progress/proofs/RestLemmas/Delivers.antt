-- The head of a link can be delivered, and is less work then.
use Rattle.std.proofs.Common.{[], ⊎_elim, ◌&&◌, ◌+◌, ◌-◌, ◌<◌, ◌==◌, ◌∙◌, ◌∷◌, ◌≡◌, ◌≢◌, ◌≤◌, All, ap, arith, Bool}
use Rattle.std.proofs.Common.{drop, Err, false, if◌then◌else◌, List, ltb-true, map, nat_le, ne_eqb, None, not, Ok}
use Rattle.std.proofs.Common.{Option, refl, slice_get, Some, subst, suc, sym, true, zero, ℕ}
use Rattle.std.proofs.lemmas.Bool.{cases_eq}
use Rattle.std.proofs.lemmas.Option.{same_Some}
use Rattle.std.specs.Option.{option_map_or}
use Rattle.law_base.proofs.CountingLemmas.Network.{counted_took}
use Rattle.law_base.proofs.CountingLemmas.Places.{placed_parts}
use Rattle.law_base.proofs.CountingLemmas.Resource.{carried_none, placed_acted, placed_took}
use Rattle.law_base.proofs.CountingLemmas.Sums.{links_some, sum_zero}
use Rattle.law_base.proofs.LocalLemmas.Worlds.{world_of}
use Rattle.law_base.specs.Counting.Network.{TakesHead, took, way}
use Rattle.law_base.specs.Counting.Resource.{carried, placed}
use Rattle.law_invariants.proofs.FlowLemmas.Seats.{way_is}
use Rattle.law_invariants.proofs.FlowLemmas.Steps.{at_head, is_next, next_sent}
use Rattle.law_invariants.proofs.FlowLemmas.Takes.{deliver_taken}
use Rattle.law_invariants.proofs.HandoverLemmas.Worlds.{linked_next, sent_between}
use Rattle.law_invariants.specs.Flow.Flow.{centre_count, flow_of, in_world}
use Rattle.law_invariants.specs.Flow.Numbers.{IsNumbered, taken_after}
use Rattle.law_invariants.specs.Flow.Sound.{IsFlowSound}
use Rattle.law_invariants.specs.Handover.Steps.{left_by, sent_by}
use Rattle.law_invariants.specs.NoCopy.Steps.{done}
use Rattle.law_invariants.specs.Ranges.Stays.{IsFrameInRange}
use Rattle.law_progress.proofs.RestLemmas.Load.{left_of, less_left, load}
use Rattle.law_progress.proofs.RestLemmas.Sends.{received_sends, Sends}
use Rattle.rbc_spec.proofs.Lists.{each_at, itself}
use Rattle.rbc_spec.specs.Acts.{◌>>◌}
use Rattle.rbc_spec.specs.Centre.{Centre}
use Rattle.rbc_spec.specs.Frame.{Frame}
use Rattle.rbc_spec.specs.Line.{is_centre, is_linked, Line}
use Rattle.rbc_spec.specs.Maps.{put}
use Rattle.rbc_spec.specs.Outcome as outcome
use Rattle.rbc_spec.specs.Outcome.{Early, Next, NoLink, Old, Outcome}
use Rattle.rbc_spec.specs.Step as centre
use Rattle.rbc_spec.specs.Step.{link_answer, offered, Refusal, refusal, stamp_of, step, taken, taken_by, ticked}
use Rattle.rbc_spec.specs.World as world
use Rattle.rbc_spec.specs.World.{Answer, Delivery, frame_sent, NotSent, stepped, takes, World, world_step}

-- ## Links go both ways

and_swap : (p q : Bool) → (p && q) ≡ (q && p)
and_swap true true = refl
and_swap true false = refl
and_swap false true = refl
and_swap false false = refl

same_swap : (a b : ℕ) → (a == b) ≡ (b == a)
same_swap a b = ⊎_elim (λ (same : a ≡ b). ap (λ x. x == b) same ∙ ap (λ x. b == x) (sym same))
    (λ (apart : a ≢ b). ne_eqb a b apart ∙ sym (ne_eqb b a (λ same. apart (sym same)))) (cases_eq a b)

pub linked_back : (line : Line) (a b : ℕ) → is_linked line a b ≡ true → is_linked line b a ≡ true
linked_back line a b is = sym same ∙ is
  where
    same : is_linked line a b ≡ is_linked line b a
    same = ap (λ x. x && not (a == b)) (and_swap (is_centre line a) (is_centre line b))
        ∙ ap (λ x. (is_centre line b && is_centre line a) && not x) (same_swap a b)

-- ## The head of a link

drop_head : (xs : List Frame) (i : ℕ) (f : Frame) (rest : List Frame) → drop i xs ≡ f ∷ rest → slice_get xs i ≡ Some f
drop_head [] zero f rest is = cc
drop_head [] (suc i) f rest is = cc
drop_head (x ∷ xs) zero f rest is = cc
drop_head (x ∷ xs) (suc i) f rest is = drop_head xs i f rest is

-- a frame that can be delivered: the next of its link
pub record IsHead (line : Line) (w : World) (a b number : ℕ) (f : Frame) : Type 0 where
  pub sent : frame_sent w a b number ≡ Some f
  pub next : link_answer line b (w.at b) a f ≡ Next

module _ (line : Line) (w : World) (numbered : IsNumbered w)
    (sent : (a b : ℕ) → All (IsFrameInRange line a b) ((w.at a).sent b)) where
  pub head_of : (a b : ℕ) (f : Frame) (rest : List Frame) → world.way w a b ≡ f ∷ rest
      → IsHead line w a b ((w.at b).taken a + 1) f
  head_of a b f rest is = record { sent = by_number; next = by_link }
    where
      get : slice_get ((w.at a).sent b) ((w.at b).taken a) ≡ Some f
      get = drop_head ((w.at a).sent b) ((w.at b).taken a) f rest is

      by_number : (if ((w.at b).taken a + 1) == 0 then None else slice_get ((w.at a).sent b)
          (((w.at b).taken a + 1) - 1)) ≡ Some f
      by_number = ap (λ z. if z then None else slice_get ((w.at a).sent b) (((w.at b).taken a + 1) - 1))
          (ne_eqb ((w.at b).taken a + 1) 0 (λ same. omega (arith, same)))
          ∙ (ap (slice_get ((w.at a).sent b)) (omega arith) ∙ get)

      linked : is_linked line b a ≡ true
      linked = linked_back line a b (each_at (IsFrameInRange line a b) ((w.at a).sent b)
          ((w.at b).taken a) f (sent a b) get).linked

      by_link : (if is_linked line b a then offered ((w.at b).taken a) f.number else NoLink) ≡ Next
      by_link = ap (λ z. if z then offered ((w.at b).taken a) f.number else NoLink) linked
          ∙ (ap (offered ((w.at b).taken a)) ((numbered.centres a).each b ((w.at b).taken a) f get)
          ∙ ap (λ z. if z then Next else (if nat_le ((w.at b).taken a + 1) ((w.at b).taken a) then Old else Early))
          (itself ((w.at b).taken a + 1)))

  -- if there is work, there is a head
  pub some_head : 0 < placed (load (centre_count line)) (centre_count line) (flow_of w) → (a : ℕ) × (b : ℕ)
      × (f : Frame) × IsHead line w a b ((w.at b).taken a + 1) f
  some_head some = by_way (world.way w link.0 link.1) refl
    where
      link : (a : ℕ) × (b : ℕ) × (a < centre_count line) × (b < centre_count line)
          × (0 < carried (load (centre_count line)) a b (way (flow_of w) a b))
      link = links_some (centre_count line) (λ a b. carried (load (centre_count line)) a b (way (flow_of w) a b))
          (omega (
            arith,
            some,
            placed_parts (load (centre_count line)) (centre_count line) (flow_of w),
            sum_zero (centre_count line) (λ c. 0) (λ c at. refl),
          ))

      by_way : (fs : List Frame) → world.way w link.0 link.1 ≡ fs → (a : ℕ) × (b : ℕ) × (f : Frame)
          × IsHead line w a b ((w.at b).taken a + 1) f
      by_way [] is =
          absurd (let none : carried (load (centre_count line)) link.0 link.1 (way (flow_of w) link.0 link.1) ≡ 0 =
          ap (carried (load (centre_count line)) link.0 link.1) (way_is w link.0 link.1
          ∙ ap (map (λ (f : Frame). f.body)) is) ∙ carried_none (load (centre_count line)) link.0 link.1 in
          omega (arith, link.4, none))
      by_way (f ∷ rest) is = (link.0, link.1, f, head_of link.0 link.1 f rest is)

-- ## Its delivery

module _ (line : Line) (w : World) (sound : IsFlowSound line (flow_of w)) (numbered : IsNumbered w) where
  stepped_to : (c : ℕ) (o : Option Refusal) (x : Outcome × Centre) (answer : Answer) (new : World)
      → stepped w c w.trains (option_map_or (λ why. Err why) o (Ok x)) ≡ Ok (answer, new)
      → in_world w c x.1 w.trains ≡ new
  stepped_to c (Some why) x answer new is = cc
  stepped_to c None x answer new is = ap (λ r. world_of w r) is

  takes_to : (c : ℕ) (event : centre.Event) (answer : Answer) (new : World)
      → takes line w c w.trains event ≡ Ok (answer, new) → in_world w c (left_by line c (w.at c) event) w.trains ≡ new
  unfolding step
  takes_to c event answer new = stepped_to c (refusal line c (w.at c) event) (taken line c event (w.at c)) answer new

  delivered_to : (a b number : ℕ) (f : Frame) (answer : Answer) (new : World) → frame_sent w a b number ≡ Some f
      → world_step line w (Delivery a b number) ≡ Ok (answer, new)
      → in_world w b (left_by line b (w.at b) (centre.Deliver a f)) w.trains ≡ new
  unfolding world_step
  delivered_to a b number f answer new sent is = of_frame (frame_sent w a b number) sent is
    where
      of_frame : (o : Option Frame) → o ≡ Some f
          → option_map_or (λ g. takes line w b w.trains (centre.Deliver a g)) o (Ok (NotSent, w)) ≡ Ok (answer, new)
          → in_world w b (left_by line b (w.at b) (centre.Deliver a f)) w.trains ≡ new
      of_frame None none done = cc
      of_frame (Some g) same done =
          subst (λ h. in_world w b (left_by line b (w.at b) (centre.Deliver a h)) w.trains ≡ new) (same_Some g f same)
          (takes_to b (centre.Deliver a g) answer new done)

  module _ (a b number : ℕ) (f : Frame) (head : IsHead line w a b number f) where
    between : (is_centre line a ≡ true) × (is_centre line b ≡ true)
    between = sent_between line w sound a b number f head.sent

    takes_head : TakesHead (flow_of w) a b f.body
    takes_head = next_sent w numbered a b number f head.sent
        (linked_next (is_linked line b a) ((w.at b).taken a) f.number head.next).1

    pub one_more : (x : ℕ) → (done line b (w.at b) (centre.Deliver a f)).reply.state.taken x
        ≡ put (w.at b).taken a ((w.at b).taken a + 1) x
    one_more x = ap (λ (g : ℕ → ℕ). g x) (deliver_taken line b a (stamp_of (w.at b) (centre.Deliver a f)) f (w.at b))
        ∙ ap (λ answer. taken_after a f answer (w.at b) x) head.next
        ∙ ap (λ n. put (w.at b).taken a n x)
        (is_next ((w.at b).taken a) f.number
        (linked_next (is_linked line b a) ((w.at b).taken a) f.number head.next).1)

    sends_little : (o : outcome.Taken) → o ≡ Next
        → Sends line b (left_of (centre_count line) f.body)
        (taken_by line b a f o (ticked (stamp_of (w.at b) (centre.Deliver a f)) (w.at b)))
    unfolding ◌>>◌
    sends_little Next is =
        record {
          law = (received_sends line b a f.body
              (record (w.at b)
              { clock = stamp_of (w.at b) (centre.Deliver a f); taken = put (w.at b).taken a f.number })).law;
        }
    sends_little Old is = cc
    sends_little Early is = cc
    sends_little NoLink is = cc

    -- the delivery leaves less work
    pub less_work : (answer : Answer) (new : World) → world_step line w (Delivery a b number) ≡ Ok (answer, new)
        → placed (load (centre_count line)) (centre_count line) (flow_of new) + 1
        ≤ placed (load (centre_count line)) (centre_count line) (flow_of w)
    less_work answer new is =
        subst (λ (x : World). placed (load (centre_count line)) (centre_count line) (flow_of x) + 1
        ≤ placed (load (centre_count line)) (centre_count line) (flow_of w))
        (delivered_to a b number f answer new head.sent is) (omega (
          arith,
          ap (placed (load (centre_count line)) (centre_count line))
              (at_head w b (stamp_of (w.at b) (centre.Deliver a f)) (w.at b) (done line b (w.at b) (centre.Deliver a f))
              w.trains (λ d. refl) a one_more),
          placed_acted (load (centre_count line)) (centre_count line) (took (flow_of w) a b) b
              (left_by line b (w.at b) (centre.Deliver a f)) (sent_by line b (w.at b) (centre.Deliver a f))
              (counted_took (flow_of w) a b f.body takes_head sound.counted) (ltb-true b (centre_count line) between.1),
          placed_took (load (centre_count line)) (centre_count line) (flow_of w) a b f.body takes_head
              (ltb-true a (centre_count line) between.0) (ltb-true b (centre_count line) between.1),
          (sends_little (link_answer line b (w.at b) a f) head.next).law,
          less_left (centre_count line) f.body,
        ))
