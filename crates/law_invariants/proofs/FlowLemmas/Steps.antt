-- Steps of a centre in the flow of its world, their frames' numbers, and acts aside.
use Rattle.std.proofs.Common.{[], ⊎_elim, ◌&&◌, ◌++◌, ◌+◌, ◌-◌, ◌==◌, ◌∙◌, ◌∷◌, ◌≡◌, ◌≢◌, ◌≤◌, ap, arith, Bool, false}
use Rattle.std.proofs.Common.{if◌then◌else◌, inl, inr, is_some, length, List, map, nat_le, None, Ok, Option, refl}
use Rattle.std.proofs.Common.{slice_get, Some, subst, suc, sym, true, zero, ℕ}
use Rattle.std.proofs.lemmas.Bool.{cases_eq, cond-false, cond-true}
use Rattle.std.proofs.lemmas.Bool.Decides.{eqb_tells}
use Rattle.std.proofs.lemmas.List.{map-append}
use Rattle.std.proofs.lemmas.List.Elements.{All-nil}
use Rattle.std.proofs.lemmas.Option.{same_Some}
use Rattle.law_base.proofs.CountingLemmas.Network.{next_is_head}
use Rattle.law_base.proofs.CountingLemmas.Resource.{fair_still}
use Rattle.law_base.proofs.CountingLemmas.Sums.{put_keeps, put_other, put_same}
use Rattle.law_base.specs.Counting.Network.{acted, TakesHead, took}
use Rattle.law_base.specs.Counting.Sums.{one_if, put, put_link}
use Rattle.law_base.specs.Local.Local.{hand_has}
use Rattle.law_invariants.proofs.FlowLemmas.Kept.{acted_neutral}
use Rattle.law_invariants.specs.Flow.Counts.{pool_has, rights, tokens, wait_has}
use Rattle.law_invariants.specs.Flow.Flow.{centre_count, Flow, flow_of, in_world}
use Rattle.law_invariants.specs.Flow.Keeping.{IsAside, IsNeutral}
use Rattle.law_invariants.specs.Flow.Numbers.{HasNumbers, IsNumbered}
use Rattle.law_invariants.specs.Flow.Pairs.{handing_to}
use Rattle.law_invariants.specs.Flow.Sound.{IsBodySound, IsCentreSound, IsFlowSound, IsMissionAt}
use Rattle.rbc_spec.proofs.Lists.{get_append, put_holds}
use Rattle.rbc_spec.proofs.Worlds.{numbered_at, of_event}
use Rattle.rbc_spec.specs.Centre.{Centre, Entry, Expectation, is_taken_for, is_unused, is_used_for, Mission}
use Rattle.rbc_spec.specs.Frame.{Body, Frame}
use Rattle.rbc_spec.specs.Line.{is_centre, is_home, Line}
use Rattle.rbc_spec.specs.Outcome.{Early, Next, Old}
use Rattle.rbc_spec.specs.Place.{Place}
use Rattle.rbc_spec.specs.Step as centre
use Rattle.rbc_spec.specs.Step.{Effect, frames_of, numbered, offered, state_after, taken}
use Rattle.rbc_spec.specs.World.{Answer, Event, frame_sent, World, world_step}

-- ## Acts aside

module _ (line : Line) (c : ℕ) (k y : Centre) (aside : IsAside k y) where
  pub aside_centre : IsCentreSound line c k → IsCentreSound line c y
  aside_centre old = record {
    claims = λ s t home. omega (
      arith,
      old.claims s t home,
      ap (λ (f : ℕ → Entry). one_if (is_taken_for t (f s))) aside.book,
      ap (λ (f : ℕ → Option Place). one_if (wait_has line (f t) s)) aside.wait,
      ap (λ (f : ℕ → Option Mission). one_if (hand_has (f t) s)) aside.mission,
    );
    foreign = λ s away. ap (λ (f : ℕ → Entry). f s) aside.book ∙ old.foreign s away;
    asks = λ t first is. old.asks t first (aside.asks t first is);
    unwished = λ s unused. ap (λ (f : ℕ → Bool). f s) aside.wish
        ∙ old.unwished s (sym (ap (λ (f : ℕ → Entry). is_unused (f s)) aside.book) ∙ unused);
    wait_home =
        λ t s is. old.wait_home t s (sym (ap (λ (f : ℕ → Option Place). wait_has line (f t) s) aside.wait) ∙ is);
    wait_fits = λ t place is. old.wait_fits t place (was_waiting t place is);
    wait_known = λ t place is. let known = old.wait_known t place (was_waiting t place is) in
        (known.0, aside.heard t known.1);
    mission = λ t m is. still m (old.mission t m (was_there t m is));
    mission_known = λ t m is. let known = old.mission_known t m (was_there t m is) in (known.0, aside.heard t known.1);
  }
    where
      was_waiting : (t : ℕ) (place : Place) → y.wait t ≡ Some place → k.wait t ≡ Some place
      was_waiting t place is = sym (ap (λ (f : ℕ → Option Place). f t) aside.wait) ∙ is

      was_there : (t : ℕ) (m : Mission) → y.mission t ≡ Some m → k.mission t ≡ Some m
      was_there t m is = sym (ap (λ (f : ℕ → Option Mission). f t) aside.mission) ∙ is

      still : (m : Mission) → IsMissionAt line c k m → IsMissionAt line c y m
      still m is = record {
        hand = is.hand;
        pool_follows = is.pool_follows;
        pool_away = is.pool_away;
        pool_on = is.pool_on;
        pool_next = is.pool_next;
        handing_to = is.handing_to;
        handing_number = λ h some. let counted = is.handing_number h some in
            (counted.0, omega (arith, counted.1, aside.announced));
        hand_ends = is.hand_ends;
      }

-- an act that changes nothing that is counted, and sends nothing
pub aside_sound : (line : Line) (w : Flow) → IsFlowSound line w → (c : ℕ) → is_centre line c ≡ true → (y : Centre)
    → IsAside (w.at c) y → IsFlowSound line (acted w c y (λ d. []))
aside_sound line w sound c to y aside = acted_neutral line w sound c to y (λ d. [])
    (record {
      centre = aside_centre line c (w.at c) y aside (sound.centres c to);
      inside = λ d out_of. refl;
      bodies = λ d. All-nil (IsBodySound line c d);
    })
    (record {
      rights = λ t. fair_still (rights line t) (centre_count line) c (w.at c) y
          (omega (
            arith,
            ap (λ (f : ℕ → Bool). one_if (f t)) aside.has_right,
            ap (λ (f : ℕ → Option Mission). one_if (is_some (f t))) aside.mission,
          )) (omega arith);
      tokens = λ t s. fair_still (tokens line t s) (centre_count line) c (w.at c) y
          (omega (
            arith,
            ap (λ (f : ℕ → Option Place). one_if (wait_has line (f t) s)) aside.wait,
            ap (λ (f : ℕ → Option Mission). one_if (hand_has (f t) s)) aside.mission,
            ap (λ (f : ℕ → Option Mission). one_if (pool_has (f t) s)) aside.mission,
          ))
          (omega (arith, ap (λ (f : ℕ → Entry). one_if (is_home line c s && is_used_for t (f s))) aside.book));
    })
    (λ d. All-nil IsNeutral)
    (record {
      expects = λ a t. ap (λ (f : ℕ → ℕ → Option Expectation). f a t) aside.expects;
      announced = aside.announced;
      handing = λ b t. ap (λ (f : ℕ → Option Mission). handing_to b (f t)) aside.mission;
    })

-- # Frames keep their numbers: the frames of a step on a link are numbered after those sent before.

-- ## A centre

-- after an effect of a step
pub numbers_after : (stamp : ℕ) (k : Centre) (e : Effect) → HasNumbers k → HasNumbers (state_after stamp k e)
numbers_after stamp k e old = record {
  each = λ d i f is. ⊎_elim
      (λ (front : slice_get (k.sent d) i ≡ Some f). old.each d i f front)
      (λ (back : (j : ℕ) × (i ≡ length (k.sent d) + j) × (slice_get (frames_of stamp k e.reply d) j ≡ Some f)).
      omega (arith, back.1, numbered_at stamp (length (k.sent d)) (e.reply.frames d) back.0 f back.2))
      (get_append (k.sent d) (frames_of stamp k e.reply d) i f is);
}

pub numbers_taken : (line : Line) (c : ℕ) (event : centre.Event) (k : Centre) → HasNumbers k
    → HasNumbers (taken line c event k).1
numbers_taken line c event k old = numbers_after (centre.stamp_of k event) k
    (centre.effect line c (centre.ticked (centre.stamp_of k event) k) event) old

-- ## A world

module _ (line : Line) (w : World) (has : IsNumbered w) where
  pub world_step_numbered : (event : Event) (answer : Answer) (new : World)
      → world_step line w event ≡ Ok (answer, new) → IsNumbered new
  world_step_numbered = of_event line w (λ e a x. IsNumbered x) (λ e a idle. has)
      (λ e c own trains brings none.
      record {
        centres = put_holds (λ d k. HasNumbers k) w.at c (taken line c own (w.at c)).1 has.centres
            (numbers_taken line c own (w.at c) (has.centres c));
      })

-- ## A link

-- a frame that was sent under a number is at its place
sent_at : (w : World) (a b number : ℕ) (f : Frame) → frame_sent w a b number ≡ Some f
    → (1 ≤ number) × (slice_get ((w.at a).sent b) (number - 1) ≡ Some f)
sent_at w a b number f is = elim (eqb_tells number 0) [
  | inl e ↦ absurd (let wrong : ◌≡◌ {A = Option Frame} None (Some f) = sym
      (cond-true (number == 0) None (slice_get ((w.at a).sent b) (number - 1)) e.0) ∙ is in cc)
  | inr e ↦
      (omega (arith, e.1), sym (cond-false (number == 0) None (slice_get ((w.at a).sent b) (number - 1)) e.0) ∙ is)
]

-- a frame that was sent under a number has that number
pub sent_number : (w : World) → IsNumbered w → (a b number : ℕ) (f : Frame)
    → frame_sent w a b number ≡ Some f → f.number ≡ number
sent_number w has a b number f is = let at = sent_at w a b number f is in
    omega (arith, at.0, (has.centres a).each b (number - 1) f at.1)

get_map : (fs : List Frame) (i : ℕ) (f : Frame) → slice_get fs i ≡ Some f
    → slice_get (map (λ (g : Frame). g.body) fs) i ≡ Some f.body
get_map [] i f is = cc
get_map (g ∷ fs) zero f is = ap (λ (h : Frame). Some h.body) (same_Some g f is)
get_map (g ∷ fs) (suc i) f is = get_map fs i f is

pub is_next : (count n : ℕ) → offered count n ≡ Next → n ≡ count + 1
is_next count n is = elim (eqb_tells n (count + 1)) [
  | inl e ↦ e.1
  | inr e ↦
      absurd (not_next (nat_le n count)
      (sym (ap (λ (b : Bool). if b then Next else (if nat_le n count then Old else Early)) e.0) ∙ is))
]
  where
    not_next : (b : Bool) → (if b then Old else Early) ≡ Next → ⊥
    not_next true h = cc
    not_next false h = cc

-- the frame that a link calls the next is the head of the frames on the way
pub next_sent : (w : World) → IsNumbered w → (a b number : ℕ) (f : Frame) → frame_sent w a b number ≡ Some f
    → offered ((w.at b).taken a) f.number ≡ Next
    → TakesHead (flow_of w) a b f.body
next_sent w has a b number f is next =
    let at = sent_at w a b number f is in
    let place : number - 1 ≡ (w.at b).taken a =
    omega (arith, at.0, sent_number w has a b number f is, is_next ((w.at b).taken a) f.number next) in
    next_is_head (flow_of w) a b f.body
    (get_map ((w.at a).sent b) ((w.at b).taken a) f
    (subst (λ i. slice_get ((w.at a).sent b) i ≡ Some f) place at.1))

-- # A step of a centre in the flow of its world: an act of the centre by itself, or at the head of a link.

abbrev body_of : Frame → Body
body_of f = f.body

-- frames carry the bodies that they were made of
pub numbered_bodies : (stamp n : ℕ) (bodies : List Body) → map body_of (numbered stamp n bodies) ≡ bodies
numbered_bodies stamp n [] = refl
numbered_bodies stamp n (b ∷ bs) = ap (λ xs. b ∷ xs) (numbered_bodies stamp (n + 1) bs)

module _ (w : World) (c stamp : ℕ) (k : Centre) (e : Effect) (trains : List ℕ)
    (same : (d : ℕ) → k.sent d ≡ (w.at c).sent d) where
  abbrev new : Centre
  new = state_after stamp k e

  sent_now : (d : ℕ) → map body_of (new.sent d) ≡ map body_of ((w.at c).sent d) ++ e.reply.frames d
  sent_now d = ap (λ (fs : List Frame). map body_of (fs ++ frames_of stamp k e.reply d)) (same d)
      ∙ map-append body_of ((w.at c).sent d) (frames_of stamp k e.reply d)
      ∙ ap (λ xs. map body_of ((w.at c).sent d) ++ xs)
      (numbered_bodies stamp (length (k.sent d)) (e.reply.frames d))

  sents : (a b : ℕ) → (flow_of (in_world w c new trains)).sent a b
      ≡ put (flow_of w).sent c (λ d. (flow_of w).sent c d ++ e.reply.frames d) a b
  sents a b = ⊎_elim
      (λ (here : a ≡ c). subst (λ x. (flow_of (in_world w c new trains)).sent x b
      ≡ put (flow_of w).sent c (λ d. (flow_of w).sent c d ++ e.reply.frames d) x b) (sym here)
      (ap (λ (z : Centre). map body_of (z.sent b)) (put_same w.at c new) ∙ sent_now b
      ∙ sym (ap (λ row. row b) (put_same (flow_of w).sent c (λ d. (flow_of w).sent c d ++ e.reply.frames d)))))
      (λ (apart : a ≢ c). ap (λ (z : Centre). map body_of (z.sent b)) (put_other w.at c new a apart)
      ∙ sym (ap (λ row. row b)
      (put_other (flow_of w).sent c (λ d. (flow_of w).sent c d ++ e.reply.frames d) a apart)))
      (cases_eq a c)

  -- a step that takes no frame
  pub by_itself : ((a : ℕ) → e.reply.state.taken a ≡ (w.at c).taken a)
      → flow_of (in_world w c new trains) ≡ acted (flow_of w) c new e.reply.frames
  by_itself still = λ i. record {
    at = put w.at c new;
    sent = λ a b. sents a b i;
    taken = λ a b. put_keeps (λ j (z : Centre). z.taken a) w.at c new (still a) b i;
  }

  -- a step that takes the next one from a
  pub at_head : (a : ℕ) → ((x : ℕ) → e.reply.state.taken x ≡ put (w.at c).taken a ((w.at c).taken a + 1) x)
      → flow_of (in_world w c new trains) ≡ acted (took (flow_of w) a c) c new e.reply.frames
  at_head a one_more = λ i. record {
    at = put w.at c new;
    sent = λ x b. sents x b i;
    taken = λ x b. takens x b i;
  }
    where
      takens : (x b : ℕ) → (put w.at c new b).taken x ≡ put_link (flow_of w).taken a c ((flow_of w).taken a c + 1) x b
      takens x b = ⊎_elim
          (λ (here : b ≡ c). ⊎_elim
          (λ (from : x ≡ a). subst (λ y. (put w.at c new y).taken x
          ≡ put_link (flow_of w).taken a c ((flow_of w).taken a c + 1) x y) (sym here)
          (subst (λ y. (put w.at c new c).taken y ≡ put_link (flow_of w).taken a c ((flow_of w).taken a c + 1) y c)
          (sym from)
          (ap (λ (z : Centre). z.taken a) (put_same w.at c new) ∙ one_more a
          ∙ put_same (w.at c).taken a ((w.at c).taken a + 1)
          ∙ sym (ap (λ row. row c)
          (put_same (flow_of w).taken a (put ((flow_of w).taken a) c ((flow_of w).taken a c + 1)))
          ∙ put_same ((flow_of w).taken a) c ((flow_of w).taken a c + 1)))))
          (λ (other : x ≢ a). subst (λ y. (put w.at c new y).taken x
          ≡ put_link (flow_of w).taken a c ((flow_of w).taken a c + 1) x y) (sym here)
          (ap (λ (z : Centre). z.taken x) (put_same w.at c new) ∙ one_more x
          ∙ put_other (w.at c).taken a ((w.at c).taken a + 1) x other
          ∙ sym (ap (λ row. row c)
          (put_other (flow_of w).taken a (put ((flow_of w).taken a) c ((flow_of w).taken a c + 1)) x other))))
          (cases_eq x a))
          (λ (apart : b ≢ c). ap (λ (z : Centre). z.taken x) (put_other w.at c new b apart)
          ∙ ⊎_elim
          (λ (from : x ≡ a). subst (λ y. (w.at b).taken y
          ≡ put_link (flow_of w).taken a c ((flow_of w).taken a c + 1) y b) (sym from)
          (sym (ap (λ row. row b)
          (put_same (flow_of w).taken a (put ((flow_of w).taken a) c ((flow_of w).taken a c + 1)))
          ∙ put_other ((flow_of w).taken a) c ((flow_of w).taken a c + 1) b apart)))
          (λ (other : x ≢ a).
          sym (ap (λ row. row b)
          (put_other (flow_of w).taken a (put ((flow_of w).taken a) c ((flow_of w).taken a c + 1)) x other)))
          (cases_eq x a))
          (cases_eq b c)
