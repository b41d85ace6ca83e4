-- The sound facts of a reached world, its marks, and whole lists of events.
use Rattle.std.proofs.Common.{[], ℤ, ⊎_elim, ◌&&◌, ◌∙◌, ◌∷◌, ◌≡◌, ◌⊎◌, ap, arith, Bool, false, inl, inr, is_some, List}
use Rattle.std.proofs.Common.{map, negsuc, Ok, pos, refl, Some, subst, suc, sym, true, zero, ℕ}
use Rattle.std.proofs.lemmas.List.Elements.{All-weaker}
use Rattle.std.proofs.lemmas.Option.{same_Some}
use Rattle.std.proofs.Props.{props}
pub use Rattle.law_base.proofs.PiecesLemmas.Loop.{at_end, at_start, goes_on, Reaches, run_names, run_of_cons}
pub use Rattle.law_base.proofs.PiecesLemmas.Loop.{run_of_none, run_refused, stops_at, whole_run}
use Rattle.law_base.proofs.PiecesLemmas.Promised.{keeps_promises}
use Rattle.law_base.specs.Counting.Network.{EachOnTheWay, way}
use Rattle.law_invariants.proofs.FlowLemmas.Stands.{counted, found}
use Rattle.law_invariants.specs.Flow.Flow.{Flow, flow_of}
use Rattle.law_invariants.specs.Flow.Pairs.{after, before, IsPaired}
use Rattle.law_invariants.specs.Flow.Shows.{is_in_hand, shown, Shows}
use Rattle.law_invariants.specs.Flow.Sound.{IsBodySound, IsFlowSound, IsHandAt, IsYieldSound}
use Rattle.law_reached.proofs.Reached as reached
use Rattle.law_reached.specs.Known.{IsBodyKnown, IsKnown, IsPairKnown, IsYieldKnown}
use Rattle.law_reached.specs.Seen.{AreSectionsSeen}
use Rattle.law_refinement.proofs.Events.{each_event_goes}
use Rattle.law_refinement.proofs.Promises.{is_read, stands_read, waits_keep}
pub use Rattle.law_refinement.proofs.Promises.{run_read, run_sound, the_run}
use Rattle.law_refinement.proofs.Silence.{heard_alike}
use Rattle.law_refinement.specs.Meets.{Meets}
use Rattle.rbc_spec.proofs.Runs.{same_tests}
use Rattle.rbc_spec.specs.Frame.{Announce, Body, Cancel, carried_place, Frame, place_with_front, Yield, YieldedPlace}
use Rattle.rbc_spec.specs.Line.{is_centre, IsLine, Line, next_centre}
use Rattle.rbc_spec.specs.LineCentre.{LineState}
use Rattle.rbc_spec.specs.Place.{Place}
use Rattle.rbc_spec.specs.Promises.{is_given, IsSound, KeepsPromises}
use Rattle.rbc_spec.specs.ReadOff.{read_off, StandsFor}
use Rattle.rbc_spec.specs.Run.{Goes}
use Rattle.rbc_spec.specs.SectionRuns.{SectionRun}
use Rattle.rbc_spec.specs.World.{Answer, Event, new_world, World, world_run, world_step}

-- # If one of two reasons holds, so does the test between them, and the other way round. The test has at most one
-- proof.

-- ## Bodies

module _ (line : Line) (a b t : ℕ) (carried : YieldedPlace) (hand : SectionRun) where
  yield_known : IsYieldSound line a b t carried hand → IsYieldKnown line a b t carried hand
  yield_known sound = record {
    carries = ap (λ (p : YieldedPlace). is_some (carried_place p)) sound.is_carried;
    is_hand = λ place at. subst (λ (p : Place). IsHandAt line p hand) (same place at) sound.is_hand;
    to_next = λ place at. ap (λ (p : Place). next_centre line a p.track) (sym (same place at)) ∙ sound.to_next;
    known = sound.known;
    hand_ends = λ place at s n next. sound.hand_ends s n
        (ap (λ (p : Place). next_centre line b p.track) (same place at) ∙ next);
  }
    where
      same : (place : Place) → carried_place carried ≡ Some place → sound.place ≡ place
      same place at = same_Some sound.place place (sym (ap carried_place sound.is_carried) ∙ at)

  yield_sound : IsYieldKnown line a b t carried hand → IsYieldSound line a b t carried hand
  yield_sound known = by_front carried.front refl
    where
      by_front : (front : ℤ) → carried.front ≡ front → IsYieldSound line a b t carried hand
      by_front (pos front) at = record {
        place = record { track = carried.track; group = carried.group; front = front; rear = carried.rear };
        is_carried = λ i. record { track = carried.track; group = carried.group; front = at i; rear = carried.rear };
        is_hand =
            known.is_hand (record { track = carried.track; group = carried.group; front = front; rear = carried.rear })
            (ap (place_with_front carried) at);
        to_next =
            known.to_next (record { track = carried.track; group = carried.group; front = front; rear = carried.rear })
            (ap (place_with_front carried) at);
        known = known.known;
        hand_ends =
            λ s n next. known.hand_ends
            (record { track = carried.track; group = carried.group; front = front; rear = carried.rear })
            (ap (place_with_front carried) at) s n next;
      }
      by_front (negsuc n) at =
          absurd (let wrong : false ≡ true = sym (ap (λ (front : ℤ). is_some (place_with_front carried front)) at)
          ∙ known.carries in cc)

pub body_known : (line : Line) (a b : ℕ) (body : Body) → IsBodySound line a b body → IsBodyKnown line a b body
body_known line a b (Yield number t heard has_data is_ended place hand) sound = yield_known line a b t place hand sound
body_known line a b (Announce number t track) sound = sound
body_known line a b (Cancel number t) sound = sound
body_known line a b body sound = tt

pub body_sound : (line : Line) (a b : ℕ) (body : Body) → IsBodyKnown line a b body → IsBodySound line a b body
body_sound line a b (Yield number t heard has_data is_ended place hand) known = yield_sound line a b t place hand known
body_sound line a b (Announce number t track) known = known
body_sound line a b (Cancel number t) known = known
body_sound line a b body known = tt

pub bodies_known : (line : Line) (w : Flow) → EachOnTheWay (IsBodySound line) w → EachOnTheWay (IsBodyKnown line) w
bodies_known line w sound =
    record {
      each = λ a b. All-weaker (IsBodySound line a b) (IsBodyKnown line a b) (body_known line a b)
          (way w a b) (sound.each a b);
    }

pub bodies_sound : (line : Line) (w : Flow) → EachOnTheWay (IsBodyKnown line) w → EachOnTheWay (IsBodySound line) w
bodies_sound line w known =
    record {
      each = λ a b. All-weaker (IsBodyKnown line a b) (IsBodySound line a b) (body_sound line a b)
          (way w a b) (known.each a b);
    }

yield_prop : (line : Line) (a b t : ℕ) (carried : YieldedPlace) (hand : SectionRun)
    (p q : IsYieldKnown line a b t carried hand) → p ≡ q
yield_prop line a b t carried hand = Prim.hlevel props

pub body_prop : (line : Line) (a b : ℕ) (body : Body) (p q : IsBodyKnown line a b body) → p ≡ q
body_prop line a b (Yield number t heard has_data is_ended place hand) p q = yield_prop line a b t place hand p q
body_prop line a b (Announce number t track) p q = let one : (x z : IsBodyKnown line a b (Announce number t track))
    → x ≡ z = Prim.hlevel props in one p q
body_prop line a b (Cancel number t) p q = let one : (x z : IsBodyKnown line a b (Cancel number t))
    → x ≡ z = Prim.hlevel props in one p q
body_prop line a b body p q = refl

-- ## Handovers

module _ (w : Flow) (a b t : ℕ) where
  pub pair_known : IsPaired w a b t → IsPairKnown w a b t
  pair_known sound = record {
    chain = sound.chain;
    fresh = sound.fresh;
    once = sound.once;
    apart = λ h some. ⊎_elim (λ (none : before w a b t h ≡ 0). absurd (let no : ⊥ = omega (arith, some, none) in no))
        (λ (none : after w a b t h ≡ 0). none) (sound.apart h);
  }

  pub pair_sound : IsPairKnown w a b t → IsPaired w a b t
  pair_sound known =
      record {
        chain = known.chain;
        fresh = known.fresh;
        once = known.once;
        apart = λ h. by_count h (before w a b t h) refl;
      }
    where
      by_count : (h n : ℕ) → before w a b t h ≡ n → (before w a b t h ≡ 0) ⊎ (after w a b t h ≡ 0)
      by_count h zero is = inl is
      by_count h (suc n) is = inr (known.apart h (omega (arith, is)))

-- # The facts that are known of a reached world suffice for each further event.

-- there is one proof of it at most
pub one_proof : (line : Line) (w : World) (p q : IsKnown line w) → p ≡ q
one_proof line w = Prim.hlevel (props, body_prop)

-- ## A reached world

no_bodies : (fs : List Frame) → map (λ (f : Frame). f.body) fs ≡ [] → fs ≡ []
no_bodies [] is = refl
no_bodies (f ∷ fs) is = cc

either_away : (a b : Bool) → (a && b) ≡ false → (a ≡ false) ⊎ (b ≡ false)
either_away true b is = inr is
either_away false b is = inl refl

one_away : (a b : Bool) → (a ≡ false) ⊎ (b ≡ false) → (a && b) ≡ false
one_away a b (inl is) = ap (λ x. x && b) is
one_away true b (inr is) = is
one_away false b (inr is) = refl

module _ (line : Line) (ok : IsLine line) (events : List Event) (answers : List Answer) (w : World)
    (is : world_run line (new_world line) events ≡ Ok (answers, w)) where
  met : Meets line w (read_off line w)
  met = reached.meets line ok events answers w is

  pub is_known : IsKnown line w
  is_known = record {
    centres = met.sound.flow.centres;
    no_mission = met.sound.flow.no_mission;
    no_wait = (reached.waits line ok events answers w is).none;
    no_sent = λ a b away. no_bodies ((w.at a).sent b)
        (met.sound.flow.no_sent a b (either_away (is_centre line a) (is_centre line b) away));
    numbered = met.sound.numbered;
    counted = met.sound.flow.counted;
    bodies = bodies_known line (flow_of w) met.sound.flow.bodies;
    pairs = λ a b t from to. pair_known (flow_of w) a b t (met.sound.flow.pairs a b t from to);
    announced = reached.announced line ok events answers w is;
    whole = reached.loses_nothing line ok events answers w is;
    shows = met.shows;
  }

-- ## A world of which that is known

module _ (line : Line) (w : World) (known : IsKnown line w) where
  pub flow : IsFlowSound line (flow_of w)
  flow = record {
    counted = known.counted;
    centres = known.centres;
    no_mission = known.no_mission;
    no_sent = λ a b away. ap (map (λ (f : Frame). f.body))
        (known.no_sent a b (one_away (is_centre line a) (is_centre line b) away));
    rights = λ t. record { law = omega (arith, (known.whole.rights t).law) };
    tokens = λ t s. record { law = omega (arith, (known.whole.tokens t s).law) };
    bodies = bodies_sound line (flow_of w) known.bodies;
    pairs = λ a b t from to. pair_sound (flow_of w) a b t (known.pairs a b t from to);
  }

  pub meets : Meets line w (read_off line w)
  meets = record { sound = record { flow = flow; numbered = known.numbered }; shows = known.shows }

  pub stands : StandsFor line w (read_off line w)
  stands = stands_read line w (read_off line w) meets

  module _ (ok : IsLine line) where
    pub sound : IsSound line w
    sound = reached.sound_met line ok w meets known.whole

    -- ## A further event

    module _ (new : World) (event : Event) (answer : Answer) (is : world_step line w event ≡ Ok (answer, new)) where
      next : (u : LineState) × Goes line (read_off line w) event answer u × Meets line new u
      next = each_event_goes line ok w (read_off line w) meets known.announced event answer new is

      same : next.0 ≡ read_off line new
      same = is_read line new next.0 next.2

      pub goes : Goes line (read_off line w) event answer (read_off line new)
      goes = subst (λ (u : LineState). Goes line (read_off line w) event answer u) same next.1

      ends : StandsFor line new (read_off line new)
      ends = stands_read line new (read_off line new) (subst (λ (u : LineState). Meets line new u) same next.2)

      pub promises : KeepsPromises line w event answer new
      promises = keeps_promises line w new event answer
          (waits_keep line w (read_off line w) flow known.shows (record { none = known.no_wait }))
          (λ c m. heard_alike line w (read_off line w) flow known.shows c m) stands ends goes

-- # Each section's mark is found at its home, and in the hand of the train that it is in use for.

module _ (line : Line) (w : World) (sound : IsFlowSound line (flow_of w))
    (sees : Shows line (flow_of w) (read_off line w)) where
  same_hand : (s t : ℕ) → is_in_hand line (flow_of w) s t ≡ is_given line w t s
  same_hand s t = same_tests (is_in_hand line (flow_of w) s t) (is_given line w t s)
      (found line w sound (read_off line w) sees t s) (counted line w sound (read_off line w) sees t s)

  pub sections_seen : AreSectionsSeen line w
  sections_seen = record {
    mark = λ s c home. sees.mark s c home ∙ ap (shown ((w.at c).book s)) (λ i t. same_hand s t i);
    wish = sees.wish;
    no_mark = sees.no_section;
    no_wish = sees.no_wish;
  }

-- # Runs of whole lines, as the laws below have them, for a crate that keeps a world.
