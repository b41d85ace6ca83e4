-- Each train's mission is found, and events of a one-centre line leave no choice.
use Rattle.std.proofs.Common.{[], ◌++◌, ◌∙◌, ◌∷◌, ◌≡◌, ap, arith, Bool, cond, false, is_some, length-append, List, None}
use Rattle.std.proofs.Common.{Ok, Option, option_map, refl, slice_get, Some, sym, true, ℕ}
use Rattle.std.proofs.lemmas.Option.{same_Some}
use Rattle.std.proofs.Props.{props}
use Rattle.std.specs.List.{cons_option, filter_map, find}
use Rattle.std.specs.Option.{option_map_or}
use Rattle.law_base.proofs.LocalLemmas.Worlds.{is_ordered, new_local, run_local}
use Rattle.law_base.specs.Local.Local.{IsLocal}
use Rattle.law_invariants.proofs.FlowLemmas.Seats.{first_seat, seat_known}
use Rattle.law_invariants.proofs.FlowLemmas.Stands.{stands}
use Rattle.law_invariants.specs.Flow.Flow.{flow_of}
use Rattle.law_invariants.specs.Flow.Shows.{Shows}
use Rattle.law_invariants.specs.Flow.Sound.{IsFlowSound}
use Rattle.law_reached.proofs.Known.{meets}
use Rattle.law_reached.proofs.OneCentreLemmas.Whole as single
use Rattle.law_reached.specs.Known.{IsKnown}
use Rattle.law_reached.specs.Seen.{AreMissionsSeen, supervisor_of, yielded_on_way}
use Rattle.rbc_spec.proofs.Held.{among, contains_filter_map, held_as, held_first, is_there, none_first}
use Rattle.rbc_spec.specs.Centre.{Mission}
use Rattle.rbc_spec.specs.Frame.{Frame}
use Rattle.rbc_spec.specs.Line.{is_centre, IsLine, Line}
use Rattle.rbc_spec.specs.LineCentre.{At, line_beginning}
use Rattle.rbc_spec.specs.ReadOff.{centres_of, frames_on_way, handed_over, Held, held, held_at, read_off, seen}
use Rattle.rbc_spec.specs.ReadOff.{StandsFor}
use Rattle.rbc_spec.specs.Theorems.{ForcedRun, GoesForced, IsOneCentreLine, IsOneCentreRun}
use Rattle.rbc_spec.specs.World.{Answer, Event, new_world, World, world_run, world_step}

-- # On a one-centre line each event leaves no choice.

-- there is one proof at most that no other centre has a part
pub one_proof : (line : Line) (w : World) (p q : IsLocal line w) → p ≡ q
one_proof line w = Prim.hlevel props

module _ (line : Line) (ok : IsLine line) (c : ℕ) (one : IsOneCentreLine line c) where
  pub stays_local : (events : List Event) (answers : List Answer) (w : World)
      → world_run line (new_world line) events ≡ Ok (answers, w) → IsLocal line w
  stays_local events answers w is = run_local line (is_ordered line ok) c one events (new_world line)
      (new_local line) answers w is

  pub run_is : (events : List Event) (answers : List Answer) (w : World)
      → world_run line (new_world line) events ≡ Ok (answers, w) → IsOneCentreRun line events answers w
  run_is events answers w is = single.run_is line ok c one events answers w is

  pub run_read : (events : List Event) (answers : List Answer) (w : World)
      → world_run line (new_world line) events ≡ Ok (answers, w)
      → ForcedRun line line_beginning events answers (read_off line w)
  run_read events answers w is = single.run_read line ok c one events answers w is

  -- a step from a world with these facts, in which no other centre has a part
  pub forced : (w : World) → IsKnown line w → IsLocal line w → (event : Event) (answer : Answer) (new : World)
      → world_step line w event ≡ Ok (answer, new) → GoesForced line (read_off line w) event answer (read_off line new)
  forced w known local event answer new is =
      single.step_read line ok c one w new event answer (meets line w known) local is

-- # Each train's mission is found at the centre that has it, or in the Yield on the way that carries it.

-- ## Lists

-- the first value of a function for a list, or the first of another list
first_given : {X Y : Type 0} (f : X → Option Y) (xs : List X) (ys : List Y)
    → slice_get (filter_map f xs ++ ys) 0 ≡ option_map_or f (find (λ x. is_some (f x)) xs) (slice_get ys 0)
first_given f [] ys = refl
first_given f (x ∷ xs) ys = by_value (f x) refl (first_given f xs ys)
  where
    by_value : (o : Option _) → f x ≡ o → slice_get (filter_map f xs ++ ys) 0
        ≡ option_map_or f (find (λ z. is_some (f z)) xs) (slice_get ys 0)
        → slice_get (cons_option o (filter_map f xs) ++ ys) 0
        ≡ option_map_or f (cond (is_some o) (Some x) (find (λ z. is_some (f z)) xs)) (slice_get ys 0)
    by_value (Some y) is later = sym is
    by_value None is later = later

some_mapped : {X Y : Type 0} (f : X → Y) (o : Option X) → is_some (option_map f o) ≡ is_some o
some_mapped f None = refl
some_mapped f (Some x) = refl

-- ## The missions of a train

module _ (line : Line) (w : World) where
  same_centre : (t : ℕ) → find (λ c. is_some (held_at w t c)) (centres_of line) ≡ supervisor_of line w t
  same_centre t = ap (λ (test : ℕ → Bool). find test (centres_of line))
      (λ i c. some_mapped {Y = Held} (λ (m : Mission). record { mission = seen c m; hand = m.hand })
      ((w.at c).mission t) i)

  found : (t : ℕ) → held line w t ≡ option_map_or (held_at w t) (supervisor_of line w t) (yielded_on_way line w t)
  found t = first_given (held_at w t) (centres_of line)
      (filter_map (λ (f : Frame). handed_over t f.body) (frames_on_way line w))
      ∙ ap (λ (o : Option ℕ). option_map_or (held_at w t) o (yielded_on_way line w t)) (same_centre t)

  mission_is : (t : ℕ) → (read_off line w).mission t ≡ option_map (λ (h : Held). h.mission) (held line w t)
  unfolding read_off
  mission_is t = refl

module _ (line : Line) (w : World) (sound : IsFlowSound line (flow_of w))
    (sees : Shows line (flow_of w) (read_off line w)) where
  stand : StandsFor line w (read_off line w)
  stand = stands line w sound (read_off line w) sees

  -- none is on the way of a train that a centre supervises
  none_meanwhile : (t c : ℕ) (m : Mission) → (w.at c).mission t ≡ Some m → yielded_on_way line w t ≡ None
  none_meanwhile t c m at = by_centre (is_centre line c) refl
    where
      by_centre : (b : Bool) → is_centre line c ≡ b → yielded_on_way line w t ≡ None
      by_centre true here =
          none_first (filter_map (λ (f : Frame). handed_over t f.body) (frames_on_way line w)) (omega (
            arith,
            (contains_filter_map (held_at w t) (centres_of line) c (held_as (seen c m) m.hand) (among line c here)
                (ap (option_map (λ (x : Mission). held_as (seen c x) x.hand)) at)).1,
            length-append (filter_map (held_at w t) (centres_of line))
                (filter_map (λ (f : Frame). handed_over t f.body) (frames_on_way line w)),
            stand.one_seat t,
          ))
      by_centre false here =
          absurd (let wrong : ◌≡◌ {A = Option Mission} None (Some m) = sym (stand.none_else t c here) ∙ at in cc)

  alone : (t c : ℕ) (m : Mission) → (w.at c).mission t ≡ Some m → supervisor_of line w t ≡ Some c
  alone t c m at = by_supervisor (supervisor_of line w t) refl
    where
      here : held line w t ≡ Some (held_as (seen c m) m.hand)
      here = held_first line w (read_off line w) stand t (held_as (seen c m) m.hand)
          (is_there line w (read_off line w) stand t c m at)

      by_mission : (d : ℕ) (o : Option Mission) → option_map (λ (x : Mission). held_as (seen d x) x.hand) o
          ≡ Some (held_as (seen c m) m.hand) → d ≡ c
      by_mission d None is = cc
      by_mission d (Some n) is = let same : At d ≡ At c =
          ap (λ (h : Held). h.mission.supervisor)
          (same_Some (held_as (seen d n) n.hand) (held_as (seen c m) m.hand) is) in cc

      by_supervisor : (o : Option ℕ) → supervisor_of line w t ≡ o → supervisor_of line w t ≡ Some c
      by_supervisor None none = absurd (
          let wrong : ◌≡◌ {A = Option Held} None (Some (held_as (seen c m) m.hand)) =
          sym (none_meanwhile t c m at)
          ∙ sym (ap (λ (o : Option ℕ). option_map_or (held_at w t) o (yielded_on_way line w t)) none)
          ∙ sym (found line w t) ∙ here in cc)
      by_supervisor (Some d) is = is ∙ ap (λ x. Some x)
          (by_mission d ((w.at d).mission t)
          (sym (ap (λ (o : Option ℕ). option_map_or (held_at w t) o (yielded_on_way line w t)) is)
          ∙ sym (found line w t) ∙ here))

  pub missions_seen : AreMissionsSeen line w
  missions_seen = record {
    mission = mission_is line w;
    found = found line w;
    alone = alone;
    none_meanwhile = none_meanwhile;
    known = λ t h is. seat_known line w sound t h (first_seat line w sound t h is);
    hand = stand.hands;
  }
