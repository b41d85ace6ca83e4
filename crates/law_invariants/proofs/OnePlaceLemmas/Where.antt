-- A section in use is in the place that its home's entry names.
use Rattle.std.proofs.Common.{[], ⊎_elim, ◌&&◌, ◌++◌, ◌+◌, ◌<◌, ◌==◌, ◌∙◌, ◌∷◌, ◌≡◌, ap, arith, Bool, false, inl, inr}
use Rattle.std.proofs.Common.{List, ltb-true, map, None, not, Ok, Option, refl, Some, subst, sym, true, ℕ}
use Rattle.std.proofs.lemmas.Bool.{eqb-true, lt-ltb}
use Rattle.std.proofs.lemmas.List.Elements.{All-contains}
use Rattle.std.specs.List.{Contains, flat_map}
use Rattle.std.specs.Option.{option_map_or}
use Rattle.law_base.proofs.CountingLemmas.Places.{one_place}
use Rattle.law_base.proofs.CountingLemmas.Sums.{one_if_true, sum_only}
use Rattle.law_base.specs.Counting.Network.{way}
use Rattle.law_base.specs.Counting.Resource.{allowed, carried, OnlyHeld, OnlyOnTheWay, placed}
use Rattle.law_base.specs.Counting.Sums.{one_if}
use Rattle.law_base.specs.Local.Local.{hand_has}
use Rattle.law_invariants.proofs.FlowLemmas.Lists.{count_both, times, times_once}
use Rattle.law_invariants.proofs.FlowLemmas.Neighbours.{home_below}
use Rattle.law_invariants.proofs.FlowLemmas.OnePlace.{has_one_place}
use Rattle.law_invariants.proofs.FlowLemmas.Seats.{on_link, way_is}
use Rattle.law_invariants.proofs.NoLossLemmas.Worlds.{never_lost}
use Rattle.law_invariants.proofs.NoStrayLemmas.Worlds.{each_reached, IsReachedSo}
use Rattle.law_invariants.specs.Flow.Counts.{pool_has, token_inside, tokens, wait_has}
use Rattle.law_invariants.specs.Flow.Flow.{centre_count, flow_of}
use Rattle.law_invariants.specs.Flow.Sound.{IsFlowSound, LosesNothing}
use Rattle.law_invariants.specs.NoUnasked.Asked.{IsAsked, IsBodyAsked}
use Rattle.law_invariants.specs.OnePlace.Where.{GoesBetween, IsFoundAs, IsWhereHomeHasIt}
use Rattle.rbc_spec.proofs.Lists.{itself, one_home}
use Rattle.rbc_spec.proofs.Runs.{each_within}
use Rattle.rbc_spec.specs.Centre.{Centre, Entry, is_taken_for, is_used_for, Mission, Open, Out, Shut, Taken}
use Rattle.rbc_spec.specs.Frame.{Body, Frame, RouteInfo, RouteReturn, Yield}
use Rattle.rbc_spec.specs.Line.{is_centre, is_home, IsLine, Line, Section, section}
use Rattle.rbc_spec.specs.Maps.{has}
use Rattle.rbc_spec.specs.Place.{covered, Place}
use Rattle.rbc_spec.specs.Promises.{carried_for, HasOnePlace, held_for, once}
use Rattle.rbc_spec.specs.SectionRuns.{all_of, SectionRun, within}
use Rattle.rbc_spec.specs.World as world
use Rattle.rbc_spec.specs.World.{Answer, Event, new_world, World, world_run}

-- ## The sections that a centre has for a train

mission_list : (s t : ℕ) (o : Option Mission)
    → option_map_or (λ m. once (within m.hand s) t ++ once (within m.pool s) t) o [] ≡ once (hand_has o s) t
    ++ once (pool_has o s) t
mission_list s t None = refl
mission_list s t (Some m) = refl

wait_list : (line : Line) (s t : ℕ) (o : Option Place)
    → option_map_or (λ place. once (within (covered line place) s) t) o [] ≡ once (wait_has line o s) t
wait_list line s t None = refl
wait_list line s t (Some place) = refl

one_of : (a b c : Bool) (t : ℕ) → (one_if c + one_if a) + one_if b ≡ 1 → (once a t ++ once b t) ++ once c t ≡ t ∷ []
one_of true false false t is = refl
one_of false true false t is = refl
one_of false false true t is = refl
one_of true true true t is = absurd (omega (arith, is))
one_of true true false t is = absurd (omega (arith, is))
one_of true false true t is = absurd (omega (arith, is))
one_of false true true t is = absurd (omega (arith, is))
one_of false false false t is = absurd (omega (arith, is))

held_once : (line : Line) (s t : ℕ) (k : Centre)
    → (one_if (wait_has line (k.wait t) s) + one_if (hand_has (k.mission t) s)) + one_if (pool_has (k.mission t) s) ≡ 1
    → held_for line s k t ≡ t ∷ []
held_once line s t k is = ap (λ xs. xs ++ option_map_or (λ place. once (within (covered line place) s) t) (k.wait t) [])
    (mission_list s t (k.mission t))
    ∙ ap (λ xs. (once (hand_has (k.mission t) s) t ++ once (pool_has (k.mission t) s) t) ++ xs)
    (wait_list line s t (k.wait t))
    ∙ one_of (hand_has (k.mission t) s) (pool_has (k.mission t) s) (wait_has line (k.wait t) s) t is

-- ## On the way

times_are : (line : Line) (s t a b : ℕ) (fs : List Frame) → times t (flat_map (λ (f : Frame). carried_for s f.body) fs)
    ≡ carried (tokens line t s) a b (map (λ (f : Frame). f.body) fs)
unfolding carried
times_are line s t a b [] = refl
times_are line s t a b (f ∷ fs) =
    omega (
      arith,
      count_both (λ x. x == t) (carried_for s f.body) (flat_map (λ (g : Frame). carried_for s g.body) fs),
      times_are line s t a b fs,
      by_body f.body,
    )
  where
    by_body : (g : Body) → times t (carried_for s g) ≡ token_inside t s g
    by_body (RouteInfo u r) = times_once (within r s) u t
    by_body (RouteReturn u r) = times_once (within r s) u t
    by_body (Yield number u heard has_data is_ended place hand) = times_once (within hand s) u t
    by_body g = refl

none_there : (b h : Bool) → (b ≡ true → h ≡ true) → h ≡ false → one_if b ≡ 0
none_there true h is away = absurd (let wrong : true ≡ false = sym (is refl) ∙ away in cc)
none_there false h is away = refl

module _ (line : Line) (ok : IsLine line) (w : World) (sound : IsFlowSound line (flow_of w))
    (asked : IsAsked line (flow_of w)) (whole : LosesNothing line (flow_of w))
    (c s : ℕ) (home : is_home line c s ≡ true) where
  to : is_centre line c ≡ true
  to = by_section (section line s) refl home
    where
      by_section : (o : Option Section) → section line s ≡ o → has (λ p. p.home == c) o ≡ true → is_centre line c ≡ true
      by_section None at is = cc
      by_section (Some p) at is = subst (λ d. is_centre line d ≡ true) (eqb-true p.home c is)
          (home_below line ok s p at)

  -- no pool has a section at its home
  no_pool : (t : ℕ) → one_if (pool_has ((w.at c).mission t) s) ≡ 0
  no_pool t = by_mission ((w.at c).mission t) refl
    where
      by_mission : (o : Option Mission) → (w.at c).mission t ≡ o → one_if (pool_has o s) ≡ 0
      by_mission None at = refl
      by_mission (Some m) at = none_there (within m.pool s) (not (is_home line c s))
          (λ in_pool. ap not (((sound.centres c to).mission t m at).pool_away s in_pool)) (ap not home)

  pub taken_here : (t : ℕ) → (w.at c).book s ≡ Taken t → held_for line s (w.at c) t ≡ t ∷ []
  taken_here t is =
      held_once line s t (w.at c)
      (omega (
        arith,
        no_pool t,
        (sound.centres c to).claims s t home,
        ap (λ e. one_if (is_taken_for t e)) is,
        one_if_true (t == t) (itself t),
      ))

  module _ (t : ℕ) (out : (w.at c).book s ≡ Out t) where
    let_out : allowed (tokens line t s) (centre_count line) (flow_of w)
        ≡ one_if (is_home line c s && is_used_for t ((w.at c).book s))
    unfolding allowed
    let_out = sum_only (centre_count line) (λ h. one_if (is_home line h s && is_used_for t ((w.at h).book s))) c
        (ltb-true c (centre_count line) to)
        (λ h at apart. ap (λ b. one_if (b && is_used_for t ((w.at h).book s))) (away h (is_home line h s) refl apart))
      where
        away : (h : ℕ) (b : Bool) → is_home line h s ≡ b → (h ≡ c → ⊥) → is_home line h s ≡ false
        away h true is apart = absurd (apart (one_home line h c s is home))
        away h false is apart = is

    one : placed (tokens line t s) (centre_count line) (flow_of w) ≡ 1
    one = (whole.tokens t s).law
        ∙ (let_out ∙ (ap (λ b. one_if (b && is_used_for t ((w.at c).book s))) home
        ∙ (ap (λ e. one_if (is_used_for t e)) out ∙ one_if_true (t == t) (itself t))))

    -- a centre that has it is not its home
    held_apart : (e : ℕ) → (tokens line t s).held e (w.at e) ≡ 1 → (e == c) ≡ false
    held_apart e here = by_test (e == c) refl
      where
        by_test : (b : Bool) → (e == c) ≡ b → b ≡ false
        by_test false is = refl
        by_test true is = absurd (
            let none : (tokens line t s).held c (w.at c) ≡ 0 =
            omega (
              arith,
              no_pool t,
              (sound.centres c to).claims s t home,
              ap (λ x. one_if (is_taken_for t x)) out,
            ) in
            omega (arith, none, subst (λ h. (tokens line t s).held h (w.at h) ≡ 1) (eqb-true e c is) here))

    one_time : (a b : ℕ) → carried (tokens line t s) a b (way (flow_of w) a b) ≡ 1
        → times t (flat_map (λ (f : Frame). carried_for s f.body) (world.way w a b)) ≡ 1
    one_time a b is = times_are line s t a b (world.way w a b)
        ∙ (ap (carried (tokens line t s) a b) (sym (way_is w a b)) ∙ is)

    -- a frame that has it leaves its home, returns to it, or hands its train over
    goes_between : (a b : ℕ) (f : Frame) → Contains (world.way w a b) f → Contains (carried_for s f.body) t
        → GoesBetween c a b f.body
    goes_between a b f there has =
        by_body f.body (All-contains (IsBodyAsked line a b) (way (flow_of w) a b) f.body (asked.bodies.each a b)
        (on_link w a b f f.body there refl)) has
      where
        in_run : (h : Bool) (u : ℕ) → Contains (once h u) t → h ≡ true
        in_run true u is = refl
        in_run false u is = absurd (let no : ⊥ = omega (arith, is.1) in no)

        at_home : (d : ℕ) (r : SectionRun) → all_of (is_home line d) r ≡ true → within r s ≡ true → d ≡ c
        at_home d r all inside = one_home line d c s (each_within (is_home line d) r all s inside) home

        by_body : (g : Body) → IsBodyAsked line a b g → Contains (carried_for s g) t → GoesBetween c a b g
        by_body (RouteInfo u r) is carries = at_home a r is.3 (in_run (within r s) u carries)
        by_body (RouteReturn u r) is carries = at_home b r is.2 (in_run (within r s) u carries)
        by_body g is carries = record {}

    pub out_there : IsFoundAs line w c s (Out t)
    out_there = ⊎_elim
        (λ (held : (e : ℕ) × (e < centre_count line) × OnlyHeld (tokens line t s) (centre_count line) (flow_of w) e).
        inl (
          held.0,
          lt-ltb held.0 (centre_count line) held.1,
          held_apart held.0 held.2.here,
          held_once line s t (w.at held.0) held.2.here,
        ))
        (λ (on_way : (a : ℕ) × (b : ℕ) × (a < centre_count line) × (b < centre_count line)
        × OnlyOnTheWay (tokens line t s) (centre_count line) (flow_of w) a b).
        inr (
          on_way.0,
          on_way.1,
          lt-ltb on_way.0 (centre_count line) on_way.2,
          lt-ltb on_way.1 (centre_count line) on_way.3,
          one_time on_way.0 on_way.1 on_way.4.here,
          goes_between on_way.0 on_way.1,
        ))
        (one_place (tokens line t s) (centre_count line) (flow_of w) one)

  pub found_as : (e : Entry) → (w.at c).book s ≡ e → IsFoundAs line w c s e
  found_as Shut is = record {}
  found_as Open is = record {}
  found_as (Taken t) is = taken_here t is
  found_as (Out t) is = out_there t is

-- ## A world that events led to

module _ (line : Line) (ok : IsLine line) (events : List Event) (answers : List Answer) (w : World)
    (is : world_run line (new_world line) events ≡ Ok (answers, w)) where
  reached : IsReachedSo line w
  reached = each_reached line ok events answers w is

  pub in_one_place : HasOnePlace line w
  in_one_place = has_one_place line ok w reached.sound.flow (never_lost line ok events answers w is)

  pub where_home_has_it : (c s : ℕ) → is_home line c s ≡ true → IsWhereHomeHasIt line w c s
  where_home_has_it c s home =
      record {
        found = found_as line ok w reached.sound.flow reached.asked (never_lost line ok events answers w is) c s
            home ((w.at c).book s) refl;
      }
