-- Frames on the way, and the one seat of a train.
use Rattle.std.proofs.Common.{[], ⊎_elim, ◌+◌, ◌<◌, ◌==◌, ◌∙◌, ◌∷◌, ◌≡◌, ◌≢◌, ◌≤◌, ap, arith, Bool, drop, false}
use Rattle.std.proofs.Common.{if◌then◌else◌, inl, inr, is_some, length, length-append, List, map, None, Option, refl}
use Rattle.std.proofs.Common.{Some, subst, suc, sym, true, zero, ℕ}
use Rattle.std.proofs.lemmas.Bool.{cases_eq, cond-true, eqb-true}
use Rattle.std.proofs.lemmas.List.Elements.{All-contains}
use Rattle.std.proofs.lemmas.Option.{same_Some}
use Rattle.std.specs.List.{filter_map, flat_map}
use Rattle.std.specs.Prelude.{Contains}
use Rattle.law_base.proofs.CountingLemmas.Places.{placed_parts}
use Rattle.law_base.proofs.CountingLemmas.Sums.{links_some, one_if_some, sum_le, sum_some}
use Rattle.law_base.specs.Counting.Network.{way}
use Rattle.law_base.specs.Counting.Resource.{carried, placed, Resource}
use Rattle.law_base.specs.Counting.Sums.{one_if, sum_below, sum_links}
use Rattle.law_invariants.proofs.FlowLemmas.Lists.{contains_flat_map, flat_sum, itself, length_added, missions_le}
use Rattle.law_invariants.proofs.FlowLemmas.Lists.{some_sum}
use Rattle.law_invariants.proofs.FlowLemmas.Neighbours.{one_registrar}
use Rattle.law_invariants.specs.Flow.Counts.{missions, rights, yield_inside}
use Rattle.law_invariants.specs.Flow.Flow.{centre_count, Flow, flow_of}
use Rattle.law_invariants.specs.Flow.Shows.{parted}
use Rattle.law_invariants.specs.Flow.Sound.{IsBodySound, IsFlowSound, IsYieldSound}
use Rattle.rbc_spec.proofs.Held.{among, first_is, held_as, held_on_way, held_there, none_first}
use Rattle.rbc_spec.specs.Centre as centre
use Rattle.rbc_spec.specs.Centre.{Centre}
use Rattle.rbc_spec.specs.Frame.{Body, Frame, Yield, yielded_place, YieldedPlace}
use Rattle.rbc_spec.specs.Line.{is_centre, Line, train_number}
use Rattle.rbc_spec.specs.Place.{Place}
use Rattle.rbc_spec.specs.ReadOff.{all_held, centres_of, frames_on_way, handed_over, Held, held, held_at, seen}
use Rattle.rbc_spec.specs.SectionRuns.{SectionRun}
use Rattle.rbc_spec.specs.World as world
use Rattle.rbc_spec.specs.World.{World}

-- # Frames on the way and their bodies, of which a flow is made.

to_body : (fs : List Frame) (f : Frame) → Contains fs f → Contains (map (λ g. g.body) fs) f.body
to_body [] f is = absurd (omega (arith, is.1))
to_body (g ∷ fs) f (zero, low, is) = (zero, omega arith, ap (λ (h : Frame). h.body) is)
to_body (g ∷ fs) f (suc k, low, is) = let more = to_body fs f (k, omega (arith, low), is) in
    (suc more.0, omega (arith, more.1), more.2)

of_body : (fs : List Frame) (b : Body) → Contains (map (λ g. g.body) fs) b → (f : Frame) × Contains fs f × (f.body ≡ b)
of_body [] b is = absurd (omega (arith, is.1))
of_body (g ∷ fs) b (zero, low, is) = (g, (zero, omega arith, refl), is)
of_body (g ∷ fs) b (suc k, low, is) = let more = of_body fs b (k, omega (arith, low), is) in
    (more.0, (suc more.1.0, omega (arith, more.1.1), more.1.2), more.2)

pub drop_map : (n : ℕ) (fs : List Frame) → drop n (map (λ g. g.body) fs) ≡ map (λ g. g.body) (drop n fs)
drop_map zero fs = refl
drop_map (suc n) [] = refl
drop_map (suc n) (f ∷ fs) = drop_map n fs

-- the bodies on the way in a world's flow are those of the frames on the way
pub way_is : (w : World) (a b : ℕ) → way (flow_of w) a b ≡ map (λ f. f.body) (world.way w a b)
way_is w a b = drop_map ((w.at b).taken a) ((w.at a).sent b)

-- the body of a frame on the way is on the way
pub on_link : (w : World) (a b : ℕ) (f : Frame) (body : Body) → Contains (world.way w a b) f → f.body ≡ body
    → Contains (way (flow_of w) a b) body
on_link w a b f body is same = subst (λ fs. Contains fs body) (sym (way_is w a b))
    (subst (Contains (map (λ g. g.body) (world.way w a b))) same (to_body (world.way w a b) f is))

-- each body that is on the way is that of a frame on the way
pub frame_of : (w : World) (a b : ℕ) (body : Body) → Contains (way (flow_of w) a b) body
    → (f : Frame) × Contains (world.way w a b) f × (f.body ≡ body)
frame_of w a b body is = of_body (world.way w a b) body (subst (λ fs. Contains fs body) (way_is w a b) is)

-- nothing is on the way if nothing was sent
pub nothing_sent : (w : Flow) (a b : ℕ) → w.sent a b ≡ [] → (f : Body) → Contains (way w a b) f → ⊥
nothing_sent w a b none f is = by_count (w.taken a b) (subst (λ fs. Contains (drop (w.taken a b) fs) f) none is)
  where
    by_count : (m : ℕ) → Contains (drop m []) f → ⊥
    by_count zero h = omega (arith, h.1)
    by_count (suc m) h = omega (arith, h.1)

-- something that frames carry is in one of them
pub carried_some : (r : Resource Centre Body) (a b : ℕ) (fs : List Body) → 0 < carried r a b fs
    → (f : Body) × Contains fs f × (0 < r.inside a b f)
unfolding carried
carried_some r a b [] some = absurd (let no : ⊥ = omega arith in no)
carried_some r a b (f ∷ fs) some = ⊎_elim
    (λ (none : r.inside a b f ≡ 0). let more = carried_some r a b fs (omega (arith, none)) in
    (more.0, (suc more.1.0, omega (arith, more.1.1), more.1.2), more.2))
    (λ (here : r.inside a b f ≢ 0). (f, (zero, omega arith, refl), omega (arith, here)))
    (cases_eq (r.inside a b f) 0)

-- # A train has one seat at most: its mission is at one centre, or in one frame on the way.

-- a train's seat: a centre that has its mission, or a Yield on the way that carries it
pub data Seat (w : World) (t : ℕ) : Held → Type 0 where
  at_centre : (c : ℕ) (m : centre.Mission) → (w.at c).mission t ≡ Some m → Seat w t (held_as (seen c m) m.hand)
  on_the_way : (a b : ℕ) (f : Frame) (number heard : ℕ) (has_data is_ended : Bool) (place : Place) (hand : SectionRun)
      → Contains (world.way w a b) f
      → f.body ≡ Yield number t heard has_data is_ended (yielded_place place) hand
      → Seat w t (held_as (parted heard has_data is_ended place) hand)

-- a Yield on the way gives its train a seat
pub yield_seat : (line : Line) (w : World) → IsFlowSound line (flow_of w)
    → (a b number t u heard : ℕ) (has_data is_ended : Bool) (place : YieldedPlace) (hand : SectionRun)
    → Contains (way (flow_of w) a b) (Yield number u heard has_data is_ended place hand) → u ≡ t
    → (p : Place) × Seat w t (held_as (parted heard has_data is_ended p) hand)
yield_seat line w sound a b number t u heard has_data is_ended place hand there same =
    let frame = frame_of w a b (Yield number u heard has_data is_ended place hand) there in
    let fits : IsYieldSound line a b u place hand =
    All-contains (IsBodySound line a b) (way (flow_of w) a b) (Yield number u heard has_data is_ended place hand)
    (sound.bodies.each a b) there in (
      fits.place,
      on_the_way a b frame.0 number heard has_data is_ended fits.place hand frame.1
          (frame.2 ∙ ap (λ x. Yield number x heard has_data is_ended place hand) same
          ∙ ap (λ p. Yield number t heard has_data is_ended p hand) fits.is_carried),
    )

-- the missions in frames are counted
handed_le : (t a b : ℕ) (fs : List Frame) → length (filter_map (λ (f : Frame). handed_over t f.body) fs)
    ≤ carried (missions t) a b (map (λ (f : Frame). f.body) fs)
unfolding carried
handed_le t a b [] = omega arith
handed_le t a b (f ∷ fs) = omega (arith, by_head (handed_over t f.body) refl, inside f.body, handed_le t a b fs)
  where
    by_head : (o : Option Held) → handed_over t f.body ≡ o
        → length (filter_map (λ (g : Frame). handed_over t g.body) (f ∷ fs)) ≤ one_if (is_some (handed_over t f.body))
        + length (filter_map (λ (g : Frame). handed_over t g.body) fs)
    by_head None e = rw e (omega arith)
    by_head (Some h) e = rw e (omega arith)

    by_train : (b : Bool) (o : Option Held) → one_if (is_some (if b then o else None)) ≤ one_if b
    by_train true None = omega arith
    by_train true (Some h) = omega arith
    by_train false o = omega arith

    inside : (g : Body) → one_if (is_some (handed_over t g)) ≤ yield_inside t g
    inside (Yield h u heard has_data is_ended place hand) = by_train (u == t) _
    inside g = omega arith

-- a train has at most as many missions as rights
missions_rights : (line : Line) (w : Flow) (t : ℕ) → placed (missions t) (centre_count line) w
    ≤ placed (rights line t) (centre_count line) w
unfolding placed sum_links
missions_rights line w t = omega (
  arith,
  sum_le (centre_count line) (λ c. (missions t).held c (w.at c)) (λ c. (rights line t).held c (w.at c))
      (λ c at. omega arith),
  sum_le (centre_count line) (λ a. sum_below (centre_count line) (λ b. carried (missions t) a b (way w a b)))
      (λ a. sum_below (centre_count line) (λ b. carried (rights line t) a b (way w a b)))
      (λ a from. sum_le (centre_count line) _ _ (λ b to. missions_le line t a b (way w a b))),
)

-- of a sound flow there is one mission of a train at most
pub few_missions : (line : Line) (w : Flow) → IsFlowSound line w → (t : ℕ)
    → placed (missions t) (centre_count line) w ≤ 1
few_missions line w sound t =
    omega (arith, missions_rights line w t, (sound.rights t).law, one_registrar line t (centre_count line) w)

module _ (line : Line) (w : World) (sound : IsFlowSound line (flow_of w)) where
  at_centres : (t : ℕ) → length (filter_map (held_at w t) (centres_of line))
      ≤ sum_below (centre_count line) (λ c. (missions t).held c (w.at c))
  at_centres t = omega (
    arith,
    some_sum (held_at w t) (centre_count line),
    sum_le (centre_count line) (λ c. one_if (is_some (held_at w t c))) (λ c. (missions t).held c (w.at c))
        (λ c at. by_mission c ((w.at c).mission t) refl),
  )
    where
      by_mission : (c : ℕ) (o : Option centre.Mission) → (w.at c).mission t ≡ o
          → one_if (is_some (held_at w t c)) ≤ one_if (is_some ((w.at c).mission t))
      by_mission c None is = rw is (omega arith)
      by_mission c (Some m) is = rw is (omega arith)

  abbrev handed : ℕ → List Frame → ℕ
  handed t fs = length (filter_map (λ (f : Frame). handed_over t f.body) fs)

  on_one : (t a b : ℕ) → handed t (world.way w a b) ≤ carried (missions t) a b (way (flow_of w) a b)
  on_one t a b = omega (arith, handed_le t a b (world.way w a b), ap (carried (missions t) a b) (way_is w a b))

  on_links : (t : ℕ) → handed t (frames_on_way line w) ≤ sum_links (centre_count line)
      (λ a b. carried (missions t) a b (way (flow_of w) a b))
  unfolding sum_links
  on_links t = omega (
    arith,
    flat_sum (handed t) (length_added (λ (f : Frame). handed_over t f.body))
        (λ a. flat_map (λ b. world.way w a b) (centres_of line)) (centre_count line),
    sum_le (centre_count line) (λ a. handed t (flat_map (λ b. world.way w a b) (centres_of line)))
        (λ a. sum_below (centre_count line) (λ b. carried (missions t) a b (way (flow_of w) a b))) (λ a from. omega (
          arith,
          flat_sum (handed t) (length_added (λ (f : Frame). handed_over t f.body))
              (λ b. world.way w a b) (centre_count line),
          sum_le (centre_count line) (λ b. handed t (world.way w a b))
              (λ b. carried (missions t) a b (way (flow_of w) a b))
              (λ b to. on_one t a b),
        )),
  )

  -- the missions of a train are counted
  pub held_le : (t : ℕ) → length (all_held line w t) ≤ placed (missions t) (centre_count line) (flow_of w)
  held_le t = omega (
    arith,
    length-append (filter_map (held_at w t) (centres_of line))
        (filter_map (λ (f : Frame). handed_over t f.body) (frames_on_way line w)),
    at_centres t,
    on_links t,
    placed_parts (missions t) (centre_count line) (flow_of w),
  )

  pub one_seat : (t : ℕ) → length (all_held line w t) ≤ 1
  one_seat t = omega (arith, held_le t, few_missions line (flow_of w) sound t)

  -- ## The place of a train's mission

  -- a mission at its place is one of the train's missions
  pub is_held : (t : ℕ) (h : Held) → Seat w t h → Contains (all_held line w t) h
  is_held t h (at_centre c m has) = by_centre (is_centre line c) refl
    where
      by_centre : (b : Bool) → is_centre line c ≡ b → Contains (all_held line w t) (held_as (seen c m) m.hand)
      by_centre true at = held_there line w t c m at has
      by_centre false at =
          absurd (let wrong : ◌≡◌ {A = Option centre.Mission} None (Some m) = sym (sound.no_mission c t at) ∙ has in cc)
  is_held t h (on_the_way a b f number heard has_data is_ended place hand on is) =
      by_centres (is_centre line a) (is_centre line b) refl refl
    where
      carried_there : Contains (way (flow_of w) a b) (Yield number t heard has_data is_ended (yielded_place place) hand)
      carried_there = on_link w a b f _ on is

      by_centres : (x z : Bool) → is_centre line a ≡ x → is_centre line b ≡ z
          → Contains (all_held line w t) (held_as (parted heard has_data is_ended place) hand)
      by_centres true true from to = held_on_way line w t f (held_as (parted heard has_data is_ended place) hand)
          (contains_flat_map (λ i. flat_map (λ j. world.way w i j) (centres_of line))
          (centres_of line) a f (among line a from)
          (contains_flat_map (λ j. world.way w a j) (centres_of line) b f (among line b to) on))
          (ap (handed_over t) is
          ∙ cond-true (t == t) (Some (held_as (parted heard has_data is_ended place) hand)) None (itself t))
      by_centres false z from to = absurd (nothing_sent (flow_of w) a b (sound.no_sent a b (inl from)) _ carried_there)
      by_centres true false from to = absurd (nothing_sent (flow_of w) a b (sound.no_sent a b (inr to)) _ carried_there)

  -- a mission at its place is the mission of the train
  pub seat_first : (t : ℕ) (h : Held) → Seat w t h → held line w t ≡ Some h
  seat_first t h is = first_is (all_held line w t) h (one_seat t) (is_held t h is)

  -- if a mission of a train is counted, it has a place
  pub some_seat : (t : ℕ) → 0 < placed (missions t) (centre_count line) (flow_of w) → (h : Held) × Seat w t h
  some_seat t some = by_centres (sum_below (centre_count line) (λ c. (missions t).held c (w.at c))) refl
    where
      at : (c : ℕ) (o : Option centre.Mission) → (w.at c).mission t ≡ o → is_some o ≡ true → (h : Held) × Seat w t h
      at c None here has = cc
      at c (Some m) here has = (held_as (seen c m) m.hand, at_centre c m here)

      on : (a b : ℕ) (f : Body) → Contains (way (flow_of w) a b) f → 0 < yield_inside t f → (h : Held) × Seat w t h
      on a b (Yield number u heard has_data is_ended place hand) there has =
          let seat = yield_seat line w sound a b number t u heard has_data is_ended place hand there
          (eqb-true u t (one_if_some (u == t) has)) in
          (held_as (parted heard has_data is_ended seat.0) hand, seat.1)
      on a b f there has = absurd (let no : ⊥ = omega (arith, has) in no)

      by_centres : (n : ℕ) → sum_below (centre_count line) (λ c. (missions t).held c (w.at c)) ≡ n
          → (h : Held) × Seat w t h
      by_centres zero none =
          let link = links_some (centre_count line) (λ a b. carried (missions t) a b (way (flow_of w) a b))
          (omega (arith, none, some, placed_parts (missions t) (centre_count line) (flow_of w))) in
          let body = carried_some (missions t) link.0 link.1 (way (flow_of w) link.0 link.1) link.4 in
          on link.0 link.1 body.0 body.1 body.2
      by_centres (suc n) has =
          let who = sum_some (centre_count line) (λ c. (missions t).held c (w.at c)) (omega (arith, has)) in
          at who.0 ((w.at who.0).mission t) refl (one_if_some _ who.2)

  -- if none is counted, there is none
  pub none_held : (t : ℕ) → placed (missions t) (centre_count line) (flow_of w) ≡ 0 → held line w t ≡ None
  none_held t none = none_first (all_held line w t) (omega (arith, held_le t, none))

  -- the train's mission is at its place
  pub first_seat : (t : ℕ) (h : Held) → held line w t ≡ Some h → Seat w t h
  first_seat t h is = by_count (placed (missions t) (centre_count line) (flow_of w)) refl
    where
      by_count : (n : ℕ) → placed (missions t) (centre_count line) (flow_of w) ≡ n → Seat w t h
      by_count zero none = absurd (let wrong : ◌≡◌ {A = Option Held} None (Some h) = sym (none_held t none) ∙ is in cc)
      by_count (suc n) some =
          let seat = some_seat t (omega (arith, some)) in
          subst (Seat w t) (same_Some seat.0 h (sym (seat_first t seat.0 seat.1) ∙ is)) seat.1

  -- a train with a seat is one of the line's
  pub seat_known : (t : ℕ) (h : Held) → Seat w t h → is_some (train_number line t) ≡ true
  seat_known t h (at_centre c m has) = by_centre (is_centre line c) refl
    where
      by_centre : (b : Bool) → is_centre line c ≡ b → is_some (train_number line t) ≡ true
      by_centre true at = ((sound.centres c at).mission_known t m has).0
      by_centre false at =
          absurd (let wrong : ◌≡◌ {A = Option centre.Mission} None (Some m) = sym (sound.no_mission c t at) ∙ has in cc)
  seat_known t h (on_the_way a b f number heard has_data is_ended place hand on is) =
      let body : IsYieldSound line a b t (yielded_place place) hand =
      All-contains (IsBodySound line a b) (way (flow_of w) a b)
      (Yield number t heard has_data is_ended (yielded_place place) hand) (sound.bodies.each a b)
      (on_link w a b f _ on is) in
      body.known
