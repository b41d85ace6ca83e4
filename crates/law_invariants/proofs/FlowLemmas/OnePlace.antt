-- The beginning of a line is sound, and in a sound flow each thing has one place.
use Rattle.std.proofs.Common.{[], ◌&&◌, ◌++◌, ◌+◌, ◌==◌, ◌∙◌, ◌∷◌, ◌≡◌, ◌≢◌, ap, arith, Bool, eqb-true, false, inl}
use Rattle.std.proofs.Common.{is_some, List, ltb-true, map, ne_eqb, None, Option, refl, slice_get, Some, subst, sym}
use Rattle.std.proofs.Common.{true, ℕ}
use Rattle.std.proofs.lemmas.Bool.{lt-ltb}
use Rattle.std.proofs.lemmas.List.Concat.{flat_map-append}
use Rattle.std.specs.List.{count_by, flat_map}
use Rattle.std.specs.Option.{option_map_or}
use Rattle.law_base.proofs.CountingLemmas.Chain.{chain_none}
use Rattle.law_base.proofs.CountingLemmas.Network.{each_start}
use Rattle.law_base.proofs.CountingLemmas.Places.{placed_parts}
use Rattle.law_base.proofs.CountingLemmas.Resource.{at_cap_start, within_start}
use Rattle.law_base.proofs.CountingLemmas.Sums.{sum_only, sum_plus, sum_same}
use Rattle.law_base.specs.Counting.Network.{way}
use Rattle.law_base.specs.Counting.Resource.{allowed, carried}
use Rattle.law_base.specs.Counting.Sums.{one_if, sum_links}
use Rattle.law_base.specs.Local.Local.{hand_has}
use Rattle.law_invariants.proofs.FlowLemmas.Lists.{count_added, count_both, count_more, count_sum, flat_sum, is_user}
use Rattle.law_invariants.proofs.FlowLemmas.Lists.{IsAdded, itself, known_there, one_home, over_trains, registrar_below}
use Rattle.law_invariants.proofs.FlowLemmas.Lists.{times, times_once}
use Rattle.law_invariants.proofs.FlowLemmas.Neighbours.{home_below}
use Rattle.law_invariants.proofs.FlowLemmas.Seats.{one_seat, way_is}
use Rattle.law_invariants.specs.Flow.Counts.{pool_has, rights, token_inside, tokens, wait_has}
use Rattle.law_invariants.specs.Flow.Flow.{centre_count, flow_of}
use Rattle.law_invariants.specs.Flow.Numbers.{IsNumbered}
use Rattle.law_invariants.specs.Flow.Pairs.{follows}
use Rattle.law_invariants.specs.Flow.Shows.{Shows}
use Rattle.law_invariants.specs.Flow.Sound.{IsBodySound, IsCentreSound, IsFlowSound, LosesNothing}
use Rattle.rbc_spec.specs.Centre as centre
use Rattle.rbc_spec.specs.Centre.{beginning, Centre, is_registrar_of, is_used_for}
use Rattle.rbc_spec.specs.Frame.{Body, Frame, RouteInfo, RouteReturn, Yield}
use Rattle.rbc_spec.specs.Line.{is_centre, is_home, IsLine, Line, registrar, Section, section, Train}
use Rattle.rbc_spec.specs.LineCentre.{line_beginning}
use Rattle.rbc_spec.specs.Maps.{has}
use Rattle.rbc_spec.specs.Place.{covered, Place}
use Rattle.rbc_spec.specs.Promises.{carried_for, carries_right, HasOnePlace, held_for, holders, once, user}
use Rattle.rbc_spec.specs.ReadOff.{centres_of, frames_on_way}
use Rattle.rbc_spec.specs.SectionRuns.{within}
use Rattle.rbc_spec.specs.World as world
use Rattle.rbc_spec.specs.World.{new_world, World}

-- # The beginning of a line is sound, and the one line centre's beginning shows it.

pub none_way : (line : Line) (a b : ℕ) → way (flow_of (new_world line)) a b ≡ []
unfolding new_world beginning
none_way line a b = refl

pub no_use : (b : Bool) → one_if (b && false) ≡ 0
no_use true = refl
no_use false = refl

pub centre_begins : (line : Line) (c : ℕ) → IsCentreSound line c (beginning line c)
unfolding beginning
centre_begins line c = record {
  claims = λ s t home. refl;
  foreign = λ s away. refl;
  asks = λ t first is. cc;
  unwished = λ s unused. refl;
  wait_home = λ t s has. cc;
  wait_fits = λ t place is. cc;
  wait_known = λ t place is. cc;
  mission = λ t m is. cc;
  mission_known = λ t m is. cc;
}

pub line_begins : (line : Line) → IsFlowSound line (flow_of (new_world line))
unfolding new_world beginning
line_begins line = record {
  counted = record { counts = λ a b. omega arith };
  centres = λ c at. centre_begins line c;
  no_mission = λ c t out. refl;
  no_sent = λ a b out. refl;
  rights = λ t. within_start (rights line t) (centre_count line) (flow_of (new_world line)) (none_way line)
      (λ c small. omega arith);
  tokens = λ t s. within_start (tokens line t s) (centre_count line) (flow_of (new_world line)) (none_way line)
      (λ c small. omega arith);
  bodies = each_start (IsBodySound line) (flow_of (new_world line)) (none_way line);
  pairs = λ a b t at to. record {
    chain = chain_none (follows t) None;
    fresh = λ h above. refl;
    once = λ h. omega arith;
    apart = λ h. inl refl;
  };
}

pub line_shows : (line : Line) → Shows line (flow_of (new_world line)) line_beginning
unfolding new_world beginning line_beginning
line_shows line = record {
  phase = λ t c. refl;
  heard = λ t c. refl;
  said = λ t c. refl;
  wait = λ t c. refl;
  wish = λ s c home. refl;
  mark = λ s c home. refl;
  no_section = λ s none. refl;
  no_wish = λ s none. refl;
  mission = λ t c m is. cc;
  on_way = λ a b number t heard has_data is_ended place hand is. absurd (omega (arith, is.1));
  no_mission = λ t none. refl;
}

pub line_begins_whole : (line : Line) → LosesNothing line (flow_of (new_world line))
unfolding new_world beginning
line_begins_whole line = record {
  rights = λ t. at_cap_start (rights line t) (centre_count line) (flow_of (new_world line)) (none_way line)
      (λ c small. omega arith);
  tokens = λ t s. at_cap_start (tokens line t s) (centre_count line) (flow_of (new_world line)) (none_way line)
      (λ c small. omega (arith, no_use (is_home line c s)));
}

pub line_begins_numbered : (line : Line) → IsNumbered (new_world line)
unfolding new_world beginning
line_begins_numbered line = record { centres = λ c. record { each = λ d i f is. cc } }

-- # A sound flow that loses nothing has each right, each mission and each section in use in one place.

-- ## A world

module _ (line : Line) (ok : IsLine line) (w : World) (sound : IsFlowSound line (flow_of w))
    (whole : LosesNothing line (flow_of w)) where
  -- a number for frames, over all that are on the way
  over_links : (count : List Frame → ℕ) → IsAdded count → (f : ℕ → ℕ → ℕ)
      → ((a b : ℕ) → count (world.way w a b) ≡ f a b) → count (frames_on_way line w) ≡ sum_links (centre_count line) f
  unfolding sum_links
  over_links count is f each =
      flat_sum count is (λ a. flat_map (λ b. world.way w a b) (centres_of line)) (centre_count line)
      ∙ sum_same (centre_count line) _ _ (λ a from. flat_sum count is (λ b. world.way w a b) (centre_count line)
      ∙ sum_same (centre_count line) _ _ (λ b to. each a b))

  -- ## Rights

  right_counted : (t a b : ℕ) (fs : List Frame) → count_by (λ (f : Frame). carries_right t f.body) fs
      ≡ carried (rights line t) a b (map (λ (f : Frame). f.body) fs)
  unfolding carried
  right_counted t a b [] = refl
  right_counted t a b (f ∷ fs) =
      omega (arith, count_more (λ (g : Frame). carries_right t g.body) f fs, right_counted t a b fs)

  rights_on_way : (t : ℕ) → count_by (λ (f : Frame). carries_right t f.body) (frames_on_way line w)
      ≡ sum_links (centre_count line) (λ a b. carried (rights line t) a b (way (flow_of w) a b))
  rights_on_way t = over_links (count_by (λ (f : Frame). carries_right t f.body))
      (count_added (λ (f : Frame). carries_right t f.body)) (λ a b. carried (rights line t) a b (way (flow_of w) a b))
      (λ a b. right_counted t a b (world.way w a b) ∙ ap (carried (rights line t) a b) (sym (way_is w a b)))

  one_registrar_is : (t r : ℕ) → registrar line t ≡ Some r → allowed (rights line t) (centre_count line) (flow_of w) ≡ 1
  unfolding allowed
  one_registrar_is t r is =
      let only = sum_only (centre_count line) (λ c. one_if (is_registrar_of line c t)) r
      (registrar_below line ok t r is)
      (λ c at apart. ap one_if (ap (has (λ d. d == c)) is ∙ ne_eqb r c (λ same. apart (sym same)))) in
      omega (arith, only, ap one_if (ap (has (λ d. d == r)) is ∙ itself r))

  right_placed : (t r : ℕ) → registrar line t ≡ Some r
      → count_by (λ c. (w.at c).has_right t) (centres_of line)
      + count_by (λ c. is_some ((w.at c).mission t)) (centres_of line)
      + count_by (λ (f : Frame). carries_right t f.body) (frames_on_way line w) ≡ 1
  right_placed t r is = omega (
    arith,
    count_sum (λ c. (w.at c).has_right t) (centre_count line),
    count_sum (λ c. is_some ((w.at c).mission t)) (centre_count line),
    sum_plus (centre_count line) (λ c. one_if ((w.at c).has_right t)) (λ c. one_if (is_some ((w.at c).mission t))),
    rights_on_way t,
    placed_parts (rights line t) (centre_count line) (flow_of w),
    (whole.rights t).law,
    one_registrar_is t r is,
  )

  -- ## Sections

  mission_times : (s t u : ℕ) (o : Option centre.Mission)
      → times t (option_map_or (λ m. once (within m.hand s) u ++ once (within m.pool s) u) o [])
      ≡ one_if ((u == t) && hand_has o s) + one_if ((u == t) && pool_has o s)
  mission_times s t u None = omega (arith, no_use (u == t))
  mission_times s t u (Some m) =
      omega (
        arith,
        count_both (λ x. x == t) (once (within m.hand s) u) (once (within m.pool s) u),
        times_once (within m.hand s) u t,
        times_once (within m.pool s) u t,
      )

  wait_times : (s t u : ℕ) (o : Option Place)
      → times t (option_map_or (λ place. once (within (covered line place) s) u) o [])
      ≡ one_if ((u == t) && wait_has line o s)
  wait_times s t u None = omega (arith, no_use (u == t))
  wait_times s t u (Some place) = times_once (within (covered line place) s) u t

  held_times : (s t u : ℕ) (k : Centre) → times t (held_for line s k u)
      ≡ (one_if ((u == t) && wait_has line (k.wait u) s) + one_if ((u == t) && hand_has (k.mission u) s))
      + one_if ((u == t) && pool_has (k.mission u) s)
  held_times s t u k = omega (
    arith,
    count_both (λ x. x == t) (option_map_or (λ m. once (within m.hand s) u ++ once (within m.pool s) u) (k.mission u)
        []) (option_map_or (λ place. once (within (covered line place) s) u) (k.wait u) []),
    mission_times s t u (k.mission u),
    wait_times s t u (k.wait u),
  )

  abbrev held_tokens : ℕ → ℕ → Centre → ℕ
  held_tokens t s k = (one_if (wait_has line (k.wait t) s) + one_if (hand_has (k.mission t) s))
      + one_if (pool_has (k.mission t) s)

  held_as : (b : Bool) (s t u : ℕ) (k : Centre) → (u == t) ≡ b → times t (held_for line s k u)
      ≡ (one_if (b && wait_has line (k.wait u) s) + one_if (b && hand_has (k.mission u) s))
      + one_if (b && pool_has (k.mission u) s)
  held_as b s t u k is = held_times s t u k
      ∙ ap (λ x. (one_if (x && wait_has line (k.wait u) s) + one_if (x && hand_has (k.mission u) s))
      + one_if (x && pool_has (k.mission u) s)) is

  centre_times : (s t c : ℕ) → is_centre line c ≡ true
      → times t (flat_map (held_for line s (w.at c)) (map (λ p. p.nid_engine) line.trains)) ≡ held_tokens t s (w.at c)
  centre_times s t c at = over_trains t (held_tokens t s (w.at c)) (held_for line s (w.at c))
      (λ u apart. held_as false s t u (w.at c) (ne_eqb u t apart)) (held_as true s t t (w.at c) (itself t))
      line.trains ok.distinct.engines (λ apart. absent apart ((w.at c).mission t) refl ((w.at c).wait t) refl)
    where
      absent : ((i : ℕ) (p : Train) → slice_get line.trains i ≡ Some p → p.nid_engine ≢ t) → (o : Option centre.Mission)
          → (w.at c).mission t ≡ o → (x : Option Place) → (w.at c).wait t ≡ x → held_tokens t s (w.at c) ≡ 0
      absent apart None none None waits = rw (none, waits) refl
      absent apart (Some m) is x waits = absurd (known_there line t ((sound.centres c at).mission_known t m is).0 apart)
      absent apart None none (Some place) waits =
          absurd (known_there line t ((sound.centres c at).wait_known t place waits).0 apart)

  token_counted : (s t a b : ℕ) (fs : List Frame) → times t (flat_map (λ (f : Frame). carried_for s f.body) fs)
      ≡ carried (tokens line t s) a b (map (λ (f : Frame). f.body) fs)
  unfolding carried
  token_counted s t a b [] = refl
  token_counted s t a b (f ∷ fs) =
      omega (
        arith,
        count_both (λ x. x == t) (carried_for s f.body) (flat_map (λ (g : Frame). carried_for s g.body) fs),
        token_counted s t a b fs,
        by_body f.body,
      )
    where
      by_body : (g : Body) → times t (carried_for s g) ≡ token_inside t s g
      by_body (RouteInfo u r) = times_once (within r s) u t
      by_body (RouteReturn u r) = times_once (within r s) u t
      by_body (Yield number u heard has_data is_ended place hand) = times_once (within hand s) u t
      by_body g = refl

  carried_added : (s t : ℕ) → IsAdded (λ (fs : List Frame). times t (flat_map (λ (f : Frame). carried_for s f.body) fs))
  carried_added s t = record {
    none = refl;
    both = λ xs ys. ap (times t) (flat_map-append (λ (f : Frame). carried_for s f.body) xs ys)
        ∙ count_both (λ x. x == t) (flat_map (λ (f : Frame). carried_for s f.body) xs)
        (flat_map (λ (f : Frame). carried_for s f.body) ys);
  }

  home_is_centre : (s c : ℕ) → is_home line c s ≡ true → is_centre line c ≡ true
  home_is_centre s c = by_section (section line s) refl
    where
      by_section : (o : Option Section) → section line s ≡ o → has (λ p. p.home == c) o ≡ true → is_centre line c ≡ true
      by_section None at home = cc
      by_section (Some p) at home = subst (λ d. is_centre line d ≡ true) (eqb-true p.home c home)
          (home_below line ok s p at)

  let_out : (s t c : ℕ) → is_home line c s ≡ true → allowed (tokens line t s) (centre_count line) (flow_of w)
      ≡ one_if (is_used_for t ((w.at c).book s))
  unfolding allowed
  let_out s t c home =
      let only = sum_only (centre_count line) (λ h. one_if (is_home line h s && is_used_for t ((w.at h).book s))) c
      (ltb-true c (centre_count line) (home_is_centre s c home))
      (λ h at apart. ap (λ b. one_if (b && is_used_for t ((w.at h).book s))) (away h (is_home line h s) refl apart)) in
      only ∙ ap (λ b. one_if (b && is_used_for t ((w.at c).book s))) home
    where
      away : (h : ℕ) (b : Bool) → is_home line h s ≡ b → h ≢ c → is_home line h s ≡ false
      away h true is apart = absurd (apart (one_home line h c s is home))
      away h false is apart = is

  section_placed : (s c : ℕ) → is_home line c s ≡ true → holders line w s ≡ user ((w.at c).book s)
  section_placed s c home = is_user (holders line w s) ((w.at c).book s) (λ t. omega (
    arith,
    count_both (λ x. x == t) (flat_map (λ d. flat_map (held_for line s (w.at d)) (map (λ p. p.nid_engine) line.trains))
        (centres_of line)) (flat_map (λ (f : Frame). carried_for s f.body) (frames_on_way line w)),
    flat_sum (times t) (count_added (λ x. x == t))
        (λ d. flat_map (held_for line s (w.at d)) (map (λ p. p.nid_engine) line.trains)) (centre_count line),
    sum_same (centre_count line)
        (λ d. times t (flat_map (held_for line s (w.at d)) (map (λ p. p.nid_engine) line.trains)))
        (λ d. (tokens line t s).held d (w.at d)) (λ d at. centre_times s t d (lt-ltb d (centre_count line) at)),
    over_links (λ (fs : List Frame). times t (flat_map (λ (f : Frame). carried_for s f.body) fs)) (carried_added s t)
        (λ a b. carried (tokens line t s) a b (way (flow_of w) a b))
        (λ a b. token_counted s t a b (world.way w a b) ∙ ap (carried (tokens line t s) a b) (sym (way_is w a b))),
    placed_parts (tokens line t s) (centre_count line) (flow_of w),
    (whole.tokens t s).law,
    let_out s t c home,
  ))

  pub has_one_place : HasOnePlace line w
  has_one_place = record { sections = section_placed; rights = right_placed; missions = one_seat line w sound }
