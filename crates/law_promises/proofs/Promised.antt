-- Places, lists and missions that are closed; and the promises of whole lists of events.
use Rattle.std.proofs.Common.{[], ◌&&◌, ◌++◌, ◌+◌, ◌<◌, ◌==◌, ◌∙◌, ◌∷◌, ◌≡◌, ap, arith, Bool, eqb-true, false}
use Rattle.std.proofs.Common.{if◌then◌else◌, inl, inr, List, None, Ok, Option, option_map, refl, Some, subst, suc, sym}
use Rattle.std.proofs.Common.{true, zero, ℕ}
use Rattle.std.proofs.lemmas.Bool.{and_parts, both_ways, or_cases}
use Rattle.std.proofs.lemmas.Option.{same_Some}
use Rattle.std.specs.List.{find, list_any, range_with_len}
use Rattle.std.specs.Option.{option_and_then, option_map_or}
use Rattle.std.specs.Prelude.{Contains}
use Rattle.law_base.proofs.LocalLemmas.Homes.{fit_parts}
use Rattle.law_base.proofs.PiecesLemmas.GivenSections.{given_held, given_home, given_is}
use Rattle.law_base.proofs.PiecesLemmas.Loop.{run_of_none, whole_run}
use Rattle.law_base.proofs.RulesLemmas.Places.{extent_ahead, fit_is, has_group}
use Rattle.law_invariants.proofs.FlowLemmas.Neighbours.{home_below}
use Rattle.law_invariants.proofs.HandoverLemmas.Worlds.{world_begins, world_run_sound, world_step_sound}
use Rattle.law_outside.specs.Outside.{begun}
use Rattle.law_promises.proofs.Follows.{given, IsStart}
use Rattle.law_promises.proofs.Marks.{by, IsReported, Left, none_left, some_left}
use Rattle.law_promises.specs.Promised.{IsFreedWithin, IsTakenBack}
use Rattle.law_refinement.proofs.Promises.{promises, run_further, run_sound, sound_after}
use Rattle.rbc_spec.proofs.Lists.{any-range, put_other, put_there}
use Rattle.rbc_spec.proofs.Safe.{given_mark}
use Rattle.rbc_spec.proofs.Worlds.{bind_ok, same_ok}
use Rattle.rbc_spec.specs.Centre as centre
use Rattle.rbc_spec.specs.Line.{is_centre, is_home, IsLine, Line, Section, section}
use Rattle.rbc_spec.specs.LineCentre.{At, close_if_empty, Given, is_at, is_given_to, LineMission, LineState, Parted}
use Rattle.rbc_spec.specs.LineCentre.{set_mission, Shut, supervises, Supervisor}
use Rattle.rbc_spec.specs.Maps.{has}
use Rattle.rbc_spec.specs.Outcome.{Done, Outcome, Told}
use Rattle.rbc_spec.specs.Place.{extent, fit_place, is_fit, Place, Position}
use Rattle.rbc_spec.specs.Promises.{is_given, IsSound, KeepsPromises, MayFree, user}
use Rattle.rbc_spec.specs.ReadOff.{holder, mark_of, read_off}
use Rattle.rbc_spec.specs.Sections.{section_count}
use Rattle.rbc_spec.specs.World.{Answer, Answered, Event, new_world, Unset, World, world_run, world_step}

-- # The view from outside follows the one line centre's state through a train's message with an answer.

-- ## Who supervises

pub record Supervised (v : LineState) (c t : ℕ) : Type 0 where
  pub m : LineMission
  pub of_train : v.mission t ≡ Some m
  pub at : m.supervisor ≡ At c

is_at_is : (c : ℕ) (s : Supervisor) → is_at c s ≡ true → s ≡ At c
is_at_is c (At d) is = ap (λ (n : ℕ). At n) (eqb-true d c is)
is_at_is c (Parted stamp) is = cc

pub here_is : (v : LineState) (c t : ℕ) (test : LineMission → Bool)
    → has (λ m. is_at c m.supervisor && test m) (v.mission t) ≡ true → (h : Supervised v c t) × (test h.m ≡ true)
here_is v c t test = by_mission (v.mission t) refl
  where
    by_mission : (o : Option LineMission) → v.mission t ≡ o
        → option_map_or (λ m. is_at c m.supervisor && test m) o false ≡ true
        → (h : Supervised v c t) × (test h.m ≡ true)
    by_mission None is h = cc
    by_mission (Some m) is h = let parts = and_parts (is_at c m.supervisor) (test m) h in
        (record { m = m; of_train = is; at = is_at_is c m.supervisor parts.0 }, parts.1)

pub supervised_is : (v : LineState) (c t : ℕ) → supervises v c t ≡ true → Supervised v c t
supervised_is v c t = by_mission (v.mission t) refl
  where
    by_mission : (o : Option LineMission) → v.mission t ≡ o → option_map_or (λ m. is_at c m.supervisor) o false ≡ true
        → Supervised v c t
    by_mission None is h = cc
    by_mission (Some m) is h = record { m = m; of_train = is; at = is_at_is c m.supervisor h }

-- ## Places

pub reported_is : (line : Line) (p : Position) (place : Place) → extent line p ≡ Some place → IsReported line place
reported_is line p place is = record { group = has_group line p place is; ahead = extent_ahead line p place is }

-- ## A place that is fit for a start

pub start_good : (line : Line) (is_valid : Bool) (p : Position) (place : Place)
    → fit_place line is_valid p ≡ Some place → IsStart line place
start_good line is_valid p place is = let h = fit_is line is_valid p place is in
    record { fit = fit_parts line place h.0; ahead = reported_is line p place h.1 }

-- the part of it that is seen
pub seen_is : (line : Line) (is_valid : Bool) (p : Position) (place : Place) (n : ℕ)
    → fit_place line is_valid p ≡ Some place
    → (if is_valid then option_and_then (begun line n) (extent line p) else None) ≡ begun line n place
seen_is line true p place n is = ap (option_and_then (begun line n)) (fit_is line true p place is).1
seen_is line false p place n is = absurd (none_there (extent line p) is)
  where
    none_there : (o : Option Place) → option_map_or (λ q. if false && is_fit line q then Some q else None) o None
        ≡ Some place → ⊥
    none_there None so = cc
    none_there (Some q) so = cc

pub closed_heard : (b : Bool) (x y : LineState) → y.heard ≡ x.heard → (if b then x else y).heard ≡ x.heard
closed_heard true x y same = refl
closed_heard false x y same = same

-- ## Lists

pub found_passes : {X : Type 0} (test : X → Bool) (xs : List X) (x : X) → find test xs ≡ Some x → test x ≡ true
found_passes test [] x is = cc
found_passes test (y ∷ ys) x is = by_head (test y) refl is (λ e. found_passes test ys x e)
  where
    by_head : (b : Bool) → test y ≡ b → (if b then Some y else find test ys) ≡ Some x
        → (find test ys ≡ Some x → test x ≡ true) → test x ≡ true
    by_head true so is later = ap test (sym (same_Some y x is)) ∙ so
    by_head false so is later = later is

pub any_one : (test : ℕ → Bool) (a n : ℕ) → list_any test (range_with_len a n) ≡ true → (s : ℕ) × (test s ≡ true)
any_one test a zero is = cc
any_one test a (suc n) is = elim (or_cases (test a) (list_any test (range_with_len (a + 1) n)) is) [
  | inl here ↦
      (a, here)
  | inr later ↦ any_one test (a + 1) n later
]

-- ## Missions that end with an empty hand

left_by : (k : ℕ → Bool) (n : LineMission) (o : Option LineMission) (fin : LineMission → LineMission) → Left k n o
    → Left k (fin n) (option_map fin o)
left_by k n _ fin (some_left one is) = some_left one is
left_by k n _ fin (none_left none) = none_left none

pub closed_left : (line : Line) (t : ℕ) (v : LineState) (n : LineMission)
    → ((s : ℕ) → is_given_to t (v.mark s) ≡ true → s < section_count line) → v.mission t ≡ Some n
    → Left (given v t) n ((close_if_empty line t v).mission t)
closed_left line t v n low is =
    by_any (list_any (λ s. is_given_to t (v.mark s)) (range_with_len 0 (section_count line))) refl
  where
    by_any : (b : Bool) → list_any (λ s. is_given_to t (v.mark s)) (range_with_len 0 (section_count line)) ≡ b
        → Left (given v t) n ((if b then v else set_mission t None v).mission t)
    by_any true some = let one = any_one (λ s. is_given_to t (v.mark s)) 0 (section_count line) some in
        subst (Left (given v t) n) (sym is) (some_left one.0 one.1)
    by_any false none = subst (Left (given v t) n) (sym (put_there v.mission t None))
        (none_left (λ s. by (given v t s) (λ so. let below = low s so in
        absurd (both_ways _ none (any-range (λ e. is_given_to t (v.mark e)) 0 (section_count line) s (omega arith)
        (omega (arith, below)) so))) (λ fails. fails)))

pub closed_other : (line : Line) (t u : ℕ) (v : LineState) → (u ≡ t → ⊥)
    → (close_if_empty line t v).mission u ≡ v.mission u
closed_other line t u v apart =
    by_any (list_any (λ s. is_given_to t (v.mark s)) (range_with_len 0 (section_count line)))
  where
    by_any : (b : Bool) → (if b then v else set_mission t None v).mission u ≡ v.mission u
    by_any true = refl
    by_any false = put_other v.mission t u None apart

-- # The promise of one event is a promise of lists of events.

-- ## One event

module _ (line : Line) (ok : IsLine line) (w new : World) (events : List Event) (answers : List Answer)
    (event : Event) (answer : Answer)
    (before : world_run line (new_world line) events ≡ Ok (answers, w))
    (is : world_step line w event ≡ Ok (answer, new)) where
  pub leaves_so : (t s : ℕ) → (read_off line w).mark s ≡ Given t → is_given_to t ((read_off line new).mark s) ≡ false
      → MayFree line w t s event
  leaves_so t s given not_given =
      let home = given_home line w t s given in
      (promises line ok w new events answers event answer before is).freed t s
      (given_held line w (read_off line w) (run_sound line ok events answers w before).stands t s home.0 home.1
      given) (gone (is_given line new t s) refl)
    where
      gone : (b : Bool) → is_given line new t s ≡ b → is_given line new t s ≡ false
      gone false so = so
      gone true so =
          absurd (let wrong : true
          ≡ false =
          sym (given_mark line new (read_off line new)
          (sound_after line ok w new events answers event answer before is).stands t s so) ∙ not_given in cc)

-- ## Told back

home_is_centre : (line : Line) → IsLine line → (s c : ℕ) → is_home line c s ≡ true → is_centre line c ≡ true
home_is_centre line ok s c = by_section (section line s) refl
  where
    by_section : (o : Option Section) → section line s ≡ o → has (λ p. p.home == c) o ≡ true → is_centre line c ≡ true
    by_section None at home = cc
    by_section (Some p) at home = subst (λ d. is_centre line d ≡ true) (eqb-true p.home c home)
        (home_below line ok s p at)

module _ (line : Line) (ok : IsLine line) (w new : World) (events : List Event) (answers : List Answer)
    (event : Event) (o : Outcome) (c s : ℕ)
    (before : world_run line (new_world line) events ≡ Ok (answers, w))
    (is : world_step line w event ≡ Ok (Answered o, new)) (home : is_home line c s ≡ true) where
  sound : IsSound line new
  sound = sound_after line ok w new events answers event (Answered o) before is

  kept : KeepsPromises line w event (Answered o) new
  kept = promises line ok w new events answers event (Answered o) before is

  taken_back : (new.at c).book s ≡ centre.Shut → IsTakenBack line c s new
  taken_back shut = record {
    shut = shut;
    not_wished =
        ((world_step_sound line ok w (world_run_sound line ok events (new_world line) (world_begins line) answers w
        before) event (Answered o) new is).flow.centres c
        (home_is_centre line ok s c home)).unwished s (ap centre.is_unused shut);
    held_by_none = sound.one_place.sections s c home ∙ ap user shut;
    marked = by_holder (holder line new s) refl;
  }
    where
      by_holder : (h : Option ℕ) → holder line new s ≡ h → (read_off line new).mark s ≡ Shut
      by_holder None none = sound.stands.mark s c home ∙ ap (λ (h : Option ℕ). mark_of h ((new.at c).book s)) none
          ∙ ap (mark_of None) shut
      by_holder (Some t) some = absurd (let wrong : false ≡ true = sym (ap (centre.is_used_for t) shut)
          ∙ sound.stands.in_use s c t home some in cc)

  pub told_back : Contains o.words (Told s) → IsTakenBack line c s new
  told_back tells = taken_back (kept.told o s c refl home tells).0

  pub done_back : event ≡ Unset c s → Contains o.words (Done s) → IsTakenBack line c s new
  done_back unsets tells = taken_back (kept.done o s c refl unsets tells)

-- ## A run

module _ (line : Line) (ok : IsLine line) (t s : ℕ) where
  abbrev pub given_in : World → Bool
  given_in w = is_given_to t ((read_off line w).mark s)

  -- a later event, after those before it
  one_before : (w : World) (event : Event) (answer : Answer) (next : World) (events : List Event)
      → world_step line w event ≡ Ok (answer, next)
      → IsFreedWithin line next events t s → IsFreedWithin line w (event ∷ events) t s
  one_before w event answer next events first it = record {
    front = event ∷ it.front;
    event = it.event;
    rest = it.rest;
    cut = ap (λ (es : List Event). event ∷ es) it.cut;
    answers = answer ∷ it.answers;
    before = it.before;
    answered = whole_run line w event it.front (answer, next) (Ok (it.answers, it.before)) first it.answered;
    answer = it.answer;
    after = it.after;
    done = it.done;
    given = it.given;
    not_given = it.not_given;
    may_free = it.may_free;
  }

  -- the event frees the section, or a later one does
  now_or_later : (w : World) (event : Event) (answer : Answer) (next : World) (events past : List Event)
      (earlier : List Answer) → world_run line (new_world line) past ≡ Ok (earlier, w)
      → world_step line w event ≡ Ok (answer, next) → given_in w ≡ true
      → (given_in next ≡ true → IsFreedWithin line next events t s) → (b : Bool) → given_in next ≡ b
      → IsFreedWithin line w (event ∷ events) t s
  now_or_later w event answer next events past earlier before first given later true is =
      one_before w event answer next events first (later is)
  now_or_later w event answer next events past earlier before first given later false is = record {
    front = [];
    event = event;
    rest = events;
    cut = refl;
    answers = [];
    before = w;
    answered = run_of_none line w;
    answer = answer;
    after = next;
    done = first;
    given = given_is t ((read_off line w).mark s) given;
    not_given = is;
    may_free = leaves_so line ok w next past earlier event answer before first t s
        (given_is t ((read_off line w).mark s) given) is;
  }

  pub freed_within : (events : List Event) (w : World) (past : List Event) (earlier : List Answer)
      → world_run line (new_world line) past ≡ Ok (earlier, w)
      → (answers : List Answer) (last : World) → world_run line w events ≡ Ok (answers, last) → given_in w ≡ true
      → given_in last ≡ false → IsFreedWithin line w events t s
  unfolding world_run
  freed_within [] w past earlier before answers last is given not_given =
      absurd (let wrong : true ≡ false = sym given
      ∙ (ap (λ (q : List Answer × World). given_in q.1) (same_ok ([], w) (answers, last) is) ∙ not_given) in cc)
  freed_within (event ∷ events) w past earlier before answers last is given not_given =
      let first = bind_ok (world_step line w event) _ (answers, last) is in
      let others = bind_ok (world_run line first.0.1 events) _ (answers, last) first.2 in
      let same = same_ok (first.0.0 ∷ others.0.0, others.0.1) (answers, last) others.2 in
      now_or_later w event first.0.0 first.0.1 events past earlier before first.1 given
      (λ still. freed_within events first.0.1 (past ++ event ∷ []) (earlier ++ first.0.0 ∷ [])
      (run_further line event first.0.0 first.0.1 past (new_world line) earlier w before first.1)
      others.0.0 others.0.1 others.1 still (ap (λ (q : List Answer × World). given_in q.1) same ∙ not_given))
      (given_in first.0.1) refl
