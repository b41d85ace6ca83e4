-- The view from outside follows the one line centre's state, also through its quiet steps.
use Rattle.std.proofs.Common.{ℤ, ◌*◌, ◌+◌, ◌∙◌, ◌≡◌, ◌≤◌, ap, arith, Bool, false, if◌then◌else◌, inl, inr, int_lt, None}
use Rattle.std.proofs.Common.{Option, option_map, pos, refl, Some, subst, sym, true, ℕ}
use Rattle.std.proofs.lemmas.Bool.Decides.{eqb_tells}
use Rattle.std.specs.Option.{option_and_then, option_map_or}
use Rattle.law_base.proofs.LocalLemmas.Homes.{IsFit}
use Rattle.law_base.proofs.PiecesLemmas.Waits.{elsewhere, put_at, PutAt, there, WaitsKeep}
use Rattle.law_outside.specs.Outside.{begun, front_end, metres_from, starts, Stretch, View}
use Rattle.law_promises.proofs.Marks.{if_true, IsReported, IsSince, Later, same_later, Tied, tied_as}
use Rattle.law_promises.proofs.Spans.{lt_up}
use Rattle.law_promises.proofs.SpansOfStarts.{first_stretch, last_covered, last_is}
use Rattle.law_promises.proofs.Standstill.{front_at, has_front, IsFront}
use Rattle.rbc_spec.proofs.Lists.{on_line, put_there}
use Rattle.rbc_spec.proofs.Places.{covers_from, covers_parts, covers_run, ends_rise}
use Rattle.rbc_spec.proofs.Runs.{within_true}
use Rattle.rbc_spec.specs.Line.{end, IsLine, Line, section_of_group, start}
use Rattle.rbc_spec.specs.LineCentre.{change_mission, is_given_to, LineMission, LineState, Mark}
use Rattle.rbc_spec.specs.Maps.{has, put_pair}
use Rattle.rbc_spec.specs.OwnSteps.{begins}
use Rattle.rbc_spec.specs.Place.{covered, covers, group_start, Place}
use Rattle.rbc_spec.specs.Sections.{is_on, section_count}

-- a place at which a train may start
pub record IsStart (line : Line) (place : Place) : Type 0 where
  pub fit : IsFit line place
  pub ahead : IsReported line place

-- a start that waits is the last that was seen, and has not been answered
pub record IsSeen (line : Line) (x : View) (heard : Option ℕ) (t c : ℕ) (place : Place) : Type 0 where
  pub since : ℕ
  pub good : IsStart line place
  pub seen : x.start t c ≡ begun line since place
  pub now : IsSince since heard

abbrev pub given : LineState → ℕ → ℕ → Bool
given v t s = is_given_to t (v.mark s)

pub record Follows (line : Line) (v : LineState) (x : View) : Type 0 where
  pub keep : WaitsKeep line v
  pub founded : x.stray ≡ false
  pub waits : (t c : ℕ) (place : Place) → v.wait t c ≡ Some place → IsSeen line x (v.heard t c) t c place
  pub tied : (t : ℕ) → Tied line (given v t) (v.mission t) (x.stretch t) (v.heard t)

-- the start of a train at such a place reaches as far as the place covers
pub begun_is : (line : Line) (ok : IsLine line) (place : Place) (good : IsStart line place) (since : ℕ)
    → begun line since place ≡ Some (first_stretch line ok place good.fit since)
begun_is line ok place good since =
    ap (λ (o : Option ℤ). option_and_then
    (λ rear. option_map (λ e. record { track = place.track; rear = rear; end = e; since = since; asked = None })
    (front_end line place (section_count line))) o) good.fit.rear_is
    ∙ ap (option_map {T = ℕ} {U = Stretch}
    (λ e. record { track = place.track; rear = pos good.fit.rear; end = e; since = since; asked = None })) (front.1
    ∙ ap (λ (n : ℕ). Some n) (f.is ∙ ap (end line) same))
  where
    last : ℕ
    last = last_covered line ok place good.fit

    at_last : covers line place last ≡ true
    at_last = last_is line ok place good.fit

    front : (e : ℕ) × (front_end line place (section_count line) ≡ Some e)
    front = let h = covers_parts line place last at_last in
        has_front line place (section_count line) last (on_line line place.track last h.on) h.on h.begins

    f : IsFront line place (section_count line) front.0
    f = front_at line place (section_count line) front.0 front.1

    past_up : (o : Option ℤ) → end line last ≤ end line f.last
        → option_map_or (λ rear. int_lt rear (pos (10 * end line last))) o false ≡ true
        → option_map_or (λ rear. int_lt rear (pos (10 * end line f.last))) o false ≡ true
    past_up None le so = cc
    past_up (Some rear) le so = lt_up rear (10 * end line last) (10 * end line f.last) (omega (arith, le)) so

    same : f.last ≡ last
    same = let up = f.later last (on_line line place.track last (covers_parts line place last at_last).on)
        (covers_parts line place last at_last).on (covers_parts line place last at_last).begins in
        let low = within_true (covered line place) f.last (covers_run line place f.last ok
        ∙ covers_from line place f.last (record {
          on = f.on;
          begins = f.early;
          ends = past_up place.rear (ends_rise line place.track last f.last (covers_parts line place last at_last).on
              f.on up) (covers_parts line place last at_last).ends;
        })) in let below = low.1 in omega (arith, up, below)

-- ## Groups and metres

pub metres_is : (line : Line) (place : Place) (l : ℕ) (z : Stretch)
    → has (is_on line z.track) (section_of_group line place.group) ≡ true
    → metres_from line place.group l z ≡ Some (group_start line place + l)
metres_is line place l z = by_group (section_of_group line place.group)
  where
    by_group : (o : Option ℕ) → has (is_on line z.track) o ≡ true
        → option_and_then (λ s. if is_on line z.track s then Some (start line s + l) else None) o
        ≡ Some (option_map_or (λ s. start line s) o 0 + l)
    by_group None on = cc
    by_group (Some s) on = if_true (is_on line z.track s) (Some (start line s + l)) None on

-- ## The value that is put at a pair

pub put_apart : {X : Type 0} (f : ℕ → ℕ → X) (j k : ℕ) (value : X) (a b : ℕ) → (a ≡ j → b ≡ k → ⊥)
    → put_pair f j k value a b ≡ f a b
put_apart f j k value a b apart = by_pair (put_at f j k value a b)
  where
    by_pair : PutAt f j k value a b → put_pair f j k value a b ≡ f a b
    by_pair (there one two is) = absurd (apart one two)
    by_pair (elsewhere other is) = is

pub put_later : (f : ℕ → ℕ → Option ℕ) (t c : ℕ) (value : Option ℕ) → Later (f t c) value → (u d : ℕ)
    → Later (f u d) (put_pair f t c value u d)
put_later f t c value later u d = by_pair (put_at f t c value u d)
  where
    by_pair : PutAt f t c value u d → Later (f u d) (put_pair f t c value u d)
    by_pair (there one two is) = subst (λ (o : Option ℕ). Later (f u d) o) (sym is)
        (subst (λ (o : Option ℕ). Later o value) (sym (ap (λ (n : ℕ). f n d) one ∙ ap (f t) two)) later)
    by_pair (elsewhere other is) = same_later (f u d) (put_pair f t c value u d) is

module _ (line : Line) (v : LineState) (x : View) (old : Follows line v x) where
  pub heard_as : (new : LineState) → new.heard ≡ v.heard → (u c : ℕ) → Later (v.heard u c) (new.heard u c)
  heard_as new same u c = same_later (v.heard u c) (new.heard u c) (ap (λ (f : ℕ → ℕ → Option ℕ). f u c) same)

  -- starts wait on
  pub wait_still : (new : LineState) (y : View) → new.wait ≡ v.wait → y.start ≡ x.start
      → ((u d : ℕ) → Later (v.heard u d) (new.heard u d)) → (t c : ℕ) (place : Place) → new.wait t c ≡ Some place
      → IsSeen line y (new.heard t c) t c place
  wait_still new y waits starts later t c place is =
      let was = old.waits t c place (sym (ap (λ (f : ℕ → ℕ → Option Place). f t c) waits) ∙ is) in
      record {
        since = was.since;
        good = was.good;
        seen = ap (λ (f : ℕ → ℕ → Option Stretch). f t c) starts
            ∙ was.seen;
        now = later t c was.since was.now;
      }

  -- all but one of them do, of which no more is seen
  pub wait_but : (new : LineState) (y : View) (u d : ℕ)
      → ((t c : ℕ) (place : Place) → new.wait t c ≡ Some place → (t ≡ u → c ≡ d → ⊥) × (v.wait t c ≡ Some place))
      → ((t c : ℕ) → (t ≡ u → c ≡ d → ⊥) → y.start t c ≡ x.start t c)
      → ((a b : ℕ) → Later (v.heard a b) (new.heard a b)) → (t c : ℕ) (place : Place) → new.wait t c ≡ Some place
      → IsSeen line y (new.heard t c) t c place
  wait_but new y u d waits starts later t c place is =
      let w = waits t c place is in
      let was = old.waits t c place w.1 in
      record { since = was.since; good = was.good; seen = starts t c w.0 ∙ was.seen; now = later t c was.since was.now }

  -- one of them ends
  pub wait_less : (new : LineState) (y : View) (u d : ℕ) → new.wait ≡ put_pair v.wait u d None
      → ((t c : ℕ) → (t ≡ u → c ≡ d → ⊥) → y.start t c ≡ x.start t c)
      → ((a b : ℕ) → Later (v.heard a b) (new.heard a b))
      → (t c : ℕ) (place : Place) → new.wait t c ≡ Some place → IsSeen line y (new.heard t c) t c place
  wait_less new y u d waits starts later =
      wait_but new y u d (λ t c place is. by_pair t c place (put_at v.wait u d None t c)
      (sym (ap (λ (f : ℕ → ℕ → Option Place). f t c) waits) ∙ is)) starts later
    where
      by_pair : (t c : ℕ) (place : Place) → PutAt v.wait u d None t c → put_pair v.wait u d None t c ≡ Some place
          → (t ≡ u → c ≡ d → ⊥) × (v.wait t c ≡ Some place)
      by_pair t c place (there a b none) some = let wrong : None ≡ Some place = sym none ∙ some in cc
      by_pair t c place (elsewhere apart same) some = (apart, sym same ∙ some)

  -- none was waiting there
  pub wait_none : (new : LineState) (y : View) (u d : ℕ) → v.wait u d ≡ None → new.wait ≡ v.wait
      → ((t c : ℕ) → (t ≡ u → c ≡ d → ⊥) → y.start t c ≡ x.start t c)
      → ((a b : ℕ) → Later (v.heard a b) (new.heard a b))
      → (t c : ℕ) (place : Place) → new.wait t c ≡ Some place → IsSeen line y (new.heard t c) t c place
  wait_none new y u d none waits starts later = wait_but new y u d by_wait starts later
    where
      by_wait : (t c : ℕ) (place : Place) → new.wait t c ≡ Some place → (t ≡ u → c ≡ d → ⊥) × (v.wait t c ≡ Some place)
      by_wait t c place is =
          let was : v.wait t c ≡ Some place = sym (ap (λ (f : ℕ → ℕ → Option Place). f t c) waits) ∙ is in (
            λ a b. let wrong : None ≡ Some place = sym none ∙ sym (ap (λ (n : ℕ). v.wait n c) a ∙ ap (v.wait u) b)
                ∙ was in cc,
            was,
          )

  -- one train's hand, mission and stretch change
  pub after_one : (t : ℕ) (new : LineState) (y : View) → y.stray ≡ false → WaitsKeep line new
      → ((u c : ℕ) (place : Place) → new.wait u c ≡ Some place → IsSeen line y (new.heard u c) u c place)
      → ((u : ℕ) → (u ≡ t → ⊥) → (s : ℕ) → given new u s ≡ given v u s)
      → ((u : ℕ) → (u ≡ t → ⊥) → new.mission u ≡ v.mission u)
      → ((u : ℕ) → (u ≡ t → ⊥) → y.stretch u ≡ x.stretch u) → ((u c : ℕ) → Later (v.heard u c) (new.heard u c))
      → Tied line (given new t) (new.mission t) (y.stretch t) (new.heard t) → Follows line new y
  after_one t new y founded keep waits hands missions stretches later tied = record {
    keep = keep;
    founded = founded;
    waits = waits;
    tied = λ u. elim (eqb_tells u t) [
      | inl e ↦ subst (λ (n : ℕ). Tied line (given new n) (new.mission n) (y.stretch n) (new.heard n)) (sym (e.1)) tied
      | inr e ↦ tied_as line (given v u) (given new u) (v.mission u) (new.mission u) (x.stretch u) (y.stretch u)
          (v.heard u) (new.heard u) (hands u (e.1)) (missions u (e.1)) (stretches u (e.1)) (later u) (old.tied u)
    ];
  }

  -- no train's does
  pub after_none : (new : LineState) (y : View) → y.stray ≡ false → WaitsKeep line new
      → ((u c : ℕ) (place : Place) → new.wait u c ≡ Some place → IsSeen line y (new.heard u c) u c place)
      → ((u s : ℕ) → given new u s ≡ given v u s) → new.mission ≡ v.mission → y.stretch ≡ x.stretch
      → ((u c : ℕ) → Later (v.heard u c) (new.heard u c)) → Follows line new y
  after_none new y founded keep waits hands missions stretches later = record {
    keep = keep;
    founded = founded;
    waits = waits;
    tied = λ u. tied_as line (given v u) (given new u) (v.mission u) (new.mission u) (x.stretch u) (y.stretch u)
        (v.heard u) (new.heard u) (hands u)
        (ap (λ (f : ℕ → Option LineMission). f u) missions) (ap (λ (f : ℕ → Option Stretch). f u) stretches)
        (later u) (old.tied u);
  }

  -- the mission of a train changes, and no hand
  pub after_mission : (t : ℕ) (new : LineState) (y : View) → y.stray ≡ false → WaitsKeep line new
      → ((u c : ℕ) (place : Place) → new.wait u c ≡ Some place → IsSeen line y (new.heard u c) u c place)
      → new.mark ≡ v.mark → ((u : ℕ) → (u ≡ t → ⊥) → new.mission u ≡ v.mission u) → y.stretch ≡ x.stretch
      → ((u c : ℕ) → Later (v.heard u c) (new.heard u c))
      → Tied line (given v t) (new.mission t) (x.stretch t) (new.heard t) → Follows line new y
  after_mission t new y founded keep waits marks missions stretches later tied =
      after_one t new y founded keep waits (λ u apart s. ap (λ (f : ℕ → Mark). is_given_to u (f s)) marks) missions
      (λ u apart. ap (λ (f : ℕ → Option Stretch). f u) stretches) later
      (tied_as line (given v t) (given new t) (new.mission t) (new.mission t) (x.stretch t) (y.stretch t) (new.heard t)
      (new.heard t) (λ s. ap (λ (f : ℕ → Mark). is_given_to t (f s)) marks) refl
      (ap (λ (f : ℕ → Option Stretch). f t) stretches) (λ c n h. h) tied)

  pub changed_there : (t : ℕ) (change : LineMission → LineMission) (m : LineMission) → v.mission t ≡ Some m
      → (change_mission t change v).mission t ≡ Some (change m)
  changed_there t change m is = put_there v.mission t (option_map change (v.mission t)) ∙ ap (option_map change) is
