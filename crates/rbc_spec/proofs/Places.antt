-- The starts and ends of sections on their track, and the sections that a place covers.
use Rattle.std.proofs.Common.{◌&&◌, ◌*◌, ◌+◌, ◌<◌, ◌==◌, ◌∙◌, ◌≡◌, ◌≤◌, ap, arith, Bool, eq-eqb, eqb-true, false}
use Rattle.std.proofs.Common.{filter, get_or, int_lt, le_antisymm, length, lt-ltb, ltb-true, nat_lt, negsuc, None}
use Rattle.std.proofs.Common.{Option, pos, refl, slice_get, Some, sym, take, true, ℕ, ℤ, ⊎_elim}
use Rattle.std.proofs.lemmas.Bool.{and_from, and_left, and_parts}
use Rattle.std.proofs.lemmas.Option.{slice_get_cases, slice_get_past, slice_get_within}
use Rattle.std.specs.List.{sum_by}
use Rattle.std.specs.Option.{option_map_or}
use Rattle.rbc_spec.proofs.Convex.{convex_run_of, IsConvex}
use Rattle.rbc_spec.proofs.Sums.{sum_next, sum_rises, sum_up_to}
use Rattle.rbc_spec.specs.Line.{end, is_home, IsLine, Line, Section, section, start}
use Rattle.rbc_spec.specs.Place.{covered, covers, Place}
use Rattle.rbc_spec.specs.SectionRuns.{within}
use Rattle.rbc_spec.specs.Sections.{home_run, is_on, section_count}

-- the section of a number that is on a track
pub record IsAt (line : Line) (track s : ℕ) (p : Section) : Type 0 where
  pub at : section line s ≡ Some p
  pub on : p.track ≡ track

on_some : (track : ℕ) (o : Option Section) → option_map_or (λ p. p.track == track) o false ≡ true
    → (p : Section) × (o ≡ Some p) × (p.track ≡ track)
on_some track (Some p) on = (p, refl, eqb-true p.track track on)
on_some track None on = cc

pub section_on : (line : Line) (track s : ℕ) → is_on line track s ≡ true → (p : Section) × IsAt line track s p
section_on line track s on = let h = on_some track (section line s) on in (h.0, record { at = h.1; on = h.2 })

pub on_section : (line : Line) (track s : ℕ) (p : Section) → IsAt line track s p → is_on line track s ≡ true
on_section line track s p h = ap (λ o. option_map_or (λ q. q.track == track) o false) h.at ∙ eq-eqb p.track track h.on

-- the sum of the lengths of those of the first s sections of the line that are on one track
abbrev pub before : Line → ℕ → ℕ → ℕ
before line track s = sum_up_to (λ q. q.metres) (λ q. q.track == track) line.sections s

pub start_is : (line : Line) (track s : ℕ) (p : Section) → IsAt line track s p → start line s ≡ before line track s
unfolding start
start_is line track s p h =
    ap (λ o. option_map_or (λ q. sum_by (λ r. r.metres) (filter (λ r. r.track == q.track) (take s line.sections))) o 0)
    h.at
    ∙ ap (λ t. before line t s) h.on

pub end_of : (line : Line) (track s : ℕ) (p : Section) → IsAt line track s p
    → end line s ≡ before line track s + p.metres
unfolding end
end_of line track s p h =
    ap (λ o. option_map_or (λ q. start line s + q.metres) o 0) h.at ∙ ap (λ n. n + p.metres) (start_is line track s p h)

pub end_is : (line : Line) (track s : ℕ) (p : Section) → IsAt line track s p → end line s ≡ before line track (s + 1)
end_is line track s p h =
    end_of line track s p h
    ∙ sym (sum_next (λ q. q.metres) (λ q. q.track == track) line.sections s p h.at (eq-eqb p.track track h.on))

before_rises : (line : Line) (track s e : ℕ) → s ≤ e → before line track s ≤ before line track e
before_rises line track s e le = sum_rises (λ q. q.metres) (λ q. q.track == track) line.sections s e le

pub starts_rise : (line : Line) (track s e : ℕ) → is_on line track s ≡ true → is_on line track e ≡ true → s ≤ e
    → start line s ≤ start line e
starts_rise line track s e one two le =
    let p = section_on line track s one in
    let q = section_on line track e two in
    omega (arith, start_is line track s p.0 p.1, start_is line track e q.0 q.1, before_rises line track s e le)

pub ends_rise : (line : Line) (track s e : ℕ) → is_on line track s ≡ true → is_on line track e ≡ true → s ≤ e
    → end line s ≤ end line e
ends_rise line track s e one two le =
    let p = section_on line track s one in
    let q = section_on line track e two in
    omega (
      arith,
      end_is line track s p.0 p.1,
      end_is line track e q.0 q.1,
      before_rises line track (s + 1) (e + 1) (omega arith),
    )

-- a section ends at or before the start of each later one on its track
pub ends_before : (line : Line) (track s e : ℕ) → is_on line track s ≡ true → is_on line track e ≡ true → s < e
    → end line s ≤ start line e
ends_before line track s e one two lt =
    let p = section_on line track s one in
    let q = section_on line track e two in
    omega (
      arith,
      end_is line track s p.0 p.1,
      start_is line track e q.0 q.1,
      before_rises line track (s + 1) e (omega arith),
    )

-- ## Of one track

-- a section between two sections of a track is of that track
pub between_on : (line : Line) → IsLine line → (track s m e : ℕ) → s ≤ m → m ≤ e → is_on line track s ≡ true
    → is_on line track e ≡ true → is_on line track m ≡ true
between_on line ok track s m e from to one two =
    let p = section_on line track s one in
    let q = section_on line track e two in
    let bound : e < length line.sections = slice_get_within line.sections e q.0 q.1.at in
    ⊎_elim
    (λ (h : (x : Section) × (m < length line.sections) × (slice_get line.sections m ≡ Some x)
    × (get_or line.sections m x ≡ x)).
    on_section line track m h.0 (record {
      at = h.2;
      on =
          le_antisymm (omega (arith, ok.tracks.in_order m e h.0 q.0 to h.2 q.1.at, q.1.on))
          (omega (arith, ok.tracks.in_order s m p.0 h.0 from p.1.at h.2, p.1.on));
    }))
    (λ (h : (length line.sections ≤ m) × (slice_get line.sections m ≡ None)). absurd (omega arith))
    (slice_get_cases line.sections m).1

-- ## Homes

-- the section is of home d and on the track
abbrev pub is_home_on : Line → ℕ → ℕ → ℕ → Bool
is_home_on line d track s = is_home line d s && is_on line track s

homes_convex : (line : Line) → IsLine line → (d track : ℕ) → IsConvex (is_home_on line d track)
homes_convex line ok d track s m e from to one two =
    let first = and_parts (is_home line d s) (is_on line track s) one in
    let last = and_parts (is_home line d e) (is_on line track e) two in
    let on = between_on line ok track s m e from to first.1 last.1 in
    let p = section_on line track s first.1 in
    let n = section_on line track m on in
    let q = section_on line track e last.1 in
    and_from (is_home line d m) (is_on line track m)
    (home_between line ok d track s m e from to first.0 last.0 p.0 n.0 q.0 p.1 n.1 q.1) on
  where
    home_at : (line : Line) (d s : ℕ) (p : Section) → section line s ≡ Some p → is_home line d s ≡ true → p.home ≡ d
    home_at line d s p at home = eqb-true p.home d (sym (ap (λ o. option_map_or (λ r. r.home == d) o false) at) ∙ home)

    home_between : (line : Line) → IsLine line → (d track s m e : ℕ) → s ≤ m → m ≤ e → is_home line d s ≡ true
        → is_home line d e ≡ true
        → (p n q : Section) → IsAt line track s p → IsAt line track m n → IsAt line track e q → is_home line d m ≡ true
    home_between line ok d track s m e from to one two p n q p_at n_at q_at =
        let first = home_at line d s p p_at.at one in
        let last = home_at line d e q q_at.at two in
        let same = ok.homes s m e p n q from to p_at.at n_at.at q_at.at (p_at.on ∙ sym q_at.on) (first ∙ sym last) in
        ap (λ o. option_map_or (λ r. r.home == d) o false) n_at.at ∙ eq-eqb n.home d (same ∙ first)

homes_past : (line : Line) (d track s : ℕ) → section_count line ≤ s → is_home_on line d track s ≡ false
homes_past line d track s past =
    and_left (is_home line d s) (is_on line track s)
    (ap (λ o. option_map_or (λ r. r.home == d) o false) (slice_get_past line.sections s past))

-- the sections of one home on one track are a run
pub homes_run : (line : Line) (d track s : ℕ) → IsLine line
    → within (home_run line d track) s ≡ is_home_on line d track s
homes_run line d track s ok =
    convex_run_of (is_home_on line d track) (section_count line) s (homes_convex line ok d track)
    (homes_past line d track s)

-- ## Places

-- a distance below a number is below each greater one
below_more : (z : ℤ) (a b : ℕ) → a ≤ b → int_lt z (pos a) ≡ true → int_lt z (pos b) ≡ true
below_more (pos r) a b le low = lt-ltb r b (omega (arith, ltb-true r a low))
below_more (negsuc r) a b le low = refl

rear_more : (rear : Option ℤ) (a b : ℕ) → a ≤ b → option_map_or (λ r. int_lt r (pos a)) rear false ≡ true
    → option_map_or (λ r. int_lt r (pos b)) rear false ≡ true
rear_more (Some z) a b le low = below_more z a b le low
rear_more None a b le low = low

-- the three facts of a covered section
pub record IsCovered (line : Line) (place : Place) (s : ℕ) : Type 0 where
  pub on : is_on line place.track s ≡ true
  pub begins : 10 * start line s < place.front
  pub ends : option_map_or (λ rear. int_lt rear (pos (10 * end line s))) place.rear false ≡ true

pub covers_parts : (line : Line) (place : Place) (s : ℕ) → covers line place s ≡ true → IsCovered line place s
covers_parts line place s h =
    let both = and_parts (is_on line place.track s && nat_lt (10 * start line s) place.front) _ h in
    let front = and_parts (is_on line place.track s) (nat_lt (10 * start line s) place.front) both.0 in
    record { on = front.0; begins = ltb-true (10 * start line s) place.front front.1; ends = both.1 }

pub covers_from : (line : Line) (place : Place) (s : ℕ) → IsCovered line place s → covers line place s ≡ true
covers_from line place s h =
    and_from (is_on line place.track s && nat_lt (10 * start line s) place.front) _
    (and_from (is_on line place.track s) (nat_lt (10 * start line s) place.front) h.on
    (lt-ltb (10 * start line s) place.front h.begins)) h.ends

pub covers_convex : (line : Line) → IsLine line → (place : Place) → IsConvex (covers line place)
covers_convex line ok place s m e from to one two =
    let first = covers_parts line place s one in
    let last = covers_parts line place e two in
    let on = between_on line ok place.track s m e from to first.on last.on in
    covers_from line place m (record {
      on = on;
      begins = omega (arith, starts_rise line place.track m e on last.on to, last.begins);
      ends =
          rear_more place.rear (10 * end line s) (10 * end line m)
          (omega (arith, ends_rise line place.track s m first.on on from)) first.ends;
    })

-- no section after the line's last is covered
covers_past : (line : Line) (place : Place) (s : ℕ) → section_count line ≤ s → covers line place s ≡ false
covers_past line place s past =
    and_left (is_on line place.track s && nat_lt (10 * start line s) place.front) _
    (and_left (is_on line place.track s) (nat_lt (10 * start line s) place.front)
    (ap (λ o. option_map_or (λ q. q.track == place.track) o false) (slice_get_past line.sections s past)))

pub covers_run : (line : Line) (place : Place) (s : ℕ) → IsLine line
    → within (covered line place) s ≡ covers line place s
covers_run line place s ok =
    convex_run_of (covers line place) (section_count line) s (covers_convex line ok place) (covers_past line place s)
