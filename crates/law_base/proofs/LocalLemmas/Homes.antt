-- Places that are fit for a start, hands, and homes of the one centre of a line.
use Rattle.std.proofs.Common.{[], ℤ, ⊎_elim, ◌&&◌, ◌*◌, ◌+◌, ◌-◌, ◌<◌, ◌==◌, ◌∙◌, ◌∷◌, ◌≡◌, ◌≤◌, ap, arith, Bool, cond}
use Rattle.std.proofs.Common.{drop, eqb-true, false, filter, if◌then◌else◌, int_le, int_lt, is_none, leb-true, length}
use Rattle.std.proofs.Common.{List, lt-ltb, ltb-true, nat_le, nat_lt, negsuc, None, not, Option, option_map, pos, refl}
use Rattle.std.proofs.Common.{slice_get, Some, subst, suc, sym, take, true, zero, ℕ}
use Rattle.std.proofs.lemmas.Bool.{and_from, and_parts, both_ways, cases_Bool, cases_lt, false_from_ne_true, not-true}
use Rattle.std.proofs.lemmas.Bool.{not_from_false}
use Rattle.std.proofs.lemmas.List.Elements.{All-drop, All-head, All-tail}
use Rattle.std.proofs.lemmas.List.Folds.{find_at}
use Rattle.std.proofs.lemmas.Option.{same_Some}
use Rattle.std.specs.List.{All, find, position_or_len, sum_by, zip}
use Rattle.std.specs.Option.{option_map_or}
use Rattle.law_base.specs.Local.Local.{IsLocalMission, IsOrdered}
use Rattle.rbc_spec.proofs.Lists.{each_at, itself, one_track}
use Rattle.rbc_spec.proofs.Places.{covers_from, covers_parts, end_of, IsAt, on_section, start_is}
use Rattle.rbc_spec.proofs.Runs.{each_within, same_tests, within_from, within_true}
use Rattle.rbc_spec.proofs.Sums.{sum_kept, sum_left, sum_up_to}
use Rattle.rbc_spec.specs.Acts.{begun}
use Rattle.rbc_spec.specs.Centre as centre
use Rattle.rbc_spec.specs.Centre.{is_free, is_open, is_registrar_of, Mission}
use Rattle.rbc_spec.specs.Line.{end, is_home, is_joint, Line, next_centre, Section, section, Train, train_number}
use Rattle.rbc_spec.specs.Place.{covered, covers, extent, fit_place, is_fit, Place, Position}
use Rattle.rbc_spec.specs.SectionRuns.{all_of, next_after, part_before, part_from, SectionRun, within}
use Rattle.rbc_spec.specs.Sections.{is_on, track_end}
use Rattle.rbc_spec.specs.Theorems.{IsOneCentreLine}

-- # A place that is fit for a start covers some section, and at most as many as a hand may have.

-- a rear that is not before the track, and before the front
rear_parts : (o : Option ℤ) (front : ℕ)
    → option_map_or (λ rear. int_le (pos 0) rear && int_lt rear (pos front)) o false ≡ true
    → (r : ℕ) × (o ≡ Some (pos r)) × (r < front)
rear_parts (Some (pos r)) front is =
    (r, refl, ltb-true r front (and_parts (int_le (pos 0) (pos r)) (nat_lt r front) is).1)
rear_parts (Some (negsuc r)) front is = cc
rear_parts None front is = cc

-- the item, among those that pass, that contains a length
pub record LiesIn (track r : ℕ) (xs : List Section) : Type 0 where
  pub i : ℕ
  pub x : Section
  pub at : slice_get xs i ≡ Some x
  pub on : (x.track == track) ≡ true
  pub from : 10 * sum_up_to (λ q. q.metres) (λ q. q.track == track) xs i ≤ r
  pub to : r < 10 * (sum_up_to (λ q. q.metres) (λ q. q.track == track) xs i + x.metres)

lies_in : (track : ℕ) (xs : List Section) (r : ℕ) → r < 10 * sum_by (λ q. q.metres) (filter (λ q. q.track == track) xs)
    → LiesIn track r xs
lies_in track [] r low = absurd (omega arith)
lies_in track (x ∷ xs) r low = ⊎_elim
    (λ (is : (x.track == track) ≡ true). ⊎_elim
    (λ (here : r < 10 * x.metres).
    record { i = 0; x = x; at = refl; on = is; from = omega arith; to = omega (arith, here) })
    (λ (later : 10 * x.metres ≤ r). deeper is later
    (lies_in track xs (r - 10 * x.metres)
    (omega (arith, sum_kept (λ (q : Section). q.metres) (λ q. q.track == track) x xs is))))
    (cases_lt r (10 * x.metres)))
    (λ (fails : (x.track == track) ≡ false). beside fails
    (lies_in track xs r (omega (arith, sum_left (λ (q : Section). q.metres) (λ q. q.track == track) x xs fails))))
    (cases_Bool (x.track == track))
  where
    deeper : (x.track == track) ≡ true → 10 * x.metres ≤ r → LiesIn track (r - 10 * x.metres) xs
        → LiesIn track r (x ∷ xs)
    deeper is later h =
        let e = sum_kept (λ (q : Section). q.metres) (λ q. q.track == track) x (take h.i xs) is in
        record {
          i = suc h.i;
          x = h.x;
          at = h.at;
          on = h.on;
          from = omega (arith, e, h.from);
          to = omega (arith, e, h.to);
        }

    beside : (x.track == track) ≡ false → LiesIn track r xs → LiesIn track r (x ∷ xs)
    beside fails h =
        let e = sum_left (λ (q : Section). q.metres) (λ q. q.track == track) x (take h.i xs) fails in
        record {
          i = suc h.i;
          x = h.x;
          at = h.at;
          on = h.on;
          from = omega (arith, e, h.from);
          to = omega (arith, e, h.to);
        }

-- the facts of a fit place
pub record IsFit (line : Line) (place : Place) : Type 0 where
  pub rear : ℕ
  pub rear_is : place.rear ≡ Some (pos rear)
  pub order : rear < place.front
  pub bound : place.front ≤ 10 * track_end line place.track
  pub few : (covered line place).count ≤ 32

pub fit_parts : (line : Line) (place : Place) → is_fit line place ≡ true → IsFit line place
fit_parts line place fit =
    let both = and_parts (option_map_or (λ rear. int_le (pos 0) rear && int_lt rear (pos place.front)) place.rear false)
    _ fit in
    let bounds = and_parts (nat_le place.front (10 * track_end line place.track))
    (nat_le (covered line place).count 32) both.1 in
    let rear = rear_parts place.rear place.front both.0 in
    record {
      rear = rear.0;
      rear_is = rear.1;
      order = rear.2;
      bound = leb-true _ _ bounds.0;
      few = leb-true _ _ bounds.1;
    }

-- a fit place covers a section
pub fit_covers : (line : Line) (place : Place) → IsFit line place → (s : ℕ) × (covers line place s ≡ true)
fit_covers line place fit =
    let h = lies_in place.track line.sections fit.rear (omega (arith, fit.order, fit.bound)) in
    let at : IsAt line place.track h.i h.x = record { at = h.at; on = eqb-true h.x.track place.track h.on } in (
      h.i,
      covers_from line place h.i (record {
        on = on_section line place.track h.i h.x at;
        begins = omega (arith, start_is line place.track h.i h.x at, h.from, fit.order);
        ends = ap (λ o. option_map_or (λ rear. int_lt rear (pos (10 * end line h.i))) o false) fit.rear_is
            ∙ lt-ltb fit.rear (10 * end line h.i) (omega (arith, end_of line place.track h.i h.x at, h.to));
      }),
    )

module _ (line : Line) (ordered : IsOrdered line) (place : Place) (fit : IsFit line place) where
  pub covers_within : (s : ℕ) → covers line place s ≡ true → within (covered line place) s ≡ true
  covers_within s is = ordered.covers_run place s ∙ is

  pub covered_on : (s : ℕ) → within (covered line place) s ≡ true → is_on line place.track s ≡ true
  covered_on s is = (covers_parts line place s (sym (ordered.covers_run place s) ∙ is)).on

  -- a mission that begins there
  pub begun_local : IsLocalMission line (begun line place)
  begun_local =
      let one = fit_covers line place fit in
      let at = within_true (covered line place) one.0 (covers_within one.0 one.1) in
      record {
        no_pool = refl;
        no_handing = refl;
        some = omega (arith, at);
        few = fit.few;
        on_track = covered_on;
      }

  -- a mission that goes on from there, if its hand has all sections of the place
  pub restarted_local : (m : Mission) → IsLocalMission line m → all_of (within m.hand) (covered line place) ≡ true
      → IsLocalMission line (record m { place = place; has_data = false; is_ended = false; proposal = None })
  restarted_local m local all =
      let one = fit_covers line place fit in
      let there = covers_within one.0 one.1 in
      let same : m.place.track ≡ place.track =
      one_track line one.0 m.place.track place.track
      (local.on_track one.0 (each_within (within m.hand) (covered line place) all one.0 there))
      (covered_on one.0 there) in
      record {
        no_pool = local.no_pool;
        no_handing = local.no_handing;
        some = local.some;
        few = local.few;
        on_track = λ s has. subst (λ t. is_on line t s ≡ true) same (local.on_track s has);
      }

-- # Runs as hands, after a cleared part or a cut.

pub within_no : (r : SectionRun) (s : ℕ) → within r s ≡ false → r.first ≤ s → r.first + r.count ≤ s
within_no r s is low =
    ⊎_elim (λ (high : s < r.first + r.count). absurd (both_ways (within r s) is (within_from r s low high)))
    (λ (h : r.first + r.count ≤ s). h) (cases_lt s (r.first + r.count))

-- the part after a front part of a hand is the hand without that part
pub within_rest : (hand : SectionRun) (n s : ℕ) → n ≤ hand.count → let r : SectionRun =
    record { first = hand.first; count = n } in
    within (part_from (next_after r) hand) s ≡ (within hand s && not (within r s))
within_rest hand n s few = same_tests _ _
    (λ is. let at = within_true (part_from (hand.first + n) hand) s is in
    and_from (within hand s) (not (within (record { first = hand.first; count = n }) s))
    (within_from hand s (omega (arith, at)) (omega (arith, at)))
    (not_from_false _
    (false_from_ne_true _ (λ front. let low = within_true (record { first = hand.first; count = n }) s front in
    absurd (omega (arith, at, low))))))
    (λ is. let both = and_parts (within hand s) (not (within (record { first = hand.first; count = n }) s)) is in
    let at = within_true hand s both.0 in
    let past : hand.first + n ≤ s = within_no (record { first = hand.first; count = n }) s (not-true _ both.1) at.0 in
    within_from (part_from (hand.first + n) hand) s (omega (arith, at, past)) (omega (arith, at, past)))

-- the part before a cut is the hand without the part after it
pub within_kept : (hand : SectionRun) (n s : ℕ) → within (part_before n hand) s
    ≡ (within hand s && not (within (part_from n hand) s))
within_kept hand n s = same_tests _ _
    (λ is. let at = within_true (part_before n hand) s is in
    and_from (within hand s) (not (within (part_from n hand) s))
    (within_from hand s at.0 (omega (arith, at)))
    (not_from_false _ (false_from_ne_true _ (λ tail. let low = within_true (part_from n hand) s tail in
    absurd (omega (arith, at, low))))))
    (λ is. let both = and_parts (within hand s) (not (within (part_from n hand) s)) is in
    let at = within_true hand s both.0 in
    ⊎_elim
    (λ (low : s < n). within_from (part_before n hand) s at.0 (omega (arith, at)))
    (λ (high : n ≤ s). absurd (both_ways (within (part_from n hand) s) (not-true _ both.1)
    (within_from (part_from n hand) s (omega (arith, at)) (omega (arith, at)))))
    (cases_lt s n))

-- # The one centre of a line is the home of each section and the registrar of each train. A centre that is home of some
-- section is the registrar of every train of the line.

some_at : {X : Type 0} (xs : List X) (n : ℕ) → n < length xs → (x : X) × (slice_get xs n ≡ Some x)
some_at [] n low = absurd (omega (arith, low))
some_at (x ∷ xs) zero low = (x, refl)
some_at (x ∷ xs) (suc n) low = some_at xs n (omega (arith, low))

-- a fit place is one
pub fit_of : (line : Line) (is_valid : Bool) (o : Option Place) (place : Place)
    → option_map_or (λ p. if is_valid && is_fit line p then Some p else None) o None ≡ Some place
    → is_fit line place ≡ true
fit_of line is_valid None place is = cc
fit_of line is_valid (Some p) place is = by_fit (is_valid && is_fit line p) refl is
  where
    by_fit : (b : Bool) → (is_valid && is_fit line p) ≡ b → cond b (Some p) None ≡ Some place → is_fit line place ≡ true
    by_fit true fits h = subst (λ (q : Place). is_fit line q ≡ true) (same_Some p place h)
        (and_parts is_valid (is_fit line p) fits).1
    by_fit false fits h = cc

module _ (line : Line) (d : ℕ) (one : IsOneCentreLine line d) where
  home_is : (c s : ℕ) → is_home line c s ≡ true → c ≡ d
  home_is c s home = by_section (section line s) refl home
    where
      by_section : (o : Option Section) → section line s ≡ o → option_map_or (λ p. p.home == c) o false ≡ true → c ≡ d
      by_section None at h = cc
      by_section (Some p) at h = sym (eqb-true p.home c h) ∙ each_at (λ q. q.home ≡ d) line.sections s p one.homes at

  registrar_is : (t : ℕ) → is_none (train_number line t) ≡ false → is_registrar_of line d t ≡ true
  registrar_is t known =
      by_number (nat_lt (position_or_len (λ p. p.nid_engine == t) line.trains) (length line.trains)) refl known
    where
      by_number : (b : Bool) → nat_lt (position_or_len (λ p. p.nid_engine == t) line.trains) (length line.trains) ≡ b
          → is_none (cond b (Some (position_or_len (λ (p : Train). p.nid_engine == t) line.trains)) None) ≡ false
          → is_registrar_of line d t ≡ true
      by_number false low h = cc
      by_number true low h =
          let n : ℕ = position_or_len (λ p. p.nid_engine == t) line.trains in
          let p = some_at line.trains n (ltb-true n (length line.trains) low) in
          let found : find (λ q. q.nid_engine == t) line.trains ≡ Some p.0 =
          find_at (λ q. q.nid_engine == t) line.trains ∙ p.1 in
          let there : p.0.registrar ≡ d = each_at (λ q. q.registrar ≡ d) line.trains n p.0 one.registrars p.1 in
          ap (λ (o : Option Train). option_map_or (λ r. r == d) (option_map (λ q. q.registrar) o) false) found
          ∙ ap (λ r. r == d) there ∙ itself d

  -- if a fit place has free sections, every train of the line is registered here
  pub free_at_registrar : IsOrdered line
      → (c t : ℕ) (k : centre.Centre) (is_valid : Bool) (position : Position) (place : Place)
      → is_none (train_number line t) ≡ false
      → fit_place line is_valid position ≡ Some place → all_of (is_free line c k) (covered line place) ≡ true
      → is_registrar_of line c t ≡ true
  free_at_registrar ordered c t k is_valid position place known fits all =
      let fit = fit_parts line place (fit_of line is_valid (extent line position) place fits) in
      let some = fit_covers line place fit in
      let free = each_within (is_free line c k) (covered line place) all some.0
      (covers_within line ordered place fit some.0 some.1) in
      let here : c ≡ d = home_is c some.0 (and_parts (is_home line c some.0) (is_open (k.book some.0)) free).0 in
      ap (λ e. is_registrar_of line e t) here ∙ registrar_is t known

  -- no centre follows another on a track
  no_border : (c track : ℕ) (xs ys : List Section) → All (λ p. p.home ≡ d) xs → All (λ p. p.home ≡ d) ys
      → find (λ (seam : Section × Section). ((is_joint seam && (seam.0.track == track)) && (seam.0.home == c))
      && not (seam.1.home == c)) (zip xs ys) ≡ None
  no_border c track [] ys left right = refl
  no_border c track (x ∷ xs) [] left right = refl
  no_border c track (x ∷ xs) (y ∷ ys) left right =
      ap (λ b. cond b (Some (x, y))
      (find (λ (seam : Section × Section). ((is_joint seam && (seam.0.track == track)) && (seam.0.home == c))
      && not (seam.1.home == c)) (zip xs ys)))
      (none_passes (is_joint (x, y) && (x.track == track)) (x.home == c) (y.home == c)
      (ap (λ h. h == c) (All-head (λ p. p.home ≡ d) x xs left ∙ sym (All-head (λ p. p.home ≡ d) y ys right))))
      ∙ no_border c track xs ys (All-tail (λ p. p.home ≡ d) x xs left) (All-tail (λ p. p.home ≡ d) y ys right)
    where
      none_passes : (a b e : Bool) → b ≡ e → ((a && b) && not e) ≡ false
      none_passes false b e same = refl
      none_passes true true true same = refl
      none_passes true true false same = cc
      none_passes true false e same = refl

  pub none_next : (c track : ℕ) → next_centre line c track ≡ None
  none_next c track = ap (option_map (λ (seam : Section × Section). seam.1.home))
      (no_border c track line.sections (drop 1 line.sections) one.homes
      (All-drop (λ p. p.home ≡ d) 1 line.sections one.homes))
