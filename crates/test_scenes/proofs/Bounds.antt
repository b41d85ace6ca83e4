-- Each change of the marks gives only sections of the line.
use Rattle.std.proofs.Common.{◌&&◌, ◌+◌, ◌<◌, ◌==◌, ◌∙◌, ◌≡◌, ◌≤◌, arith, Bool, false, if◌then◌else◌, nat_le, nat_lt}
use Rattle.std.proofs.Common.{None, not, Option, refl, Some, suc, sym, true, true≢false, zero, ℕ}
use Rattle.std.proofs.lemmas.Bool.{and_parts}
use Rattle.std.proofs.lemmas.Bool.Decides.{nat_tests}
use Rattle.std.proofs.lemmas.List.Filters.{length-filter_both}
use Rattle.std.proofs.lemmas.List.FromFn.{length-range_with_len}
use Rattle.std.proofs.lemmas.Option.{slice_get_within}
use Rattle.std.specs.List.{filter, list_any, range_with_len}
use Rattle.std.specs.Option.{option_map_or}
use Rattle.rbc_spec.specs.Line.{is_home, Line, Section, section}
use Rattle.rbc_spec.specs.LineCentre.{close_if_empty, free, Given, is_given_to, Kept, LineState, Mark, mark_all, Open}
use Rattle.rbc_spec.specs.LineCentre.{release, Shut}
use Rattle.rbc_spec.specs.Maps.{put}
use Rattle.rbc_spec.specs.OwnSteps.{has_reached, is_ahead_of, is_cleared_of, is_cut_of, reported, shortened, stopped}
use Rattle.rbc_spec.specs.Place.{covered, covers, Place}
use Rattle.rbc_spec.specs.SectionRuns.{next_after, run_of, SectionRun, within}
use Rattle.rbc_spec.specs.Sections.{is_on, section_count}

pub record IsWithinLine (line : Line) (mark : ℕ → Mark) : Type 0 where
  pub given : (t s : ℕ) → is_given_to t (mark s) ≡ true → s < section_count line

-- ## Sections of the line

-- a section that passes the test is a section of the line
pub passing : (line : Line) (s : ℕ) (test : Section → Bool) → option_map_or test (section line s) false ≡ true
    → s < section_count line
passing line s test so = at (section line s) refl so
  where
    at : (p : Option Section) → section line s ≡ p → option_map_or test p false ≡ true → s < section_count line
    at None is so = absurd (true≢false (sym so))
    at (Some p) is so = slice_get_within line.sections s p is

pub home_within : (line : Line) (c s : ℕ) → is_home line c s ≡ true → s < section_count line
home_within line c s so = passing line s (λ p. p.home == c) so

pub on_within : (line : Line) (track s : ℕ) → is_on line track s ≡ true → s < section_count line
on_within line track s so = passing line s (λ p. p.track == track) so

-- the run of the numbers that pass a test, among n numbers from a on, ends at or before a + n
run_end : (test : ℕ → Bool) (n a : ℕ) → next_after (run_of (filter test (range_with_len a n))) ≤ a + n
run_end test zero a = omega arith
run_end test (suc n) a = by_test (test a) refl (run_end test n (a + 1))
  where
    by_test : (b : Bool) → test a ≡ b → next_after (run_of (filter test (range_with_len (a + 1) n))) ≤ a + 1 + n
        → next_after (run_of (filter test (range_with_len a (suc n)))) ≤ a + suc n
    by_test true is others =
        let parts = length-filter_both test (λ s. not (test s)) (λ s. refl) (range_with_len (a + 1) n) in
        let all = length-range_with_len (a + 1) n in
        rw is (omega (arith, parts, all))
    by_test false is others = rw is (omega (arith, others))

run_end_from_0 : (test : ℕ → Bool) (n : ℕ) → next_after (run_of (filter test (range_with_len 0 n))) ≤ n
run_end_from_0 test n = let end = run_end test n 0 in omega (arith, end)

within_before : (r : SectionRun) (n s : ℕ) → next_after r ≤ n → within r s ≡ true → s < n
unfolding within
within_before r n s end so =
    let before : nat_lt s (next_after r) ≡ true = (and_parts (nat_le r.first s) (nat_lt s (next_after r)) so).1 in
    grind (arith, nat_tests, before, end)

pub covered_within : (line : Line) (place : Place) (s : ℕ) → within (covered line place) s ≡ true
    → s < section_count line
covered_within line place s so =
    within_before (covered line place) (section_count line) s
    (run_end_from_0 (covers line place) (section_count line)) so

-- ## Marks

-- by cases: P follows from either of two marks, so it follows from the chosen one
pub of_two : (t : ℕ) {P : Type 0} (b : Bool) (x y : Mark) → (b ≡ true → is_given_to t x ≡ true → P)
    → (is_given_to t y ≡ true → P)
    → is_given_to t (if b then x else y) ≡ true → P
of_two t true x y one two so = one refl so
of_two t false x y one two so = two so

pub shut_or_open : (t : ℕ) {P : Type 0} (b : Bool) → is_given_to t (if b then Shut else Open) ≡ true → P
shut_or_open t true so = absurd (true≢false (sym so))
shut_or_open t false so = absurd (true≢false (sym so))

-- sections that pass a test get another mark, which gives none of them, or only sections of the line
pub within_changed : (line : Line) (test : ℕ → Bool) (new old : ℕ → Mark)
    → ((t s : ℕ) → test s ≡ true → is_given_to t (new s) ≡ true → s < section_count line) → IsWithinLine line old
    → IsWithinLine line (λ s. if test s then new s else old s)
within_changed line test new old so was =
    record { given = λ t s. of_two t (test s) (new s) (old s) (so t s) (was.given t s) }

pub within_free : (line : Line) (is_freed : ℕ → Bool) (v : LineState) → IsWithinLine line v.mark
    → IsWithinLine line (free is_freed v).mark
within_free line is_freed v was =
    within_changed line is_freed (λ s. if v.wish s then Shut else Open) v.mark
    (λ t s _ given. shut_or_open t (v.wish s) given) was

pub within_kept : (line : Line) (test : ℕ → Bool) (t : ℕ) (v : LineState) → IsWithinLine line v.mark
    → IsWithinLine line (mark_all test (Kept t) v).mark
within_kept line test t v was =
    within_changed line test (λ s. Kept t) v.mark (λ u s _ given. absurd (true≢false (sym given))) was

pub within_given : (line : Line) (test : ℕ → Bool) (t : ℕ) (v : LineState)
    → ((s : ℕ) → test s ≡ true → s < section_count line)
    → IsWithinLine line v.mark → IsWithinLine line (mark_all test (Given t) v).mark
within_given line test t v so was = within_changed line test (λ s. Given t) v.mark (λ u s passes _. so s passes) was

pub within_put : (line : Line) (s : ℕ) (mark : Mark) (v : LineState) → ((t : ℕ) → is_given_to t mark ≡ false)
    → IsWithinLine line v.mark → IsWithinLine line (put v.mark s mark)
within_put line s mark v not_given was =
    within_changed line (λ j. j == s) (λ j. mark) v.mark
    (λ t j _ given. absurd (true≢false (sym given ∙ not_given t))) was

pub within_release : (line : Line) (c t : ℕ) (is_released : ℕ → Bool) (v : LineState) → IsWithinLine line v.mark
    → IsWithinLine line (release line c t is_released v).mark
within_release line c t is_released v was =
    within_free line (λ s. is_released s && is_home line c s)
    (mark_all (λ s. is_released s && not (is_home line c s)) (Kept t) v)
    (within_kept line (λ s. is_released s && not (is_home line c s)) t v was)

-- if both of two states give only sections of the line, so does the chosen one
pub within_one : (line : Line) (b : Bool) (x y : LineState) → IsWithinLine line x.mark → IsWithinLine line y.mark
    → IsWithinLine line (if b then x else y).mark
within_one line true x y one two = one
within_one line false x y one two = two

pub within_close : (line : Line) (t : ℕ) (v : LineState) → IsWithinLine line v.mark
    → IsWithinLine line (close_if_empty line t v).mark
within_close line t v was =
    within_one line (list_any (λ s. is_given_to t (v.mark s)) (range_with_len 0 (section_count line))) v _ was was

pub within_shortened : (line : Line) (t c : ℕ) (place : Option Place) (last_kept : ℕ) (v : LineState)
    → IsWithinLine line v.mark → IsWithinLine line (shortened line t c place last_kept v).mark
within_shortened line t c None last_kept v was = was
within_shortened line t c (Some place) last_kept v was = within_one line _ _ v
    (within_close line t (release line c t (is_cut_of v t last_kept) v)
    (within_release line c t (is_cut_of v t last_kept) v was)) was

pub within_reported : (line : Line) (t c : ℕ) (place : Place) (v : LineState) → IsWithinLine line v.mark
    → IsWithinLine line (reported line t c place v).mark
within_reported line t c place v was =
    within_close line t _ (within_release line c t (is_cleared_of line v t place) v was)

pub within_stopped : (line : Line) (t c : ℕ) (place : Place) (v : LineState) → IsWithinLine line v.mark
    → IsWithinLine line (stopped line t c place v).mark
within_stopped line t c place v was =
    within_one line (has_reached line v t place) _ v (within_release line c t (is_ahead_of line v t place) v was) was
