-- The view after each scene, computed.
use Rattle.std.proofs.Common.{◌∙◌, ◌≡◌, false, refl, sym, true, ℕ}
use Rattle.law_outside.specs.Outside.{front_end, IsSafeOutside, may_run_over, View}
use Rattle.law_outside.specs.Scenes.{a_late_report, accepted_after_a_rejection, accepted_in_advance, another_is_done}
use Rattle.law_outside.specs.Scenes.{ended, granted, granted_before_it_was_told, line, longer_than_the_hand}
use Rattle.law_outside.specs.Scenes.{out_of_nothing, over_a_waiting_start, reported, seen_of, shortened_by_an_authority}
use Rattle.law_outside.specs.Scenes.{side_by_side, train_1_runs, unset_of_a_kept_section_is_done}
use Rattle.rbc_spec.specs.Line.{end, start as line_start}
use Rattle.rbc_spec.specs.Place.{extent}
use Rattle.rbc_spec.specs.SectionRuns.{longest, within}

pub own_first : may_run_over line (seen_of side_by_side) 1 1 ≡ true
unfolding within longest line_start end extent front_end seen_of
own_first = refl

pub own_second : may_run_over line (seen_of side_by_side) 2 2 ≡ true
unfolding within longest line_start end extent front_end seen_of
own_second = refl

pub not_the_first : may_run_over line (seen_of side_by_side) 2 1 ≡ false
unfolding within longest line_start end extent front_end seen_of
not_the_first = refl

pub not_the_second : may_run_over line (seen_of side_by_side) 1 2 ≡ false
unfolding within longest line_start end extent front_end seen_of
not_the_second = refl

pub runs_over_third : may_run_over line (seen_of train_1_runs) 1 3 ≡ true
unfolding within longest line_start end extent front_end seen_of
runs_over_third = refl

pub granted_third : may_run_over line (seen_of granted) 1 3 ≡ false
unfolding within longest line_start end extent front_end seen_of
granted_third = refl

pub reported_first : may_run_over line (seen_of reported) 1 1 ≡ false
unfolding within longest line_start end extent front_end seen_of
reported_first = refl

pub reported_second : may_run_over line (seen_of reported) 1 2 ≡ true
unfolding within longest line_start end extent front_end seen_of
reported_second = refl

pub granted_back : (seen_of granted).released 3 ≡ false
unfolding within longest line_start end extent front_end seen_of
granted_back = refl

pub granted_not_back : (seen_of granted).released 2 ≡ true
unfolding within longest line_start end extent front_end seen_of
granted_not_back = refl

pub granted_second : may_run_over line (seen_of granted) 1 2 ≡ true
unfolding within longest line_start end extent front_end seen_of
granted_second = refl

pub ended_second : may_run_over line (seen_of ended) 1 2 ≡ false
unfolding within longest line_start end extent front_end seen_of
ended_second = refl

pub ended_first : may_run_over line (seen_of ended) 1 1 ≡ true
unfolding within longest line_start end extent front_end seen_of
ended_first = refl

longer_first : may_run_over line (seen_of longer_than_the_hand) 1 2 ≡ true
unfolding within longest line_start end extent front_end seen_of
longer_first = refl

longer_second : may_run_over line (seen_of longer_than_the_hand) 2 2 ≡ true
unfolding within longest line_start end extent front_end seen_of
longer_second = refl

over_first : may_run_over line (seen_of over_a_waiting_start) 1 2 ≡ true
unfolding within longest line_start end extent front_end seen_of
over_first = refl

over_second : may_run_over line (seen_of over_a_waiting_start) 2 2 ≡ true
unfolding within longest line_start end extent front_end seen_of
over_second = refl

kept_by_first : may_run_over line (seen_of unset_of_a_kept_section_is_done) 1 1 ≡ true
unfolding within longest line_start end extent front_end seen_of
kept_by_first = refl

had_back : (seen_of unset_of_a_kept_section_is_done).released 1 ≡ false
unfolding within longest line_start end extent front_end seen_of
had_back = refl

strays : (seen_of out_of_nothing).stray ≡ true
unfolding within longest line_start end extent front_end seen_of
strays = refl

shortened_runs : may_run_over line (seen_of shortened_by_an_authority) 1 3 ≡ true
unfolding within longest line_start end extent front_end seen_of
shortened_runs = refl

shortened_had_back : (seen_of shortened_by_an_authority).released 3 ≡ false
unfolding within longest line_start end extent front_end seen_of
shortened_had_back = refl

before_runs : may_run_over line (seen_of granted_before_it_was_told) 1 3 ≡ true
unfolding within longest line_start end extent front_end seen_of
before_runs = refl

before_had_back : (seen_of granted_before_it_was_told).released 3 ≡ false
unfolding within longest line_start end extent front_end seen_of
before_had_back = refl

late_runs : may_run_over line (seen_of a_late_report) 1 1 ≡ true
unfolding within longest line_start end extent front_end seen_of
late_runs = refl

late_had_back : (seen_of a_late_report).released 1 ≡ false
unfolding within longest line_start end extent front_end seen_of
late_had_back = refl

advance_first : may_run_over line (seen_of accepted_in_advance) 1 3 ≡ true
unfolding within longest line_start end extent front_end seen_of
advance_first = refl

advance_second : may_run_over line (seen_of accepted_in_advance) 2 3 ≡ true
unfolding within longest line_start end extent front_end seen_of
advance_second = refl

another_runs : may_run_over line (seen_of another_is_done) 1 2 ≡ true
unfolding within longest line_start end extent front_end seen_of
another_runs = refl

another_not_released : (seen_of another_is_done).released 2 ≡ false
unfolding within longest line_start end extent front_end seen_of
another_not_released = refl

rejected_strays : (seen_of accepted_after_a_rejection).stray ≡ true
unfolding within longest line_start end extent front_end seen_of
rejected_strays = refl

-- two trains over one section
two_over_one : (v : View) (s : ℕ) → may_run_over line v 1 s ≡ true → may_run_over line v 2 s ≡ true
    → IsSafeOutside line v → ⊥
two_over_one v s first second h = let same : ◌≡◌ {A = ℕ} 1 2 = h.one_train 1 2 s first second in cc

-- a train over a section that is not released
not_released : (v : View) (s : ℕ) → may_run_over line v 1 s ≡ true → v.released s ≡ false → IsSafeOutside line v → ⊥
not_released v s runs back h = let both : false ≡ true = sym back ∙ h.released 1 s runs in cc

strayed : (v : View) → v.stray ≡ true → IsSafeOutside line v → ⊥
strayed v is h = let both : true ≡ false = sym is ∙ h.founded in cc

pub longer_is_not_safe : IsSafeOutside line (seen_of longer_than_the_hand) → ⊥
longer_is_not_safe = two_over_one (seen_of longer_than_the_hand) 2 longer_first longer_second

pub over_a_start_is_not_safe : IsSafeOutside line (seen_of over_a_waiting_start) → ⊥
over_a_start_is_not_safe = two_over_one (seen_of over_a_waiting_start) 2 over_first over_second

pub had_back_is_not_safe : IsSafeOutside line (seen_of unset_of_a_kept_section_is_done) → ⊥
had_back_is_not_safe = not_released (seen_of unset_of_a_kept_section_is_done) 1 kept_by_first had_back

pub out_of_nothing_is_not_safe : IsSafeOutside line (seen_of out_of_nothing) → ⊥
out_of_nothing_is_not_safe = strayed (seen_of out_of_nothing) strays

pub shortened_is_not_safe : IsSafeOutside line (seen_of shortened_by_an_authority) → ⊥
shortened_is_not_safe = not_released (seen_of shortened_by_an_authority) 3 shortened_runs shortened_had_back

pub before_is_not_safe : IsSafeOutside line (seen_of granted_before_it_was_told) → ⊥
before_is_not_safe = not_released (seen_of granted_before_it_was_told) 3 before_runs before_had_back

pub late_is_not_safe : IsSafeOutside line (seen_of a_late_report) → ⊥
late_is_not_safe = not_released (seen_of a_late_report) 1 late_runs late_had_back

pub advance_is_not_safe : IsSafeOutside line (seen_of accepted_in_advance) → ⊥
advance_is_not_safe = two_over_one (seen_of accepted_in_advance) 3 advance_first advance_second

pub another_is_not_safe : IsSafeOutside line (seen_of another_is_done) → ⊥
another_is_not_safe = not_released (seen_of another_is_done) 2 another_runs another_not_released

pub rejected_is_not_safe : IsSafeOutside line (seen_of accepted_after_a_rejection) → ⊥
rejected_is_not_safe = strayed (seen_of accepted_after_a_rejection) rejected_strays
