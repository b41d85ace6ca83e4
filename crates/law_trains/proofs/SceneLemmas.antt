-- The scenes, computed.
use Rattle.std.proofs.Common.{◌==◌, ◌≡◌, arith, Bool, false, None, pos, refl, true, ℕ}
use Rattle.law_outside.specs.Outside.{front_end}
use Rattle.law_outside.specs.Scenes.{line}
use Rattle.law_trains.specs.Scenes.{and_runs, both_accepted, each, gave_back, gives_up, goes, in_2, may_go, only_1}
use Rattle.law_trains.specs.Scenes.{trains}
use Rattle.law_trains.specs.Trains.{all_after, AllMay, at_first, IsNew, IsSafeLoop, may_run, stands_on}
use Rattle.rbc_spec.specs.Line.{end, start as line_start}
use Rattle.rbc_spec.specs.Place.{extent}
use Rattle.rbc_spec.specs.SectionRuns.{longest, within}

pub goes_obeys : AllMay line only_1 (at_first trains) goes
unfolding extent line_start end
goes_obeys = (
  tt,
  (
    tt,
    (
      (λ is. refl),
      (
        (λ is. (0, (omega arith), refl)),
        (
          (λ is. refl),
          (
            (λ is. (
              0,
              (omega arith),
              refl,
            )),
            (
              (0, (omega arith), refl),
              (
                (λ is. refl),
                (
                  (λ is. (0, (omega arith), refl)),
                  (
                    (
                      0,
                      (omega arith),
                      refl,
                    ),
                    ((λ is. refl), tt),
                  ),
                ),
              ),
            ),
          ),
        ),
      ),
    ),
  ),
)

pub gives_up_obeys : AllMay line only_1 (at_first trains) gives_up
unfolding extent line_start end
gives_up_obeys = (
  tt,
  (
    tt,
    (
      (λ is. refl),
      (
        (λ is. (0, (omega arith), refl)),
        (
          (λ is. refl),
          (
            (λ is. (
              0,
              (omega arith),
              refl,
            )),
            (
              (0, (omega arith), refl),
              (
                (λ is. refl),
                (
                  (λ is. (0, (omega arith), refl)),
                  (
                    (
                      0,
                      (omega arith),
                      refl,
                    ),
                    ((λ is. refl), ((0, (omega arith), refl), tt)),
                  ),
                ),
              ),
            ),
          ),
        ),
      ),
    ),
  ),
)

pub goes_there : stands_on line ((all_after line goes (at_first trains)).train 1) 2 ≡ true
unfolding extent line_start end
goes_there = refl

pub no_farther : may_run 30001 (pos 28000) ((all_after line may_go (at_first trains)).train 1) ≡ false
unfolding extent line_start end
no_farther = refl

pub not_again : ((all_after line gives_up (at_first trains)).train 1).end ≡ None
unfolding extent line_start end
not_again = refl

pub all_new : (t : ℕ) → IsNew (trains t)
all_new t = by_place (t == 2)
  where
    by_place : (b : Bool) → IsNew (in_2 b)
    by_place true = record {
      has_length = refl;
      not_started = refl;
      no_authority = refl;
      follows_none = refl;
      none_asked = λ c. refl;
    }
    by_place false = record {
      has_length = refl;
      not_started = refl;
      no_authority = refl;
      follows_none = refl;
      none_asked = λ c. refl;
    }

-- ## Trains that break a rule

pub both_obey : AllMay line each (at_first trains) both_accepted
unfolding extent line_start end
both_obey = ((λ is. refl), ((λ is. (0, (omega arith), refl)), ((λ is. refl), ((λ is. (0, (omega arith), refl)), tt))))

pub not_without : may_run 25000 (pos 23000) ((all_after line both_accepted (at_first trains)).train 1) ≡ false
unfolding extent line_start end
not_without = refl

pub meets_without : IsSafeLoop line each (all_after line (and_runs both_accepted) (at_first trains)) → ⊥
unfolding extent line_start end front_end within longest
meets_without safe = let wrong : 1 ≡ 2 = safe.never_meet 1 2 2 refl refl refl refl refl refl in omega (arith, wrong)

pub back_obeys : AllMay line each (at_first trains) gave_back
unfolding extent line_start end
back_obeys = (
  tt,
  (
    tt,
    (
      (λ is. refl),
      (
        (λ is. (0, (omega arith), refl)),
        (
          (λ is. refl),
          (
            (λ is. (
              0,
              (omega arith),
              refl,
            )),
            (
              (0, (omega arith), refl),
              (
                (λ is. refl),
                (
                  (λ is. (0, (omega arith), refl)),
                  (
                    (
                      0,
                      (omega arith),
                      refl,
                    ),
                    (
                      (λ is. refl),
                      (
                        (λ is. (0, (omega arith), refl)),
                        (
                          (λ is. refl),
                          (
                            (λ is. (
                              0,
                              (omega arith),
                              refl,
                            )),
                            ((1, (omega arith), refl), tt),
                          ),
                        ),
                      ),
                    ),
                  ),
                ),
              ),
            ),
          ),
        ),
      ),
    ),
  ),
)

pub not_after : may_run 25000 (pos 23000) ((all_after line gave_back (at_first trains)).train 1) ≡ false
unfolding extent line_start end
not_after = refl

pub meets_after : IsSafeLoop line each (all_after line (and_runs gave_back) (at_first trains)) → ⊥
unfolding extent line_start end front_end within longest
meets_after safe = let wrong : 1 ≡ 2 = safe.never_meet 1 2 2 refl refl refl refl refl refl in omega (arith, wrong)
