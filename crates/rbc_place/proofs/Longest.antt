-- The number of consecutive sections that pass a test: the invariant of a loop over them.
use Rattle.std.proofs.Common.{◌+◌, ◌-◌, ◌<◌, ◌∙◌, ◌≡◌, ◌≤◌, ap, arith, Bool, false, refl, suc, sym, true, zero, ℕ}
use Rattle.rbc_spec.specs.SectionRuns.{longest}

-- the first k sections have passed, up to the limit
pub record HasPassed (test : ℕ → Bool) (first most k : ℕ) : Type 0 where
  pub within : k ≤ most
  pub rest : longest test first most ≡ k + longest test (first + k) (most - k)

longest_more : (test : ℕ → Bool) (first n : ℕ) → test first ≡ true
    → longest test first (suc n) ≡ suc (longest test (first + 1) n)
unfolding longest
longest_more test first n passes = rw passes refl

longest_none : (test : ℕ → Bool) (first n : ℕ) → test first ≡ false → longest test first n ≡ 0
unfolding longest
longest_none test first zero fails = refl
longest_none test first (suc n) fails = rw fails refl

longest_zero : (test : ℕ → Bool) (first : ℕ) → longest test first 0 ≡ 0
unfolding longest
longest_zero test first = refl

-- the next passes too
pub one_more : (test : ℕ → Bool) (first most k s : ℕ) → k < most → s ≡ first + k → test s ≡ true
    → HasPassed test first most k → HasPassed test first most (k + 1)
one_more test first most k s lt is_next passes so_far =
    let left : most - k ≡ suc (most - (k + 1)) = omega arith in
    let at : first + k + 1 ≡ first + (k + 1) = omega arith in
    record {
      within = omega arith;
      rest = so_far.rest ∙ ap (λ n. k + longest test (first + k) n) left
          ∙ ap (λ n. k + n) (longest_more test (first + k) (most - (k + 1)) (ap test (sym is_next) ∙ passes))
          ∙ ap (λ f. k + suc (longest test f (most - (k + 1)))) at
          ∙ (omega arith);
    }

-- the next does not
pub stops : (test : ℕ → Bool) (first most k s : ℕ) → s ≡ first + k → test s ≡ false → HasPassed test first most k
    → k ≡ longest test first most
stops test first most k s is_next fails so_far =
    sym (so_far.rest ∙ ap (λ n. k + n) (longest_none test (first + k) (most - k) (ap test (sym is_next) ∙ fails))
    ∙ (omega arith))

-- all pass
pub all_passed : (test : ℕ → Bool) (first most k : ℕ) → most ≤ k → HasPassed test first most k
    → most ≡ longest test first most
all_passed test first most k last so_far =
    let none : most - k ≡ 0 = omega arith in
    sym (so_far.rest ∙ ap (λ n. k + longest test (first + k) n) none ∙ ap (λ n. k + n) (longest_zero test (first + k))
    ∙ (omega arith))
