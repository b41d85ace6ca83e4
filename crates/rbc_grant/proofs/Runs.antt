-- Sections that follow one another.
use Rattle.std.proofs.Common.{◌+◌, ◌-◌, ◌<◌, ◌∙◌, ◌≡◌, ◌≤◌, ap, arith, Bool, false, inl, inr, refl, suc, true, zero, ℕ}
use Rattle.std.proofs.lemmas.Bool.{cases_Bool, false≢true}
use Rattle.std.proofs.lemmas.Bool.Decides.{nat_tests}
use Rattle.std.specs.Prelude.{◌&&◌, nat_le}
use Rattle.rbc_book.specs.Book.{Pages}
use Rattle.rbc_grant.specs.Grants.{may_follow, may_request}
use Rattle.rbc_spec.specs.Line.{end, Line}
use Rattle.rbc_spec.specs.Place.{group_start, Place}
use Rattle.rbc_spec.specs.SectionRuns.{longest, next_after, SectionRun}

more : (test : ℕ → Bool) (first most : ℕ) → test first ≡ true
    → longest test first (suc most) ≡ suc (longest test (first + 1) most)
unfolding longest
more test first most passes = rw passes refl

none : (test : ℕ → Bool) (first most : ℕ) → test first ≡ false → longest test first (suc most) ≡ 0
unfolding longest
none test first most fails = rw fails refl

no_room : (test : ℕ → Bool) (first : ℕ) → longest test first 0 ≡ 0
unfolding longest
no_room test first = refl

at_place : (test : ℕ → Bool) (first most j : ℕ) → j < suc most → test first ≡ true
    → ((k : ℕ) → k < most → test (first + 1 + k) ≡ true) → test (first + j) ≡ true
at_place test first most zero lt passes later = let e : first + 0 ≡ first = omega arith in ap test e ∙ passes
at_place test first most (suc j) lt passes later = let e : first + suc j ≡ first + 1 + j = omega arith in
    ap test e ∙ later j (omega arith)

-- each of the longest run passes
pub each_passes : (test : ℕ → Bool) (first most k : ℕ) → k < longest test first most → test (first + k) ≡ true
each_passes test first zero k lt = absurd (let no : ⊥ = omega (arith, no_room test first) in no)
each_passes test first (suc most) k lt =
    elim (cases_Bool (test first)) [
      | inl passes ↦
          let within : k < suc (longest test (first + 1) most) = omega (arith, more test first most passes) in
          at_place test first (longest test (first + 1) most) k within passes (each_passes test (first + 1) most)
      | inr fails ↦ absurd (let no : ⊥ = omega (arith, none test first most fails) in no)
    ]

-- ## The authority's end

last_holds : (a b : Bool) → (a && b) ≡ true → b ≡ true
last_holds true b h = h
last_holds false b h = absurd (false≢true h)

at_most : (x y : ℕ) → nat_le x y ≡ true → x ≤ y
at_most x y h = grind (arith, nat_tests)

-- if each next section may follow, the hand's end is within the range of L_ENDSECTION as before
pub has_room : (line : Line) (book : Pages) (pool : SectionRun) (place : Place) (hand : SectionRun) (n : ℕ)
    → ((k : ℕ) → k < n → may_follow line book pool place (next_after hand + k) ≡ true)
    → may_request line hand place ≡ true
    → end line (next_after hand + n - 1) ≤ group_start line place + 32767
has_room line book pool place hand zero each asked =
    let at : next_after hand + 0 - 1 ≡ next_after hand - 1 = omega arith in
    at_most _ (group_start line place + 32767)
    (ap (λ s. nat_le (end line s) (group_start line place + 32767)) at ∙ last_holds _ _ asked)
has_room line book pool place hand (suc n) each asked =
    let at : next_after hand + suc n - 1 ≡ next_after hand + n = omega arith in
    at_most _ (group_start line place + 32767)
    (ap (λ s. nat_le (end line s) (group_start line place + 32767)) at ∙ last_holds _ _ (each n (omega arith)))
