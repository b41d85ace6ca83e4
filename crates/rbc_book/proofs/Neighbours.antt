-- Laws of sections that go over to the run before their own, or to the one after.
use Rattle.std.proofs.Common.{[], ◌+◌, ◌-◌, ◌<◌, ◌∙◌, ◌∷◌, ◌≡◌, ◌≢◌, ◌≤◌, ap, arith, false, inl, inr, List, nat_lt}
use Rattle.std.proofs.Common.{refl, set, Some, subst, suc, sym, true, zero, ℕ}
use Rattle.std.proofs.lemmas.Bool.{and_right, cases_Bool}
use Rattle.rbc_book.proofs.Joins.{goes_on_at}
use Rattle.rbc_book.proofs.Rows.{at_is, at_next, changed_is, set_before, spot_of_run}
use Rattle.rbc_book.proofs.Splits.{at_first, at_second, before, from, inside_from, is_inside, IsSingledOut}
use Rattle.rbc_book.proofs.Splits.{single_first, single_inside, split-outside, split_at}
use Rattle.rbc_book.proofs.Writes.{written_after}
use Rattle.rbc_book.specs.declared.page.Page.{Page}
use Rattle.rbc_book.specs.declared.run.Run.{Run}
use Rattle.rbc_book.specs.Edits.{changed_at, Has, IsFirst, IsLast, IsWritten, joined, joined_at, resized, stretch}
use Rattle.rbc_book.specs.Edits.{with_page}
use Rattle.rbc_book.specs.Runs.{AreApart, AreInOrder, At, GoesOn, GoesOnAt, run_page, sections_of}
use Rattle.rbc_book.specs.Sheet.{page_in}
use Rattle.rbc_spec.proofs.Runs.{within_after, within_from, within_true}
use Rattle.rbc_spec.specs.SectionRuns.{within}

-- ## The page is the same

pub same_written : (s size i : ℕ) (page : Page) (runs : List Run) (r : Run) → AreInOrder 0 runs → AreApart runs
    → At (Has s size) i runs → At (λ q. q ≡ r) i runs
    → run_page r ≡ page → IsWritten s size page runs runs
same_written s size i page runs r order apart has at same =
    let ends = at_is (Has s size) runs i r has at in
    record {
      order = order;
      apart = apart;
      count = refl;
      pages = λ k. elim (cases_Bool (within (stretch s size) k)) [
        | inl in_run ↦ let sides = within_true (stretch s size) k in_run in
            rw in_run
            (ap page_in
            (spot_of_run 0 runs i k r order at
            (within_from (sections_of r) k (omega (arith, ends.0, sides.0)) (omega (arith, ends.1, sides.1))))
            ∙ ap (λ p. Some p) same)
        | inr not ↦ rw not refl
      ];
      tracks = λ k. refl;
    }

-- ## To the run before

-- the first sections of a run, as they are used from now on
abbrev pub first_of : ℕ → Page → Run → Run
first_of size page r =
    record { first = r.first; count = size; track = r.track; is_wished = page.is_wished; entry = page.entry }

-- the run without them
abbrev pub without_first : ℕ → ℕ → Run → Run
without_first s size r =
    record { first = s + size; count = r.count - size; track = r.track; is_wished = r.is_wished; entry = r.entry }

ahead-is : (a s : ℕ) (runs : List Run) (q r m : Run) → At (λ p. p ≡ q) a runs
    → At (λ p. p ≡ r) (suc a) runs → is_inside s r ≡ true
    → set (set runs a (joined q m)) (suc a) (from s r) ≡ joined_at a (set (split_at (suc a) s runs) (suc a) m)
ahead-is a s [] q r m at next inside = absurd at
ahead-is zero s (x ∷ []) q r m at next inside = absurd next
ahead-is zero s (x ∷ y ∷ ys) q r m at next inside = rw (at, next) (rw inside refl)
ahead-is (suc a) s (x ∷ xs) q r m at next inside = ap (λ rs. x ∷ rs) (ahead-is a s xs q r m at next inside)

ahead-on : (a s : ℕ) (runs : List Run) (q r m : Run) → At (λ p. p ≡ q) a runs → At (λ p. p ≡ r) (suc a) runs
    → is_inside s r ≡ true → GoesOn q m
    → GoesOnAt a (set (split_at (suc a) s runs) (suc a) m)
ahead-on a s [] q r m at next inside on = absurd at
ahead-on zero s (x ∷ []) q r m at next inside on = absurd next
ahead-on zero s (x ∷ y ∷ ys) q r m at next inside on = rw (at, next) (rw inside on)
ahead-on (suc a) s (x ∷ xs) q r m at next inside on = ahead-on a s xs q r m at next inside on

ahead-off : (a s : ℕ) (runs : List Run) (r m : Run) → At (λ p. p ≡ r) (suc a) runs → is_inside s r ≡ true
    → run_page m ≢ run_page r
    → GoesOnAt (suc a) (set (split_at (suc a) s runs) (suc a) m) → ⊥
ahead-off a s [] r m next inside other = absurd next
ahead-off zero s (x ∷ []) r m next inside other = absurd next
ahead-off zero s (x ∷ y ∷ ys) r m next inside other = rw next (rw inside (λ h. other h.2))
ahead-off (suc a) s (x ∷ xs) r m next inside other = ahead-off a s xs r m next inside other

pub first-is : (s size : ℕ) (page : Page) (r : Run) → r.first ≡ s
    → with_page page (before (s + size) r) ≡ first_of size page r
first-is s size page r first = let one : s + size - r.first ≡ size = omega (arith, first) in
    λ i. record { first = r.first; count = one i; track = r.track; is_wished = page.is_wished; entry = page.entry }

pub rest-is : (s size : ℕ) (r : Run) → r.first ≡ s → from (s + size) r ≡ without_first s size r
rest-is s size r first = let rest : r.count - (s + size - r.first) ≡ r.count - size = omega (arith, first) in
    λ i. record { first = s + size; count = rest i; track = r.track; is_wished = r.is_wished; entry = r.entry }

module _ (a s size : ℕ) (page : Page) (runs : List Run) (q r : Run) (at : At (λ p. p ≡ q) a runs)
    (next : At (λ p. p ≡ r) (suc a) runs) (first : r.first ≡ s) (some : 1 ≤ size) (more : size < r.count)
    (on : GoesOn q (first_of size page r)) (order : AreInOrder 0 runs) (apart : AreApart runs) where
  -- the page is another: else the two runs could be one
  other : page ≢ run_page r
  other same = apart a (goes_on_at a runs q r at next (on.0, on.1, on.2 ∙ same))

  inside : is_inside (s + size) r ≡ true
  inside = inside_from (s + size) r (omega (arith, first, some)) (omega (arith, first, more))

  out : IsSingledOut s size runs (split_at (suc a) (s + size) runs) (suc a)
  out = single_first s size (suc a) runs r next some first (omega (arith, more)) order apart

  abbrev m : Run
  m = with_page page (before (s + size) r)

  on_m : GoesOn q m
  on_m = subst (GoesOn q) (sym (first-is s size page r first)) on

  moved : IsWritten s size page runs (set (set runs a (joined q m)) (suc a) (from (s + size) r))
  moved = written_after s size (suc a) page runs (split_at (suc a) (s + size) runs) (before (s + size) r) out
      (at_first (suc a) (s + size) runs r next inside)
      (set (split_at (suc a) (s + size) runs) (suc a) m)
      (set (set runs a (joined q m)) (suc a) (from (s + size) r)) a refl
      (inl (refl, ahead-off a (s + size) runs r m next inside other))
      (inr (ahead-is a (s + size) runs q r m at next inside, ahead-on a (s + size) runs q r m at next inside on_m))

  pub moved_ahead : IsWritten s size page runs
      (set (set runs a (joined q (first_of size page r))) (a + 1) (without_first s size r))
  moved_ahead =
      let here : suc a ≡ a + 1 = omega arith in
      subst (λ n. IsWritten s size page runs
      (set (set runs a (joined q (first_of size page r))) n (without_first s size r))) here
      (subst (λ x. IsWritten s size page runs (set (set runs a (joined q x)) (suc a) (without_first s size r)))
      (first-is s size page r first)
      (subst (λ x. IsWritten s size page runs (set (set runs a (joined q m)) (suc a) x))
      (rest-is s size r first) moved))

-- as the code changes the list
pub first_joined : (i s size : ℕ) (page : Page) (runs mid new : List Run) (q r : Run) → At (λ p. p ≡ r) i runs
    → 1 ≤ size → IsFirst s size page r → 0 < i → At (λ p. p ≡ q) (i - 1) runs → GoesOn q (first_of size page r)
    → AreInOrder 0 runs → AreApart runs → mid ≡ changed_at (resized q.first (q.count + size)) (i - 1) runs
    → new ≡ changed_at (resized (s + size) (r.count - size)) i mid → IsWritten s size page runs new
first_joined i s size page runs mid new q r at wide is some ahead on order apart one two =
    let back : suc (i - 1) ≡ i = omega (arith, some) in
    let again : i - 1 + 1 ≡ i = omega (arith, some) in
    let next : At (λ p. p ≡ r) (suc (i - 1)) runs = subst (λ n. At (λ p. p ≡ r) n runs) (sym back) at in
    let mid_is : mid ≡ set runs (i - 1) (joined q (first_of size page r)) = one
    ∙ changed_is (resized q.first (q.count + size)) (i - 1) runs q ahead in
    let at_mid : At (λ p. p ≡ r) i mid = subst (λ xs. At (λ p. p ≡ r) i xs) (sym mid_is)
    (subst (λ n. At (λ p. p ≡ r) n (set runs (i - 1) (joined q (first_of size page r)))) back
    (set_before (λ p. p ≡ r) (i - 1) runs (joined q (first_of size page r)) next)) in
    let new_is : new ≡ set (set runs (i - 1) (joined q (first_of size page r))) i (without_first s size r) = two
    ∙ changed_is (resized (s + size) (r.count - size)) i mid r at_mid
    ∙ ap (λ xs. set xs i (without_first s size r)) mid_is in
    subst (IsWritten s size page runs) (sym new_is)
    (subst (λ n. IsWritten s size page runs
    (set (set runs (i - 1) (joined q (first_of size page r))) n (without_first s size r))) again
    (moved_ahead (i - 1) s size page runs q r ahead next is.0 wide is.1 on order apart))

-- ## To the run after

-- the last sections of a run, as they are used from now on
abbrev pub last_of : ℕ → ℕ → Page → Run → Run
last_of s size page r =
    record { first = s; count = size; track = r.track; is_wished = page.is_wished; entry = page.entry }

after-is : (i s : ℕ) (runs : List Run) (r n m : Run) → At (λ p. p ≡ r) i runs
    → At (λ p. p ≡ n) (suc i) runs → is_inside s r ≡ true
    → set (set runs i (before s r)) (suc i) (joined m n) ≡ joined_at (suc i) (set (split_at i s runs) (suc i) m)
after-is i s [] r n m at next inside = absurd at
after-is zero s (x ∷ []) r n m at next inside = absurd next
after-is zero s (x ∷ y ∷ ys) r n m at next inside = rw (at, next) (rw inside refl)
after-is (suc i) s (x ∷ xs) r n m at next inside = ap (λ rs. x ∷ rs) (after-is i s xs r n m at next inside)

after-on : (i s : ℕ) (runs : List Run) (r n m : Run) → At (λ p. p ≡ r) i runs → At (λ p. p ≡ n) (suc i) runs
    → is_inside s r ≡ true → GoesOn m n
    → GoesOnAt (suc i) (set (split_at i s runs) (suc i) m)
after-on i s [] r n m at next inside on = absurd at
after-on zero s (x ∷ []) r n m at next inside on = absurd next
after-on zero s (x ∷ y ∷ ys) r n m at next inside on = rw (at, next) (rw inside on)
after-on (suc i) s (x ∷ xs) r n m at next inside on = after-on i s xs r n m at next inside on

after-off : (i s : ℕ) (runs : List Run) (r n m : Run) → At (λ p. p ≡ r) i runs → At (λ p. p ≡ n) (suc i) runs
    → is_inside s r ≡ true → run_page r ≢ run_page m
    → GoesOnAt i (joined_at (suc i) (set (split_at i s runs) (suc i) m)) → ⊥
after-off i s [] r n m at next inside other = absurd at
after-off zero s (x ∷ []) r n m at next inside other = absurd next
after-off zero s (x ∷ y ∷ ys) r n m at next inside other = rw (at, next) (rw inside (λ h. other h.2))
after-off (suc i) s (x ∷ xs) r n m at next inside other = after-off i s xs r n m at next inside other

pub last-is : (s size : ℕ) (page : Page) (r : Run) → s + size ≡ r.first + r.count → size < r.count
    → with_page page (from s r) ≡ last_of s size page r
last-is s size page r last more = let one : r.count - (s - r.first) ≡ size = omega (arith, last, more) in
    λ i. record { first = s; count = one i; track = r.track; is_wished = page.is_wished; entry = page.entry }

module _ (i s size : ℕ) (page : Page) (runs : List Run) (r n : Run) (at : At (λ p. p ≡ r) i runs)
    (next : At (λ p. p ≡ n) (suc i) runs) (last : s + size ≡ r.first + r.count)
    (some : 1 ≤ size) (more : size < r.count)
    (on : GoesOn (last_of s size page r) n) (order : AreInOrder 0 runs) (apart : AreApart runs) where
  differs : run_page r ≢ page
  differs same = apart i (goes_on_at i runs r n at next (omega (arith, last, on.0), on.1, same ∙ on.2))

  has_last : is_inside s r ≡ true
  has_last = inside_from s r (omega (arith, last, more)) (omega (arith, last, some))

  second_at : At (λ p. p ≡ from s r) (suc i) (split_at i s runs)
  second_at = at_second i s runs r at has_last

  cut_out : IsSingledOut s size runs (split_at i s runs) (suc i)
  cut_out =
      let outside : is_inside (s + size) (from s r) ≡ false =
      and_right (nat_lt s (s + size)) (within (sections_of (from s r)) (s + size))
      (within_after (sections_of (from s r)) (s + size) (omega (arith, last, more))) in
      subst (λ mid. IsSingledOut s size runs mid (suc i))
      (split-outside (suc i) (s + size) (split_at i s runs) (from s r) second_at outside)
      (single_inside s size i runs r at some (omega (arith, last, more)) (omega (arith, last)) order apart)

  abbrev l : Run
  l = with_page page (from s r)

  on_l : GoesOn l n
  on_l = subst (λ x. GoesOn x n) (sym (last-is s size page r last more)) on

  shifted : IsWritten s size page runs (set (set runs i (before s r)) (suc i) (joined l n))
  shifted = subst (IsWritten s size page runs) (sym (after-is i s runs r n l at next has_last))
      (written_after s size (suc i) page runs (split_at i s runs) (from s r) cut_out second_at
      (joined_at (suc i) (set (split_at i s runs) (suc i) l))
      (joined_at (suc i) (set (split_at i s runs) (suc i) l)) i refl
      (inr (refl, after-on i s runs r n l at next has_last on_l))
      (inl (refl, after-off i s runs r n l at next has_last differs)))

  pub moved_after : IsWritten s size page runs
      (set (set runs i (before s r)) (i + 1) (joined (last_of s size page r) n))
  moved_after =
      let here : suc i ≡ i + 1 = omega arith in
      subst (λ k. IsWritten s size page runs (set (set runs i (before s r)) k (joined (last_of s size page r) n))) here
      (subst (λ x. IsWritten s size page runs (set (set runs i (before s r)) (suc i) (joined x n)))
      (last-is s size page r last more) shifted)

-- as the code changes the list
pub last_joined : (i s size : ℕ) (page : Page) (runs mid new : List Run) (r n : Run) → At (λ p. p ≡ r) i runs → 1 ≤ size
    → IsLast s size page r → At (λ p. p ≡ n) (i + 1) runs → GoesOn (last_of s size page r) n
    → AreInOrder 0 runs → AreApart runs → mid ≡ changed_at (resized r.first (s - r.first)) i runs
    → new ≡ changed_at (resized s (size + n.count)) (i + 1) mid → IsWritten s size page runs new
last_joined i s size page runs mid new r n at wide is after on order apart one two =
    let back : suc i ≡ i + 1 = omega arith in
    let next : At (λ p. p ≡ n) (suc i) runs = at_next (λ p. p ≡ n) runs i after in
    let mid_is : mid ≡ set runs i (before s r) = one ∙ changed_is (resized r.first (s - r.first)) i runs r at in
    let at_mid : At (λ p. p ≡ n) (i + 1) mid = subst (λ xs. At (λ p. p ≡ n) (i + 1) xs) (sym mid_is)
    (subst (λ k. At (λ p. p ≡ n) k (set runs i (before s r))) back
    (set_before (λ p. p ≡ n) i runs (before s r) next)) in
    let run_is : resized s (size + n.count) n ≡ joined (last_of s size page r) n =
    (λ j. record {
      first = s;
      count = size + n.count;
      track = sym on.1 j;
      is_wished = (sym on.2 j).is_wished;
      entry = (sym on.2 j).entry;
    }) in
    let new_is : new ≡ set (set runs i (before s r)) (i + 1) (joined (last_of s size page r) n) = two
    ∙ changed_is (resized s (size + n.count)) (i + 1) mid n at_mid
    ∙ ap (λ x. set mid (i + 1) x) run_is ∙ ap (λ xs. set xs (i + 1) (joined (last_of s size page r) n)) mid_is in
    subst (IsWritten s size page runs) (sym new_is)
    (moved_after i s size page runs r n at next is.0 wide is.1 on order apart)
