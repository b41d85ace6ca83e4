-- Laws of sections that become a run of their own, at an end of their run or inside, and of a whole run that changes.
use Rattle.std.proofs.Common.{[], ◌+◌, ◌-◌, ◌<◌, ◌∙◌, ◌∷◌, ◌≡◌, ◌≢◌, ◌≤◌, ap, arith, false, List, nat_lt, refl, set}
use Rattle.std.proofs.Common.{subst, suc, sym, true, zero, ℕ}
use Rattle.std.proofs.lemmas.Bool.{and_right}
use Rattle.std.specs.List.{insert}
use Rattle.rbc_book.proofs.Neighbours.{first-is, first_of, last-is, last_of, rest-is}
use Rattle.rbc_book.proofs.Rows.{changed_is, stands_at}
use Rattle.rbc_book.proofs.Splits.{at_first, at_second, before, from, inside_from, is_inside, IsSingledOut}
use Rattle.rbc_book.proofs.Splits.{single_first, single_inside, split-outside, split_at}
use Rattle.rbc_book.proofs.Writes.{used_order, written_after, written_apart, written_first}
use Rattle.rbc_book.specs.declared.page.Page.{Page}
use Rattle.rbc_book.specs.declared.run.Run.{Run}
use Rattle.rbc_book.specs.Edits.{changed_at, IsFirst, IsInner, IsJoined, IsLast, IsWhole, IsWritten, resized, with_page}
use Rattle.rbc_book.specs.Runs.{AreApart, AreInOrder, At, GoesOn, GoesOnAt, run_page, sections_of}
use Rattle.rbc_spec.proofs.Runs.{within_after}
use Rattle.rbc_spec.specs.SectionRuns.{within}

-- ## A whole run

module _ (s size i : ℕ) (page : Page) (runs turned : List Run) (here : At (IsWhole s size) i runs)
    (order : AreInOrder 0 runs) (apart : AreApart runs) (is : turned ≡ changed_at (with_page page) i runs) where
  whole_out : IsSingledOut s size runs runs i
  whole_out = record { spots = λ k. refl; alone = here; order = order; count = refl; seams = λ j h. absurd (apart j h) }

  whole_at : (r : Run) × At (λ q. q ≡ r) i runs
  whole_at = stands_at (IsWhole s size) i runs here

  turned_is : turned ≡ set runs i (with_page page whole_at.0)
  turned_is = is ∙ changed_is (with_page page) i runs whole_at.0 whole_at.1

  pub turned_order : AreInOrder 0 turned
  turned_order = subst (AreInOrder 0) (sym turned_is)
      (used_order s size i page runs runs whole_at.0 whole_out whole_at.1)

  pub whole_first : (new : List Run) → i ≡ 0 → IsJoined i turned new → IsWritten s size page runs new
  whole_first new first joins = written_first s size i page runs runs whole_at.0 whole_out whole_at.1 new first
      (subst (λ xs. IsJoined i xs new) turned_is joins)

  pub whole_after : (mid new : List Run) (ahead : ℕ) → suc ahead ≡ i → IsJoined i turned mid → IsJoined ahead mid new
      → IsWritten s size page runs new
  whole_after mid new ahead before one two = written_after s size i page runs runs whole_at.0 whole_out whole_at.1 mid
      new ahead before (subst (λ xs. IsJoined i xs mid) turned_is one) two

-- ## The first sections of a run

first-put : (i s : ℕ) (runs : List Run) (r m : Run) → At (λ p. p ≡ r) i runs → is_inside s r ≡ true
    → insert (set runs i (from s r)) i m ≡ set (split_at i s runs) i m
first-put i s [] r m at inside = absurd at
first-put zero s (x ∷ xs) r m at inside = rw at (rw inside refl)
first-put (suc i) s (x ∷ xs) r m at inside = ap (λ rs. x ∷ rs) (first-put i s xs r m at inside)

first-off : (i s : ℕ) (runs : List Run) (r m : Run) → At (λ p. p ≡ r) i runs → is_inside s r ≡ true
    → run_page m ≢ run_page r → GoesOnAt i (set (split_at i s runs) i m) → ⊥
first-off i s [] r m at inside other = absurd at
first-off zero s (x ∷ xs) r m at inside other = rw at (rw inside (λ h. other h.2))
first-off (suc i) s (x ∷ xs) r m at inside other = first-off i s xs r m at inside other

ahead-not : (a s : ℕ) (runs : List Run) (r m : Run) → At (λ p. p ≡ r) (suc a) runs → is_inside s r ≡ true
    → ¬ At (λ q. GoesOn q m) a runs → GoesOnAt a (set (split_at (suc a) s runs) (suc a) m) → ⊥
ahead-not a s [] r m next inside none = absurd next
ahead-not zero s (x ∷ []) r m next inside none = absurd next
ahead-not zero s (x ∷ y ∷ ys) r m next inside none = rw next (rw inside none)
ahead-not (suc a) s (x ∷ xs) r m next inside none = ahead-not a s xs r m next inside none

module _ (i s size : ℕ) (page : Page) (runs : List Run) (r : Run) (at : At (λ p. p ≡ r) i runs) (some : 1 ≤ size)
    (is : IsFirst s size page r) (none : 0 < i → ¬ At (λ q. GoesOn q (first_of size page r)) (i - 1) runs)
    (order : AreInOrder 0 runs) (apart : AreApart runs) where
  first_inside : is_inside (s + size) r ≡ true
  first_inside = inside_from (s + size) r (omega (arith, some, is.0)) (omega (arith, is.0, is.1))

  first_out : IsSingledOut s size runs (split_at i (s + size) runs) i
  first_out = single_first s size i runs r at some is.0 (omega (arith, is.1)) order apart

  abbrev m : Run
  m = with_page page (before (s + size) r)

  m_is : m ≡ first_of size page r
  m_is = first-is s size page r is.0

  nothing_ahead : (a : ℕ) → suc a ≡ i → GoesOnAt a (set (split_at i (s + size) runs) i m) → ⊥
  nothing_ahead a later = subst (λ n. GoesOnAt a (set (split_at n (s + size) runs) n m) → ⊥) later
      (ahead-not a (s + size) runs r m (subst (λ n. At (λ p. p ≡ r) n runs) (sym later) at) first_inside
      (λ on. none (omega (arith, later)) (subst (λ n. At (λ q. GoesOn q (first_of size page r)) n runs)
      (let e : a ≡ i - 1 = omega (arith, later) in e) (subst (λ x. At (λ q. GoesOn q x) a runs) m_is on))))

  first_used : IsWritten s size page runs (set (split_at i (s + size) runs) i m)
  first_used = written_apart s size i page runs (split_at i (s + size) runs) (before (s + size) r) first_out
      (at_first i (s + size) runs r at first_inside)
      (first-off i (s + size) runs r m at first_inside (λ same. is.2 (sym same))) nothing_ahead

  -- as the code changes the list
  pub first_apart : (mid new : List Run) → mid ≡ changed_at (resized (s + size) (r.count - size)) i runs
      → new ≡ insert mid i (first_of size page r) → IsWritten s size page runs new
  first_apart mid new one two =
      let mid_is : mid ≡ set runs i (from (s + size) r) = one
      ∙ changed_is (resized (s + size) (r.count - size)) i runs r at
      ∙ ap (λ x. set runs i x) (sym (rest-is s size r is.0)) in
      let new_is : new ≡ set (split_at i (s + size) runs) i m = two ∙ ap (λ x. insert mid i x) (sym m_is)
      ∙ ap (λ xs. insert xs i m) mid_is ∙ first-put i (s + size) runs r m at first_inside in
      subst (IsWritten s size page runs) (sym new_is) first_used

-- ## The last sections of a run

last-put : (i s : ℕ) (runs : List Run) (r m : Run) → At (λ p. p ≡ r) i runs → is_inside s r ≡ true
    → insert (set runs i (before s r)) (suc i) m ≡ set (split_at i s runs) (suc i) m
last-put i s [] r m at inside = absurd at
last-put zero s (x ∷ xs) r m at inside = rw at (rw inside refl)
last-put (suc i) s (x ∷ xs) r m at inside = ap (λ rs. x ∷ rs) (last-put i s xs r m at inside)

last-off : (i s : ℕ) (runs : List Run) (r m : Run) → At (λ p. p ≡ r) i runs → is_inside s r ≡ true
    → run_page r ≢ run_page m → GoesOnAt i (set (split_at i s runs) (suc i) m) → ⊥
last-off i s [] r m at inside other = absurd at
last-off zero s (x ∷ xs) r m at inside other = rw at (rw inside (λ h. other h.2))
last-off (suc i) s (x ∷ xs) r m at inside other = last-off i s xs r m at inside other

after-not : (i s : ℕ) (runs : List Run) (r m : Run) → At (λ p. p ≡ r) i runs → is_inside s r ≡ true
    → ¬ At (λ q. GoesOn m q) (suc i) runs → GoesOnAt (suc i) (set (split_at i s runs) (suc i) m) → ⊥
after-not i s [] r m at inside none = absurd at
after-not zero s (x ∷ []) r m at inside none = rw at (rw inside (λ h. h))
after-not zero s (x ∷ y ∷ ys) r m at inside none = rw at (rw inside none)
after-not (suc i) s (x ∷ xs) r m at inside none = after-not i s xs r m at inside none

module _ (i s size : ℕ) (page : Page) (runs : List Run) (r : Run) (at : At (λ p. p ≡ r) i runs) (some : 1 ≤ size)
    (is : IsLast s size page r) (none : ¬ At (λ q. GoesOn (last_of s size page r) q) (i + 1) runs)
    (order : AreInOrder 0 runs) (apart : AreApart runs) where
  last_inside : is_inside s r ≡ true
  last_inside = inside_from s r (omega (arith, is.0, is.1)) (omega (arith, some, is.0))

  last_second : At (λ p. p ≡ from s r) (suc i) (split_at i s runs)
  last_second = at_second i s runs r at last_inside

  last_out : IsSingledOut s size runs (split_at i s runs) (suc i)
  last_out =
      let outside : is_inside (s + size) (from s r) ≡ false =
      and_right (nat_lt s (s + size)) (within (sections_of (from s r)) (s + size))
      (within_after (sections_of (from s r)) (s + size) (omega (arith, is.0, is.1))) in
      subst (λ mid. IsSingledOut s size runs mid (suc i))
      (split-outside (suc i) (s + size) (split_at i s runs) (from s r) last_second outside)
      (single_inside s size i runs r at some (omega (arith, is.0, is.1)) (omega (arith, is.0)) order apart)

  abbrev l : Run
  l = with_page page (from s r)

  l_is : l ≡ last_of s size page r
  l_is = last-is s size page r is.0 is.1

  last_used : IsWritten s size page runs (set (split_at i s runs) (suc i) l)
  last_used = written_apart s size (suc i) page runs (split_at i s runs) (from s r) last_out last_second
      (after-not i s runs r l at last_inside
      (λ on. none (subst (λ n. At (λ q. GoesOn (last_of s size page r) q) n runs)
      (let e : suc i ≡ i + 1 = omega arith in e) (subst (λ x. At (λ q. GoesOn x q) (suc i) runs) l_is on))))
      (λ a later. let here : a ≡ i = omega (arith, later) in
      subst (λ n. GoesOnAt n (set (split_at i s runs) (suc i) l)
      → ⊥) (sym here) (last-off i s runs r l at last_inside is.2))

  -- as the code changes the list
  pub last_apart : (mid new : List Run) → mid ≡ changed_at (resized r.first (s - r.first)) i runs
      → new ≡ insert mid (i + 1) (last_of s size page r) → IsWritten s size page runs new
  last_apart mid new one two =
      let mid_is : mid ≡ set runs i (before s r) = one ∙ changed_is (resized r.first (s - r.first)) i runs r at in
      let new_is : new ≡ set (split_at i s runs) (suc i) l = two ∙ ap (λ x. insert mid (i + 1) x) (sym l_is)
      ∙ ap (λ xs. insert xs (i + 1) l) mid_is
      ∙ ap (λ n. insert (set runs i (before s r)) n l) (let e : i + 1 ≡ suc i = omega arith in e)
      ∙ last-put i s runs r l at last_inside in
      subst (IsWritten s size page runs) (sym new_is) last_used

-- ## Sections inside a run

inner-put : (i s end : ℕ) (runs : List Run) (r m : Run) → At (λ p. p ≡ r) i runs → is_inside s r ≡ true
    → is_inside end (from s r) ≡ true
    → insert (insert (set runs i (before s r)) (suc i) m) (suc (suc i)) (from end (from s r))
    ≡ set (split_at (suc i) end (split_at i s runs)) (suc i) m
inner-put i s end [] r m at inside more = absurd at
inner-put zero s end (x ∷ xs) r m at inside more = rw at (rw inside (rw more refl))
inner-put (suc i) s end (x ∷ xs) r m at inside more = ap (λ rs. x ∷ rs) (inner-put i s end xs r m at inside more)

inner-off : (i s end : ℕ) (runs : List Run) (r m : Run) → At (λ p. p ≡ r) i runs → is_inside s r ≡ true
    → is_inside end (from s r) ≡ true → run_page r ≢ run_page m
    → GoesOnAt i (set (split_at (suc i) end (split_at i s runs)) (suc i) m) → ⊥
inner-off i s end [] r m at inside more other = absurd at
inner-off zero s end (x ∷ xs) r m at inside more other = rw at (rw inside (rw more (λ h. other h.2)))
inner-off (suc i) s end (x ∷ xs) r m at inside more other = inner-off i s end xs r m at inside more other

module _ (i s size : ℕ) (page : Page) (runs : List Run) (r : Run) (at : At (λ p. p ≡ r) i runs) (some : 1 ≤ size)
    (is : IsInner s size page r) (order : AreInOrder 0 runs) (apart : AreApart runs) where
  inner_inside : is_inside s r ≡ true
  inner_inside = inside_from s r is.0 (omega (arith, some, is.1))

  inner_more : is_inside (s + size) (from s r) ≡ true
  inner_more = inside_from (s + size) (from s r) (omega (arith, some)) (omega (arith, is.0, is.1))

  abbrev n : Run
  n = with_page page (before (s + size) (from s r))

  n_is : n ≡ last_of s size page r
  n_is = let one : s + size - s ≡ size = omega arith in
      λ j. record { first = s; count = one j; track = r.track; is_wished = page.is_wished; entry = page.entry }

  abbrev rest : Run
  rest = record {
    first = s + size;
    count = r.count - (s - r.first) - size;
    track = r.track;
    is_wished = r.is_wished;
    entry = r.entry;
  }

  rest_is : from (s + size) (from s r) ≡ rest
  rest_is = let less : r.count - (s - r.first) - (s + size - s) ≡ r.count - (s - r.first) - size = omega arith in
      λ j. record { first = s + size; count = less j; track = r.track; is_wished = r.is_wished; entry = r.entry }

  inner_second : At (λ p. p ≡ from s r) (suc i) (split_at i s runs)
  inner_second = at_second i s runs r at inner_inside

  inner_used : IsWritten s size page runs (set (split_at (suc i) (s + size) (split_at i s runs)) (suc i) n)
  inner_used = written_apart s size (suc i) page runs (split_at (suc i) (s + size) (split_at i s runs))
      (before (s + size) (from s r))
      (single_inside s size i runs r at some is.0 (omega (arith, is.1)) order apart)
      (at_first (suc i) (s + size) (split_at i s runs) (from s r) inner_second inner_more)
      (first-off (suc i) (s + size) (split_at i s runs) (from s r) n inner_second inner_more (λ same. is.2 (sym same)))
      (λ a later. let here : a ≡ i = omega (arith, later) in
      subst (λ k. GoesOnAt k (set (split_at (suc i) (s + size) (split_at i s runs)) (suc i) n)
      → ⊥) (sym here) (inner-off i s (s + size) runs r n at inner_inside inner_more is.2))

  -- as the code changes the list
  pub inner_apart : (mid more new : List Run) → mid ≡ changed_at (resized r.first (s - r.first)) i runs
      → more ≡ insert mid (i + 1) (last_of s size page r) → new ≡ insert more (i + 2) rest
      → IsWritten s size page runs new
  inner_apart mid more new one two three =
      let mid_is : mid ≡ set runs i (before s r) = one ∙ changed_is (resized r.first (s - r.first)) i runs r at in
      let more_is : more ≡ insert (set runs i (before s r)) (suc i) n = two ∙ ap (λ x. insert mid (i + 1) x) (sym n_is)
      ∙ ap (λ xs. insert xs (i + 1) n) mid_is
      ∙ ap (λ k. insert (set runs i (before s r)) k n) (let e : i + 1 ≡ suc i = omega arith in e) in
      let new_is : new ≡ set (split_at (suc i) (s + size) (split_at i s runs)) (suc i) n = three
      ∙ ap (λ x. insert more (i + 2) x) (sym rest_is)
      ∙ ap (λ xs. insert xs (i + 2) (from (s + size) (from s r))) more_is
      ∙ ap (λ k. insert (insert (set runs i (before s r)) (suc i) n) k (from (s + size) (from s r)))
      (let e : i + 2 ≡ suc (suc i) = omega arith in e)
      ∙ inner-put i s (s + size) runs r n at inner_inside inner_more in
      subst (IsWritten s size page runs) (sym new_is) inner_used
