-- The sections of a run that marks name.
use Rattle.std.proofs.Common.{[], ◌%◌, ◌&&◌, ◌*◌, ◌++◌, ◌+◌, ◌-◌, ◌/◌, ◌<◌, ◌^◌, ◌∙◌, ◌∷◌, ◌≡◌, ◌≤◌, ap, append_assoc}
use Rattle.std.proofs.Common.{arith, Bool, cond, eqb, false, List, refl, suc, sym, true, zero, ℕ}
use Rattle.std.proofs.lemmas.List.{append-nil}
use Rattle.std.proofs.lemmas.List.Elements.{filter-append}
use Rattle.std.proofs.lemmas.Nat.{pow-add, shr-shr}
use Rattle.std.specs.List.{filter, range_with_len}
use Rattle.rbc_allocation.specs.Marks.{marked}
use Rattle.rbc_allocation.specs.Sections.{wished}
use Rattle.rbc_book.specs.Book.{entry_at, Pages, wish_at}
use Rattle.rbc_spec.specs.Centre.{is_taken_for}

pub marked-none : (first marks : ℕ) → marked first 0 marks ≡ []
unfolding marked
marked-none first marks = refl

-- one section more
marked-suc : (first n marks : ℕ)
    → marked first (suc n) marks ≡ marked first n (marks / 2) ++ cond (eqb (marks % 2) 1) ((first + n) ∷ []) []
unfolding marked
marked-suc first n marks = refl

pub marked-more : (first n marks mark : ℕ) → mark < 2
    → marked first (n + 1) (marks * 2 + mark) ≡ marked first n marks ++ cond (eqb mark 1) ((first + n) ∷ []) []
marked-more first n marks mark lt =
    let e : n + 1 ≡ suc n = omega arith in
    let half : (marks * 2 + mark) / 2 ≡ marks = omega arith in
    let last : (marks * 2 + mark) % 2 ≡ mark = omega arith in
    ap (λ m. marked first m (marks * 2 + mark)) e ∙ marked-suc first n (marks * 2 + mark)
    ∙ ap (λ m. marked first n m ++ cond (eqb ((marks * 2 + mark) % 2) 1) ((first + n) ∷ []) []) half
    ∙ ap (λ m. marked first n marks ++ cond (eqb m 1) ((first + n) ∷ []) []) last

pub mark_fits : (n marks mark : ℕ) → mark < 2 → marks < 2 ^ n → marks * 2 + mark < 2 ^ (n + 1)
mark_fits n marks mark lt fits = rw (pow-add 2 n 1) (omega arith)

-- ---- the marks read from the first on

pub marked-start : (first count marks : ℕ) → [] ≡ marked first 0 (marks / 2 ^ (count - 0))
marked-start first count marks = sym (marked-none first (marks / 2 ^ (count - 0)))

next : (first count k marks : ℕ) → k < count
    → marked first (k + 1) (marks / 2 ^ (count - (k + 1))) ≡ marked first k (marks / 2 ^ (count - k))
    ++ cond (eqb (marks / 2 ^ (count - 1 - k) % 2) 1) ((first + k) ∷ []) []
next first count k marks lt =
    let low = count - 1 - k in
    let x = marks / 2 ^ low in
    let e : count - (k + 1) ≡ low = omega arith in
    let d : low + 1 ≡ count - k = omega arith in
    let halves : x ≡ x / 2 * 2 + x % 2 = omega arith in
    let half : x / 2 ≡ marks / 2 ^ (count - k) = shr-shr marks low 1 ∙ ap (λ y. marks / 2 ^ y) d in
    ap (λ y. marked first (k + 1) (marks / 2 ^ y)) e ∙ ap (marked first (k + 1)) halves
    ∙ marked-more first k (x / 2) (x % 2) (omega arith)
    ∙ ap (λ y. marked first k y ++ cond (eqb (x % 2) 1) ((first + k) ∷ []) []) half

pub marked-told : (first count k marks : ℕ) (old new : List ℕ) → k < count
    → eqb (marks / 2 ^ (count - 1 - k) % 2) 1 ≡ true → old ≡ marked first k (marks / 2 ^ (count - k))
    → new ≡ old ++ (first + k) ∷ []
    → new ≡ marked first (k + 1) (marks / 2 ^ (count - (k + 1)))
marked-told first count k marks old new lt test so_far push =
    push ∙ ap (λ xs. xs ++ (first + k) ∷ []) so_far
    ∙ sym (next first count k marks lt
    ∙ ap (λ b. marked first k (marks / 2 ^ (count - k)) ++ cond b ((first + k) ∷ []) []) test)

pub marked-same : (first count k marks : ℕ) (old new : List ℕ) → k < count
    → eqb (marks / 2 ^ (count - 1 - k) % 2) 1 ≡ false → old ≡ marked first k (marks / 2 ^ (count - k)) → new ≡ old
    → new ≡ marked first (k + 1) (marks / 2 ^ (count - (k + 1)))
marked-same first count k marks old new lt test so_far same =
    same ∙ so_far
    ∙ sym (next first count k marks lt
    ∙ ap (λ b. marked first k (marks / 2 ^ (count - k)) ++ cond b ((first + k) ∷ []) []) test
    ∙ append-nil (marked first k (marks / 2 ^ (count - k))))

-- ---- the sections that were wished back

pub more_in_range : (a n : ℕ) → range_with_len a (n + 1) ≡ range_with_len a n ++ (a + n) ∷ []
more_in_range a zero = let e : a + 0 ≡ a = omega arith in rw e refl
more_in_range a (suc n) =
    let e : a + suc n ≡ a + 1 + n = omega arith in
    let m : suc n + 1 ≡ suc (n + 1) = omega arith in
    ap (range_with_len a) m ∙ ap (λ xs. a ∷ xs)
    (more_in_range (a + 1) n ∙ ap (λ x. range_with_len (a + 1) n ++ x ∷ []) (sym e))

-- one section more is looked at
pub wished_more : (t first n s : ℕ) (book : Pages) → s ≡ first + n
    → wished t (record { first = first; count = n + 1 }) book ≡ wished t (record { first = first; count = n }) book
    ++ cond (is_taken_for t (entry_at book s) && wish_at book s) (s ∷ []) []
wished_more t first n s book is =
    ap (filter (λ j. is_taken_for t (entry_at book j) && wish_at book j))
    (more_in_range first n ∙ ap (λ x. range_with_len first n ++ x ∷ []) (sym is))
    ∙ filter-append (λ j. is_taken_for t (entry_at book j) && wish_at book j) (range_with_len first n) (s ∷ [])

-- one section more is marked, or not
pub marks_more : (t first n marks mark : ℕ) (book : Pages) (b : Bool) → mark < 2 → eqb mark 1 ≡ b
    → (is_taken_for t (entry_at book (first + n)) && wish_at book (first + n)) ≡ b
    → marked first n marks ≡ wished t (record { first = first; count = n }) book
    → marked first (n + 1) (marks * 2 + mark) ≡ wished t (record { first = first; count = n + 1 }) book
marks_more t first n marks mark book b lt e test so_far =
    let s = first + n in
    let before = wished t (record { first = first; count = n }) book in
    marked-more first n marks mark lt ∙ ap (λ x. marked first n marks ++ cond x (s ∷ []) []) e
    ∙ ap (λ xs. xs ++ cond b (s ∷ []) []) so_far
    ∙ sym (wished_more t first n s book refl ∙ ap (λ x. before ++ cond x (s ∷ []) []) test)

-- ---- marks after others

-- no section is looked at yet
pub marks_begun : (t first from old : ℕ) (book : Pages)
    → marked first from old ≡ marked first from old
    ++ wished t (record { first = first + from; count = from - from }) book
marks_begun t first from old book =
    let none : from - from ≡ 0 = omega arith in
    sym (append-nil (marked first from old))
    ∙ ap (λ n. marked first from old ++ wished t (record { first = first + from; count = n }) book) (sym none)

-- one section more is marked after them, or not
pub marks_further : (t first from k old marks mark : ℕ) (book : Pages) (b : Bool) → from ≤ k → mark < 2 → eqb mark 1 ≡ b
    → (is_taken_for t (entry_at book (first + k)) && wish_at book (first + k)) ≡ b
    → marked first k marks ≡ marked first from old ++ wished t (record { first = first + from; count = k - from }) book
    → marked first (k + 1) (marks * 2 + mark)
    ≡ marked first from old ++ wished t (record { first = first + from; count = k + 1 - from }) book
marks_further t first from k old marks mark book b begun lt e test so_far =
    let s = first + k in
    let before = wished t (record { first = first + from; count = k - from }) book in
    let more : k + 1 - from ≡ k - from + 1 = omega (arith, begun) in
    marked-more first k marks mark lt ∙ ap (λ x. marked first k marks ++ cond x (s ∷ []) []) e
    ∙ ap (λ xs. xs ++ cond b (s ∷ []) []) so_far
    ∙ append_assoc (marked first from old) before (cond b (s ∷ []) [])
    ∙ ap (λ xs. marked first from old ++ xs)
    (sym (ap (λ n. wished t (record { first = first + from; count = n }) book) more
    ∙ wished_more t (first + from) (k - from) s book (omega (arith, begun))
    ∙ ap (λ x. before ++ cond x (s ∷ []) []) test))

-- one section more is not marked
pub no_mark : (first k marks : ℕ) → marked first (k + 1) (marks * 2) ≡ marked first k marks
no_mark first k marks =
    let same : marks * 2 ≡ marks * 2 + 0 = omega arith in
    ap (marked first (k + 1)) same ∙ marked-more first k marks 0 (omega arith) ∙ append-nil (marked first k marks)

-- the marks of the first sections, of none, and of those after
pub around_is : (t first cleared keep count front kept marks : ℕ) (book : Pages) (told : List ℕ)
    → told ≡ marked first count marks
    → marked first cleared front ≡ marked first 0 0 ++ wished t (record { first = first + 0; count = cleared - 0 }) book
    → marked first keep kept ≡ marked first cleared front
    → marked first count marks
    ≡ marked first keep kept ++ wished t (record { first = first + keep; count = count - keep }) book
    → told ≡ wished t (record { first = first; count = cleared }) book
    ++ wished t (record { first = first + keep; count = count - keep }) book
around_is t first cleared keep count front kept marks book told is one two three =
    let at : first + 0 ≡ first = omega arith in
    let all : cleared - 0 ≡ cleared = omega arith in
    is ∙ three ∙ ap (λ xs. xs ++ wished t (record { first = first + keep; count = count - keep }) book)
    (two ∙ one ∙ ap (λ xs. xs ++ wished t (record { first = first + 0; count = cleared - 0 }) book)
    (marked-none first 0) ∙ (λ i. wished t (record { first = at i; count = all i }) book))
