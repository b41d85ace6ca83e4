-- Sections that are returned.
use Rattle.std.proofs.Common.{[], ◌&&◌, ◌*◌, ◌++◌, ◌+◌, ◌<◌, ◌==◌, ◌||◌, ◌∙◌, ◌∷◌, ◌≡◌, ap, arith, Bool, cond, eqb}
use Rattle.std.proofs.Common.{false, inl, inr, List, map, None, not, Option, refl, Some, sym, true, ℕ}
use Rattle.std.proofs.lemmas.Bool.{cases_Bool}
use Rattle.std.proofs.lemmas.Bool.Decides.{eqb_tells}
use Rattle.std.proofs.lemmas.List.Elements.{filter-append}
use Rattle.std.proofs.lemmas.Option.{cond_some}
use Rattle.std.specs.List.{filter, range_with_len}
use Rattle.rbc_allocation.proofs.Freed.{back_to, entry_then, entry_twice, wish_then, wish_twice}
use Rattle.rbc_allocation.proofs.Marks.{marked-more, more_in_range}
use Rattle.rbc_allocation.proofs.Runs.{within_more, within_none, within_one}
use Rattle.rbc_allocation.specs.Marks.{marked}
use Rattle.rbc_book.proofs.Pages.{foreign_is_shut}
use Rattle.rbc_book.specs.Book.{entry_at, is_own, Pages, wish_at}
use Rattle.rbc_book.specs.Claim.{claim_if, claim_on, is_taken_by, section_of}
use Rattle.rbc_book.specs.declared.claim.Claim.{Claim}
use Rattle.rbc_border.proofs.Lists.{and_false, and_true, filter_same, none_chosen}
use Rattle.rbc_border.proofs.Loans.{Writes}
use Rattle.rbc_border.specs.Lending.{BringsBack, HasBook, is_lent, telling, told_back, with_book}
use Rattle.rbc_hand.specs.Hands.{one}
use Rattle.rbc_spec.proofs.Lists.{itself}
use Rattle.rbc_spec.proofs.Runs.{within_after, within_from}
use Rattle.rbc_spec.specs.Acts.{freed}
use Rattle.rbc_spec.specs.Centre.{Centre, is_out_for, is_taken_for, Open, Shut, Taken}
use Rattle.rbc_spec.specs.Line.{is_home, Line}
use Rattle.rbc_spec.specs.Outcome.{Told}
use Rattle.rbc_spec.specs.SectionRuns.{SectionRun, within}

-- ## One section

-- the claim of a section ends; its section is open, or shut if it is wished back
pub record GivesBack (claim : Claim) (a b : Pages) : Type 0 where
  pub homes : (k : ℕ) → is_own b k ≡ is_own a k
  pub entry : (k : ℕ) → entry_at b k
      ≡ cond (is_taken_by a claim && (k == section_of claim)) (back_to (wish_at a (section_of claim))) (entry_at a k)
  pub wish : (k : ℕ) → wish_at b k ≡ cond (is_taken_by a claim && (k == section_of claim)) false (wish_at a k)

module _ (t s : ℕ) (o : Option Claim) (claim : Claim) (a m b : Pages)
    (is : o ≡ claim_if (is_out_for t (entry_at a s)) s t) (some : o ≡ Some claim)
    (takes : Writes s (is_out_for t (entry_at a s)) (Taken t) a m) where
  was_out : (is_out_for t (entry_at a s) ≡ true) × (claim_on s t ≡ claim)
  was_out = cond_some (is_out_for t (entry_at a s)) (claim_on s t) claim (sym is ∙ some)

  taken : is_taken_for t (entry_at m s) ≡ true
  taken = ap (is_taken_for t) (takes.entry s) ∙ (rw (was_out.0, itself s) (itself t))

  pub brings_some : GivesBack claim m b → BringsBack t (one s) a b
  brings_some gives = record {
    homes = λ k. gives.homes k ∙ takes.homes k;
    entry = λ k. gives.entry k
        ∙ ap (λ (x : Claim). cond (is_taken_by m x && (k == section_of x)) (back_to (wish_at m (section_of x)))
        (entry_at m k)) (sym was_out.1)
        ∙ (λ i. cond (taken i && (k == s)) (back_to (takes.wish s i)) (entry_at m k))
        ∙ (elim (eqb_tells k s) as (λ _. cond (k == s) (back_to (wish_at a s)) (entry_at m k)
        ≡ cond (within (one s) k && is_out_for t (entry_at a k)) (back_to (wish_at a k)) (entry_at a k)) [
          | inl e ↦ rw (within_one s k, e.0, e.1, was_out.0) refl
          | inr e ↦
              rw (within_one s k, e.0)
              (takes.entry k ∙ ap (λ x. cond (x && (k == s)) (Taken t) (entry_at a k)) was_out.0
              ∙ ap (λ x. cond x (Taken t) (entry_at a k)) e.0)
        ]);
    wish = λ k. gives.wish k
        ∙ ap (λ (x : Claim). cond (is_taken_by m x && (k == section_of x)) false (wish_at m k)) (sym was_out.1)
        ∙ (λ i. cond (taken i && (k == s)) false (takes.wish k i))
        ∙ (elim (eqb_tells k s) as (λ _. cond (k == s) false (wish_at a k)
        ≡ (not (within (one s) k && is_out_for t (entry_at a k)) && wish_at a k)) [
          | inl e ↦ rw (within_one s k, e.0, e.1, was_out.0) refl
          | inr e ↦ rw (within_one s k, e.0) refl
        ]);
  }

module _ (t s : ℕ) (o : Option Claim) (a m : Pages) (is : o ≡ claim_if (is_out_for t (entry_at a s)) s t)
    (none : o ≡ None) (takes : Writes s (is_out_for t (entry_at a s)) (Taken t) a m) where
  was_not : is_out_for t (entry_at a s) ≡ false
  was_not = none_chosen (is_out_for t (entry_at a s)) (claim_on s t) (sym is ∙ none)

  pub brings_no : BringsBack t (one s) a m
  brings_no = record {
    homes = takes.homes;
    entry = λ k. takes.entry k ∙ ap (λ x. cond (x && (k == s)) (Taken t) (entry_at a k)) was_not
        ∙ (elim (eqb_tells k s) as (λ _. entry_at a k
        ≡ cond (within (one s) k && is_out_for t (entry_at a k)) (back_to (wish_at a k)) (entry_at a k)) [
          | inl e ↦ rw (within_one s k, e.0, e.1, was_not) refl
          | inr e ↦ rw (within_one s k, e.0) refl
        ]);
    wish = λ k. takes.wish k
        ∙ (elim (eqb_tells k s) as (λ _. wish_at a k
        ≡ (not (within (one s) k && is_out_for t (entry_at a k)) && wish_at a k)) [
          | inl e ↦ rw (within_one s k, e.0, e.1, was_not) refl
          | inr e ↦ rw (within_one s k, e.0) refl
        ]);
  }

-- ## One section after another

pub brings_none : (t from : ℕ) (book : Pages) → BringsBack t (record { first = from; count = 0 }) book book
brings_none t from book =
    record { homes = λ s. refl; entry = λ s. rw (within_none from s) refl; wish = λ s. rw (within_none from s) refl }

-- a returned section is out for no train
idle : (t : ℕ) (w : Bool) → is_out_for t (back_to w) ≡ false
idle t true = refl
idle t false = refl

module _ (t from k s : ℕ) (a b : Pages) (is : s ≡ from + k)
    (so_far : BringsBack t (record { first = from; count = k }) a b) where
  both : (j : ℕ) → within (record { first = from; count = k + 1 }) j
      ≡ (within (record { first = from; count = k }) j || within (one s) j)
  both j = within_more from k j ∙ ap (λ x. within (record { first = from; count = k }) j || within (one x) j) (sym is)

  pub brings_more : (c : Pages) → BringsBack t (one s) b c → BringsBack t (record { first = from; count = k + 1 }) a c
  brings_more c next = record {
    homes = λ j. next.homes j ∙ so_far.homes j;
    entry = λ j. next.entry j
        ∙ (λ i. entry_then (is_out_for t) (within (one s) j) (so_far.entry j i) (so_far.wish j i))
        ∙ entry_twice (is_out_for t) (idle t) (entry_at a j) (wish_at a j)
        (within (record { first = from; count = k }) j) (within (one s) j)
        ∙ ap (λ x. entry_then (is_out_for t) x (entry_at a j) (wish_at a j)) (sym (both j));
    wish = λ j. next.wish j
        ∙ (λ i. wish_then (is_out_for t) (within (one s) j) (so_far.entry j i) (so_far.wish j i))
        ∙ wish_twice (is_out_for t) (idle t) (entry_at a j) (wish_at a j)
        (within (record { first = from; count = k }) j) (within (one s) j)
        ∙ ap (λ x. wish_then (is_out_for t) x (entry_at a j) (wish_at a j)) (sym (both j));
  }

  -- the next section is as before
  pub next_as_before : (is_out_for t (entry_at b s) && wish_at b s) ≡ (is_out_for t (entry_at a s) && wish_at a s)
  next_as_before =
      let out : within (record { first = from; count = k }) s ≡ false =
      ap (within (record { first = from; count = k })) is ∙ past in
      (λ i. is_out_for t ((so_far.entry s ∙ ap (λ x. entry_then (is_out_for t) x (entry_at a s) (wish_at a s)) out) i)
      && (so_far.wish s ∙ ap (λ x. wish_then (is_out_for t) x (entry_at a s) (wish_at a s)) out) i)
    where
      past : within (record { first = from; count = k }) (from + k) ≡ false
      past = within_after (record { first = from; count = k }) (from + k) (omega arith)

-- ## The reports

-- one section more is looked at
told_more : (t from n : ℕ) (book : Pages) → told_back t (record { first = from; count = n + 1 }) book
    ≡ told_back t (record { first = from; count = n }) book
    ++ cond (is_out_for t (entry_at book (from + n)) && wish_at book (from + n)) ((from + n) ∷ []) []
told_more t from n book =
    ap (filter (λ j. is_out_for t (entry_at book j) && wish_at book j)) (more_in_range from n)
    ∙ filter-append (λ j. is_out_for t (entry_at book j) && wish_at book j) (range_with_len from n) ((from + n) ∷ [])

-- and marked, or not
pub marks_more : (t from n marks mark : ℕ) (book : Pages) (b : Bool) → mark < 2 → eqb mark 1 ≡ b
    → (is_out_for t (entry_at book (from + n)) && wish_at book (from + n)) ≡ b
    → marked from n marks ≡ told_back t (record { first = from; count = n }) book
    → marked from (n + 1) (marks * 2 + mark) ≡ told_back t (record { first = from; count = n + 1 }) book
marks_more t from n marks mark book b lt e test so_far =
    marked-more from n marks mark lt ∙ ap (λ x. marked from n marks ++ cond x ((from + n) ∷ []) []) e
    ∙ ap (λ xs. xs ++ cond b ((from + n) ∷ []) []) so_far
    ∙ sym (told_more t from n book
    ∙ ap (λ x. told_back t (record { first = from; count = n }) book ++ cond x ((from + n) ∷ []) []) test)

-- ## At a centre

module _ (line : Line) (c t : ℕ) (r : SectionRun) (k : Centre) (book : Pages) (has : HasBook line c k book) where
  -- a section that is out for a train is of the home
  out_is : (s : ℕ) → ((within r s && is_home line c s) && is_out_for t (k.book s)) ≡ is_lent t r book s
  out_is s = ap (λ e. (within r s && is_home line c s) && is_out_for t e) (has.has_book s)
      ∙ elim (cases_Bool (is_home line c s)) [
        | inl home ↦ rw home (ap (λ x. x && is_out_for t (entry_at book s)) (and_true (within r s)))
        | inr home ↦ let shut = foreign_is_shut book s (has.homes s ∙ home) in
            rw (home, shut) (and_false (within r s && false) ∙ sym (and_false (within r s)))
      ]

  words : filter (λ s. ((within r s && is_home line c s) && is_out_for t (k.book s)) && k.wish s)
      (range_with_len r.first r.count) ≡ told_back t r book
  words = filter_same _ _ r.first r.count (λ s above below.
      (λ i. out_is s i && has.has_wish s i)
      ∙ ap (λ x. (x && is_out_for t (entry_at book s)) && wish_at book s) (within_from r s above below))

  pub freed_is : (book' : Pages) (told : List ℕ) → BringsBack t r book book' → told ≡ told_back t r book
      → freed line c (is_out_for t) r k ≡ telling told (with_book book' k)
  freed_is book' told brings is_told = λ i. record {
    state = record k {
      book =
          λ s. ((λ j. cond (out_is s j) (cond (has.has_wish s j) Shut Open) (has.has_book s j)) ∙ sym (brings.entry s))
          i;
      wish = λ s. ((λ j. not (out_is s j) && has.has_wish s j) ∙ sym (brings.wish s)) i;
    };
    frames = λ d. [];
    sayings = [];
    words = map (λ s. Told s) ((words ∙ sym is_told) i);
  }
