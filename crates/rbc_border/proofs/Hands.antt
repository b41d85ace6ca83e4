-- Lent sections that are added to a hand, arrive with a train, or are in use for it.
use Rattle.std.proofs.Common.{if◌then◌else◌, ◌&&◌, ◌++◌, ◌+◌, ◌-◌, ◌<◌, ◌==◌, ◌∙◌, ◌≡◌, ◌≤◌, ap, append_assoc, arith}
use Rattle.std.proofs.Common.{Bool, cond, drop, false, IfSome, inl, inr, is_some, length, None, not, Option, refl}
use Rattle.std.proofs.Common.{replicate, Some, sym, take, true, ℕ}
use Rattle.std.proofs.lemmas.Bool.{cases_Bool, cases_lt, false≢true}
use Rattle.std.proofs.lemmas.List.{drop-drop, drop_more, length-replicate, take_more}
use Rattle.std.proofs.lemmas.Option.{slice_get_past}
use Rattle.std.specs.Option.{option_map_or}
use Rattle.rbc_book.proofs.Pages.{foreign_is_shut}
use Rattle.rbc_book.specs.Book.{entry_at, Pages}
use Rattle.rbc_border.specs.Lending.{HasBook}
use Rattle.rbc_border.specs.Names.{PassesOn}
use Rattle.rbc_hand.specs.Hands.{Holding}
use Rattle.rbc_hand.specs.Tokens.{Name, Own}
use Rattle.rbc_spec.proofs.Lists.{any-range, any-range_none, each_of}
use Rattle.rbc_spec.specs.Centre.{Centre, is_out_for, is_used_for, uses_some}
use Rattle.rbc_spec.specs.Line.{is_home, Line, next_centre, Section, section}
use Rattle.rbc_spec.specs.Links.{may_arrive}
use Rattle.rbc_spec.specs.Maps.{has}
use Rattle.rbc_spec.specs.SectionRuns.{all_of, SectionRun}
use Rattle.rbc_spec.specs.Sections.{section_count}

-- # Names of lent sections that are added to a hand, end, and move from one hand to another.

-- the names of k sections from a first
pub record HasNames (t home from k : ℕ) (hand : Holding) : Type 0 where
  pub begins : 0 < k → hand.first ≡ from
  pub holds : hand.holds ≡ replicate k (Name t home)

pub names_count : (t home from k : ℕ) (hand : Holding) → HasNames t home from k hand → length hand.holds ≡ k
names_count t home from k hand has = ap length has.holds ∙ length-replicate k (Name t home)

-- a hand without its last k sections
abbrev pub cut_by : ℕ → Holding → Holding
cut_by k h = record h { holds = take (length h.holds - k) h.holds }

-- one more name goes on
pub passes_more : (k : ℕ) (a b c d e f : Holding) → k < length a.holds → PassesOn k a b c d → PassesOn 1 c d e f
    → PassesOn (k + 1) a b e f
passes_more k a b c d e f lt so_far next =
    let more : take (k + 1) a.holds ≡ take k a.holds ++ take 1 (drop k a.holds) = take_more a.holds k (Own 0) lt
    ∙ ap (λ xs. take k a.holds ++ take 1 xs) (sym (drop_more a.holds k (Own 0) lt)) in
    record {
      left = next.left ∙ (λ i. record { first = (so_far.left i).first + 1; holds = drop 1 (so_far.left i).holds })
          ∙ (λ i. record { first = number i; holds = drop-drop 1 k a.holds i });
      came = next.came ∙ (λ i. record (so_far.came i) { holds = (so_far.came i).holds ++ take 1 (so_far.left i).holds })
          ∙ (λ i.
          record b {
            holds =
                (append_assoc b.holds (take k a.holds) (take 1 (drop k a.holds)) ∙ ap (λ xs. b.holds ++ xs) (sym more))
                i;
          });
    }
  where
    number : a.first + k + 1 ≡ a.first + (k + 1)
    number = omega arith

-- # Sections that arrive with a train.

-- one section that fails a test is enough
pub one_fails : (test : ℕ → Bool) (r : SectionRun) (s : ℕ) → r.first ≤ s → s < r.first + r.count → test s ≡ false
    → all_of test r ≡ false
one_fails test r s low high fails = elim (cases_Bool (all_of test r)) [
  | inl all ↦ absurd (false≢true (sym fails ∙ each_of test r.first r.count all s low high))
  | inr fail ↦ fail
]

-- a section of another centre is not of the next
module _ (line : Line) (c t track s : ℕ) (k : Centre) where
  abbrev by_section : Option Section → Bool
  by_section o = if option_map_or (λ p. p.home == c) o false then is_out_for t (k.book s)
      else has (λ p. not (has (λ n. n == p.home) (next_centre line c track))) o

  pub elsewhere : (p : Section) (home : ℕ) → section line s ≡ Some p → p.home ≡ home → (home == c) ≡ false
      → may_arrive line c k t track s ≡ not (has (λ n. n == home) (next_centre line c track))
  elsewhere p home is of other = ap by_section is
      ∙ ap (λ h. cond (h == c) (is_out_for t (k.book s)) (not (has (λ n. n == h) (next_centre line c track)))) of
      ∙ ap (λ b. cond b (is_out_for t (k.book s)) (not (has (λ n. n == home) (next_centre line c track)))) other

-- # Sections of home in use for a train.

module _ (line : Line) (c t : ℕ) (k : Centre) (book : Pages) (has : HasBook line c k book) where
  -- a section in use is of the home
  used_is : (s : ℕ) → (is_home line c s && is_used_for t (k.book s)) ≡ is_used_for t (entry_at book s)
  used_is s = ap (λ e. is_home line c s && is_used_for t e) (has.has_book s) ∙ elim (cases_Bool (is_home line c s)) [
    | inl home ↦ rw home refl
    | inr home ↦ let shut = foreign_is_shut book s (has.homes s ∙ home) in rw (home, shut) refl
  ]

  pub one_used : (s : ℕ) → s < section_count line → is_used_for t (entry_at book s) ≡ true → uses_some line c k t ≡ true
  one_used s below is =
      any-range (λ j. is_home line c j && is_used_for t (k.book j)) 0 (section_count line) s (omega arith)
      (omega (arith, below)) (used_is s ∙ is)

  pub none_used : ((s : ℕ) → s < section_count line → is_used_for t (entry_at book s) ≡ false)
      → uses_some line c k t ≡ false
  none_used none =
      any-range_none (λ j. is_home line c j && is_used_for t (k.book j)) 0 (section_count line)
      (λ s low high. used_is s ∙ none s (omega (arith, high)))

  -- no section after the last is in use
  below : (s : ℕ) → is_used_for t (entry_at book s) ≡ true → s < section_count line
  below s used = elim (cases_lt s (section_count line)) [
    | inl low ↦ low
    | inr past ↦
        let home : is_home line c s ≡ false =
        ap (λ o. option_map_or (λ p. p.home == c) o false) (slice_get_past line.sections s past) in
        absurd (false≢true (sym (ap (is_used_for t) (foreign_is_shut book s (has.homes s ∙ home))) ∙ used))
  ]

  -- whether the book names a section in use, or none
  pub used_by : (o : Option ℕ) → IfSome o (λ s. is_used_for t (entry_at book s) ≡ true)
      → (o ≡ None → (s : ℕ) → is_used_for t (entry_at book s) ≡ false) → is_some o ≡ uses_some line c k t
  used_by None some none = sym (none_used (λ s low. none refl s))
  used_by (Some s) some none = sym (one_used s (below s some) some)
