-- A list that is sorted by stamp and centre is in order, also after the time. Rising stamps.
use Rattle.std.proofs.Common.{◌+◌, ◌-◌, ◌<◌, ◌≡◌, ◌≤◌, arith, Bool, false, inl, inr, List, subst, ℕ}
use Rattle.std.proofs.lemmas.Bool.{cases_lt}
use Rattle.std.proofs.lemmas.Bool.Decides.{nat_tests}
use Rattle.std.proofs.lemmas.Cmp.{nat_cmp_total, on_total, then_total}
use Rattle.std.proofs.lemmas.List.Sorted.{ranks_by, sorted_far}
use Rattle.std.specs.Cmp.{IsStrictWeakOrder}
use Rattle.std.specs.List.Sorted.{IsSortedBy}
use Rattle.std.specs.Ordering.{is_lt, nat_cmp, ordering_then}
use Rattle.std.specs.Prelude.{slice_index}
use Rattle.text_journal.specs.declared.entry.Entry.{Entry}
use Rattle.text_journal.specs.Order.{AreInOrder, AreInTimeOrder, RiseTo, taken_at, time_of}

abbrev pub earlier : ℕ → ℕ → ℕ → ℕ → Bool
earlier s c t d = is_lt (ordering_then (nat_cmp s t) (nat_cmp c d))

not_earlier : (s c t d : ℕ) → earlier s c t d ≡ false → (t ≤ s) × (t ≡ s → d ≤ c)
not_earlier s c t d = grind (arith, nat_tests)

abbrev pub entry_before : Entry → Entry → Bool
entry_before a b = earlier a.stamp (taken_at a) b.stamp (taken_at b)

entries_order : IsStrictWeakOrder entry_before
entries_order =
    ranks_by (then_total (on_total (λ (e : Entry). e.stamp) nat_cmp_total) (on_total taken_at nat_cmp_total))
    (λ (e : Entry). e)

pub ordered : (es : List Entry) → IsSortedBy entry_before es → AreInOrder es
ordered es up i j d under within =
    not_earlier _ _ _ _ (sorted_far entry_before entries_order es up i j d (omega (arith, under)) within)

abbrev pub sooner : ℕ → ℕ → ℕ → ℕ → ℕ → ℕ → Bool
sooner u s c v t d = is_lt (ordering_then (ordering_then (nat_cmp u v) (nat_cmp s t)) (nat_cmp c d))

not_sooner : (u s c v t d : ℕ) → sooner u s c v t d ≡ false → (v ≤ u) × (v ≡ u → (t ≤ s) × (t ≡ s → d ≤ c))
not_sooner u s c v t d = grind (arith, nat_tests)

abbrev pub entry_sooner : Entry → Entry → Bool
entry_sooner a b = sooner (time_of a) a.stamp (taken_at a) (time_of b) b.stamp (taken_at b)

times_order : IsStrictWeakOrder entry_sooner
times_order =
    ranks_by
    (then_total
    (then_total (on_total time_of nat_cmp_total) (on_total (λ (e : Entry). e.stamp) nat_cmp_total))
    (on_total taken_at nat_cmp_total))
    (λ (e : Entry). e)

pub timed : (es : List Entry) → IsSortedBy entry_sooner es → AreInTimeOrder es
timed es up i j d under within =
    not_sooner _ _ _ _ _ _ (sorted_far entry_sooner times_order es up i j d (omega (arith, under)) within)

-- one more stamp that is above the one before it
pub rises_more : (stamps : List ℕ) (at : ℕ) → 1 ≤ at → slice_index stamps (at - 1) < slice_index stamps at
    → RiseTo at stamps → RiseTo (at + 1) stamps
rises_more stamps at some last so_far i under = elim (cases_lt (i + 1) at) [
  | inl h ↦ so_far i h
  | inr h ↦
      let before : at - 1 ≡ i = omega (arith, some, h, under) in
      let now : at ≡ i + 1 = omega (arith, h, under) in
      subst (λ (k : ℕ). slice_index stamps i < slice_index stamps k) now
      (subst (λ (k : ℕ). slice_index stamps k < slice_index stamps at) before last)
]
