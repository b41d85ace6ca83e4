-- The homes along a track, one section at a time.
use Rattle.std.proofs.Common.{[], ◌&&◌, ◌+◌, ◌<◌, ◌==◌, ◌∙◌, ◌∷◌, ◌≡◌, ◌≢◌, ◌≤◌, ◌⊎◌, ap, arith, Bool, false, inl, inr}
use Rattle.std.proofs.Common.{length, List, refl, Some, suc, sym, take, true, zero, ℕ}
use Rattle.std.proofs.lemmas.Bool.{cases_lt, false≢true}
use Rattle.std.proofs.lemmas.Bool.Decides.{nat_tests}
use Rattle.std.proofs.lemmas.Option.{none-some, same_Some, slice_get_within}
use Rattle.std.specs.List.{list_any, slice_get}
use Rattle.rbc_line.proofs.FileFacts.{position_found, some_at}
use Rattle.rbc_line.proofs.Lists.{slice_get_take}
use Rattle.rbc_line.specs.declared.parts.Section.{Section}
use Rattle.rbc_line.specs.Homes.{IsAscending, IsSplit, IsUnsplit}

-- unsplit as far as the first n sections
abbrev pub IsUnsplitBelow : List Section → ℕ → Type 0
IsUnsplitBelow rows i =
    (s m e : ℕ) (p n q : Section) → e < i → s ≤ m → m ≤ e → slice_get rows s ≡ Some p → slice_get rows m ≡ Some n
    → slice_get rows e ≡ Some q
    → p.track ≡ q.track → p.home ≡ q.home → n.home ≡ p.home

pub slice_get_front : {X : Type 0} (i : ℕ) (xs : List X) (j : ℕ) (y : X) → j < i → slice_get xs j ≡ Some y
    → slice_get (take i xs) j ≡ Some y
slice_get_front zero xs j y lt h = absurd (omega arith)
slice_get_front (suc i) [] j y lt h = absurd (none-some y h)
slice_get_front (suc i) (x ∷ xs) zero y lt h = h
slice_get_front (suc i) (x ∷ xs) (suc j) y lt h = slice_get_front i xs j y (omega arith) h

-- the section has the track and the home of this one
abbrev pub is_like : Section → Section → Bool
is_like section p = (p.track == section.track) && (p.home == section.home)

like_true : (section p : Section) → p.track ≡ section.track → p.home ≡ section.home → is_like section p ≡ true
like_true section p e f =
    let a : (p.track == section.track) ≡ true = grind (arith, nat_tests) in
    let b : (p.home == section.home) ≡ true = grind (arith, nat_tests) in
    rw (a, b)

and_parts : (a b : Bool) → (a && b) ≡ true → (a ≡ true) × (b ≡ true)
and_parts true b h = (refl, h)
and_parts false b h = absurd (false≢true h)

like_parts : (section p : Section) → is_like section p ≡ true → (p.track ≡ section.track) × (p.home ≡ section.home)
like_parts section p h =
    let parts = and_parts (p.track == section.track) (p.home == section.home) h in
    let a = parts.0 in
    let b = parts.1 in
    (grind (arith, nat_tests), grind (arith, nat_tests))

-- one more section that begins no home again
pub unsplit_more : (rows : List Section) (i j : ℕ) (r x : Section) → j + 1 ≡ i → slice_get rows j ≡ Some r
    → slice_get rows i ≡ Some x → IsAscending rows → IsUnsplitBelow rows i
    → (r.track ≢ x.track) ⊎ ((r.home ≡ x.home) ⊎ (list_any (is_like x) (take j rows) ≡ false))
    → IsUnsplitBelow rows (i + 1)
unsplit_more rows i j r x next at_j at_i ascending before fine s m e p n q below s_m m_e at_s at_m at_e track home =
    elim (cases_lt e i) [
      | inl earlier ↦ before s m e p n q earlier s_m m_e at_s at_m at_e track home
      | inr last ↦
          let same : e ≡ i = omega arith in
          let is_x : q ≡ x = same_Some q x (sym at_e ∙ ap (slice_get rows) same ∙ at_i) in
          elim (cases_lt m i) [
            | inr m_last ↦
                let m_e' : m ≡ e = omega arith in
                let n_q : n ≡ q = same_Some n q (sym at_m ∙ ap (slice_get rows) m_e' ∙ at_e) in
                ap (λ v. v.home) n_q ∙ sym home
            | inl m_before ↦
                let low = ascending s j p r (omega arith) at_s at_j in
                let high = ascending j i r x (omega arith) at_j at_i in
                let q_x = ap (λ v. v.track) is_x in
                let h_x = ap (λ v. v.home) is_x in
                let on_track : r.track ≡ x.track = omega (arith, low, high, track, q_x) in
                elim fine [
                  | inl other ↦ absurd (other on_track)
                  | inr rest ↦ elim rest [
                    | inl one_home ↦
                        before s m j p n r (omega arith) s_m (omega arith) at_s at_m at_j (track ∙ q_x ∙ sym on_track)
                        (home ∙ h_x ∙ sym one_home)
                    | inr none ↦ elim (cases_lt s j) [
                      | inl s_before ↦
                          absurd
                          (false≢true (sym none ∙ some_at (is_like x) (take j rows) s p
                          (slice_get_front j rows s p s_before at_s) (like_true x p (track ∙ q_x) (home ∙ h_x))))
                      | inr s_last ↦
                          before s m j p n r (omega arith) s_m (omega arith) at_s at_m at_j (track ∙ q_x ∙ sym on_track)
                          (let s_j : s ≡ j = omega arith in
                          ap (λ v. v.home) (same_Some p r (sym at_s ∙ ap (slice_get rows) s_j ∙ at_j)))
                    ]
                  ]
                ]
          ]
    ]

-- a section that begins a home again
pub split_found : (rows : List Section) (i j : ℕ) (r x : Section) → j + 1 ≡ i → slice_get rows j ≡ Some r
    → slice_get rows i ≡ Some x → r.home ≢ x.home
    → list_any (is_like x) (take j rows) ≡ true → IsSplit rows
split_found rows i j r x next at_j at_i other some =
    let found = position_found (is_like x) (take j rows) some in
    let place = slice_get_take j rows found.0 found.1 found.3 in
    let like = like_parts x found.1 found.4 in
    (found.0, j, i, found.1, r, x, place.0, omega arith, place.1, at_j, at_i, like.0, like.1, λ e. other (e ∙ like.1))

pub unsplit_all : (rows : List Section) (i : ℕ) → length rows ≤ i → IsUnsplitBelow rows i → IsUnsplit rows
unsplit_all rows i past before s m e p n q s_m m_e at_s at_m at_e track home =
    before s m e p n q (omega (arith, slice_get_within rows e q at_e)) s_m m_e at_s at_m at_e track home

pub unsplit_one : (rows : List Section) → IsUnsplitBelow rows 1
unsplit_one rows s m e p n q below s_m m_e at_s at_m at_e track home =
    let same : m ≡ e = omega arith in
    ap (λ v. v.home) (same_Some n q (sym at_m ∙ ap (slice_get rows) same ∙ at_e)) ∙ sym home
