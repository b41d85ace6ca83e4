-- Laws of a run with a new page.
use Rattle.std.proofs.Common.{[], ◌+◌, ◌∙◌, ◌∷◌, ◌≡◌, ◌⊎◌, ap, arith, cond, if◌then◌else◌, inl, inr, List, refl, set}
use Rattle.std.proofs.Common.{Some, subst, suc, sym, true, zero, ℕ}
use Rattle.std.proofs.lemmas.Bool.{cases_Bool}
use Rattle.rbc_book.proofs.Joins.{joined_after, joined_apart, joined_count, joined_order, joined_spots}
use Rattle.rbc_book.proofs.Rows.{at_is, order_from, spot_of_run}
use Rattle.rbc_book.proofs.Splits.{IsSingledOut}
use Rattle.rbc_book.specs.declared.page.Page.{Page}
use Rattle.rbc_book.specs.declared.run.Run.{Run}
use Rattle.rbc_book.specs.Edits.{IsJoined, IsWhole, IsWritten, stretch, with_page}
use Rattle.rbc_book.specs.Runs.{AreApart, AreInOrder, At, GoesOnAt, sections_in, sections_of, spot_at, spot_of}
use Rattle.rbc_book.specs.Sheet.{page_in, track_in}
use Rattle.rbc_spec.proofs.Runs.{within_after, within_true}
use Rattle.rbc_spec.specs.SectionRuns.{within}

order-set : (i n : ℕ) (page : Page) (runs : List Run) (r : Run) → At (λ q. q ≡ r) i runs → AreInOrder n runs
    → AreInOrder n (set runs i (with_page page r))
order-set i n page [] r at order = order
order-set zero n page (q ∷ qs) r at order = subst (λ p. AreInOrder n (with_page page p ∷ qs)) at order
order-set (suc i) n page (q ∷ qs) r at order =
    (order.0, order.1, order.2, order-set i (q.first + q.count) page qs r at order.3)

count-set : (i : ℕ) (page : Page) (runs : List Run) (r : Run) → At (λ q. q ≡ r) i runs
    → sections_in (set runs i (with_page page r)) ≡ sections_in runs
count-set i page [] r at = refl
count-set zero page (q ∷ qs) r at = rw at refl
count-set (suc i) page (q ∷ qs) r at = ap (λ n. q.count + n) (count-set i page qs r at)

seams-set : (i : ℕ) (runs : List Run) (r : Run) (j : ℕ) → GoesOnAt j (set runs i r)
    → (j ≡ i) ⊎ ((suc j ≡ i) ⊎ GoesOnAt j runs)
seams-set i [] r j h = absurd h
seams-set zero (q ∷ qs) r zero h = inl refl
seams-set zero (q ∷ qs) r (suc j) h = inr (inr h)
seams-set (suc i) (q ∷ []) r zero h = absurd h
seams-set (suc zero) (q ∷ p ∷ ps) r zero h = inr (inl refl)
seams-set (suc (suc i)) (q ∷ p ∷ ps) r zero h = inr (inr h)
seams-set (suc i) (q ∷ qs) r (suc j) h = elim (seams-set i qs r j h) [
  | inl here ↦ inl (ap suc here)
  | inr other ↦ elim other [
    | inl ahead ↦ inr (inl (ap suc ahead))
    | inr same ↦ inr (inr same)
  ]
]

same_sections : (s size : ℕ) (r : Run) → IsWhole s size r → (k : ℕ)
    → within (sections_of r) k ≡ within (stretch s size) k
same_sections s size r whole k i = within (record { first = whole.0 i; count = whole.1 i }) k

-- the pages of the sections of the run change, and no others
spots-set : (i n s size : ℕ) (page : Page) (runs : List Run) (r : Run) → AreInOrder n runs → At (λ q. q ≡ r) i runs
    → IsWhole s size r → (k : ℕ)
    → spot_at (set runs i (with_page page r)) k
    ≡ (if within (stretch s size) k then Some (record { page = page; track = r.track }) else spot_at runs k)
spots-set i n s size page [] r order at whole k = absurd at
spots-set zero n s size page (q ∷ qs) r order at whole k = elim (cases_Bool (within (stretch s size) k)) [
  | inl has ↦ rw (has, same_sections s size r whole k ∙ has) refl
  | inr not ↦ rw (not, at, same_sections s size r whole k ∙ not) refl
]
spots-set (suc i) n s size page (q ∷ qs) r order at whole k =
    let rest = spots-set i (q.first + q.count) s size page qs r order.3 at whole k in
    elim (cases_Bool (within (stretch s size) k)) [
      | inl has ↦ let ends = within_true (stretch s size) k has in
          rw (within_after (sections_of q) k
          (omega (arith, ends.0, whole.0, order_from (q.first + q.count) qs i r order.3 at))) rest
      | inr not ↦ rw not (ap (λ o. cond (within (sections_of q) k) (Some (spot_of q)) o) (rest ∙ rw not refl))
    ]

-- ## A page is written

module _ (s size place : ℕ) (page : Page) (old single : List Run) (r : Run) (out : IsSingledOut s size old single place)
    (at : At (λ q. q ≡ r) place single) where
  abbrev pub used : List Run
  used = set single place (with_page page r)

  alone : IsWhole s size r
  alone = at_is (IsWhole s size) single place r out.alone at

  said : (k : ℕ) → within (stretch s size) k ≡ true → spot_at old k ≡ Some (spot_of r)
  said k has = sym (out.spots k) ∙ spot_of_run 0 single place k r out.order at (same_sections s size r alone k ∙ has)

  spots : (k : ℕ)
      → spot_at used k
      ≡ (if within (stretch s size) k then Some (record { page = page; track = r.track }) else spot_at single k)
  spots = spots-set place 0 s size page single r out.order at alone

  seams : (j : ℕ) → GoesOnAt j used → (j ≡ place) ⊎ (suc j ≡ place)
  seams j h = elim (seams-set place single (with_page page r) j h) [
    | inl here ↦ inl here
    | inr other ↦ elim other [
      | inl ahead ↦ inr ahead
      | inr same ↦ out.seams j same
    ]
  ]

  pub used_order : AreInOrder 0 used
  used_order = order-set place 0 page single r at out.order

  written : (new : List Run) → AreInOrder 0 new → AreApart new → sections_in new ≡ sections_in used
      → ((k : ℕ) → spot_at new k ≡ spot_at used k) → IsWritten s size page old new
  written new order apart count same = record {
    order = order;
    apart = apart;
    count = count ∙ count-set place page single r at ∙ out.count;
    pages = λ k. ap page_in (same k ∙ spots k) ∙
        elim (cases_Bool (within (stretch s size) k)) [
          | inl has ↦ rw has refl
          | inr not ↦ rw not (ap page_in (out.spots k))
        ];
    tracks = λ k. ap track_in (same k ∙ spots k) ∙
        elim (cases_Bool (within (stretch s size) k)) [
          | inl has ↦ rw has (ap track_in (sym (said k has)))
          | inr not ↦ rw not (ap track_in (out.spots k))
        ];
  }

  -- joined with the next, if no run is before it
  pub written_first : (new : List Run) → place ≡ 0 → IsJoined place used new → IsWritten s size page old new
  written_first new first joins = written new
      (joined_order place used new joins used_order)
      (λ j h. let no : ⊥ = omega (arith, first, joined_after place used new joins seams j h) in no)
      (joined_count place used new joins)
      (λ k. joined_spots place used new k joins)

  -- the run is joined with the one before
  pub written_after : (mid new : List Run) (ahead : ℕ) → suc ahead ≡ place → IsJoined place used mid
      → IsJoined ahead mid new → IsWritten s size page old new
  written_after mid new ahead before one two = written new
      (joined_order ahead mid new two (joined_order place used mid one used_order))
      (joined_apart ahead mid new two (λ j h. omega (arith, before, joined_after place used mid one seams j h)))
      (joined_count ahead mid new two ∙ joined_count place used mid one)
      (λ k. joined_spots ahead mid new k two ∙ joined_spots place used mid k one)

  -- apart from both
  pub written_apart : ¬ GoesOnAt place used → ((ahead : ℕ) → suc ahead ≡ place → ¬ GoesOnAt ahead used)
      → IsWritten s size page old used
  written_apart after ahead = written used used_order (λ j h. elim (seams j h) [
    | inl here ↦ after (subst (λ n. GoesOnAt n used) here h)
    | inr before ↦ ahead j before h
  ]) refl (λ k. refl)
