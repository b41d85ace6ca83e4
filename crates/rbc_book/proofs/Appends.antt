-- Laws of a section that is put after all runs, and of the runs of a new book.
use Rattle.std.proofs.Common.{[], ◌++◌, ◌+◌, ◌<◌, ◌==◌, ◌∙◌, ◌∷◌, ◌≡◌, ◌≤◌, ◌⊎◌, ap, arith, cond, if◌then◌else◌, inl}
use Rattle.std.proofs.Common.{inr, length, List, nat_lt, None, Option, option_and_then, option_map, refl, Some, subst}
use Rattle.std.proofs.Common.{suc, sym, zero, ℕ}
use Rattle.std.proofs.lemmas.Bool.{cases_lt, le-ltb, lt-ltb}
use Rattle.std.proofs.lemmas.Bool.Decides.{eqb_tells}
use Rattle.std.proofs.lemmas.List.Elements.{All-head, All-push, All-tail, All-weaker}
use Rattle.std.proofs.lemmas.Option.{slice_get_past}
use Rattle.rbc_book.proofs.Joins.{joined_apart, joined_before, joined_count, joined_order, joined_spots}
use Rattle.rbc_book.proofs.Rows.{most_is, sheet_says}
use Rattle.rbc_book.specs.declared.page.Page.{Page}
use Rattle.rbc_book.specs.declared.run.Run.{Run}
use Rattle.rbc_book.specs.Edits.{AreBefore, IsAppended, IsJoined}
use Rattle.rbc_book.specs.Runs.{AreApart, AreInOrder, GoesOnAt, most, sections_in, sections_of, sheet_of, spot_at}
use Rattle.rbc_book.specs.Runs.{spot_of}
use Rattle.rbc_book.specs.Sheet.{home_track, page_in, page_on, Spot, track_in, track_on}
use Rattle.rbc_spec.proofs.Runs.{within_after, within_before, within_from}
use Rattle.rbc_spec.specs.Line.{IsLine, Line}
use Rattle.rbc_spec.specs.SectionRuns.{within}

-- a section as a run
abbrev pub alone : ℕ → Spot → Run
alone s spot =
    record { first = s; count = 1; track = spot.track; is_wished = spot.page.is_wished; entry = spot.page.entry }

has_alone : (s : ℕ) (spot : Spot) (k : ℕ) → within (sections_of (alone s spot)) k ≡ (k == s)
has_alone s spot k = elim (eqb_tells k s) [
  | inl e ↦ rw (e.0) (within_from (sections_of (alone s spot)) k (omega (arith, e.1)) (omega (arith, e.1)))
  | inr e ↦ rw (e.0) (elim (cases_lt k s) [
    | inl low ↦ within_before (sections_of (alone s spot)) k low
    | inr high ↦ elim (cases_lt k (s + 1)) [
      | inl here ↦ absurd (e.1 (omega arith))
      | inr after ↦ within_after (sections_of (alone s spot)) k after
    ]
  ])
]

spots-push : (s : ℕ) (spot : Spot) (runs : List Run) (k : ℕ) → AreBefore s runs
    → spot_at (runs ++ alone s spot ∷ []) k ≡ (if k == s then Some spot else spot_at runs k)
spots-push s spot [] k all = ap (λ b. cond b (Some spot) None) (has_alone s spot k)
spots-push s spot (r ∷ rs) k all =
    let rest = spots-push s spot rs k (All-tail (λ q. q.first + q.count ≤ s) r rs all) in
    let end : r.first + r.count ≤ s = All-head (λ q. q.first + q.count ≤ s) r rs all in
    elim (eqb_tells k s) [
      | inl e ↦ rw (within_after (sections_of r) k (omega (arith, e.1, end))) rest
      | inr e ↦ rw (e.0) (ap (λ o. cond (within (sections_of r) k) (Some (spot_of r)) o) (rest ∙ rw (e.0) refl))
    ]

order-push : (s n : ℕ) (spot : Spot) (runs : List Run) → n ≤ s → s < most → AreBefore s runs → AreInOrder n runs
    → AreInOrder n (runs ++ alone s spot ∷ [])
order-push s n spot [] low bound all order = (low, omega arith, omega arith, tt)
order-push s n spot (r ∷ rs) low bound all order = (
  order.0,
  order.1,
  order.2,
  order-push s (r.first + r.count) spot rs
      (All-head (λ q. q.first + q.count ≤ s) r rs all) bound (All-tail (λ q. q.first + q.count ≤ s) r rs all) order.3,
)

count-push : (s : ℕ) (spot : Spot) (runs : List Run) → sections_in (runs ++ alone s spot ∷ []) ≡ sections_in runs + 1
count-push s spot [] = refl
count-push s spot (r ∷ rs) = omega (arith, count-push s spot rs)

seams-push : (runs : List Run) (r : Run) (j : ℕ) → GoesOnAt j (runs ++ r ∷ []) → (suc j ≡ length runs) ⊎ GoesOnAt j runs
seams-push [] r zero h = absurd h
seams-push [] r (suc j) h = absurd h
seams-push (q ∷ []) r zero h = inl refl
seams-push (q ∷ []) r (suc zero) h = absurd h
seams-push (q ∷ []) r (suc (suc j)) h = absurd h
seams-push (q ∷ p ∷ ps) r zero h = inr h
seams-push (q ∷ p ∷ ps) r (suc j) h = elim (seams-push (p ∷ ps) r j h) [
  | inl last ↦ inl (ap suc last)
  | inr same ↦ inr same
]

before-more : (s : ℕ) (runs : List Run) → AreBefore s runs → AreBefore (s + 1) runs
before-more s runs all = All-weaker (λ r. r.first + r.count ≤ s) (λ r. r.first + r.count ≤ s + 1) all_more runs all
  where
    all_more : (r : Run) → r.first + r.count ≤ s → r.first + r.count ≤ s + 1
    all_more r end = omega (arith, end)

module _ (s : ℕ) (spot : Spot) (old pushed : List Run) (is : pushed ≡ old ++ alone s spot ∷ [])
    (order : AreInOrder 0 old) (apart : AreApart old) (all : AreBefore s old) (bound : s < most) where
  pushed_spots : (k : ℕ) → spot_at pushed k ≡ (if k == s then Some spot else spot_at old k)
  pushed_spots k = ap (λ runs. spot_at runs k) is ∙ spots-push s spot old k all

  pub pushed_order : AreInOrder 0 pushed
  pushed_order = subst (AreInOrder 0) (sym is) (order-push s 0 spot old (omega arith) bound all order)

  pushed_before : AreBefore (s + 1) pushed
  pushed_before =
      subst (AreBefore (s + 1)) (sym is) (All-push (λ r. r.first + r.count ≤ s + 1) old (alone s spot)
      (before-more s old all) (omega arith))

  pushed_count : sections_in pushed ≡ sections_in old + 1
  pushed_count = ap sections_in is ∙ count-push s spot old

  pushed_seams : (j : ℕ) → GoesOnAt j pushed → suc j ≡ length old
  pushed_seams j h = elim (seams-push old (alone s spot) j (subst (GoesOnAt j) is h)) [
    | inl last ↦ last
    | inr same ↦ absurd (apart j same)
  ]

  -- the first of all
  pub appended_first : length old ≡ 0 → IsAppended s spot old pushed
  appended_first none = record {
    spots = pushed_spots;
    order = pushed_order;
    apart = λ j h. let no : ⊥ = omega (arith, none, pushed_seams j h) in no;
    before = pushed_before;
    count = pushed_count;
  }

  -- joined with the last
  pub appended_after : (new : List Run) (last : ℕ) → suc last ≡ length old → IsJoined last pushed new
      → IsAppended s spot old new
  appended_after new last is_last joins = record {
    spots = λ k. joined_spots last pushed new k joins ∙ pushed_spots k;
    order = joined_order last pushed new joins pushed_order;
    apart = joined_apart last pushed new joins (λ j h. omega (arith, is_last, pushed_seams j h));
    before = joined_before last (s + 1) pushed new joins pushed_before;
    count = joined_count last pushed new joins ∙ pushed_count;
  }

-- ## A new book

-- the page and track of a home section of c
abbrev pub home_spot : Line → ℕ → Page → ℕ → Option Spot
home_spot line c page k = option_map (λ (t : ℕ). record { page = page; track = t }) (home_track line c k)

-- the runs have the home sections of c among the first n
pub record IsBegun (line : Line) (c n homes : ℕ) (page : Page) (runs : List Run) : Type 0 where
  pub order : AreInOrder 0 runs
  pub apart : AreApart runs
  pub before : AreBefore n runs
  pub count : sections_in runs ≡ homes
  pub few : homes ≤ n
  pub spots : (k : ℕ) → spot_at runs k ≡ (if nat_lt k n then home_spot line c page k else None)

-- all sections of the line
pub begun_all : (line : Line) (c homes : ℕ) (page : Page) (runs : List Run)
    → IsBegun line c (length line.sections) homes page runs → (k : ℕ) → spot_at runs k ≡ home_spot line c page k
begun_all line c homes page runs whole k = whole.spots k ∙ elim (cases_lt k (length line.sections)) [
  | inl low ↦ rw (lt-ltb k (length line.sections) low) refl
  | inr past ↦ rw (le-ltb k (length line.sections) past)
      (sym (ap (λ o. option_map (λ (t : ℕ). record { page = page; track = t })
      (option_and_then (λ p. if p.home == c then Some p.track else None) o)) (slice_get_past line.sections k past)))
]

-- the page of a home section
pub home_pages : (o : Option ℕ) (page : Page) → page_in (option_map (λ (t : ℕ). record { page = page; track = t }) o)
    ≡ option_map (λ (t : ℕ). page) o
home_pages None page = refl
home_pages (Some t) page = refl

pub home_tracks : (o : Option ℕ) (page : Page)
    → track_in (option_map (λ (t : ℕ). record { page = page; track = t }) o) ≡ o
home_tracks None page = refl
home_tracks (Some t) page = refl

-- a number of a section of the line is not great
pub far_below : (line : Line) (s : ℕ) → IsLine line → s < length line.sections → s < most
far_below line s is lt = omega (arith, is.limits.sections, lt, most_is)

pub new_pages : (line : Line) (c homes : ℕ) (page : Page) (runs items : List Run) → items ≡ runs
    → IsBegun line c (length line.sections) homes page runs → (k : ℕ)
    → page_on (sheet_of items) k ≡ option_map (λ (t : ℕ). page) (home_track line c k)
new_pages line c homes page runs items same whole k =
    ap (λ xs. page_on (sheet_of xs) k) same
    ∙ ap page_in (sheet_says runs whole.order k ∙ begun_all line c homes page runs whole k)
    ∙ home_pages (home_track line c k) page

pub new_tracks : (line : Line) (c homes : ℕ) (page : Page) (runs items : List Run) → items ≡ runs
    → IsBegun line c (length line.sections) homes page runs → (k : ℕ)
    → track_on (sheet_of items) k ≡ home_track line c k
new_tracks line c homes page runs items same whole k =
    ap (λ xs. track_on (sheet_of xs) k) same
    ∙ ap track_in (sheet_says runs whole.order k ∙ begun_all line c homes page runs whole k)
    ∙ home_tracks (home_track line c k) page
