-- Values that occur twice, and names.
use Rattle.std.proofs.Common.{[], ◌+◌, ◌<◌, ◌==◌, ◌||◌, ◌∙◌, ◌∷◌, ◌≡◌, ◌≤◌, ap, arith, Bool, Bor, cond, drop, false}
use Rattle.std.proofs.Common.{get_or, inl, inr, IsTrue, leb, length, List, ltb, map, not, pos, refl, suc, sym, take}
use Rattle.std.proofs.Common.{true, zero, ℕ, ℤ}
use Rattle.std.proofs.lemmas.Bool.{cases_Bool, false≢true}
use Rattle.std.proofs.lemmas.Bool.Decides.{nat_tests}
use Rattle.std.proofs.lemmas.List.{drop_more}
use Rattle.std.proofs.lemmas.List.Folds.{list_any_at, list_any_more}
use Rattle.std.specs.Char.{is_ascii_alphanumeric}
use Rattle.std.specs.List.{list_all, list_any}
use Rattle.std.specs.Ordering.{int_eq}
use Rattle.std.specs.Str.{bytes_eq}
use Rattle.rbc_line.specs.declared.draft.DraftCentre.{DraftCentre}
use Rattle.rbc_line.specs.declared.draft.DraftSection.{DraftSection}
use Rattle.rbc_line.specs.declared.draft.DraftTrain.{DraftTrain}
use Rattle.rbc_line.specs.DraftViews.{centre_view, section_view, train_view}
use Rattle.rbc_line.specs.Faults.{has_twice, has_twice_fault, HasSectionsFault, is_name}
use Rattle.rbc_line.specs.LineFile.{FileCentre, FileSection, FileTrain, LineFile}

pub is_name-fits : (name : List ℕ) → 1 ≤ length name → length name ≤ 16
    → list_all is_ascii_alphanumeric name ≡ is_name name
is_name-fits name some few =
    let low : leb 1 (length name) ≡ true = grind (arith, nat_tests) in
    let high : leb (length name) 16 ≡ true = grind (arith, nat_tests) in
    rw (low, high)

or_true : (a b : Bool) → b ≡ true → (a || b) ≡ true
or_true true b h = refl
or_true false b h = h

or_false : (a b : Bool) → (a || b) ≡ false → (a ≡ false) × (b ≡ false)
or_false true b h = absurd (false≢true (sym h))
or_false false b h = (refl, h)

module _ {K : Type 0} (same : K → K → Bool) where
  -- a value that also occurs before this position
  pub has_twice-seen : (xs : List K) (i : ℕ) (d : K) → i < length xs
      → list_any (λ y. same y (get_or xs i d)) (take i xs) ≡ true → has_twice same xs ≡ true
  has_twice-seen [] i d within seen = absurd (omega arith)
  has_twice-seen (x ∷ xs) zero d within seen = absurd (false≢true seen)
  has_twice-seen (x ∷ xs) (suc i) d within seen =
      elim (cases_Bool (same x (get_or xs i d))) [
        | inl here ↦ rw (list_any_at (same x) xs i d (omega arith) here)
        | inr other ↦
            or_true (list_any (same x) xs) (has_twice same xs) (has_twice-seen xs i d (omega arith) (rw other at seen))
      ]

  -- one more value, which does not occur before
  pub has_twice-more : (xs : List K) (i : ℕ) (d : K) → i < length xs → has_twice same (take i xs) ≡ false
      → list_any (λ y. same y (get_or xs i d)) (take i xs) ≡ false → has_twice same (take (suc i) xs) ≡ false
  has_twice-more [] i d within before new = absurd (omega arith)
  has_twice-more (x ∷ xs) zero d within before new = refl
  has_twice-more (x ∷ xs) (suc i) d within before new =
      let apart = or_false (list_any (same x) (take i xs)) (has_twice same (take i xs)) before in
      let other = or_false (same x (get_or xs i d)) (list_any (λ y. same y (get_or xs i d)) (take i xs)) new in
      let next : suc i ≡ i + 1 = omega arith in
      let any_next : list_any (same x) (take (suc i) xs) ≡ false =
      ap (λ k. list_any (same x) (take k xs)) next ∙ list_any_more (same x) xs i d (omega arith)
      ∙ rw (apart.0, other.0) in
      rw any_next (has_twice-more xs i d (omega arith) apart.1 other.1)

-- ## Names and numbers of a draft

names_from : (names : List (Bor (List ℕ))) (i : ℕ) (d : Bor (List ℕ)) → i < length names
    → has_twice bytes_eq (map (λ name. name.now) (drop i names))
    ≡ (list_any (bytes_eq (get_or names i d).now) (map (λ name. name.now) (drop (i + 1) names))
    || has_twice bytes_eq (map (λ name. name.now) (drop (i + 1) names)))
names_from names i d within = rw (drop_more names i d within)

-- a name that also occurs after itself
pub name_seen : (names rest : List (Bor (List ℕ))) (i : ℕ) (d : Bor (List ℕ)) (whole : Bool) → i < length names
    → whole ≡ has_twice bytes_eq (map (λ name. name.now) (drop i names))
    → true ≡ list_any (bytes_eq (get_or names i d).now) (map (λ name. name.now) rest) → rest ≡ drop (i + 1) names
    → true ≡ whole
name_seen names rest i d whole within so_far seen same =
    sym (so_far ∙ names_from names i d within ∙ rw (← same, ← seen))

-- a name that does not
pub name_new : (names rest : List (Bor (List ℕ))) (i : ℕ) (d : Bor (List ℕ)) (whole : Bool) → i < length names
    → whole ≡ has_twice bytes_eq (map (λ name. name.now) (drop i names))
    → false ≡ list_any (bytes_eq (get_or names i d).now) (map (λ name. name.now) rest) → rest ≡ drop (i + 1) names
    → whole ≡ has_twice bytes_eq (map (λ name. name.now) (drop (i + 1) names))
name_new names rest i d whole within so_far new same =
    let none : list_any (bytes_eq (get_or names i d).now) (map (λ name. name.now) (drop (i + 1) names)) ≡ false =
    sym (new ∙ ap (λ r. list_any (bytes_eq (get_or names i d).now) (map (λ name. name.now) r)) same) in
    so_far ∙ names_from names i d within ∙ rw none

pub true_from_not : (b x : Bool) → b ≡ not x → b ≡ false → x ≡ true
true_from_not b true e h = refl
true_from_not b false e h = absurd (false≢true (sym h ∙ e))

pub false_from_not : (b x : Bool) → b ≡ not x → b ≡ true → x ≡ false
false_from_not b true e h = absurd (false≢true (sym e ∙ h))
false_from_not b false e h = refl

pub cond_or : (a b : Bool) → cond a true b ≡ (b || a)
cond_or true true = refl
cond_or true false = refl
cond_or false true = refl
cond_or false false = refl

-- a number that also occurs before this position
pub number_seen : (xs : List ℤ) (i : ℕ) (contains : ℤ → Bool) (k : ℤ) (b : Bool) → i < length xs
    → ((q : ℤ) → contains q ≡ list_any (λ x. int_eq x q) (take i xs))
    → b ≡ not (contains k) → b ≡ false → k ≡ get_or xs i (pos 0) → true ≡ has_twice int_eq xs
number_seen xs i contains k b within before added old at =
    let seen : list_any (λ x. int_eq x k) (take i xs) ≡ true =
    sym (before k) ∙ true_from_not b (contains k) added old in
    sym (has_twice-seen int_eq xs i (pos 0) within (rw (← at) seen))

-- a number that does not
pub number_new : (xs : List ℤ) (i : ℕ) (contains more : ℤ → Bool) (k : ℤ) (b : Bool) → i < length xs
    → (has_twice int_eq (take i xs) ≡ false) × ((q : ℤ) → contains q ≡ list_any (λ x. int_eq x q) (take i xs))
    → b ≡ not (contains k) → b ≡ true → ((q : ℤ) → more q ≡ cond (int_eq k q) true (contains q))
    → k ≡ get_or xs i (pos 0)
    → (has_twice int_eq (take (i + 1) xs) ≡ false) × ((q : ℤ) → more q ≡ list_any (λ x. int_eq x q) (take (i + 1) xs))
number_new xs i contains more k b within before added new put at =
    let next : suc i ≡ i + 1 = omega arith in
    let none : list_any (λ x. int_eq x k) (take i xs) ≡ false =
    sym (before.1 k) ∙ false_from_not b (contains k) added new in (
      sym (ap (λ n. has_twice int_eq (take n xs)) next)
          ∙ has_twice-more int_eq xs i (pos 0) within before.0 (rw (← at) none),
      λ q. put q ∙ cond_or (int_eq k q) (contains q)
          ∙ rw (before.1 q, at) (sym (list_any_more (λ x. int_eq x q) xs i (pos 0) within)),
    )

-- a track without a section was sought among all
pub HasSectionsFault-by_len : (file : LineFile) (n : ℕ) → n ≡ length file.tracks.sections
    → ((k : ℕ) → k < length file.tracks.names → list_any (λ s. s.track == k) file.tracks.sections ≡ true)
    → (IsTrue (ltb 512 n) → HasSectionsFault file) × (HasSectionsFault file → IsTrue (ltb 512 n))
unfolding HasSectionsFault
HasSectionsFault-by_len file n len each = (
  λ h. inr (let many : 512 < n = grind (arith, nat_tests) in omega (arith, len)),
  λ fault. elim fault [
    | inl w ↦ absurd (false≢true (sym w.2 ∙ each w.0 w.1))
    | inr many ↦ let m : 512 < n = omega (arith, len) in grind (arith, nat_tests)
  ],
)

pub names_of_centres : (rows : List DraftCentre)
    → map (λ (name : Bor (List ℕ)). name.now) (map (λ (c : DraftCentre). c.name) rows)
    ≡ map (λ (c : FileCentre). c.name) (map centre_view rows)
names_of_centres [] = refl
names_of_centres (row ∷ rows) = ap (λ names. row.name.now ∷ names) (names_of_centres rows)

pub nid_rbcs_of_centres : (rows : List DraftCentre)
    → map (λ (c : DraftCentre). c.nid_rbc) rows ≡ map (λ (c : FileCentre). c.nid_rbc) (map centre_view rows)
nid_rbcs_of_centres [] = refl
nid_rbcs_of_centres (row ∷ rows) = ap (λ ns. row.nid_rbc ∷ ns) (nid_rbcs_of_centres rows)

pub balises_of_sections : (rows : List DraftSection)
    → map (λ (s : DraftSection). s.balise) rows ≡ map (λ (s : FileSection). s.balise) (map section_view rows)
balises_of_sections [] = refl
balises_of_sections (row ∷ rows) = ap (λ ns. row.balise ∷ ns) (balises_of_sections rows)

pub engines_of_trains : (rows : List DraftTrain)
    → map (λ (t : DraftTrain). t.engine) rows ≡ map (λ (t : FileTrain). t.engine) (map train_view rows)
engines_of_trains [] = refl
engines_of_trains (row ∷ rows) = ap (λ ns. row.engine ∷ ns) (engines_of_trains rows)

pub twice_by : (file : LineFile) (a b c d e : Bool) → a ≡ has_twice bytes_eq (map (λ c. c.name) file.centres)
    → b ≡ has_twice bytes_eq file.tracks.names
    → c ≡ has_twice int_eq (map (λ c. c.nid_rbc) file.centres)
    → d ≡ has_twice int_eq (map (λ s. s.balise) file.tracks.sections)
    → e ≡ has_twice int_eq (map (λ t. t.engine) file.trains)
    → ((((a || b) || c) || d) || e) ≡ has_twice_fault file
unfolding has_twice_fault
twice_by file a b c d e f g h i j = rw (f, g, h, i, j)
