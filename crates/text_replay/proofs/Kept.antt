-- The changes of all sections, after one more view of the line, and the stretches that they give.
use Rattle.std.proofs.Common.{[], ◌++◌, ◌+◌, ◌<◌, ◌∙◌, ◌∷◌, ◌≡◌, ◌≤◌, ap, arith, get_or, Global, inl, inr, length, List}
use Rattle.std.proofs.Common.{None, Option, refl, Some, subst, suc, sym, Vec, ℕ}
use Rattle.std.proofs.lemmas.Bool.{cases_lt}
use Rattle.std.proofs.lemmas.List.{length-map, map-append}
use Rattle.std.proofs.lemmas.Option.{slice_get_past, slice_get_read}
use Rattle.std.specs.Prelude.{map, option_map, unwrap_or}
use Rattle.text_replay.proofs.Followed.{stretches_given}
use Rattle.text_replay.proofs.Showing.{earlier, latest}
use Rattle.text_replay.specs.declared.changes.Change.{Change}
use Rattle.text_replay.specs.declared.changes.SectionChanges.{SectionChanges}
use Rattle.text_replay.specs.Noted.{AreAllNoted, AreKept, changes_at, changes_from, changes_of, noted, stretches_to}
use Rattle.text_replay.specs.Stretches.{AreStretchesOf, seen_in}
use Rattle.text_script.specs.rbc_book.declared.mark.SectionView.{SectionView}
use Rattle.text_script.specs.rbc_world.declared.view.LineView.{LineView}

abbrev items_of : Option (Vec Change Global) → Option (List Change)
items_of o = option_map (λ (list : Vec Change Global). list.items) o

-- One more list without changes.
pub empty_more : (lists : List (Vec Change Global)) (list : Vec Change Global) (n : ℕ) → length lists ≡ n
    → list.items ≡ [] → ((s : ℕ) → s < n → changes_at s lists ≡ Some []) → (s : ℕ) → s < n + 1
    → changes_at s (lists ++ list ∷ []) ≡ Some []
empty_more lists list n len none h s lt =
    elim (cases_lt s n) [
      | inl a ↦ ap items_of (earlier lists list s (omega (arith, len))) ∙ h s a
      | inr a ↦
          let at : s ≡ length lists = omega (arith, len) in
          ap (λ k. changes_at k (lists ++ list ∷ [])) at ∙ ap items_of (latest lists list) ∙ ap Some none
    ]

-- One more view is one more note.
changes_more : (e : ℕ) (changes : List Change) (seen : List SectionView) (v : SectionView)
    → changes_from e changes (seen ++ v ∷ []) ≡ noted (e + length seen) v (changes_from e changes seen)
changes_more e changes [] v = ap (λ n. noted n v changes) (let it : e ≡ e + 0 = omega arith in it)
changes_more e changes (w ∷ seen) v =
    let it : e + 1 + length seen ≡ e + suc (length seen) = omega arith in
    subst (λ n. changes_from (e + 1) (noted e w changes) (seen ++ v ∷ [])
    ≡ noted n v (changes_from (e + 1) (noted e w changes) seen)) it (changes_more (e + 1) (noted e w changes) seen v)

one_more : (s e : ℕ) (views : List LineView) (view : LineView) → length views ≡ e
    → changes_of (map (seen_in s) (views ++ view ∷ []))
    ≡ noted e (seen_in s view) (changes_of (map (seen_in s) views))
one_more s e views view len =
    let it : 0 + length (map (seen_in s) views) ≡ e = omega (arith, len, length-map views (seen_in s)) in
    ap changes_of (map-append (seen_in s) views (view ∷ []))
    ∙ changes_more 0 [] (map (seen_in s) views) (seen_in s view)
    ∙ ap (λ n. noted n (seen_in s view) (changes_of (map (seen_in s) views))) it

-- The lists of all sections have the changes of one more view of the line.
pub kept_more : (n e : ℕ) (views : List LineView) (view : LineView) (old new : SectionChanges)
    → AreKept n views old → length views ≡ e → AreAllNoted e view old.lists.items new.lists.items
    → AreKept n (views ++ view ∷ []) new
kept_more n e views view old new k len h = record {
  each = λ s lt.
      h s ∙ ap (option_map (noted e (seen_in s view))) (k.each s lt) ∙ ap Some (sym (one_more s e views view len));
}

-- The changes in the list of a section give the stretches of its views.
pub given_at : (n s : ℕ) (views : List LineView) (changes : SectionChanges) (lists : List (Vec Change Global))
    (list : Vec Change Global) → AreKept n views changes → s < n → lists ≡ changes.lists.items → s < length lists
    → list ≡ get_or lists s list → AreStretchesOf (map (seen_in s) views) (stretches_to (length views) list.items)
given_at n s views changes lists list k lt same within at =
    let given : Some list.items ≡ Some (changes_of (map (seen_in s) views)) =
    sym (ap items_of (slice_get_read lists (length lists) s list refl within at)) ∙ ap (changes_at s) same
    ∙ k.each s lt in
    let it : list.items ≡ changes_of (map (seen_in s) views) = ap (λ o. unwrap_or o []) given in
    subst (λ l. AreStretchesOf (map (seen_in s) views) (stretches_to (length views) l)) (sym it)
    (subst (λ m. AreStretchesOf (map (seen_in s) views) (stretches_to m (changes_of (map (seen_in s) views))))
    (length-map views (seen_in s)) (stretches_given (map (seen_in s) views)))

-- Each section has a list.
pub none_at : (n s : ℕ) (views : List LineView) (changes : SectionChanges) (lists : List (Vec Change Global))
    → AreKept n views changes → s < n → lists ≡ changes.lists.items → length lists ≤ s → ⊥
none_at n s views changes lists k lt same beyond =
    let no : None ≡ Some (changes_of (map (seen_in s) views)) =
    sym (ap items_of (slice_get_past lists s beyond)) ∙ ap (changes_at s) same ∙ k.each s lt in
    cc
