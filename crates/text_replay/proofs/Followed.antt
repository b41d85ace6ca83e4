-- The changes of a section's views give the stretches of these views.
use Rattle.std.proofs.Common.{[], ◌&&◌, ◌++◌, ◌+◌, ◌-◌, ◌∙◌, ◌∷◌, ◌≡◌, ap, arith, Bool, false, inl, inr, length, List}
use Rattle.std.proofs.Common.{refl, slice_get, Some, subst, sym, true, ℕ}
use Rattle.std.proofs.lemmas.List.{append-nil, append_assoc, length-append}
use Rattle.std.proofs.lemmas.List.Elements.{All-nil}
use Rattle.std.specs.Prelude.{◌⊎◌, if◌then◌else◌}
use Rattle.text_replay.proofs.Opened.{all_shown, AreOpen, begins, first, goes_on, stretch_of}
use Rattle.text_replay.proofs.Showing.{latest, more}
use Rattle.text_replay.specs.declared.changes.Change.{Change}
use Rattle.text_replay.specs.Noted.{changes_from, changes_of, is_seen, noted, same_flag, same_mark, same_view}
use Rattle.text_replay.specs.Noted.{stretches_to}
use Rattle.text_replay.specs.Stretches.{AreStretchesOf, IsSeen}
use Rattle.text_script.specs.rbc_book.declared.mark.Mark.{Mark}
use Rattle.text_script.specs.rbc_book.declared.mark.Mark.TheVariants as mark
use Rattle.text_script.specs.rbc_book.declared.mark.SectionView.{SectionView}

-- The changes are those of the views: there is none, or the last is that of the open stretch.
abbrev Follow : List SectionView → List Change → Type 0
Follow seen changes =
    ((seen ≡ []) × (changes ≡ []))
    ⊎ ((xs : List Change) × (c : Change) × (changes ≡ xs ++ c ∷ [])
    × AreOpen seen c.since c.seen (stretches_to c.since xs))

last_of : (changes : List Change) (c : Change)
    → slice_get (changes ++ c ∷ []) (length (changes ++ c ∷ []) - 1) ≡ Some c
last_of changes c =
    let it : length changes ≡ length (changes ++ c ∷ []) - 1 = omega (arith, length-append changes (c ∷ [])) in
    subst (λ n. slice_get (changes ++ c ∷ []) n ≡ Some c) it (latest changes c)

stretches_more : (until : ℕ) (changes : List Change) (c : Change)
    → stretches_to until (changes ++ c ∷ []) ≡ stretches_to c.since changes ++ stretch_of c.since c.seen until ∷ []
stretches_more until [] c = refl
stretches_more until (d ∷ []) c = refl
stretches_more until (d ∷ f ∷ changes) c =
    ap (λ xs. stretch_of d.since d.seen f.since ∷ xs) (stretches_more until (f ∷ changes) c)

one_mark : (m n : Mark) → same_mark m n ≡ true → m ≡ n
one_mark mark.Shut mark.Shut h = refl
one_mark mark.Open mark.Open h = refl
one_mark (mark.Kept t) (mark.Kept u) h = grind arith
one_mark (mark.Given t) (mark.Given u) h = grind arith
one_mark mark.Shut mark.Open h = cc
one_mark mark.Shut (mark.Kept u) h = cc
one_mark mark.Shut (mark.Given u) h = cc
one_mark mark.Open mark.Shut h = cc
one_mark mark.Open (mark.Kept u) h = cc
one_mark mark.Open (mark.Given u) h = cc
one_mark (mark.Kept t) mark.Shut h = cc
one_mark (mark.Kept t) mark.Open h = cc
one_mark (mark.Kept t) (mark.Given u) h = cc
one_mark (mark.Given t) mark.Shut h = cc
one_mark (mark.Given t) mark.Open h = cc
one_mark (mark.Given t) (mark.Kept u) h = cc

abbrev view_of : Bool → Mark → SectionView
view_of a m = record { mark = m; is_wished = a }

same_parts : (a b : Bool) (m n : Mark) → same_flag a b && same_mark m n ≡ true → view_of a m ≡ view_of b n
same_parts true true m n h = ap (view_of true) (one_mark m n h)
same_parts false false m n h = ap (view_of false) (one_mark m n h)
same_parts true false m n h = cc
same_parts false true m n h = cc

one_view : (v w : SectionView) → same_view v w ≡ true → v ≡ w
one_view v w h = same_parts v.is_wished w.is_wished v.mark w.mark h

-- one more view: by whether it is that of the last change
followed_by : (seen : List SectionView) (changes xs : List Change) (c : Change) (v : SectionView)
    → changes ≡ xs ++ c ∷ [] → AreOpen seen c.since c.seen (stretches_to c.since xs) → (t : Bool)
    → same_view c.seen v ≡ t
    → noted (length seen) v changes
    ≡ (if t then changes else changes ++ record { seen = v; since = length seen } ∷ [])
    → Follow (seen ++ v ∷ []) (noted (length seen) v changes)
followed_by seen changes xs c v f m true h it =
    inr (
      xs,
      c,
      it ∙ f,
      subst (λ w. AreOpen (seen ++ w ∷ []) c.since c.seen (stretches_to c.since xs)) (one_view c.seen v h)
          (goes_on seen c.since c.seen (stretches_to c.since xs) m),
    )
followed_by seen changes xs c v f m false h it =
    inr (
      xs ++ c ∷ [],
      record { seen = v; since = length seen },
      it ∙ ap (λ l. l ++ record { seen = v; since = length seen } ∷ []) f,
      subst (AreOpen (seen ++ v ∷ []) (length seen) v) (sym (stretches_more (length seen) xs c))
          (begins seen c.since c.seen v (stretches_to c.since xs) m),
    )

followed : (seen : List SectionView) (changes : List Change) (v : SectionView) → Follow seen changes
    → Follow (seen ++ v ∷ []) (noted (length seen) v changes)
followed seen changes v (inl (e, f)) =
    inr (
      [],
      record { seen = v; since = length seen },
      ap (noted (length seen) v) f,
      subst (λ s. AreOpen (s ++ v ∷ []) (length s) v []) (sym e) (first v),
    )
followed seen changes v (inr (xs, c, f, m)) =
    let at : slice_get changes (length changes - 1) ≡ Some c =
    subst (λ l. slice_get l (length l - 1) ≡ Some c) (sym f) (last_of xs c) in
    followed_by seen changes xs c v f m (same_view c.seen v) refl
    (ap (λ o. if is_seen v o then changes else changes ++ record { seen = v; since = length seen } ∷ []) at)

all_followed : (seen rest : List SectionView) (changes : List Change) → Follow seen changes
    → Follow (seen ++ rest) (changes_from (length seen) changes rest)
all_followed seen [] changes h = subst (λ l. Follow l changes) (sym (append-nil seen)) h
all_followed seen (v ∷ rest) changes h =
    subst (λ l. Follow l (changes_from (length seen + 1) (noted (length seen) v changes) rest))
    (append_assoc seen (v ∷ []) rest)
    (subst (λ n. Follow ((seen ++ v ∷ []) ++ rest) (changes_from n (noted (length seen) v changes) rest)) (more seen v)
    (all_followed (seen ++ v ∷ []) rest (noted (length seen) v changes) (followed seen changes v h)))

no_stretch : AreStretchesOf [] []
no_stretch = record { sound = All-nil (IsSeen []); whole = λ e. refl }

given : (seen : List SectionView) (changes : List Change) → Follow seen changes
    → AreStretchesOf seen (stretches_to (length seen) changes)
given seen changes (inl (e, f)) =
    subst (λ s. AreStretchesOf s (stretches_to (length s) changes)) (sym e)
    (subst (λ l. AreStretchesOf [] (stretches_to 0 l)) (sym f) no_stretch)
given seen changes (inr (xs, c, f, m)) =
    subst (λ l. AreStretchesOf seen (stretches_to (length seen) l)) (sym f)
    (subst (AreStretchesOf seen) (sym (stretches_more (length seen) xs c))
    (all_shown seen c.since c.seen (stretches_to c.since xs) m))

-- The changes of views give their stretches.
pub stretches_given : (seen : List SectionView) → AreStretchesOf seen (stretches_to (length seen) (changes_of seen))
stretches_given seen = given seen (changes_of seen) (all_followed [] seen [] (inl (refl, refl)))
