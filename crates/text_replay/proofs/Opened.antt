-- Stretches of which the last one is still open: one more view is of it, or begins another one.
use Rattle.std.proofs.Common.{[], ◌++◌, ◌<◌, ◌∙◌, ◌∷◌, ◌≡◌, ◌≤◌, ap, arith, inl, inr, length, List, None, refl}
use Rattle.std.proofs.Common.{slice_get, Some, sym, ℕ}
use Rattle.std.proofs.lemmas.Bool.{cases_lt}
use Rattle.std.proofs.lemmas.List.Elements.{All-append, All-cons, All-nil}
use Rattle.std.proofs.lemmas.Option.{slice_get_past}
use Rattle.std.specs.List.{All}
use Rattle.text_replay.proofs.Showing.{after_all, before, earlier, latest, more, over, past, seen_at, seen_more}
use Rattle.text_replay.specs.declared.stretch.Stretch.{Stretch}
use Rattle.text_replay.specs.Stretches.{AreStretchesOf, IsSeen, shown_at}
use Rattle.text_script.specs.rbc_book.declared.mark.SectionView.{SectionView}

-- the stretch of a view
abbrev pub stretch_of : ℕ → SectionView → ℕ → Stretch
stretch_of since v until = record { seen = v; since = since; until = until }

-- The stretch is over in these events.
pub record IsClosed (seen : List SectionView) (b : Stretch) : Type 0 where
  pub within : b.until ≤ length seen
  pub seen_in_it : IsSeen seen b

-- The stretches of the events before `since`, and a view from there on.
pub record AreOpen (seen : List SectionView) (since : ℕ) (v : SectionView) (xs : List Stretch) : Type 0 where
  pub order : since < length seen
  pub same : (e : ℕ) → since ≤ e → e < length seen → slice_get seen e ≡ Some v
  pub sound : All (IsClosed seen) xs
  pub below : (e : ℕ) → e < since → shown_at e xs ≡ slice_get seen e
  pub after : (e : ℕ) → since ≤ e → shown_at e xs ≡ None

closed_more : (seen : List SectionView) (w : SectionView) (xs : List Stretch) → All (IsClosed seen) xs
    → All (IsClosed (seen ++ w ∷ [])) xs
closed_more seen w xs h k d lt =
    let it = h k d lt in
    record {
      within = omega (arith, it.within, more seen w);
      seen_in_it = seen_more seen w _ it.within it.seen_in_it;
    }

seen_all : (seen : List SectionView) (xs : List Stretch) → All (IsClosed seen) xs → All (IsSeen seen) xs
seen_all seen xs h k d lt = (h k d lt).seen_in_it

-- the stretches with the open one
closed : (seen : List SectionView) (since : ℕ) (v : SectionView) (xs : List Stretch) → AreOpen seen since v xs
    → All (IsClosed seen) (xs ++ stretch_of since v (length seen) ∷ [])
closed seen since v xs m =
    All-append (IsClosed seen) xs (stretch_of since v (length seen) ∷ []) m.sound
    (All-cons (IsClosed seen) (stretch_of since v (length seen)) [] (record {
      within = omega arith;
      seen_in_it = m.same;
    }) (All-nil (IsClosed seen)))

-- the view of an event
shown : (seen : List SectionView) (since : ℕ) (v : SectionView) (xs : List Stretch) → AreOpen seen since v xs → (e : ℕ)
    → e < length seen → shown_at e (xs ++ stretch_of since v (length seen) ∷ []) ≡ slice_get seen e
shown seen since v xs m e h =
    elim (cases_lt e since) [
      | inl a ↦
          let it = seen_at seen e h in
          before xs (stretch_of since v (length seen) ∷ []) e it.0 (m.below e a ∙ it.1) ∙ sym it.1
      | inr a ↦
          after_all xs (stretch_of since v (length seen) ∷ []) e (m.after e a) ∙ over since (length seen) e v a h
          ∙ sym (m.same e a h)
    ]

unshown : (seen : List SectionView) (since : ℕ) (v : SectionView) (xs : List Stretch) → AreOpen seen since v xs
    → (e : ℕ) → length seen ≤ e → shown_at e (xs ++ stretch_of since v (length seen) ∷ []) ≡ None
unshown seen since v xs m e h =
    after_all xs (stretch_of since v (length seen) ∷ []) e (m.after e (omega (arith, m.order)))
    ∙ past since (length seen) e v h

pub all_shown : (seen : List SectionView) (since : ℕ) (v : SectionView) (xs : List Stretch) → AreOpen seen since v xs
    → AreStretchesOf seen (xs ++ stretch_of since v (length seen) ∷ [])
all_shown seen since v xs m = record {
  sound = seen_all seen (xs ++ stretch_of since v (length seen) ∷ []) (closed seen since v xs m);
  whole = λ e. elim (cases_lt e (length seen)) [
    | inl a ↦ shown seen since v xs m e a
    | inr a ↦ unshown seen since v xs m e a ∙ sym (slice_get_past seen e a)
  ];
}

-- the next view is the same
pub goes_on : (seen : List SectionView) (since : ℕ) (v : SectionView) (xs : List Stretch) → AreOpen seen since v xs
    → AreOpen (seen ++ v ∷ []) since v xs
goes_on seen since v xs m = record {
  order = omega (arith, m.order, more seen v);
  same = λ e a z. elim (cases_lt e (length seen)) [
    | inl b ↦ earlier seen v e b ∙ m.same e a b
    | inr b ↦
        let at : e ≡ length seen = omega (arith, more seen v) in
        ap (slice_get (seen ++ v ∷ [])) at ∙ latest seen v
  ];
  sound = closed_more seen v xs m.sound;
  below = λ e a. m.below e a ∙ sym (earlier seen v e (omega (arith, m.order)));
  after = m.after;
}

-- the next view is another one
pub begins : (seen : List SectionView) (since : ℕ) (v w : SectionView) (xs : List Stretch) → AreOpen seen since v xs
    → AreOpen (seen ++ w ∷ []) (length seen) w (xs ++ stretch_of since v (length seen) ∷ [])
begins seen since v w xs m = record {
  order = omega (arith, more seen w);
  same = λ e a z.
      let at : e ≡ length seen = omega (arith, more seen w) in
      ap (slice_get (seen ++ w ∷ [])) at ∙ latest seen w;
  sound = closed_more seen w (xs ++ stretch_of since v (length seen) ∷ []) (closed seen since v xs m);
  below = λ e a. shown seen since v xs m e a ∙ sym (earlier seen w e a);
  after = unshown seen since v xs m;
}

pub first : (w : SectionView) → AreOpen (w ∷ []) 0 w []
first w = record {
  order = omega arith;
  same = λ e a z.
      let at : e ≡ 0 = omega arith in
      ap (slice_get (w ∷ [])) at;
  sound = All-nil (IsClosed (w ∷ []));
  below = λ e a. absurd (let no : ⊥ = omega arith in no);
  after = λ e a. refl;
}
