-- The writes of a journal, in order.
use Rattle.std.proofs.Common.{[], ◌++◌, ◌<◌, ◌^◌, ◌∙◌, ◌∷◌, ◌≡◌, ◌≤◌, ap, arith, Bool, drop, false, length, List}
use Rattle.std.proofs.Common.{None, Option, refl, Some, subst, sym, take, true, unwrap_or, ℕ}
use Rattle.std.proofs.lemmas.List.{length-drop, length-take}
use Rattle.rbc_log.specs.declared.entry.Entry as log
use Rattle.rbc_spec.specs.Line.{Line}
use Rattle.serve_line.specs.Journaling.Keeping.{AreWrites, HasKept, IsTurn, written_after, Writes}
use Rattle.serve_line.specs.Journaling.Noting.{AreNotesOf}
use Rattle.text_journal.specs.declared.entry.Entry as journal

notes_long : (es : List log.Entry) (ns : List journal.Entry) → AreNotesOf es ns → length ns ≡ length es
notes_long [] [] are = refl
notes_long (e ∷ es) (n ∷ ns) (is, are) = let same : length ns ≡ length es = notes_long es ns are in omega arith
notes_long [] (n ∷ ns) are = absurd are
notes_long (e ∷ es) [] are = absurd are

-- no entry is left after the first n, if none was noted
none_left :
    (es : List log.Entry) (n : ℕ) (ns : List journal.Entry)
    → AreNotesOf (take 256 (drop n es)) ns → length ns ≡ 0 → length es ≤ n
none_left es n ns are none =
    let same : length ns ≡ length (take 256 (drop n es)) = notes_long (take 256 (drop n es)) ns are in
    omega (arith, length-take {A = log.Entry}, length-drop {A = log.Entry})

-- the number of written events after a turn that wrote none
pub stays :
    (n : ℕ) (count : Option ℕ) → n < 2 ^ 64 → unwrap_or count 0 ≡ 0 → n ≡ written_after n (unwrap_or count 0)
stays n count fits none = subst (λ (k : ℕ). n ≡ written_after n k) (sym none) (omega arith)

-- the number of written events after a turn that wrote k
pub goes_on :
    (n k m : ℕ) (count : Option ℕ) → m ≡ written_after n k → count ≡ Some k
    → m ≡ written_after n (unwrap_or count 0)
goes_on n k m count is some = is ∙ ap (λ (o : Option ℕ). written_after n (unwrap_or o 0)) (sym some)

module _ (line : Line) (c : ℕ) where
  -- one write more, after these
  pub writes_after :
      (counts : List ℕ) (n m count : ℕ) (old mid new : Option (List ℕ))
      → AreWrites line c counts n m old mid → Writes line c m count mid new
      → AreWrites line c (counts ++ count ∷ []) n (written_after m count) old new
  writes_after [] n m count old mid new (here, same) next =
      subst (λ (k : ℕ). AreWrites line c (count ∷ []) k (written_after m count) old new) here
      (subst (λ (s : Option (List ℕ)). AreWrites line c (count ∷ []) m (written_after m count) s new) same
      (new, next, (refl, refl)))
  writes_after (first ∷ counts) n m count old mid new (after, is, are) next =
      (after, is, writes_after counts (written_after n first) m count after mid new are next)

  -- the writes so far
  pub record KeptSoFar (n m : ℕ) (old new : Option (List ℕ)) : Type 0 where
    pub fits : m < 2 ^ 64
    pub counts : List ℕ
    pub writes : AreWrites line c counts n m old new

  pub turned :
      (n m k : ℕ) (old mid new : Option (List ℕ))
      → KeptSoFar n m old mid → IsTurn line c m k mid new None → KeptSoFar n k old new
  turned n m k old mid new kept (None, same, is) =
      let low : m < 2 ^ 64 = kept.fits in
      let there : k ≡ m = is ∙ omega arith in
      record {
        fits = omega arith;
        counts = kept.counts;
        writes = subst (λ (s : Option (List ℕ)). AreWrites line c kept.counts n k old s) (sym same)
            (subst (λ (j : ℕ). AreWrites line c kept.counts n j old mid) (sym there) kept.writes);
      }
  turned n m k old mid new kept (Some count, next, is) = record {
    fits = omega arith;
    counts = kept.counts ++ count ∷ [];
    writes = subst (λ (j : ℕ). AreWrites line c (kept.counts ++ count ∷ []) n j old new) (sym is)
        (writes_after kept.counts n m count old mid new kept.writes next);
  }

  -- the last turn
  pub ended :
      (is_whole : Bool) (n m k : ℕ) (old mid new : Option (List ℕ))
      → KeptSoFar n m old mid → IsTurn line c m k mid new (Some is_whole)
      → HasKept line c n old new is_whole
  ended true n m k old mid new kept (next, same) = record {
    counts = kept.counts ++ 0 ∷ [];
    written = written_after m 0;
    writes = writes_after kept.counts n m 0 old mid new kept.writes next;
    whole = λ yes. (
      next.log,
      next.its,
      (let fits : m < 2 ^ 64 = kept.fits in
          let most : length next.log.entries ≤ m = none_left next.log.entries m next.entries next.notes next.counted in
          omega arith),
    );
  }
  ended false n m k old mid new kept (same, here) = record {
    counts = kept.counts;
    written = m;
    writes = subst (λ (s : Option (List ℕ)). AreWrites line c kept.counts n m old s) (sym same) kept.writes;
    whole = λ yes. absurd (cc);
  }
