-- A start that waits and is dropped, by the acts of the rules: its sections are given back.
use Rattle.std.proofs.Common.{[], ◌&&◌, ◌+◌, ◌<◌, ◌∙◌, ◌∷◌, ◌≡◌, ◌≤◌, ap, arith, Bool, cond, false, inl, inr, List, map}
use Rattle.std.proofs.Common.{None, not, Option, refl, Some, subst, suc, sym, zero, ℕ}
use Rattle.std.proofs.lemmas.Bool.{cases_Bool}
use Rattle.std.proofs.lemmas.List.{append-nil}
use Rattle.std.proofs.Math.Bool.{and-false, and-true}
use Rattle.std.specs.List.{filter, range_with_len}
use Rattle.std.specs.Option.{option_map_or}
use Rattle.rbc_allocation.proofs.Runs.{within_none}
use Rattle.rbc_allocation.specs.Sections.{FreesRun, is_held, wished}
use Rattle.rbc_book.proofs.Pages.{foreign_is_shut}
use Rattle.rbc_book.specs.Book.{entry_at, is_own, Pages, wish_at}
use Rattle.rbc_pending_start.specs.Waits.{HasWait, nothing_waits, telling, WaitState, with_wait}
use Rattle.rbc_spec.proofs.Lists.{put_same}
use Rattle.rbc_spec.proofs.Runs.{within_from}
use Rattle.rbc_spec.proofs.Worlds.{alike_then}
use Rattle.rbc_spec.specs.Acts.{◌>>◌, become, freed, Reply, rest}
use Rattle.rbc_spec.specs.Centre.{Centre, is_taken_for, Open, Shut}
use Rattle.rbc_spec.specs.Line.{is_home, Line}
use Rattle.rbc_spec.specs.Maps.{put}
use Rattle.rbc_spec.specs.Outcome.{Told}
use Rattle.rbc_spec.specs.Place.{covered, Place}
use Rattle.rbc_spec.specs.Rules.{drop_wait}
use Rattle.rbc_spec.specs.SectionRuns.{no_run, SectionRun, within}

-- ## Given back

-- a section in use for a train is of the home
held_is : (line : Line) (c t : ℕ) (r : SectionRun) (book : Pages) → ((s : ℕ) → is_own book s ≡ is_home line c s)
    → (s : ℕ) → ((within r s && is_home line c s) && is_taken_for t (entry_at book s)) ≡ is_held t r book s
held_is line c t r book of s = elim (cases_Bool (is_home line c s)) [
  | inl home ↦ rw home (ap (λ x. x && is_taken_for t (entry_at book s)) (and-true (within r s)))
  | inr home ↦
      let shut = foreign_is_shut book s (of s ∙ home) in
      rw (home, shut) (and-false (within r s && false) ∙ sym (and-false (within r s)))
]

filter_same : (p q : ℕ → Bool) (a n : ℕ) → ((s : ℕ) → a ≤ s → s < a + n → p s ≡ q s)
    → filter p (range_with_len a n) ≡ filter q (range_with_len a n)
filter_same p q a zero same = refl
filter_same p q a (suc n) same =
    let rest = filter_same p q (a + 1) n (λ s above below. same s (omega arith) (omega arith)) in
    ap (λ b. cond b (a ∷ filter p (range_with_len (a + 1) n)) (filter p (range_with_len (a + 1) n)))
    (same a (omega arith) (omega arith))
    ∙ ap (λ xs. cond (q a) (a ∷ xs) xs) rest

module _ (line : Line) (c t : ℕ) (r : SectionRun) (k : Centre) (book book' : Pages) (told : List ℕ)
    (of : (s : ℕ) → is_own book s ≡ is_home line c s) (has_book : (s : ℕ) → k.book s ≡ entry_at book s)
    (has_wish : (s : ℕ) → k.wish s ≡ wish_at book s) (frees : FreesRun t r book book')
    (is_told : told ≡ wished t r book) where
  is_freed : (s : ℕ) → ((within r s && is_home line c s) && is_taken_for t (k.book s)) ≡ is_held t r book s
  is_freed s = ap (λ e. (within r s && is_home line c s) && is_taken_for t e) (has_book s)
      ∙ held_is line c t r book of s

  words : filter (λ s. ((within r s && is_home line c s) && is_taken_for t (k.book s)) && k.wish s)
      (range_with_len r.first r.count) ≡ told
  words = filter_same _ _ r.first r.count (λ s above below.
      (λ i. is_freed s i && has_wish s i)
      ∙ ap (λ x. (x && is_taken_for t (entry_at book s)) && wish_at book s) (within_from r s above below)) ∙ sym is_told

  pub freed_is : freed line c (is_taken_for t) r k
      ≡ telling (record k { book = entry_at book'; wish = wish_at book' }) told
  freed_is = λ i. record {
    state = record k {
      book = λ s. ((λ j. cond (is_freed s j) (cond (has_wish s j) Shut Open) (has_book s j)) ∙ sym (frees.entry s)) i;
      wish = λ s. ((λ j. not (is_freed s j) && has_wish s j) ∙ sym (frees.wish s)) i;
    };
    frames = λ d. [];
    sayings = [];
    words = map (λ s. Told s) (words i);
  }

-- ## The same state

-- a centre that has this is the same with it
pub same_wait : (line : Line) (c : ℕ) (k : Centre) (w : WaitState) (book : Pages) → HasWait line c k w book
    → k ≡ with_wait w book k
same_wait line c k w book has = λ i. record k {
  book = λ s. has.has_book s i;
  wish = λ s. has.has_wish s i;
  wait = λ t. sym (put_same w.engine w.wait k.wait has.has_wait t) i;
  has_asked = λ t. sym (put_same w.engine w.has_asked k.has_asked has.has_ask t) i;
}

-- ## Dropped

pub drops : (line : Line) (c : ℕ) (k : Centre) (w : WaitState) (book book' : Pages) (told : List ℕ)
    → HasWait line c k w book → (w.wait ≡ None → w.sections ≡ no_run) → FreesRun w.engine w.sections book book'
    → told ≡ wished w.engine w.sections book
    → drop_wait line c w.engine k ≡ telling (with_wait (nothing_waits w.engine w.has_asked) book' k) told
unfolding ◌>>◌
drops line c k w book book' told has none frees is_told = by w.wait refl
  where
    dropping : Option Place → Reply
    dropping o =
        option_map_or
        (λ place. (freed line c (is_taken_for w.engine) (covered line place)
        >> become (λ j. record j { wait = put j.wait w.engine None })) k) o (rest k)

    at_none : SectionRun → Type 0
    at_none r = FreesRun w.engine r book book'

    by : (o : Option Place) → w.wait ≡ o
        → drop_wait line c w.engine k ≡ telling (with_wait (nothing_waits w.engine w.has_asked) book' k) told
    by None is =
        let frees' : FreesRun w.engine no_run book book' = subst at_none (none is) frees in
        let told' : told ≡ [] = is_told ∙ ap (λ r. wished w.engine r book) (none is) in
        ap dropping (has.has_wait ∙ is) ∙ (λ i. record {
          state = record k {
            book =
                λ s.
                (has.has_book s
                ∙ sym (frees'.entry s
                ∙ ap (λ b. cond (b && is_taken_for w.engine (entry_at book s)) (cond (wish_at book s) Shut Open)
                (entry_at book s)) (within_none 0 s))) i;
            wish =
                λ s.
                (has.has_wish s
                ∙ sym (frees'.wish s ∙ ap (λ b. not (b && is_taken_for w.engine (entry_at book s)) && wish_at book s)
                (within_none 0 s))) i;
            wait = λ t. sym (put_same w.engine None k.wait (has.has_wait ∙ is) t) i;
            has_asked = λ t. sym (put_same w.engine w.has_asked k.has_asked has.has_ask t) i;
          };
          frames = λ d. [];
          sayings = [];
          words = map (λ s. Told s) (sym told' i);
        })
    by (Some place) is =
        let r : w.sections ≡ covered line place = has.covers place is in
        let act = become (λ j. record j { wait = put j.wait w.engine None }) in
        ap dropping (has.has_wait ∙ is)
        ∙ alike_then (freed line c (is_taken_for w.engine) (covered line place))
        (λ j. telling (record k { book = entry_at book'; wish = wish_at book' }) told) act k
        (freed_is line c w.engine (covered line place) k book book' told has.homes has.has_book has.has_wish
        (subst at_none r frees) (is_told ∙ ap (λ q. wished w.engine q book) r))
        ∙ (λ i. record {
          state = record k {
            book = entry_at book';
            wish = wish_at book';
            wait = put k.wait w.engine None;
            has_asked = λ t. sym (put_same w.engine w.has_asked k.has_asked has.has_ask t) i;
          };
          frames = λ d. [];
          sayings = [];
          words = append-nil (map (λ s. Told s) told) i;
        })
