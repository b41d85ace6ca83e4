-- A start that waits, by the acts of the rules: the right that it asked for is refused or arrives.
use Rattle.std.proofs.Common.{[], if◌then◌else◌, ◌&&◌, ◌+◌, ◌<◌, ◌==◌, ◌∙◌, ◌∷◌, ◌≡◌, ◌≤◌, ap, arith, Bool, cond}
use Rattle.std.proofs.Common.{eq-eqb, false, inl, inr, is_none, is_some, length, List, map, None, not, Option}
use Rattle.std.proofs.Common.{option_map, refl, Some, subst, sym, true, ℕ}
use Rattle.std.proofs.lemmas.Bool.{and_parts, cases_Bool, false≢true, leb-true}
use Rattle.std.proofs.lemmas.List.{append-nil}
use Rattle.std.specs.Option.{option_map_or}
use Rattle.rbc_allocation.specs.Sections.{IsAllOpen, IsAllTaken, TakesRun}
use Rattle.rbc_book.proofs.Pages.{foreign_is_shut}
use Rattle.rbc_book.specs.Book.{entry_at, is_own, Pages, wish_at}
use Rattle.rbc_hand.specs.Hands.{Holding, run}
use Rattle.rbc_pending_start.specs.Waits.{asking, HasWait, nothing_waits, rejecting, telling, wait_state, waits_at}
use Rattle.rbc_pending_start.specs.Waits.{WaitState, with_wait}
use Rattle.rbc_place.specs.declared.place.Place.{Place as PlaceCode}
use Rattle.rbc_place.specs.Places.{place_of}
use Rattle.rbc_spec.proofs.Lists.{put_over, put_same, put_there}
use Rattle.rbc_spec.proofs.Worlds.{alike_then}
use Rattle.rbc_spec.specs.Acts.{◌>>◌, Act, become, rest, return_right, send, where_so, with_some}
use Rattle.rbc_spec.specs.Centre.{Centre, is_open, is_taken_for, Taken}
use Rattle.rbc_spec.specs.Frame.{AskRight}
use Rattle.rbc_spec.specs.Line.{Line, registrar}
use Rattle.rbc_spec.specs.Links.{answered_ask, right_given, right_refused}
use Rattle.rbc_spec.specs.Maps.{put}
use Rattle.rbc_spec.specs.Outcome.{Told}
use Rattle.rbc_spec.specs.Place.{covered, is_fit, Place}
use Rattle.rbc_spec.specs.Rules.{begin, choose, drop_wait, reject, start_waiting}
use Rattle.rbc_spec.specs.SectionRuns.{SectionRun, within}

-- ## A right that was asked for is refused

abbrev after_answer : ℕ → Centre → Centre
after_answer t k = record k { has_asked = put k.has_asked t false }

pub answered_has : (line : Line) (c : ℕ) (k : Centre) (w : WaitState) (book : Pages) → HasWait line c k w book
    → HasWait line c (after_answer w.engine k) (record w { has_asked = false }) book
answered_has line c k w book has = record {
  covers = has.covers;
  homes = has.homes;
  has_book = has.has_book;
  has_wish = has.has_wish;
  has_wait = has.has_wait;
  has_ask = put_there k.has_asked w.engine false;
}

-- if no start waits, nothing else changes
pub refused_none : (line : Line) (c : ℕ) (k : Centre) (w : WaitState) (book : Pages) → HasWait line c k w book
    → w.has_asked ≡ true → w.wait ≡ None
    → right_refused line c w.engine k ≡ telling (with_wait (record w { has_asked = false }) book k) []
unfolding ◌>>◌
refused_none line c k w book has asked none =
    let j = after_answer w.engine k in
    ap
    (λ b.
    cond b
    ((answered_ask w.engine >> where_so (λ k. is_some (k.wait w.engine)) (drop_wait line c w.engine >> reject w.engine))
    k) (rest k)) (has.has_ask ∙ asked)
    ∙ ap (λ b. cond b ((drop_wait line c w.engine >> reject w.engine) j) (rest j)) (ap is_some (has.has_wait ∙ none))
    ∙ (λ i. telling (record k {
      book = λ s. has.has_book s i;
      wish = λ s. has.has_wish s i;
      wait = λ t. sym (put_same w.engine w.wait k.wait has.has_wait t) i;
      has_asked = put k.has_asked w.engine false;
    }) [])

-- a start that waits is dropped, and its train rejected
pub refused_some : (line : Line) (c : ℕ) (k : Centre) (w : WaitState) (book : Pages) (w' : WaitState) (book' : Pages)
    (told : List ℕ) → HasWait line c k w book → w.has_asked ≡ true → is_some w.wait ≡ true
    → drop_wait line c w.engine (after_answer w.engine k) ≡ telling (with_wait w' book' (after_answer w.engine k)) told
    → w' ≡ nothing_waits w.engine false
    → right_refused line c w.engine k ≡ rejecting w.engine (Some told) (with_wait w' book' k)
unfolding ◌>>◌
refused_some line c k w book w' book' told has asked some drop is =
    let j = after_answer w.engine k in
    let same : with_wait w' book' j ≡ with_wait w' book' k =
    subst (λ (v : WaitState). with_wait v book' j ≡ with_wait v book' k) (sym is)
    (λ i. record k {
      book = entry_at book';
      wish = wish_at book';
      wait = put k.wait w.engine None;
      has_asked = λ u. put_over w.engine false false k.has_asked u i;
    }) in
    ap
    (λ b.
    cond b
    ((answered_ask w.engine >> where_so (λ k. is_some (k.wait w.engine)) (drop_wait line c w.engine >> reject w.engine))
    k) (rest k)) (has.has_ask ∙ asked)
    ∙ ap (λ b. cond b ((drop_wait line c w.engine >> reject w.engine) j) (rest j)) (ap is_some has.has_wait ∙ some)
    ∙ alike_then (drop_wait line c w.engine) (λ h. telling (with_wait w' book' j) told) (reject w.engine) j drop
    ∙ (λ i. record (reject w.engine (with_wait w' book' j)) { words = append-nil (map (λ s. Told s) told) i })
    ∙ ap (rejecting w.engine (Some told)) same

-- ## A right that was asked for arrives

pub given : (line : Line) (c : ℕ) (k : Centre) (w : WaitState) (book : Pages) (place : Place) → HasWait line c k w book
    → w.has_asked ≡ true → k.mission w.engine ≡ None → w.wait ≡ Some place
    → right_given line c w.engine k ≡ begin line w.engine place (with_wait (nothing_waits w.engine false) book k)
unfolding ◌>>◌
given line c k w book place has asked none waits =
    let j = after_answer w.engine k in
    let enter : Place → Act =
    λ p. become (λ h. record h { wait = put h.wait w.engine None }) >> begin line w.engine p in
    ap
    (λ b.
    cond b
    ((answered_ask w.engine >> choose (λ h. is_some (h.wait w.engine) && is_none (h.mission w.engine))
    (with_some (λ h. h.wait w.engine) enter) (return_right line c w.engine)) k) (rest k)) (has.has_ask ∙ asked)
    ∙ (λ i. cond (is_some ((has.has_wait ∙ waits) i) && is_none (none i))
    (option_map_or (λ p. enter p j) (k.wait w.engine) (rest j)) (return_right line c w.engine j))
    ∙ ap (λ o. option_map_or (λ p. enter p j) o (rest j)) (has.has_wait ∙ waits)
    ∙ (λ i. begin line w.engine place (record k {
      book = λ s. has.has_book s i;
      wish = λ s. has.has_wish s i;
      wait = put k.wait w.engine None;
      has_asked = put k.has_asked w.engine false;
    }))

-- ## A start elsewhere

pub starts : (line : Line) (c : ℕ) (k : Centre) (w : WaitState) (book book' : Pages) (place : Place)
    → HasWait line c k w book → TakesRun w.engine (covered line place) book book'
    → start_waiting line w.engine place k
    ≡ asking line w.engine (not w.has_asked) (with_wait (record (waits_at line place w) { has_asked = true }) book' k)
unfolding ◌>>◌
starts line c k w book book' place has takes = by w.has_asked refl
  where
    taken : Centre
    taken =
        record k {
          book = λ s. cond (within (covered line place) s && is_open (k.book s)) (Taken w.engine) (k.book s);
          wait = put k.wait w.engine (Some place);
        }

    book_is : (s : ℕ) → cond (within (covered line place) s && is_open (k.book s)) (Taken w.engine) (k.book s)
        ≡ entry_at book' s
    book_is s = ap (λ e. cond (within (covered line place) s && is_open e) (Taken w.engine) e) (has.has_book s)
        ∙ sym (takes.entry s)

    wish_is : (s : ℕ) → k.wish s ≡ wish_at book' s
    wish_is s = has.has_wish s ∙ sym (takes.wish s)

    ask : Act
    ask =
        option_map_or (λ r. send r (AskRight w.engine)) (registrar line w.engine) rest
        >> become (λ h. record h { has_asked = put h.has_asked w.engine true })

    asked_now : (o : Option ℕ)
        → (option_map_or (λ r. send r (AskRight w.engine)) o rest
        >> become (λ h. record h { has_asked = put h.has_asked w.engine true })) taken
        ≡ record {
          state = record taken { has_asked = put k.has_asked w.engine true };
          frames = λ d. option_map_or (λ r. if d == r then AskRight w.engine ∷ [] else []) o [];
          sayings = [];
          words = [];
        }
    asked_now None = refl
    asked_now (Some r) =
        λ i. record {
          state = record taken { has_asked = put k.has_asked w.engine true };
          frames = λ d. append-nil (if d == r then AskRight w.engine ∷ [] else []) i;
          sayings = [];
          words = [];
        }

    by : (b : Bool) → w.has_asked ≡ b
        → start_waiting line w.engine place k
        ≡ asking line w.engine (not w.has_asked)
        (with_wait (record (waits_at line place w) { has_asked = true }) book' k)
    by true is =
        ap (λ b. cond (not b) (ask taken) (rest taken)) (has.has_ask ∙ is)
        ∙ (λ i. asking line w.engine false
        (record taken {
          book = λ s. book_is s i;
          wish = λ s. wish_is s i;
          has_asked = λ t. sym (put_same w.engine true k.has_asked (has.has_ask ∙ is) t) i;
        }))
        ∙ ap (λ b. asking line w.engine (not b)
        (with_wait (record (waits_at line place w) { has_asked = true }) book' k)) (sym is)
    by false is =
        ap (λ b. cond (not b) (ask taken) (rest taken)) (has.has_ask ∙ is)
        ∙ asked_now (registrar line w.engine)
        ∙ (λ i. asking line w.engine true
        (record taken { book = λ s. book_is s i; wish = λ s. wish_is s i; has_asked = put k.has_asked w.engine true }))
        ∙ ap (λ b. asking line w.engine (not b)
        (with_wait (record (waits_at line place w) { has_asked = true }) book' k)) (sym is)

-- ## In memory

pub no_place : (place : Option PlaceCode) → is_some place ≡ false → place ≡ None
no_place None e = refl
no_place (Some p) e = absurd (false≢true (sym e))

pub none_waits : (t : ℕ) (place : Option PlaceCode) (hand : Holding) (has_asked : Bool) (w : WaitState)
    → wait_state t place hand has_asked ≡ w → w.wait ≡ None → place ≡ None
none_waits t None hand has_asked w view none = refl
none_waits t (Some p) hand has_asked w view none =
    absurd (false≢true (sym (ap is_some (ap (λ (x : WaitState). x.wait) view ∙ none))))

-- sections that were added to an empty hand are its run
pub run_is : (hand : Holding) (r : SectionRun) (n0 : ℕ) → n0 ≡ 0 → length hand.holds ≡ n0 + r.count
    → (0 < length hand.holds → hand.first + n0 ≡ r.first) → 1 ≤ r.count → run hand ≡ r
run_is hand r n0 none count first some =
    let from : hand.first ≡ r.first = let e : hand.first + n0 ≡ r.first = first (omega (arith, none, count, some)) in
    omega (arith, e, none) in
    let long : length hand.holds ≡ r.count = omega (arith, none, count) in
    λ i. record { first = from i; count = long i }

pub all_taken : (t : ℕ) (r : SectionRun) (book book' : Pages) → IsAllOpen r book → TakesRun t r book book'
    → IsAllTaken t r book'
all_taken t r book book' free takes = record {
  taken = λ s in_run. ap (is_taken_for t) (takes.entry s) ∙ (rw (in_run, free s in_run) (eq-eqb t t refl));
  home = λ s in_run. takes.homes s ∙ own s (free s in_run);
}
  where
    own : (s : ℕ) → is_open (entry_at book s) ≡ true → is_own book s ≡ true
    own s is = elim (cases_Bool (is_own book s)) [
      | inl h ↦ h
      | inr h ↦ absurd (false≢true (sym (ap is_open (foreign_is_shut book s h)) ∙ is))
    ]

pub some_waits : (place : Option PlaceCode) → is_some place ≡ true → is_some (option_map place_of place) ≡ true
some_waits None e = e
some_waits (Some p) e = refl

pub few : (line : Line) (place : Place) → is_fit line place ≡ true → (covered line place).count ≤ 32
few line place fit = leb-true _ _ (and_parts _ _ (and_parts _ _ fit).1).1
