-- The facts that decisions take from the mission, the book and the line.
use Rattle.std.proofs.Common.{◌&&◌, ◌+◌, ◌-◌, ◌<◌, ◌||◌, ◌∙◌, ◌≡◌, ◌≤◌, ap, arith, Bool, false, refl, suc, sym, true}
use Rattle.std.proofs.Common.{zero, ℕ}
use Rattle.std.proofs.lemmas.Bool.{ne_eqb}
use Rattle.rbc_allocation.specs.Sections.{IsAllOpen}
use Rattle.rbc_book.specs.Book.{entry_at, is_own, Pages}
use Rattle.rbc_grant.specs.Grants as grants
use Rattle.rbc_mission.specs.Supervisions.{HasRouteForm, MayGrow}
use Rattle.rbc_spec.proofs.Lists.{on_line}
use Rattle.rbc_spec.proofs.Runs.{each_within, within_true}
use Rattle.rbc_spec.specs.Centre as spec
use Rattle.rbc_spec.specs.Centre.{is_free, is_open}
use Rattle.rbc_spec.specs.Line.{IsLine, Line}
use Rattle.rbc_spec.specs.Place as place
use Rattle.rbc_spec.specs.SectionRuns.{all_of, is_empty, next_after, SectionRun, within}
use Rattle.rbc_train.specs.Desks.{HasBook}

pub and_left : (a b : Bool) → (a && b) ≡ true → a ≡ true
and_left true b h = refl
and_left false b h = h

pub and_right : (a b : Bool) → (a && b) ≡ true → b ≡ true
and_right true b h = h
and_right false b h = cc

or_left_only : (a b : Bool) → (a || b) ≡ true → b ≡ false → a ≡ true
or_left_only true b h none = refl
or_left_only false b h none = sym none ∙ h

-- a section that may follow and is not of the pool is open
opened_after : (line : Line) (book : Pages) (p : place.Place) (m : spec.Mission) (count : ℕ)
    → ((k : ℕ) → k < count → grants.may_follow line book m.pool p (next_after m.hand + k) ≡ true)
    → (s : ℕ) → within (record { first = next_after m.hand; count = count }) s ≡ true → within m.pool s ≡ false
    → is_open (entry_at book s) ≡ true
opened_after line book p m count each s here other =
    let ends = within_true (record { first = next_after m.hand; count = count }) s here in
    let same : next_after m.hand + (s - next_after m.hand) ≡ s = omega (arith, ends) in
    or_left_only (is_open (entry_at book s)) (within m.pool s)
    (ap (λ x. is_open (entry_at book x) || within m.pool x) (sym same)
    ∙ and_right _ _ (and_left _ _ (each (s - next_after m.hand) (omega (arith, ends))))) other

-- this many sections that may follow the hand can be taken into it
pub grows : (line : Line) (book : Pages) (p : place.Place) (m : spec.Mission) (count : ℕ) → IsLine line → HasRouteForm m
    → (is_empty m.pool ≡ false → m.pool.first ≡ next_after m.hand)
    → ((s : ℕ) → within m.pool s ≡ true → is_own book s ≡ false)
    → count ≤ 32 - m.hand.count
    → ((k : ℕ) → k < count → grants.may_follow line book m.pool p (next_after m.hand + k) ≡ true) → MayGrow m count book
grows line book p m count of_line form follows away room each = record {
  most = let a = form.most in omega (arith, room, a);
  numbers = by_count count refl;
  follows = λ some. sym (follows (ne_eqb m.pool.count 0 (λ none. omega (arith, some, none))));
  away = away;
  free = opened_after line book p m count each;
}
  where
    by_count : (n : ℕ) → count ≡ n → next_after m.hand + count ≤ 65535
    by_count zero e = let a = form.numbers in omega (arith, a, e)
    by_count (suc n) e =
        let h = each n (omega (arith, e)) in
        let on = and_left _ _ (and_left _ _ h) in
        let few = on_line line p.track (next_after m.hand + n) on in
        let most = of_line.limits.sections in
        omega (arith, few, most, e)

-- each section of a run of free ones is open
pub all_open : (line : Line) (c : ℕ) (k : spec.Centre) (book : Pages) (run : SectionRun) → HasBook k book
    → all_of (is_free line c k) run ≡ true → IsAllOpen run book
all_open line c k book run pages h s w =
    ap is_open (sym (pages s)) ∙ and_right _ _ (each_within (is_free line c k) run h s w)

-- some centre with this book
abbrev pub a_centre_of : Line → ℕ → Pages → spec.Centre
a_centre_of line c book = record (spec.beginning line c) { book = entry_at book }
