-- Sections that go to no other centre.
use Rattle.std.proofs.Common.{[], ◌+◌, ◌<◌, ◌==◌, ◌||◌, ◌∙◌, ◌∷◌, ◌≡◌, ◌≤◌, ap, arith, Bool, eq-eqb, false}
use Rattle.std.proofs.Common.{if◌then◌else◌, nat_le, nat_lt, refl, sym, true, ℕ, ⊎_elim}
use Rattle.std.proofs.lemmas.Bool.{and_from, and_parts, cases_lt, cond-true, le-leb, lt-ltb, or_left, or_right}
use Rattle.law_base.proofs.LocalLemmas.Stays.{all_home, none_returned}
use Rattle.law_base.proofs.LocalLemmas.Worlds.{is_ordered}
use Rattle.law_base.specs.Local.Local.{IsOrdered}
use Rattle.rbc_spec.specs.Acts.{returned}
use Rattle.rbc_spec.specs.Centre.{beginning}
use Rattle.rbc_spec.specs.Frame.{RouteReturn}
use Rattle.rbc_spec.specs.Line.{is_home, IsLine, Line}
use Rattle.rbc_spec.specs.SectionRuns.{is_empty, SectionRun, shared, within}
use Rattle.rbc_spec.specs.Sections.{home_run, is_on}
use Rattle.rbc_train.specs.Letters.{going_home}

-- sections of a centre's own home go to no other centre
pub none_goes : (line : Line) (c t track : ℕ) (r : SectionRun) (d : ℕ) → IsLine line
    → ((s : ℕ) → within r s ≡ true → is_home line c s ≡ true) → going_home line c t track r d ≡ []
none_goes line c t track r d ok home = by (is_empty r)
  where
    by : (b : Bool) → (if b then [] else (returned line c t track r (beginning line c)).frames d) ≡ []
    by true = refl
    by false =
        ap (λ reply. reply.frames d)
        (none_returned line c t track r (beginning line c) (all_home line c track r (is_ordered line ok) home))

-- the first of the sections that two runs share is within both
shared_first : (a b : SectionRun) → 0 < (shared a b).count
    → (within a (shared a b).first ≡ true) × (within b (shared a b).first ≡ true)
unfolding within
shared_first a b some = (
  and_from (nat_le a.first (shared a b).first) (nat_lt (shared a b).first (a.first + a.count))
      (le-leb a.first (shared a b).first (omega arith)) (lt-ltb (shared a b).first (a.first + a.count) (omega arith)),
  and_from (nat_le b.first (shared a b).first) (nat_lt (shared a b).first (b.first + b.count))
      (le-leb b.first (shared a b).first (omega arith)) (lt-ltb (shared a b).first (b.first + b.count) (omega arith)),
)

-- sections of which none is of the home of another centre do not go to that centre
pub none_goes_to : (line : Line) (c t track : ℕ) (r : SectionRun) (d : ℕ) → IsLine line
    → ((s : ℕ) → within r s ≡ true → is_home line d s ≡ true → d ≡ c) → going_home line c t track r d ≡ []
none_goes_to line c t track r d ok home = by (is_empty r)
  where
    ordered : IsOrdered line
    ordered = is_ordered line ok

    none : (d == c || is_empty (shared r (home_run line d track))) ≡ true
    none = ⊎_elim
        (λ (some : 0 < (shared r (home_run line d track)).count).
        let s : ℕ = (shared r (home_run line d track)).first in
        let both = shared_first r (home_run line d track) some in
        let there = and_parts (is_home line d s) (is_on line track s) (sym (ordered.homes_run d track s) ∙ both.1) in
        or_left (d == c) _ (eq-eqb d c (home s both.0 there.0)))
        (λ (none : (shared r (home_run line d track)).count ≤ 0).
        or_right (d == c) _ (eq-eqb (shared r (home_run line d track)).count 0 (omega arith)))
        (cases_lt 0 (shared r (home_run line d track)).count)

    by : (b : Bool) → (if b then [] else (returned line c t track r (beginning line c)).frames d) ≡ []
    by true = refl
    by false =
        cond-true (d == c || is_empty (shared r (home_run line d track))) []
        (RouteReturn t (shared r (home_run line d track)) ∷ []) none
