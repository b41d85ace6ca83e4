-- The search for a danger, over all trains and all sections.
use Rattle.std.proofs.Common.{⊎_elim, ◌+◌, ◌<◌, ◌==◌, ◌∙◌, ◌≡◌, ◌≤◌, ap, arith, eqb-true, false, length}
use Rattle.std.proofs.Common.{nat_eq, None, Option, option_map, refl, slice_get, Some, subst, sym, true, ℕ}
use Rattle.std.proofs.lemmas.Bool.{and_parts, cases_eq, true≢false}
use Rattle.std.proofs.lemmas.Map.Entries.{place_from_lookup}
use Rattle.std.proofs.lemmas.Option.{same_Some, slice_get_within}
use Rattle.std.specs.Option.{IfSome}
use Rattle.indexmap.specs.IndexMap.{get}
use Rattle.law_outside.specs.Outside as spec
use Rattle.law_outside.specs.Outside.{is_in, IsSafeOutside, may_run_over}
use Rattle.rbc_spec.specs.Line.{Line, Section, section}
use Rattle.rbc_spec.specs.Maps.{has}
use Rattle.rbc_watch.specs.Dangers.{Breaks, IsFoundAt, IsFoundIn, IsFoundTrain, IsSafeIn}
use Rattle.rbc_watch.specs.declared.danger.Danger.{Danger}
use Rattle.rbc_watch.specs.declared.danger.Danger.TheVariants as danger
use Rattle.rbc_watch.specs.declared.stretch.Stretch.{Stretch}
use Rattle.rbc_watch.specs.declared.view.View.{View}
use Rattle.rbc_watch.specs.Seen.{view_of}
use Rattle.rbc_watch.specs.Stretches.{stretch_of}

-- ## One place

pub train_at : (line : Line) (v : View) (s i u : ℕ) (before found : Option ℕ) (y : Stretch)
    → slice_get v.stretches.entries i ≡ Some (u, y) → IsFoundTrain line v s u before found
    → IsFoundAt line v s i before found
train_at line v s i u before found y there h = record {
  runs = h.runs;
  kept = h.kept;
  here = λ t x at runs.
      let same : u ≡ t = ap (λ p. p.0) (same_Some _ _ (sym there ∙ at)) in
      subst (λ k. may_run_over line (view_of v) k s ≡ true → (found ≡ Some k) × ((view_of v).released s ≡ true))
      same h.here runs;
}

pub none_at : (line : Line) (v : View) (s i : ℕ) (found : Option ℕ) → slice_get v.stretches.entries i ≡ None
    → IfSome found (λ u. may_run_over line (view_of v) u s ≡ true) → IsFoundAt line v s i found found
none_at line v s i found none runs = record {
  runs = runs;
  kept = λ u at. at;
  here = λ t x at over. let never : None ≡ Some (t, x) = sym none ∙ at in cc;
}

-- ## The first places

pub none_found : (line : Line) (v : View) (s : ℕ) → IsFoundIn line v s 0 None
none_found line v s = record {
  runs = tt;
  each = λ i t x lt at over. absurd (let never : ⊥ = omega (arith, lt) in never);
}

pub found_more : (line : Line) (v : View) (s n : ℕ) (before found : Option ℕ) → IsFoundIn line v s n before
    → IsFoundAt line v s n before found → IsFoundIn line v s (n + 1) found
found_more line v s n before found h here = record {
  runs = here.runs;
  each = λ i t x lt at over. ⊎_elim
      (λ (same : i ≡ n).
      here.here t x (subst (λ k. slice_get v.stretches.entries k ≡ Some (t, x)) same at) over)
      (λ (other : i ≡ n → ⊥).
      let e = h.each i t x (omega (arith, lt, other)) at over in (here.kept t e.0, e.1))
      (cases_eq i n);
}

-- ## All places

-- a train that may run over a section has a place
place_of : (line : Line) (v : View) (s t : ℕ) → may_run_over line (view_of v) t s ≡ true
    → (i : ℕ) × (x : Stretch) × (slice_get v.stretches.entries i ≡ Some (t, x))
place_of line v s t over = by (get nat_eq v.stretches t) refl over
  where
    by : (o : Option Stretch) → get nat_eq v.stretches t ≡ o → has (is_in line s) (option_map stretch_of o) ≡ true
        → (i : ℕ) × (x : Stretch) × (slice_get v.stretches.entries i ≡ Some (t, x))
    by None e h = cc
    by (Some x) e h =
        let p = place_from_lookup (nat_eq t) v.stretches.entries x e in
        (p.0, x, p.2 ∙ ap (λ (k : ℕ). Some (k, x)) (sym (eqb-true t p.1 p.3)))

pub safe_in : (line : Line) (v : View) (s n : ℕ) (found : Option ℕ) → length v.stretches.entries ≤ n
    → IsFoundIn line v s n found → IsSafeIn line (view_of v) s
safe_in line v s n found all h = record {
  one_train = λ t u one two. same_Some _ _ (sym (seen t one).0 ∙ (seen u two).0);
  released = λ t over. (seen t over).1;
}
  where
    seen : (t : ℕ) → may_run_over line (view_of v) t s ≡ true
        → (found ≡ Some t) × ((view_of v).released s ≡ true)
    seen t over =
        let p = place_of line v s t over in
        let within = slice_get_within v.stretches.entries p.0 (t, p.1) p.2 in
        h.each p.0 t p.1 (omega (arith, within, all)) p.2 over

-- ## All sections

-- a train may run only over sections of the line
of_line : (line : Line) (s : ℕ) (o : Option spec.Stretch) → has (is_in line s) o ≡ true → s < length line.sections
of_line line s None h = cc
of_line line s (Some x) h = by (section line s) refl (and_parts _ _ (and_parts _ _ h).0).0
  where
    by : (p : Option Section) → section line s ≡ p → has (λ q. q.track == x.track) p ≡ true → s < length line.sections
    by None e on = cc
    by (Some q) e on = slice_get_within line.sections s q e

pub safe_outside : (line : Line) (v : View) (n : ℕ) → length line.sections ≤ n → v.has_strayed ≡ false
    → ((s : ℕ) → s < n → IsSafeIn line (view_of v) s) → IsSafeOutside line (view_of v)
safe_outside line v n all founded each = record {
  one_train = λ t u s one two. (at t s one).one_train t u one two;
  released = λ t s over. (at t s over).released t over;
  founded = founded;
}
  where
    at : (t s : ℕ) → may_run_over line (view_of v) t s ≡ true → IsSafeIn line (view_of v) s
    at t s over = let within = of_line line s ((view_of v).stretch t) over in each s (omega (arith, within, all))

-- ## A danger

pub unsafe : (line : Line) (v : spec.View) (danger : Danger) → Breaks line v danger → IsSafeOutside line v → ⊥
unsafe line v (danger.TwoTrains t u s) h safe = h.2 (safe.one_train t u s h.0 h.1)
unsafe line v (danger.NotReleased t s) h safe = true≢false (sym (safe.released t s h.0) ∙ h.1)
unsafe line v danger.Stray h safe = true≢false (sym h ∙ safe.founded)
