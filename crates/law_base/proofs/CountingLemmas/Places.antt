-- A resource of which there is at most one, and steps of the sections of a run.
use Rattle.std.proofs.Common.{[], ⊎_elim, ◌&&◌, ◌++◌, ◌+◌, ◌<◌, ◌==◌, ◌||◌, ◌∙◌, ◌∷◌, ◌≡◌, ◌≢◌, ◌≤◌, ◌⊎◌, ap, arith}
use Rattle.std.proofs.Common.{Bool, eq-eqb, eqb-true, false, filter, if◌then◌else◌, inl, inr, List, ne_eqb, refl}
use Rattle.std.proofs.Common.{slice_get, Some, subst, suc, sym, true, zero, ℕ}
use Rattle.std.proofs.lemmas.Bool.{and_left, and_right, both_ways, cases_eq, cond-false, cond-true, cond_both, or_left}
use Rattle.std.proofs.lemmas.Bool.{or_parts}
use Rattle.std.specs.List.{range_with_len}
use Rattle.law_base.proofs.CountingLemmas.Resource.{carried_more}
use Rattle.law_base.proofs.CountingLemmas.Sums.{link_le_links, links_some, put_other, put_same, sum_some, term_le_sum}
use Rattle.law_base.proofs.CountingLemmas.Sums.{two_le_sum, two_links_le}
use Rattle.law_base.specs.Counting.Network.{Net, TakesHead, took, way}
use Rattle.law_base.specs.Counting.Resource.{carried, OnlyHeld, OnlyOnTheWay, placed, Resource}
use Rattle.law_base.specs.Counting.Sections.{AreApart, is_among, sections}
use Rattle.law_base.specs.Counting.Sums.{put, sum_below, sum_links}
use Rattle.law_base.specs.Counting.Sweep.{at_section, changed, said, sweep}
use Rattle.rbc_spec.proofs.Runs.{same_tests, within_before, within_from, within_none, within_true}
use Rattle.rbc_spec.specs.SectionRuns.{SectionRun, within}

-- # If there is at most one of a resource, it is in at most one place.

-- a frame on the way is counted with the frames beside it
pub inside_le_carried : {X F : Type 0} (r : Resource X F) (a b : ℕ) (fs : List F) (k : ℕ) (f : F)
    → slice_get fs k ≡ Some f → r.inside a b f ≤ carried r a b fs
inside_le_carried r a b [] k f e = absurd (cc)
inside_le_carried r a b (g ∷ fs) zero f e = omega (arith, carried_more r a b g fs, ap (r.inside a b) (same g f e))
  where
    same : {F : Type 0} (g f : F) → Some g ≡ Some f → g ≡ f
    same g f e = cc
inside_le_carried r a b (g ∷ fs) (suc k) f e = omega (arith, carried_more r a b g fs, inside_le_carried r a b fs k f e)

-- the amount at one centre is at most the whole
pub held_le_placed : {X F : Type 0} (r : Resource X F) (n : ℕ) (w : Net X F) (c : ℕ) → c < n
    → r.held c (w.at c) ≤ placed r n w
unfolding placed
held_le_placed r n w c small = omega (arith, term_le_sum n (λ d. r.held d (w.at d)) c small)

-- the amount at two centres together is at most the whole
pub two_held_le_placed : {X F : Type 0} (r : Resource X F) (n : ℕ) (w : Net X F) (c d : ℕ) → c < n → d < n → c ≢ d
    → r.held c (w.at c) + r.held d (w.at d) ≤ placed r n w
unfolding placed
two_held_le_placed r n w c d small below apart =
    omega (arith, two_le_sum n (λ e. r.held e (w.at e)) c d small below apart)

-- the amount at a centre and on a link together is at most the whole
pub held_carried_le_placed : {X F : Type 0} (r : Resource X F) (n : ℕ) (w : Net X F) (c a b : ℕ) → c < n → a < n
    → b < n → r.held c (w.at c) + carried r a b (way w a b) ≤ placed r n w
unfolding placed
held_carried_le_placed r n w c a b small from to =
    omega (
      arith,
      term_le_sum n (λ d. r.held d (w.at d)) c small,
      link_le_links n (λ i j. carried r i j (way w i j)) a b from to,
    )

-- the amount on two links together is at most the whole
pub two_carried_le_placed : {X F : Type 0} (r : Resource X F) (n : ℕ) (w : Net X F) (a b i j : ℕ) → a < n → b < n
    → i < n → j < n → (i ≡ a → j ≢ b) → carried r i j (way w i j) + carried r a b (way w a b) ≤ placed r n w
unfolding placed
two_carried_le_placed r n w a b i j from to from' to' apart =
    omega (arith, two_links_le n (λ p q. carried r p q (way w p q)) i j a b from' to' from to apart)

-- there is at most one: if a centre has it, no other centre and no frame on the way does
pub held_only : {X F : Type 0} (r : Resource X F) (n : ℕ) (w : Net X F) (c : ℕ) → placed r n w ≤ 1 → c < n
    → 0 < r.held c (w.at c) → OnlyHeld r n w c
held_only r n w c one small has = record {
  here = omega (arith, held_le_placed r n w c small);
  others = λ d below apart. omega (arith, two_held_le_placed r n w d c below small apart);
  links = λ a b from to. omega (arith, held_carried_le_placed r n w c a b small from to);
}

-- there is at most one: if a link has it, no centre and no other link does
pub way_only : {X F : Type 0} (r : Resource X F) (n : ℕ) (w : Net X F) (a b : ℕ) → placed r n w ≤ 1 → a < n → b < n
    → 0 < carried r a b (way w a b) → OnlyOnTheWay r n w a b
way_only r n w a b one from to has = record {
  here = omega (arith, carried_le);
  centres = λ c small. omega (arith, held_carried_le_placed r n w c a b small from to);
  others = λ i j from' to' apart. omega (arith, two_carried_le_placed r n w a b i j from to from' to' apart);
}
  where
    carried_le : carried r a b (way w a b) ≤ placed r n w
    carried_le = omega (arith, held_carried_le_placed r n w a a b from from to)

-- a frame on the way that has it inside: its link has it
pub frame_only : {X F : Type 0} (r : Resource X F) (n : ℕ) (w : Net X F) (a b k : ℕ) (f : F) → placed r n w ≤ 1
    → a < n → b < n → slice_get (way w a b) k ≡ Some f → 0 < r.inside a b f → OnlyOnTheWay r n w a b
frame_only r n w a b k f one from to on_way has =
    way_only r n w a b one from to (omega (arith, inside_le_carried r a b (way w a b) k f on_way))

-- the head of a queue has it inside: no centre has it, no other link, and no frame after it
pub head_only : {X F : Type 0} (r : Resource X F) (n : ℕ) (w : Net X F) (a b : ℕ) (f : F) → placed r n w ≤ 1 → a < n
    → b < n → TakesHead w a b f → 0 < r.inside a b f
    → OnlyOnTheWay r n w a b × (r.inside a b f ≡ 1) × (carried r a b (way (took w a b) a b) ≡ 0)
head_only r n w a b f one from to takes has =
    let parts : carried r a b (way w a b) ≡ r.inside a b f + carried r a b (way (took w a b) a b) =
    ap (carried r a b) takes.head ∙ carried_more r a b f (way (took w a b) a b) in
    let only = way_only r n w a b one from to (omega arith) in
    (only, omega (arith, only.here), omega (arith, only.here))

-- the whole amount is that of the centres and that on the way
pub placed_parts : {X F : Type 0} (r : Resource X F) (n : ℕ) (w : Net X F)
    → placed r n w ≡ sum_below n (λ c. r.held c (w.at c)) + sum_links n (λ a b. carried r a b (way w a b))
unfolding placed
placed_parts r n w = refl

-- there is one: some centre has it, or it is on the way on some link
pub one_place : {X F : Type 0} (r : Resource X F) (n : ℕ) (w : Net X F) → placed r n w ≡ 1
    → ((c : ℕ) × (c < n) × OnlyHeld r n w c) ⊎ ((a : ℕ) × (b : ℕ) × (a < n) × (b < n) × OnlyOnTheWay r n w a b)
one_place r n w one = ⊎_elim
    (λ (nobody : centres ≡ 0). let link =
    links_some n (λ a b. carried r a b (way w a b)) (omega (arith, placed_parts r n w)) in
    inr (link.0, link.1, link.2, link.3, way_only r n w link.0 link.1 (omega arith) link.2 link.3 link.4))
    (λ (somebody : centres ≢ 0). let who =
    sum_some n (λ c. r.held c (w.at c)) (omega arith) in
    inl (who.0, who.1, held_only r n w who.0 (omega arith) who.1 who.2))
    (cases_eq centres 0)
  where
    centres : ℕ
    centres = sum_below n (λ c. r.held c (w.at c))

-- # Laws of the sections of a run, as a list.

-- the others of a run are those of the run after its first
within_rest : (first count s : ℕ) → s ≢ first
    → within (record { first = first; count = suc count }) s ≡ within (record { first = first + 1; count = count }) s
within_rest first count s apart = same_tests _ _
    (λ in_run. let ends = within_true (record { first = first; count = suc count }) s in_run in
    within_from (record { first = first + 1; count = count }) s (omega arith) (omega arith))
    (λ in_rest. let ends = within_true (record { first = first + 1; count = count }) s in_rest in
    within_from (record { first = first; count = suc count }) s (omega arith) (omega arith))

among_range : (first count s : ℕ) → is_among (range_with_len first count) s
    ≡ within (record { first = first; count = count }) s
among_range first zero s = sym (within_none (record { first = first; count = 0 }) s refl)
among_range first (suc count) s = ⊎_elim
    (λ (here : s ≡ first). or_left (s == first) (is_among (range_with_len (first + 1) count) s) (eq-eqb s first here)
    ∙ sym (within_from (record { first = first; count = suc count }) s (omega arith) (omega arith)))
    (λ (apart : s ≢ first). ap (λ b. b || is_among (range_with_len (first + 1) count) s) (ne_eqb s first apart)
    ∙ among_range (first + 1) count s ∙ sym (within_rest first count s apart))
    (cases_eq s first)

-- the members of the list of a run's sections are those of the run
pub among_sections : (r : SectionRun) (s : ℕ) → is_among (sections r) s ≡ within r s
among_sections r s = among_range r.first r.count s

apart_range : (first count : ℕ) → AreApart (range_with_len first count)
apart_range first zero = tt
apart_range first (suc count) = (
  among_range (first + 1) count first ∙ within_before (record { first = first + 1; count = count }) first (omega arith),
  apart_range (first + 1) count,
)

-- the sections of a run are apart
pub apart_sections : (r : SectionRun) → AreApart (sections r)
apart_sections r = apart_range r.first r.count

-- the members of a filtered list are those of the list that pass the test
pub among_filter : (test : ℕ → Bool) (ss : List ℕ) (s : ℕ) → is_among (filter test ss) s ≡ (is_among ss s && test s)
among_filter test [] s = refl
among_filter test (k ∷ ks) s =
    cond_both (test k) (k ∷ filter test ks) (filter test ks) (λ l. is_among l s ≡ ((s == k || is_among ks s) && test s))
    (λ passes. kept (s == k) (is_among ks s) (test s) (is_among (filter test ks) s)
    (λ here. ap test (eqb-true s k here) ∙ passes)
    (among_filter test ks s))
    (λ fails. left_out (s == k) (is_among ks s) (test s) (is_among (filter test ks) s)
    (λ here. ap test (eqb-true s k here) ∙ fails)
    (among_filter test ks s))
  where
    kept : (here others passes some : Bool) → (here ≡ true → passes ≡ true) → some ≡ (others && passes)
        → (here || some) ≡ ((here || others) && passes)
    kept true others passes some h is = sym (h refl)
    kept false others passes some h is = is

    left_out : (here others passes some : Bool) → (here ≡ true → passes ≡ false) → some ≡ (others && passes)
        → some ≡ ((here || others) && passes)
    left_out true others passes some h is = is ∙ and_right others passes (h refl) ∙ sym (h refl)
    left_out false others passes some h is = is

-- the members of a filtered list are apart if those of the list are
pub apart_filter : (test : ℕ → Bool) (ss : List ℕ) → AreApart ss → AreApart (filter test ss)
apart_filter test [] apart = tt
apart_filter test (k ∷ ks) apart = cond_both (test k) (k ∷ filter test ks) (filter test ks) AreApart
    (λ _. (among_filter test ks k ∙ and_left (is_among ks k) (test k) apart.0, apart_filter test ks apart.1))
    (λ _. apart_filter test ks apart.1)

-- # Steps of single sections, in order, are one change of all of them, with their outputs in order.

-- a change at one section does not change the outputs of other sections
said_apart : {A W : Type 0} (say : ℕ → A → List W) (f : ℕ → A) (k : ℕ) (new : A) (ss : List ℕ)
    → is_among ss k ≡ false → said ss say (put f k new) ≡ said ss say f
said_apart say f k new [] apart = refl
said_apart say f k new (s ∷ ss) apart =
    let parts = or_parts (k == s) (is_among ss k) apart in
    let other : s ≢ k = λ e. both_ways (k == s) parts.0 (eq-eqb k s (sym e)) in
    ap (λ e. say s e ++ said ss say (put f k new)) (put_other f k new s other)
    ∙ ap (λ ws. say s (f s) ++ ws) (said_apart say f k new ss parts.1)

-- the change at one section and then at the others is the change at all
changed_more : {A : Type 0} (change : ℕ → A → A) (f : ℕ → A) (k : ℕ) (ss : List ℕ) (s : ℕ) → is_among ss k ≡ false
    → changed ss change (put f k (change k (f k))) s ≡ changed (k ∷ ss) change f s
changed_more {A = A} change f k ss s apart = ⊎_elim
    (λ (here : s ≡ k). subst (λ j. changed ss change (put f k new) j ≡ changed (k ∷ ss) change f j) (sym here) at_first)
    (λ (other : s ≢ k). ap (λ e. if is_among ss s then change s e else e) (put_other f k new s other)
    ∙ ap (λ b. if b || is_among ss s then change s (f s) else f s) (sym (ne_eqb s k other)))
    (cases_eq s k)
  where
    new : A
    new = change k (f k)

    at_first : changed ss change (put f k new) k ≡ changed (k ∷ ss) change f k
    at_first = cond-false (is_among ss k) (change k (put f k new k)) (put f k new k) apart ∙ put_same f k new
        ∙ sym (cond-true (k == k || is_among ss k) new (f k) (or_left (k == k) (is_among ss k) (eq-eqb k k refl)))

-- after a sweep over sections that are apart the entry of each is changed, and no other
pub sweep_state : {A W : Type 0} (change : ℕ → A → A) (say : ℕ → A → List W) (ss : List ℕ) (f : ℕ → A) (s : ℕ)
    → AreApart ss → (sweep (at_section change say) ss f).state s ≡ changed ss change f s
unfolding sweep
sweep_state change say [] f s apart = refl
sweep_state change say (k ∷ ss) f s apart =
    sweep_state change say ss (put f k (change k (f k))) s apart.1 ∙ changed_more change f k ss s apart.0

-- the outputs of the sweep are those of the old entries, in order
pub sweep_words : {A W : Type 0} (change : ℕ → A → A) (say : ℕ → A → List W) (ss : List ℕ) (f : ℕ → A) → AreApart ss
    → (sweep (at_section change say) ss f).words ≡ said ss say f
unfolding sweep
sweep_words change say [] f apart = refl
sweep_words change say (k ∷ ss) f apart =
    ap (λ ws. say k (f k) ++ ws)
    (sweep_words change say ss (put f k (change k (f k))) apart.1 ∙ said_apart say f k (change k (f k)) ss apart.0)

-- a sweep over a run is the change of each entry within it at once
pub sweep_over : {A W : Type 0} (change : ℕ → A → A) (say : ℕ → A → List W) (r : SectionRun) (f : ℕ → A)
    → sweep (at_section change say) (sections r) f
    ≡ record { state = λ s. if within r s then change s (f s) else f s; words = said (sections r) say f }
sweep_over change say r f = λ i.
    record {
      state = λ s. (sweep_state change say (sections r) f s (apart_sections r)
          ∙ ap (λ b. if b then change s (f s) else f s) (among_sections r s)) i;
      words = sweep_words change say (sections r) f (apart_sections r) i;
    }

-- a sweep over the sections of a run that pass a test is the change of each of their entries at once
pub sweep_where : {A W : Type 0} (change : ℕ → A → A) (say : ℕ → A → List W) (test : ℕ → Bool) (r : SectionRun)
    (f : ℕ → A) → sweep (at_section change say) (filter test (sections r)) f ≡ record {
      state = λ s. if within r s && test s then change s (f s) else f s;
      words =
          said (filter test (sections r)) say f;
    }
sweep_where change say test r f = λ i.
    record {
      state = λ s. (sweep_state change say passing f s apart
          ∙ ap (λ b. if b then change s (f s) else f s)
          (among_filter test (sections r) s ∙ ap (λ b. b && test s) (among_sections r s))) i;
      words = sweep_words change say passing f apart i;
    }
  where
    passing : List ℕ
    passing = filter test (sections r)

    apart : AreApart passing
    apart = apart_filter test (sections r) (apart_sections r)
