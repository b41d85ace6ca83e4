-- Sections that are kept for a train are freed, in order.
use Rattle.std.proofs.Common.{[], ⊎_elim, ◌&&◌, ◌++◌, ◌+◌, ◌<◌, ◌==◌, ◌∙◌, ◌∷◌, ◌≡◌, ◌≢◌, ◌≤◌, ap, arith, Bool, eq-eqb}
use Rattle.std.proofs.Common.{eqb-true, false, if◌then◌else◌, List, map, not, refl, subst, suc, sym, true, zero, ℕ}
use Rattle.std.proofs.lemmas.Bool.{and_from, and_parts, cases_eq, false_from_ne_true}
use Rattle.std.specs.List.{filter, list_all, range_with_len}
use Rattle.rbc_spec.proofs.Lists.{itself}
use Rattle.rbc_spec.proofs.Runs.{filter_run, same_tests, within_from, within_true}
use Rattle.rbc_spec.specs.Line.{is_home, Line}
use Rattle.rbc_spec.specs.LineCentre.{free, is_waiting, Kept, LineState, Open, Said, Shut, told}
use Rattle.rbc_spec.specs.Outcome.{Told, Word}
use Rattle.rbc_spec.specs.Quiet.{is_of_centre, Quiet, TakesAll, Unkeep}
use Rattle.rbc_spec.specs.SectionRuns.{SectionRun, within}
use Rattle.rbc_spec.specs.Sections.{section_count}

abbrev run : ℕ → ℕ → SectionRun
run first n = record { first = first; count = n }

module _ (line : Line) (t : ℕ) (is_freed wish : ℕ → Bool) where
  -- the sections of a run that are freed
  abbrev pub part : ℕ → ℕ → ℕ → Bool
  part first n s = is_freed s && within (run first n) s

  abbrev pub words : ℕ → ℕ → List Word
  words first n = map (λ s. Told s) (filter (λ s. is_freed s && wish s) (range_with_len first n))

  abbrev pub steps : ℕ → ℕ → List Quiet
  steps first n = map (λ s. Unkeep t s) (filter is_freed (range_with_len first n))

  abbrev pub saying : List Word → Said
  saying ws = record { sayings = []; words = ws }

  part_here : (first n s : ℕ) → s ≡ first → part (first + 1) n s ≡ false
  part_here first n s here = false_from_ne_true (part (first + 1) n s)
      (λ is. let ends = within_true (run (first + 1) n) s
      (and_parts (is_freed s) (within (run (first + 1) n) s) is).1 in omega (arith, here, ends.0))

  part_there : (first n s : ℕ) → s ≢ first → part (first + 1) n s ≡ part first (suc n) s
  part_there first n s other =
      ap (λ b. is_freed s && b) (same_tests (within (run (first + 1) n) s) (within (run first (suc n)) s)
      (λ is. let ends = within_true (run (first + 1) n) s is in
      within_from (run first (suc n)) s (omega (arith, ends.0)) (omega (arith, ends.1)))
      (λ is. let ends = within_true (run first (suc n)) s is in
      within_from (run (first + 1) n) s (omega (arith, ends.0, other)) (omega (arith, ends.1))))

  part_first : (first n s : ℕ) → s ≡ first → part first (suc n) s ≡ is_freed first
  part_first first n s here = ap (λ x. is_freed x && within (run first (suc n)) x) here
      ∙ ap (λ b. is_freed first && b) (within_from (run first (suc n)) first (omega arith) (omega arith))
      ∙ and_one (is_freed first)
    where
      and_one : (b : Bool) → (b && true) ≡ b
      and_one true = refl
      and_one false = refl

  -- if the first is not freed, the others are all
  skipped : (first n : ℕ) (u : LineState) → is_freed first ≡ false
      → free (part (first + 1) n) u ≡ free (part first (suc n)) u
  skipped first n u unfreed = ap (λ (test : ℕ → Bool). free test u) (λ i s. same s i)
    where
      same : (s : ℕ) → part (first + 1) n s ≡ part first (suc n) s
      same s = ⊎_elim (λ (here : s ≡ first). part_here first n s here ∙ sym (part_first first n s here ∙ unfreed))
          (λ (other : s ≢ first). part_there first n s other) (cases_eq s first)

  -- if it is freed, it is freed first
  freed_then : (first n : ℕ) (u : LineState) → is_freed first ≡ true
      → free (part (first + 1) n) (free (λ e. e == first) u) ≡ free (part first (suc n)) u
  freed_then first n u is = λ i. record u { mark = λ s. marks s i; wish = λ s. wishes s i }
    where
      marks : (s : ℕ) → (free (part (first + 1) n) (free (λ e. e == first) u)).mark s
          ≡ (free (part first (suc n)) u).mark s
      marks s = ⊎_elim
          (λ (here : s ≡ first). by_first (part (first + 1) n s) (s == first) (part first (suc n) s)
          (part_here first n s here) (eq-eqb s first here) (part_first first n s here ∙ is))
          (λ (other : s ≢ first). by_other (part (first + 1) n s) (s == first) (part first (suc n) s)
          (false_from_ne_true (s == first) (λ same. other (eqb-true s first same))) (part_there first n s other))
          (cases_eq s first)
        where
          goal_of : Bool → Bool → Bool → Type 0
          goal_of p x q =
              (if p then (if not x && u.wish s then Shut else Open) else
              (if x then (if u.wish s then Shut else Open) else u.mark s))
              ≡ (if q then (if u.wish s then Shut else Open) else u.mark s)

          by_first : (p x q : Bool) → p ≡ false → x ≡ true → q ≡ true → goal_of p x q
          by_first false true true a b d = refl
          by_first true x q a b d = cc
          by_first false false q a b d = cc
          by_first false true false a b d = cc

          by_other : (p x q : Bool) → x ≡ false → p ≡ q → goal_of p x q
          by_other p true q a b = cc
          by_other true false true a b = refl
          by_other false false false a b = refl
          by_other true false false a b = cc
          by_other false false true a b = cc

      wishes : (s : ℕ) → (free (part (first + 1) n) (free (λ e. e == first) u)).wish s
          ≡ (free (part first (suc n)) u).wish s
      wishes s = ⊎_elim
          (λ (here : s ≡ first). by_first (part (first + 1) n s) (s == first) (part first (suc n) s)
          (part_here first n s here) (eq-eqb s first here) (part_first first n s here ∙ is))
          (λ (other : s ≢ first). by_other (part (first + 1) n s) (s == first) (part first (suc n) s)
          (false_from_ne_true (s == first) (λ same. other (eqb-true s first same))) (part_there first n s other))
          (cases_eq s first)
        where
          goal_of : Bool → Bool → Bool → Type 0
          goal_of p x q = (not p && (not x && u.wish s)) ≡ (not q && u.wish s)

          by_first : (p x q : Bool) → p ≡ false → x ≡ true → q ≡ true → goal_of p x q
          by_first false true true a b d = refl
          by_first true x q a b d = cc
          by_first false false q a b d = cc
          by_first false true false a b d = cc

          by_other : (p x q : Bool) → x ≡ false → p ≡ q → goal_of p x q
          by_other p true q a b = cc
          by_other true false true a b = refl
          by_other false false false a b = refl
          by_other true false false a b = cc
          by_other false false true a b = cc

  -- for only one section
  one_told : (s : ℕ) (u : LineState) → s < section_count line → u.wish s ≡ wish s
      → told line (λ e. e == s) u ≡ map (λ e. Told e) (if wish s then s ∷ [] else [])
  one_told s u below same =
      ap (map (λ e. Told e)) (filter_run (λ e. (e == s) && u.wish e) (run s 1) (section_count line)
      (λ e is. let here = eqb-true e s (and_parts (e == s) (u.wish e) is).0 in
      within_from (run s 1) e (omega (arith, here)) (omega (arith, here)))
      (λ e is. let ends = within_true (run s 1) e is in omega (arith, ends.1, below))
      ∙ ap (λ b. if b && u.wish s then s ∷ [] else []) (itself s) ∙ ap (λ b. if b then s ∷ [] else []) same)

  -- the freed sections of a run are of the line, and their wishes are those that are reported
  abbrev pub IsKnown : ℕ → ℕ → LineState → Type 0
  IsKnown first n u = (s : ℕ) → first ≤ s → s < first + n → is_freed s ≡ true
      → (u.wish s ≡ wish s) × (s < section_count line)

  -- the section is kept, and no start waits for it
  abbrev pub IsKept : ℕ → ℕ → LineState → Type 0
  IsKept first n u = (s : ℕ) → first ≤ s → s < first + n → is_freed s ≡ true → (u.mark s ≡ Kept t)
      × (is_waiting line u t s ≡ false)

  pub unkeep_all : (n first : ℕ) (u : LineState) → IsKnown first n u → IsKept first n u
      → TakesAll line u (steps first n) (saying (words first n)) (free (part first n) u)
  unkeep_all zero first u known kept = (refl, ap (λ (test : ℕ → Bool). free test u) (λ i s. none s i))
    where
      none : (s : ℕ) → part first 0 s ≡ false
      none s = false_from_ne_true (part first 0 s)
          (λ is. let ends = within_true (run first 0) s (and_parts (is_freed s) (within (run first 0) s) is).1 in
          omega (arith, ends.0, ends.1))
  unkeep_all (suc n) first u known kept = by_first (is_freed first) refl
      (λ x known_there kept_there. unkeep_all n (first + 1) x known_there kept_there)
    where
      others : List ℕ
      others = filter is_freed (range_with_len (first + 1) n)

      others_told : List ℕ
      others_told = filter (λ s. is_freed s && wish s) (range_with_len (first + 1) n)

      apart : (s : ℕ) → first + 1 ≤ s → (s == first) ≡ false
      apart s low = false_from_ne_true (s == first) (λ is. let same = eqb-true s first is in omega (arith, same, low))

      by_wish : (b : Bool) → saying (map (λ s. Told s) (if b then first ∷ others_told else others_told))
          ≡ saying (map (λ s. Told s) (if b then first ∷ [] else []) ++ words (first + 1) n)
      by_wish true = refl
      by_wish false = refl

      by_first : (b : Bool) → is_freed first ≡ b
          → ((x : LineState) → IsKnown (first + 1) n x → IsKept (first + 1) n x
          → TakesAll line x (steps (first + 1) n) (saying (words (first + 1) n)) (free (part (first + 1) n) x))
          → TakesAll line u (map (λ s. Unkeep t s) (if b then first ∷ others else others))
          (saying (map (λ s. Told s) (if b && wish first then first ∷ others_told else others_told)))
          (free (part first (suc n)) u)
      by_first false unfreed again = subst (TakesAll line u (steps (first + 1) n) (saying (words (first + 1) n)))
          (skipped first n u unfreed)
          (again u (λ s low high. known s (omega (arith, low)) (omega (arith, high)))
          (λ s low high. kept s (omega (arith, low)) (omega (arith, high))))
      by_first true is again = (
        saying (map (λ s. Told s) (if wish first then first ∷ [] else [])),
        saying (words (first + 1) n),
        free (λ e. e == first) u,
        record {
          is_kept = (kept first (omega arith) (omega arith) is).0;
          not_waiting = (kept first (omega arith) (omega arith) is).1;
          tells = record {
            said_is = ap saying
                (sym (one_told first u (known first (omega arith) (omega arith) is).1
                (known first (omega arith) (omega arith) is).0));
            new_is = refl;
          };
        },
        subst (TakesAll line (free (λ e. e == first) u) (steps (first + 1) n) (saying (words (first + 1) n)))
            (freed_then first n u is)
            (again (free (λ e. e == first) u)
            (λ s low high so. let at = known s (omega (arith, low)) (omega (arith, high)) so in
            (ap (λ b. not b && u.wish s) (apart s low) ∙ at.0, at.1))
            (λ s low high so. let at = kept s (omega (arith, low)) (omega (arith, high)) so in
            (ap (λ b. if b then (if u.wish s then Shut else Open) else u.mark s) (apart s low) ∙ at.0, at.1))),
        by_wish (wish first),
      )

  pub unkeep_own : (c n first : ℕ) → ((s : ℕ) → is_freed s ≡ true → is_home line c s ≡ true)
      → list_all (is_of_centre line c) (steps first n) ≡ true
  unkeep_own c zero first home = refl
  unkeep_own c (suc n) first home = by_first (is_freed first) refl (unkeep_own c n (first + 1) home)
    where
      by_first : (b : Bool) → is_freed first ≡ b → list_all (is_of_centre line c) (steps (first + 1) n) ≡ true
          → list_all (is_of_centre line c)
          (map (λ s. Unkeep t s) (if b then first ∷ filter is_freed (range_with_len (first + 1) n) else filter
          is_freed (range_with_len (first + 1) n))) ≡ true
      by_first true is others = and_from (is_home line c first) (list_all (is_of_centre line c) (steps (first + 1) n))
          (home first is) others
      by_first false is others = others
