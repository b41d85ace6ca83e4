-- Sections that are lent, arrive, are withdrawn, and are returned.
use Rattle.std.proofs.Common.{⊎_elim, ◌&&◌, ◌+◌, ◌==◌, ◌∙◌, ◌≡◌, ◌≢◌, ◌≤◌, arith, Bool, false, if◌then◌else◌, is_some}
use Rattle.std.proofs.Common.{nat_le, None, not, Option, option_map, refl, Some, subst, sym, true, ℕ}
use Rattle.std.proofs.lemmas.Bool.{and_from, and_parts, cases_eq, ne_eqb}
use Rattle.law_invariants.proofs.NoCopyLemmas.Borders.{fair_propose_if}
use Rattle.law_invariants.proofs.NoCopyLemmas.Leaving.{fair_end_order, Makes, sends}
use Rattle.law_invariants.proofs.NoCopyLemmas.Messages.{fair_changed, pool_goes, standing}
use Rattle.law_invariants.proofs.NoCopyLemmas.Parts.{cut_back, cut_parts, empty_part, given_here}
use Rattle.law_invariants.proofs.NoCopyLemmas.Ready.{Ready}
use Rattle.law_invariants.proofs.NoCopyLemmas.Rights.{Comes, IsFrom, IsPlaced, lost, out_apart, used_out}
use Rattle.law_invariants.proofs.NoCopyLemmas.Starts.{booked_back, booked_open}
use Rattle.law_invariants.proofs.NoCopyLemmas.Tally.{eased, fair_booked, fair_freed, fair_if, fair_or, fair_plain}
use Rattle.law_invariants.proofs.NoCopyLemmas.Tally.{fair_rest, fair_then, IsTally, mission_back, mission_of}
use Rattle.law_invariants.proofs.NoCopyLemmas.Tally.{mission_put, part, Tally}
use Rattle.rbc_spec.proofs.Lists.{one_home}
use Rattle.rbc_spec.proofs.Runs.{each_within, longest_is, within_part_from}
use Rattle.rbc_spec.specs.Acts.{◌>>◌, become, booked, change_mission, freed, propose_if_so, rest, returned, send}
use Rattle.rbc_spec.specs.Centre.{Centre, Entry, is_free, is_open, is_out_for, is_unused, Mission, Open, Out, Shut}
use Rattle.rbc_spec.specs.Frame.{RouteInfo, RouteReturn}
use Rattle.rbc_spec.specs.Line.{is_home, Line, section}
use Rattle.rbc_spec.specs.Links.{is_of_line, is_wanted, lendable, route_asked, route_returned, route_told}
use Rattle.rbc_spec.specs.Links.{route_withdrawn}
use Rattle.rbc_spec.specs.Maps.{has, put}
use Rattle.rbc_spec.specs.SectionRuns.{all_of, is_empty, next_after, part_before, part_from, SectionRun, within}
use Rattle.rbc_spec.specs.Sections.{is_on}

module _ (line : Line) (c : ℕ) (y : Tally) (is : IsTally line c y) where
  pub lent_law : (t d first most : ℕ) (k : Centre)
      → y.entry (k.book y.section) + y.res.inside c d (RouteInfo t (lendable line c k first most))
      ≤ y.entry (if within (lendable line c k first most) y.section
      && is_open (k.book y.section) then Out t else k.book y.section)
  lent_law t d first most k = ⊎_elim
      (λ (here : t ≡ y.train). by_within here (within (lendable line c k first most) y.section) refl)
      (λ (other : t ≢ y.train).
      omega (
        arith,
        is.others c d (RouteInfo t (lendable line c k first most)) other,
        booked_open line c y is (Out t) (lendable line c k first most) (k.book y.section),
      ))
      (cases_eq t y.train)
    where
      free : within (lendable line c k first most) y.section ≡ true
          → (is_home line c y.section && is_open (k.book y.section)) ≡ true
      free in_run =
          (and_parts (is_free line c k y.section) _
          ((longest_is (λ s. is_free line c k s && has (λ p. is_on line p.track s) (section line first)) first
          most).each y.section in_run)).0

      by_within : t ≡ y.train → (b : Bool) → within (lendable line c k first most) y.section ≡ b
          → y.entry (k.book y.section) + y.res.inside c d (RouteInfo t (lendable line c k first most))
          ≤ y.entry (if b && is_open (k.book y.section) then Out t else k.book y.section)
      by_within here false out =
          subst (λ v. y.entry (k.book y.section) + y.res.inside c d (RouteInfo v (lendable line c k first most))
          ≤ y.entry (k.book y.section)) (sym here)
          (omega (arith, is.names c d (lendable line c k first most) out))
      by_within here true in_run = let both =
          and_parts (is_home line c y.section) (is_open (k.book y.section)) (free in_run) in
          subst (λ z. y.entry (k.book y.section) + y.res.inside c d (RouteInfo t (lendable line c k first most))
          ≤ y.entry (if z then Out t else k.book y.section)) (sym both.1)
          (subst (λ v. y.entry (k.book y.section) + y.res.inside c d (RouteInfo v (lendable line c k first most))
          ≤ y.entry (Out v)) (sym here)
          (is.lends d (lendable line c k first most) (k.book y.section) both.0 both.1))

  pub lent_back : y.exact ≡ true → (t d first most : ℕ) (k : Centre)
      → y.entry (if within (lendable line c k first most) y.section
      && is_open (k.book y.section) then Out t else k.book y.section)
      ≤ y.entry (k.book y.section) + y.res.inside c d (RouteInfo t (lendable line c k first most))
  lent_back so t d first most k = ⊎_elim
      (λ (here : t ≡ y.train). by_within here (within (lendable line c k first most) y.section) refl)
      (λ (other : t ≢ y.train).
      omega (
        arith,
        booked_back line c y is so (Out t) (lendable line c k first most) (k.book y.section)
            (ne_eqb t y.train other),
      ))
      (cases_eq t y.train)
    where
      free : within (lendable line c k first most) y.section ≡ true
          → (is_home line c y.section && is_open (k.book y.section)) ≡ true
      free in_run =
          (and_parts (is_free line c k y.section) _
          ((longest_is (λ s. is_free line c k s && has (λ p. is_on line p.track s) (section line first)) first
          most).each y.section in_run)).0

      by_within : t ≡ y.train → (b : Bool) → within (lendable line c k first most) y.section ≡ b
          → y.entry (if b && is_open (k.book y.section) then Out t else k.book y.section) ≤ y.entry (k.book y.section)
          + y.res.inside c d (RouteInfo t (lendable line c k first most))
      by_within here false out = omega arith
      by_within here true in_run = let both =
          and_parts (is_home line c y.section) (is_open (k.book y.section)) (free in_run) in
          subst (λ z. y.entry (if z then Out t else k.book y.section) ≤ y.entry (k.book y.section)
          + y.res.inside c d (RouteInfo t (lendable line c k first most))) (sym both.1)
          (subst (λ v. y.entry (Out v) ≤ y.entry (k.book y.section)
          + y.res.inside c d (RouteInfo v (lendable line c k first most))) (sym here)
          ((is.back so).lends d (lendable line c k first most) (k.book y.section) both.0 in_run both.1))

  pub fair_route_asked : (d t first most : ℕ) (k : Centre) → IsFrom line c y is d
      → Makes line c y is k (route_asked line c d t first most k)
  unfolding ◌>>◌
  fair_route_asked d t first most k from = fair_if line c y (is_some (section line first)) k _ (rest k)
      (λ so. eased line c y 0 0 k _ (omega (arith, lent_law t d first most k))
      (λ exact. omega (arith, lent_back exact t d first most k))
      (fair_then line c y (booked is_open (Out t) (lendable line c k first most))
      (send d (RouteInfo t (lendable line c k first most))) k
      (fair_booked line c y is_open (Out t) (lendable line c k first most) k)
      (sends line c y is d t (RouteInfo t (lendable line c k first most)) _ refl (λ exact here. (from exact).0))))
      (λ so. fair_rest line c y k)

  pub told_law : (d t : ℕ) (r : SectionRun) (k : Centre)
      → mission_of y
      (put k.mission t (option_map {T = Mission} {U = Mission} (λ m. record m { pool = r }) (k.mission t)) y.train)
      ≤ y.res.inside d c (RouteInfo t r) + mission_of y (k.mission y.train)
  told_law d t r k = omega (
    arith,
    mission_put line c y k t (option_map {T = Mission} {U = Mission} (λ m. record m { pool = r }) (k.mission t)) 0
        (y.res.inside d c (RouteInfo t r))
        (λ here. omega (
          arith,
          by_mission (k.mission t),
          subst (λ v. part y r ≤ y.res.inside d c (RouteInfo v r)) (sym here)
              (is.told d r),
        )) (λ other. omega arith),
  )
    where
      by_mission : (o : Option Mission)
          → mission_of y (option_map {T = Mission} {U = Mission} (λ m. record m { pool = r }) o)
          ≤ mission_of y o + part y r
      by_mission None = omega arith
      by_mission (Some m) = omega arith

  pub sent_back : (d t : ℕ) (r : SectionRun) → y.res.inside c d (RouteReturn t r) ≤ y.res.inside d c (RouteInfo t r)
  sent_back d t r =
      ⊎_elim (λ (here : t ≡ y.train). subst (λ v. y.res.inside c d (RouteReturn v r) ≤ y.res.inside d c (RouteInfo v r))
      (sym here) (is.told_back d r))
      (λ (other : t ≢ y.train). omega (arith, is.others c d (RouteReturn t r) other)) (cases_eq t y.train)

  pub told_all : y.exact ≡ true → (d t : ℕ) (r : SectionRun) (k : Centre)
      → (within r y.section ≡ true → is_home line c y.section ≡ false) → has (is_wanted line r) (k.mission t) ≡ true
      → y.res.inside d c (RouteInfo t r) + mission_of y (k.mission y.train)
      ≤ mission_of y
      (put k.mission t (option_map {T = Mission} {U = Mission} (λ m. record m { pool = r }) (k.mission t)) y.train)
  told_all so d t r k foreign wanted = omega (
    arith,
    mission_back line c y k t (option_map {T = Mission} {U = Mission} (λ m. record m { pool = r }) (k.mission t)) 0
        (y.res.inside d c (RouteInfo t r))
        (λ here. omega (
          arith,
          by_mission (k.mission t) wanted,
          subst (λ v. y.res.inside d c (RouteInfo v r) ≤ part y r) (sym here) ((is.back so).told d r foreign),
        ))
        (λ other. omega (arith, is.others d c (RouteInfo t r) other)),
  )
    where
      by_mission : (o : Option Mission) → has (is_wanted line r) o ≡ true
          → mission_of y o + part y r
          ≤ mission_of y (option_map {T = Mission} {U = Mission} (λ m. record m { pool = r }) o)
      by_mission None h = cc
      by_mission (Some m) h =
          omega (
            arith,
            empty_part y m.pool (and_parts (not m.is_ended) (is_empty m.pool)
                (and_parts ((r.first == next_after m.hand) && is_on line m.place.track r.first) (not m.is_ended
                && is_empty m.pool) h).1).1,
          )

  pub sent_all : y.exact ≡ true → (d t : ℕ) (r : SectionRun)
      → y.res.inside d c (RouteInfo t r) ≤ y.res.inside c d (RouteReturn t r)
  sent_all so d t r =
      ⊎_elim (λ (here : t ≡ y.train). subst (λ v. y.res.inside d c (RouteInfo v r) ≤ y.res.inside c d (RouteReturn v r))
      (sym here) ((is.back so).told_back d r))
      (λ (other : t ≢ y.train). omega (arith, is.others d c (RouteInfo t r) other)) (cases_eq t y.train)

  pub fair_told : (d t : ℕ) (r : SectionRun) (k : Centre) → IsFrom line c y is d
      → IsPlaced line c y is d (RouteInfo t r) k → Comes line c y is d (RouteInfo t r) k (route_told line c d t r k)
  fair_told d t r k from due =
      fair_if line c y ((has (λ first. first == r.first) (k.route_ask t)
      && (is_of_line line r && is_home line d r.first)) && all_of (is_home line d) r) k _ (rest k)
      (λ so. eased line c y _ 0 k _ (omega arith) (λ exact. omega arith)
      (fair_then line c y (become (λ j. record j { route_ask = put j.route_ask t None })) _ k
      (fair_plain line c y k _ refl refl refl)
      (by_wanted
      (foreign (and_parts (has (λ first. first == r.first) (k.route_ask t)
      && (is_of_line line r && is_home line d r.first)) (all_of (is_home line d) r) so).1)
      (become (λ j. record j { route_ask = put j.route_ask t None }) k).state (has (is_wanted line r) (k.mission t))
      refl (is_empty r) refl)))
      (λ so. lost line c y is d (RouteInfo t r) k (rest k)
      (λ exact here. absurd (let wrong : true ≡ false = sym (due exact here).1 ∙ so in cc)) (fair_rest line c y k))
    where
      foreign : all_of (is_home line d) r ≡ true → y.exact ≡ true → within r y.section ≡ true
          → is_home line c y.section ≡ false
      foreign all exact in_run = not_here (is_home line c y.section) refl
        where
          not_here : (b : Bool) → is_home line c y.section ≡ b → b ≡ false
          not_here false home = refl
          not_here true home =
              absurd ((from exact).1
              (one_home line c d y.section home (each_within (is_home line d) r all y.section in_run)))

      by_wanted : (y.exact ≡ true → within r y.section ≡ true → is_home line c y.section ≡ false)
          → (j : Centre) (b : Bool) → has (is_wanted line r) (j.mission t) ≡ b → (e : Bool) → is_empty r ≡ e
          → Comes line c y is d (RouteInfo t r) j
          (if b then change_mission t (λ m. record m { pool = r }) j else
          (if e then rest else send d (RouteReturn t r)) j)
      by_wanted away j true wanted e none =
          eased line c y _ 0 j _ (omega (arith, told_law d t r j))
          (λ exact. omega (arith, told_all exact d t r j (away exact) wanted))
          (fair_changed line c y is t (λ m. record m { pool = r }) j)
      by_wanted away j false wanted true none = lost line c y is d (RouteInfo t r) j (rest j)
          (λ exact here. subst (λ v. y.res.inside d c (RouteInfo v r) ≡ 0) (sym here)
          ((is.back exact).not_told d c r none)) (fair_rest line c y j)
      by_wanted away j false wanted false some =
          eased line c y _ 0 j _ (omega (arith, sent_back d t r)) (λ exact. omega (arith, sent_all exact d t r))
          (sends line c y is d t (RouteReturn t r) j refl (λ exact here. (from exact).0))

  pub fair_withdrawn : (t s : ℕ) (k : Centre) → Ready line c y k → Makes line c y is k (route_withdrawn line c t s k)
  fair_withdrawn t s k ready = fair_or line c y (k.mission t) _ k (rest k)
      (λ m is_some. by_pool m is_some (within m.pool s)) (λ none. fair_rest line c y k)
    where
      by_pool : (m : Mission) → k.mission t ≡ Some m → (b : Bool)
          → Makes line c y is k
          ((if b then (returned line c t m.place.track (part_from s m.pool)
          >> change_mission t (λ n. record n { pool = part_before s n.pool })) else propose_if_so line t s) k)
      by_pool m at true = pool_goes line c y is t m.place.track (part_from s m.pool)
          (λ n. record n { pool = part_before s n.pool }) m k at (omega (arith, cut_parts y s m.pool))
          (λ exact. omega (arith, cut_back y s m.pool))
          (λ exact here in_part. (standing line c y is t m k at ready exact here).pool_on
          (and_parts (within m.pool y.section) (nat_le s y.section)
          (sym (within_part_from m.pool s y.section) ∙ in_part)).0)
      by_pool m at false = fair_propose_if line c y is t s k

  pub home_law : (d t : ℕ) (r : SectionRun) (k : Centre)
      → y.entry (k.book y.section) ≤ y.res.inside d c (RouteReturn t r)
      + y.entry ((freed line c (is_out_for t) r k).state.book y.section)
  home_law d t r k = by_tests (within r y.section) refl (is_home line c y.section) refl
      (is_out_for t (k.book y.section)) refl
    where
      by_train : (e g : Entry) → is_home line c y.section ≡ true → within r y.section ≡ true → is_out_for t e ≡ true
          → y.entry e ≤ y.res.inside d c (RouteReturn t r) + y.entry g
      by_train e g home in_run out = ⊎_elim
          (λ (here : t ≡ y.train). subst (λ v. y.entry e ≤ y.res.inside d c (RouteReturn v r) + y.entry g) (sym here)
          (is.comes_home d r e g home in_run (subst (λ v. is_out_for v e ≡ true) here out)))
          (λ (other : t ≢ y.train). omega (arith, is.other t e g other (used_out t e out))) (cases_eq t y.train)

      by_tests : (w : Bool) → within r y.section ≡ w → (h : Bool) → is_home line c y.section ≡ h → (x : Bool)
          → is_out_for t (k.book y.section) ≡ x
          → y.entry (k.book y.section) ≤ y.res.inside d c (RouteReturn t r)
          + y.entry (if (w && h) && x then (if k.wish y.section then Shut else Open) else k.book y.section)
      by_tests false in_run h home x out = omega arith
      by_tests true in_run false home x out = omega arith
      by_tests true in_run true home false out = omega arith
      by_tests true in_run true home true out =
          by_train (k.book y.section) (if k.wish y.section then Shut else Open) home in_run out

  pub home_back : y.exact ≡ true → (d t : ℕ) (r : SectionRun) (k : Centre)
      → (t ≡ y.train → all_of (λ s. is_home line c s && is_out_for t (k.book s)) r ≡ true)
      → y.res.inside d c (RouteReturn t r) + y.entry ((freed line c (is_out_for t) r k).state.book y.section)
      ≤ y.entry (k.book y.section)
  home_back so d t r k all = ⊎_elim (λ (here : t ≡ y.train). at_home here (within r y.section) refl)
      (λ (other : t ≢ y.train).
      omega (
        arith,
        is.others d c (RouteReturn t r) other,
        apart other (within r y.section && is_home line c y.section) (is_out_for t (k.book y.section)) refl,
      ))
      (cases_eq t y.train)
    where
      given : Entry
      given = if k.wish y.section then Shut else Open

      given_unused : (b : Bool) → is_unused (if b then Shut else Open) ≡ true
      given_unused true = refl
      given_unused false = refl

      at_home : t ≡ y.train → (w : Bool) → within r y.section ≡ w
          → y.res.inside d c (RouteReturn t r) + y.entry (if (w && is_home line c y.section)
          && is_out_for t (k.book y.section) then given else k.book y.section) ≤ y.entry (k.book y.section)
      at_home here false out =
          omega (
            arith,
            subst (λ v. y.res.inside d c (RouteReturn v r) ≡ 0) (sym here)
                ((is.back so).not_home d c r out),
          )
      at_home here true in_run =
          let both = and_parts (is_home line c y.section) (is_out_for t (k.book y.section))
          (each_within (λ s. is_home line c s && is_out_for t (k.book s)) r (all here) y.section in_run) in
          subst (λ z. y.res.inside d c (RouteReturn t r) + y.entry (if z then given else k.book y.section)
          ≤ y.entry (k.book y.section))
          (sym (and_from (is_home line c y.section) (is_out_for t (k.book y.section)) both.0 both.1))
          (subst (λ v. y.res.inside d c (RouteReturn v r) + y.entry given ≤ y.entry (k.book y.section)) (sym here)
          ((is.back so).comes_home d r (k.book y.section) given both.0
          (subst (λ v. is_out_for v (k.book y.section) ≡ true) here both.1) (given_unused (k.wish y.section))))

      apart : t ≢ y.train → (w x : Bool) → is_out_for t (k.book y.section) ≡ x
          → y.entry (if w && x then given else k.book y.section) ≤ y.entry (k.book y.section)
      apart other false x out = omega arith
      apart other true false out = omega arith
      apart other true true out = (is.back so).here given (k.book y.section)
          (given_here line c y is (k.wish y.section) y.train) (out_apart t y.train (k.book y.section) other out)

  pub fair_home : (d t : ℕ) (r : SectionRun) (k : Centre) → IsPlaced line c y is d (RouteReturn t r) k
      → Comes line c y is d (RouteReturn t r) k (route_returned line c t r k)
  fair_home d t r k due = eased line c y _ 0 k _ (omega (arith, home_law d t r k))
      (λ exact. omega (arith, home_back exact d t r k (λ here. (due exact here).1)))
      (fair_then line c y (freed line c (is_out_for t) r) _ k (fair_freed line c y (is_out_for t) r k)
      (fair_if line c y _ _ _ (rest _) (λ so. fair_end_order line c y is t _) (λ so. fair_rest line c y _)))
