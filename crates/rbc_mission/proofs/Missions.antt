-- A train's mission in memory and as the rules have it, and a hand that grows.
use Rattle.std.proofs.Common.{[], ◌&&◌, ◌++◌, ◌+◌, ◌-◌, ◌<◌, ◌∙◌, ◌∷◌, ◌≡◌, ◌≤◌, ap, arith, Bool, cond, false, inl, inr}
use Rattle.std.proofs.Common.{is_none, length, List, min, None, not, Option, option_and_then, option_map, refl}
use Rattle.std.proofs.Common.{replicate, Some, subst, sym, true, ℕ}
use Rattle.std.proofs.lemmas.Bool.{cases_Bool, cases_lt, eqb-false, false≢true}
use Rattle.std.proofs.lemmas.List.{length-append, length-replicate}
use Rattle.std.proofs.lemmas.Option.{none-some, same_Some}
use Rattle.std.specs.List.{AllByRecursion}
use Rattle.std.specs.Option.{option_map_or}
use Rattle.rbc_allocation.proofs.Freed.{frees_none}
use Rattle.rbc_allocation.proofs.Held.{held_more, own_held, own_more}
use Rattle.rbc_allocation.proofs.Runs.{takes_none}
use Rattle.rbc_allocation.specs.Sections.{FreesRun, IsHeldAt, IsHeldBy, next_of, TakesRun}
use Rattle.rbc_book.proofs.Pages.{foreign_is_shut}
use Rattle.rbc_book.specs.Book.{entry_at, is_own, Pages}
use Rattle.rbc_border.specs.Border.{BorderState}
use Rattle.rbc_hand.specs.Hands.{Holding, IsAllOwn, run}
use Rattle.rbc_hand.specs.Tokens.{Held, Name, Own}
use Rattle.rbc_mission.specs.declared.facts.MissionFacts.{MissionFacts}
use Rattle.rbc_mission.specs.declared.held.HeldRight.{HeldRight}
use Rattle.rbc_mission.specs.Supervisions.{claims_on, hand_of, handing_in, HasRouteForm, IsSupervision, MayGrow}
use Rattle.rbc_mission.specs.Supervisions.{mission_of, next_sections, pool_of, supervision_state, SupervisionState}
use Rattle.rbc_spec.proofs.Runs.{within_after, within_from, within_none, within_true}
use Rattle.rbc_spec.specs.Centre.{Handing, is_open, Mission, Taken}
use Rattle.rbc_spec.specs.SectionRuns.{is_empty, next_after, no_run, SectionRun, within}

-- # A train's mission in memory, and as the rules have it.

-- ## The mission

module _ (number engine : ℕ) (facts : Option MissionFacts) (hand : Holding) (b : BorderState) (g : Option Handing)
    (c : SupervisionState) (view : supervision_state number engine facts hand b g ≡ c) where
  pub none_stands : facts ≡ None → c.mission ≡ None
  none_stands none = ap (λ (x : SupervisionState). x.mission) (sym view)
      ∙ ap (option_map (mission_of (run hand) b.pool g)) none

  pub stands : (f : MissionFacts) → facts ≡ Some f → c.mission ≡ Some (mission_of (run hand) b.pool g f)
  stands f is = ap (λ (x : SupervisionState). x.mission) (sym view)
      ∙ ap (option_map (mission_of (run hand) b.pool g)) is

  pub no_facts : c.mission ≡ None → facts ≡ None
  no_facts none = by facts (ap (λ (x : SupervisionState). x.mission) view ∙ none)
    where
      by : (o : Option MissionFacts) → option_map (mission_of (run hand) b.pool g) o ≡ None → o ≡ None
      by None e = refl
      by (Some f) e = absurd (none-some _ (sym e))

  pub pool_is : (facts ≡ None → b.pool ≡ no_run) → b.pool ≡ pool_of c
  pool_is none = by facts none ∙ ap pool_of view
    where
      by : (o : Option MissionFacts) → (o ≡ None → b.pool ≡ no_run)
          → b.pool ≡ option_map_or (λ (m : Mission). m.pool) (option_map (mission_of (run hand) b.pool g) o) no_run
      by None h = h refl
      by (Some f) h = refl

  pub facts_are : option_map (mission_of (hand_of c) (pool_of c) (handing_in c)) facts ≡ c.mission
  facts_are = by facts refl ∙ ap (λ (x : SupervisionState). x.mission) view
    where
      by : (o : Option MissionFacts) → facts ≡ o
          → option_map (mission_of (hand_of c) (pool_of c) (handing_in c)) o
          ≡ option_map (mission_of (run hand) b.pool g) o
      by None e = refl
      by (Some f) e =
          λ i.
          Some (mission_of (ap (λ o. option_map_or (λ (m : Mission). m.hand) o no_run) (stands f e) i)
          (ap (λ o. option_map_or (λ (m : Mission). m.pool) o no_run) (stands f e) i)
          (ap (option_and_then (λ (m : Mission). m.handing)) (stands f e) i) f)

  -- a mission has its form
  pub route_form : (right : HeldRight) → IsSupervision number engine facts hand right b g → (m : Mission)
      → c.mission ≡ Some m → HasRouteForm m
  route_form right is m mission = by facts refl (ap (λ (x : SupervisionState). x.mission) view ∙ mission)
    where
      by : (o : Option MissionFacts) → facts ≡ o → option_map (mission_of (run hand) b.pool g) o ≡ Some m
          → HasRouteForm m
      by None e there = absurd (none-some m there)
      by (Some f) e there =
          let full : is_empty (run hand) ≡ false = is.some ∙ ap is_none e in
          let more : length hand.holds ≡ 0 → ⊥ = eqb-false (length hand.holds) 0 full in
          subst HasRouteForm (same_Some _ m there)
          (record { some = positive (length hand.holds) more; most = is.most; numbers = is.numbers; few = is.few })
        where
          positive : (n : ℕ) → (n ≡ 0 → ⊥) → 1 ≤ n
          positive n other = omega (arith, other)

  -- with other facts, tokens and border
  pub changed : (facts' : Option MissionFacts) (hand' : Holding) (b' : BorderState) (g' : Option Handing)
      (m : Option Mission) → option_map (mission_of (run hand') b'.pool g') facts' ≡ m → b'.asked ≡ b.asked
      → supervision_state number engine facts' hand' b' g' ≡ record c { mission = m; hand = hand' }
  changed facts' hand' b' g' m mission asked = λ i. record {
    number = (view i).number;
    engine = (view i).engine;
    mission = mission i;
    hand = hand';
    asked = (asked ∙ ap (λ (x : SupervisionState). x.asked) view) i;
  }

-- ## Nothing changes

pub takes_nothing : (t count : ℕ) (c : SupervisionState) (book : Pages) → c.mission ≡ None
    → TakesRun t (next_sections count c) book book
takes_nothing t count c book none = rw none (takes_none t 0 book)

pub frees_nothing : (t : ℕ) (r : SectionRun) (book : Pages) → r.count ≡ 0 → FreesRun t r book book
frees_nothing t r book none =
    subst (λ (n : ℕ). FreesRun t (record { first = r.first; count = n }) book book) (sym none)
    (frees_none t r.first book)

-- ## A mission begins

-- a hand of only claims
all_claims : (t : ℕ) (xs : List Held) → AllByRecursion (λ held. held ≡ Own t) xs → xs ≡ replicate (length xs) (Own t)
all_claims t [] all = refl
all_claims t (x ∷ xs) all = λ i. all.0 i ∷ all_claims t xs all.1 i

pub own_claims : (t : ℕ) (r : SectionRun) (hand : Holding) → IsAllOwn t hand → run hand ≡ r → hand ≡ claims_on t r
own_claims t r hand own is =
    λ i. record {
      first = (is i).first;
      holds = (all_claims t hand.holds own ∙ ap (λ (q : SectionRun). replicate q.count (Own t)) is) i;
    }

-- the claims of a hand of only claims are held for the train
pub claims_held : (t : ℕ) (r : SectionRun) (is_home : ℕ → Bool) (hand : Holding) → hand ≡ claims_on t r
    → IsHeldAt t is_home hand
claims_held t r is_home hand is =
    subst (IsHeldAt t is_home) (sym is)
    (own_held t is_home (claims_on t r)
    (own_more t r.count (record { first = r.first; holds = [] }) (claims_on t r) tt refl))

-- # A hand that grows, by its pool and by open sections.

-- if a part of a run is taken for the train, the run is so too, if its other sections are not open
pub widened : (t : ℕ) (r q : SectionRun) (a b : Pages) → ((s : ℕ) → within q s ≡ true → within r s ≡ true)
    → ((s : ℕ) → within r s ≡ true → within q s ≡ false → is_open (entry_at a s) ≡ false) → TakesRun t q a b
    → TakesRun t r a b
widened t r q a b inside shut takes = record {
  homes = takes.homes;
  entry = λ s. takes.entry s ∙ ap (λ x. cond x (Taken t) (entry_at a s)) (same s);
  wish = takes.wish;
}
  where
    same : (s : ℕ) → (within q s && is_open (entry_at a s)) ≡ (within r s && is_open (entry_at a s))
    same s = elim (cases_Bool (within q s)) [
      | inl part ↦ rw (part, inside s part) refl
      | inr other ↦ elim (cases_Bool (within r s)) [
        | inl here ↦ rw (other, here) (sym (shut s here other))
        | inr out ↦ rw (other, out) refl
      ]
    ]

-- a hand that got `fed` names of its pool
module _ (m : Mission) (count fed : ℕ) (book : Pages) (hand fed_hand : Holding) (name : Held) (is : m.hand ≡ run hand)
    (grows : MayGrow m count book) (most : fed ≡ min count m.pool.count)
    (came : fed_hand ≡ record hand { holds = hand.holds ++ replicate fed name }) where
  pub fed_run : run fed_hand ≡ record { first = hand.first; count = length hand.holds + fed }
  fed_run =
      ap run came
      ∙ (λ i. record {
        first = hand.first;
        count =
            (length-append hand.holds (replicate fed name)
            ∙ ap (λ n. length hand.holds + n) (length-replicate fed name)) i;
      })

  abbrev pub still : SectionRun
  still = next_of (count - fed) (run fed_hand)

  begins : next_after m.hand ≡ hand.first + length hand.holds
  begins = ap next_after is

  goes_on : next_after (run fed_hand) ≡ hand.first + length hand.holds + fed
  goes_on = let e : next_after (run fed_hand) ≡ hand.first + (length hand.holds + fed) = ap next_after fed_run in
      omega (arith, e)

  -- the sections that are still to be added are of those that are added
  pub still_inside : (s : ℕ) → within still s ≡ true → within (next_of count m.hand) s ≡ true
  still_inside s here =
      let ends = within_true still s here in
      within_from (next_of count m.hand) s (omega (arith, ends, begins, goes_on))
      (omega (arith, ends, begins, goes_on, most))

  -- the sections that are still to be added are open, and not of the pool
  pub still_open : (s : ℕ) → within still s ≡ true → is_open (entry_at book s) ≡ true
  still_open s here = grows.free s (still_inside s here) (elim (cases_lt 0 m.pool.count) [
    | inl some ↦
        let ends = within_true still s here in
        let follows = grows.follows some in
        within_after m.pool s (omega (arith, ends, begins, goes_on, most, follows))
    | inr none ↦ within_none m.pool s (omega (arith, none))
  ])

  -- the others are of the pool, and so of another home
  fed_away : (s : ℕ) → hand.first + length hand.holds ≤ s → s < hand.first + length hand.holds + fed
      → is_own book s ≡ false
  fed_away s low high =
      let some : 0 < m.pool.count = omega (arith, low, high, most) in
      let follows = grows.follows some in
      grows.away s
      (within_from m.pool s (omega (arith, low, begins, follows)) (omega (arith, high, begins, follows, most)))

  pub others_shut : (s : ℕ) → within (next_of count m.hand) s ≡ true → within still s ≡ false
      → is_open (entry_at book s) ≡ false
  others_shut s here other =
      let ends = within_true (next_of count m.hand) s here in
      elim (cases_lt s (next_after (run fed_hand))) [
        | inl before ↦
            ap is_open
            (foreign_is_shut book s (fed_away s (omega (arith, ends, begins)) (omega (arith, before, goes_on))))
        | inr after_it ↦
            absurd (false≢true (sym other ∙ within_from still s after_it (omega (arith, ends, begins, goes_on, most))))
      ]

  -- the names are held for the train
  pub fed_held : (t u home : ℕ) → name ≡ Name u home → IsHeldBy t hand book → IsHeldBy t fed_hand book
  fed_held t u home names so =
      held_more t (is_own book) (is_own book) (λ s. refl) hand fed_hand fed name
      (λ some. ap (λ (h : Holding). h.first) came) (ap (λ (h : Holding). h.holds) came)
      (λ j lt. rw names (ap not (fed_away (fed_hand.first + (length hand.holds + j))
      (let e : fed_hand.first ≡ hand.first = ap (λ (h : Holding). h.first) came in omega (arith, e))
      (let e : fed_hand.first ≡ hand.first = ap (λ (h : Holding). h.first) came in omega (arith, e, lt))))) so
