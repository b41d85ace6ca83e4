-- While a question for sections is pending, the pool of its train's mission is empty: each step of a centre keeps that.
use Rattle.std.proofs.Common.{⊎_elim, ◌&&◌, ◌+◌, ◌==◌, ◌∙◌, ◌≡◌, ◌≢◌, ap, arith, eq-eqb, eqb-true, None, not, Option}
use Rattle.std.proofs.Common.{option_map, refl, Some, subst, sym, true, ℕ}
use Rattle.std.proofs.lemmas.Bool.{cases_eq, cond-true}
use Rattle.std.proofs.lemmas.Option.{same_Some}
use Rattle.std.proofs.Math.Bool.{and-true}
use Rattle.law_base.proofs.WalkLemmas.Causes.{begins as mission_begins, Change, clears, comes, cuts, grows, hand_to}
use Rattle.law_base.proofs.WalkLemmas.Causes.{less_pool, May, no_pool, pools, Turn}
use Rattle.law_base.proofs.WalkLemmas.Moves.{announces, Answer, asks_route, changes, closes, closes_handed, Move}
use Rattle.law_base.proofs.WalkLemmas.Moves.{no_handover, recalls, sets, told, yields}
use Rattle.law_base.proofs.WalkLemmas.Steps.{of_effect}
use Rattle.law_base.specs.Rules.Asks.{AsksForEmptyPools, follows_hand}
use Rattle.rbc_spec.proofs.Lists.{put_here, put_other}
use Rattle.rbc_spec.specs.Acts.{◌>>◌, Act, change_mission, Reply, set_mission}
use Rattle.rbc_spec.specs.Centre.{beginning, Centre, Mission}
use Rattle.rbc_spec.specs.Frame.{Body}
use Rattle.rbc_spec.specs.Line.{Line}
use Rattle.rbc_spec.specs.Links.{is_wanted}
use Rattle.rbc_spec.specs.Maps.{put}
use Rattle.rbc_spec.specs.Rules.{extension}
use Rattle.rbc_spec.specs.SectionRuns.{is_empty, next_after, part_before, part_from, SectionRun}
use Rattle.rbc_spec.specs.Sections.{is_on}
use Rattle.rbc_spec.specs.Step.{Event, stamp_of, taken, ticked}

abbrev Keeps : Centre → Reply → Type 0
Keeps k q = AsksForEmptyPools k → AsksForEmptyPools q.state

none_asked : (first : ℕ) → ◌≡◌ {A = Option ℕ} None (Some first) → ⊥
none_asked first e = cc

-- ## Missions that change

-- the mission, if there is one, has an empty pool
abbrev HasEmptyPool : Option Mission → Type 0
HasEmptyPool None = Unit {0}
HasEmptyPool (Some m) = is_empty m.pool ≡ true

set_at : (t : ℕ) (o : Option Mission) (k : Centre) → AsksForEmptyPools k
    → ((first : ℕ) → k.route_ask t ≡ Some first → HasEmptyPool o) → AsksForEmptyPools (set_mission t o k).state
set_at t o k h new u first m asks has = ⊎_elim
    (λ (here : u ≡ t). subst HasEmptyPool (sym (put_here k.mission t u o here)
    ∙ has) (new first (ap k.route_ask (sym here) ∙ asks)))
    (λ (apart : u ≢ t). h u first m asks (sym (put_other k.mission t u o apart) ∙ has))
    (cases_eq u t)

change_at : (t : ℕ) (f : Mission → Mission) (k : Centre) → AsksForEmptyPools k
    → ((first : ℕ) (m : Mission) → k.route_ask t ≡ Some first → is_empty m.pool ≡ true → is_empty (f m).pool ≡ true)
    → AsksForEmptyPools (change_mission t f k).state
change_at t f k h new = set_at t (option_map f (k.mission t)) k h
    (λ first asks. of_mission first asks (k.mission t) refl)
  where
    of_mission : (first : ℕ) → k.route_ask t ≡ Some first → (o : Option Mission) → k.mission t ≡ o
        → HasEmptyPool (option_map f o)
    of_mission first asks None has = tt
    of_mission first asks (Some n) has = new first n asks (h t first n asks has)

none_before : (s : ℕ) (pool : SectionRun) → is_empty pool ≡ true → is_empty (part_before s pool) ≡ true
none_before s pool none = let no : pool.count ≡ 0 = eqb-true pool.count 0 none in
    eq-eqb (part_before s pool).count 0 (omega (arith, no))

module _ (line : Line) (c : ℕ) where
  turned : (may : May) (was : Centre) (t : ℕ) (o : Option Mission) (k : Centre) → AsksForEmptyPools k
      → Turn line c may was t k o → (first : ℕ) → k.route_ask t ≡ Some first → HasEmptyPool o
  turned may was t _ k h (mission_begins place why none) first asks = refl
  turned may was t _ k h (grows m place position j so has said placed) first asks =
      ap is_empty (cond-true (is_empty m.pool) m.pool
      (part_from (next_after (extension line c j (record m { place = place }))) m.pool) (h t first m asks has))
      ∙ h t first m asks has
  turned may was t _ k h (clears m place position has said placed some) first asks = h t first m asks has
  turned may was t _ k h (cuts m n last_kept has same some) first asks = refl
  turned may was t _ k h (comes d number time carried place hand has_data is_ended so taken_so came carries)
      first asks = refl

  changed : (may : May) (was : Centre) (t : ℕ) (f : Mission → Mission) (k : Centre) → Change line may was t k f
      → (first : ℕ) (m : Mission) → k.route_ask t ≡ Some first → is_empty m.pool ≡ true → is_empty (f m).pool ≡ true
  changed may was t _ k no_pool first m asks empty = refl
  changed may was t _ k (less_pool s) first m asks empty = none_before s m.pool empty
  changed may was t _ k (pools d r none came wanted) first m asks empty = absurd (none_asked first (sym none ∙ asks))
  changed may was t f k change first m asks empty = empty

  -- a question is asked only while the pool is empty
  asked : (t next : ℕ) (m : Mission) (k : Centre) → k.mission t ≡ Some m → is_empty m.pool ≡ true → AsksForEmptyPools k
      → AsksForEmptyPools (record k { route_ask = put k.route_ask t (Some next) })
  asked t next m k has empty h u first n asks is = ⊎_elim
      (λ (here : u ≡ t). ap (λ (x : Mission). is_empty x.pool)
      (sym (same_Some m n (sym has ∙ ap k.mission (sym here) ∙ is))) ∙ empty)
      (λ (apart : u ≢ t). h u first n (sym (put_other k.route_ask t u (Some next) apart) ∙ asks) is)
      (cases_eq u t)

  ended : (t : ℕ) (k : Centre) → AsksForEmptyPools k
      → AsksForEmptyPools (record k { route_ask = put k.route_ask t None })
  ended t k h u first m asks has = ⊎_elim
      (λ (here : u ≡ t). absurd (none_asked first (sym (put_here k.route_ask t u None here) ∙ asks)))
      (λ (apart : u ≢ t). h u first m (sym (put_other k.route_ask t u None apart) ∙ asks) has)
      (cases_eq u t)

  -- ## Each small move, and so each step

  moves : (may : May) (was k : Centre) (q : Reply) → Move line c may was k q → Keeps k q
  moves may was _ _ (asks_route t d m k its has empty home none ahead more) h =
      asked t (next_after m.hand) m k has empty h
  moves may was _ _ (announces t d m k its so has none ahead same) h =
      change_at t (hand_to d (k.announced + 1)) k h (λ first n asks empty. empty)
  moves may was _ _ (recalls t m x k its has stands none) h = change_at t no_handover k h (λ first n asks empty. empty)
  moves may was _ _ (closes t m k has none) h = set_at t None k h (λ first asks. tt)
  moves may was _ _ (closes_handed t m x k its has stands) h =
      change_at t no_handover (set_mission t None k).state (set_at t None k h (λ first asks. tt))
      (λ first n asks empty. empty)
  moves may was _ _ (yields t m x k its so has stands) h = set_at t None k h (λ first asks. tt)
  moves may was _ _ (sets t o k turn) h = set_at t o k h (turned may was t o k h turn)
  moves may was _ _ (changes t f k change) h = change_at t f k h (changed may was t f k change)
  moves may was k q move h = h

  answers : (may : May) (was : Centre) (d : ℕ) (body : Body) (q : Reply) → Answer line c may was d body q → Keeps was q
  answers may was d _ _ (told t r so) h = ended t was h
  answers may was d body q answer h = h

  joins : (a b : Act) (k : Centre) → Keeps k (a k) → Keeps (a k).state (b (a k).state) → Keeps k ((a >> b) k)
  unfolding ◌>>◌
  joins a b k one two h = two (one h)

  pub step_keeps : (event : Event) (k : Centre) → AsksForEmptyPools k → AsksForEmptyPools (taken line c event k).1
  step_keeps event k h = of_effect line c Keeps (λ may was. record { moves = moves may was; joins = joins }) answers
      (λ d number j is. is) event (ticked (stamp_of k event) k) h

pub begins : (line : Line) (c : ℕ) → AsksForEmptyPools (beginning line c)
unfolding beginning
begins line c t first m asks has = cc

-- an empty pool passes the test
pub wanted_is : (line : Line) (r : SectionRun) (m : Mission) → is_empty m.pool ≡ true
    → is_wanted line r m ≡ follows_hand line r m
wanted_is line r m empty =
    rw empty (ap (λ b. ((r.first == next_after m.hand) && is_on line m.place.track r.first) && b)
    (and-true (not m.is_ended)))
