-- The ranges of a centre's state and of bodies, which are sent only on links, part by part.
use Rattle.std.proofs.Common.{[], ◌&&◌, ◌++◌, ◌<◌, ◌==◌, ◌||◌, ◌∙◌, ◌∷◌, ◌≡◌, ◌≤◌, All, ap, arith, Bool, eqb-true}
use Rattle.std.proofs.Common.{false, if◌then◌else◌, List, None, not, Option, option_map, refl, Some, subst, sym, true}
use Rattle.std.proofs.Common.{ℕ}
use Rattle.std.proofs.lemmas.Bool.{and_parts, eqb-false, or_parts}
use Rattle.std.proofs.lemmas.List.Elements.{All-append, All-cons, All-nil}
use Rattle.std.specs.Option.{option_map_or}
use Rattle.law_base.proofs.LocalLemmas.Worlds.{is_ordered}
use Rattle.law_base.proofs.WalkLemmas.Causes.{to_some}
use Rattle.law_invariants.proofs.FlowLemmas.Taken.{in_both}
use Rattle.law_invariants.proofs.RangesLemmas.Basics.{each_home, of_some, part_range}
use Rattle.law_invariants.specs.Ranges.Ranges.{HasMissionRanges, HasStartRanges, HasStateParts, IsSentInRange}
use Rattle.rbc_spec.proofs.Lists.{itself, put_holds}
use Rattle.rbc_spec.proofs.Runs.{within_from}
use Rattle.rbc_spec.specs.Acts.{Reply, returned}
use Rattle.rbc_spec.specs.Centre.{Centre, Entry, Expectation, is_out_for, Mission, Out}
use Rattle.rbc_spec.specs.Frame.{Body, HasBodyRange, IsEngine, IsHandoverNumber, RouteReturn, RouteWithdraw, TakingOver}
use Rattle.rbc_spec.specs.Line.{is_centre, is_home, is_linked, IsLine, Line}
use Rattle.rbc_spec.specs.Maps.{has, put, put_pair}
use Rattle.rbc_spec.specs.Message.{unknown_time}
use Rattle.rbc_spec.specs.Place.{Place}
use Rattle.rbc_spec.specs.Rules.{take_over, taking}
use Rattle.rbc_spec.specs.SectionRuns.{is_empty, SectionRun, shared}
use Rattle.rbc_spec.specs.Sections.{home_run, is_on}
use Rattle.rbc_spec.specs.Step.{withdraw}

-- each train that an entry is out for has an engine
abbrev pub IsOutFine : Entry → Type 0
IsOutFine e = (t : ℕ) → e ≡ Out t → IsEngine t

pub if_out : (b : Bool) (e f : Entry) → IsOutFine e → IsOutFine f → IsOutFine (if b then e else f)
if_out true e f one other = one
if_out false e f one other = other

pub out_for : (t : ℕ) → IsEngine t → IsOutFine (Out t)
out_for t engine u is = let train : t ≡ u = cc in subst IsEngine train engine

pub not_out : (e : Entry) → ((t : ℕ) → is_out_for t e ≡ false) → IsOutFine e
not_out e none t is = absurd (let wrong : false ≡ true = sym (none t) ∙ ap (is_out_for t) is ∙ itself t in cc)

-- ## Bodies that are sent

module _ (line : Line) (c : ℕ) where
  abbrev pub AllSent : ℕ → List Body → Type 0
  AllSent d bodies = All (IsSentInRange line c d) bodies

  pub none_sent : (d : ℕ) → AllSent d []
  none_sent d = All-nil (IsSentInRange line c d)

  one_sent : (d : ℕ) (body : Body) → is_linked line c d ≡ true → HasBodyRange body → AllSent d (body ∷ [])
  one_sent d body linked range = All-cons (IsSentInRange line c d) body [] (record { linked = linked; body = range })
      (All-nil (IsSentInRange line c d))

  pub to_one : (d : ℕ) (body : Body) → is_linked line c d ≡ true → HasBodyRange body → (e : ℕ)
      → AllSent e (to_some (Some d) body e)
  to_one d body linked range e = by_same (e == d) refl
    where
      by_same : (b : Bool) → (e == d) ≡ b → AllSent e (if b then body ∷ [] else [])
      by_same true is = one_sent e body (ap (is_linked line c) (eqb-true e d is) ∙ linked) range
      by_same false is = All-nil (IsSentInRange line c e)

  pub and_none : (d : ℕ) (bodies : List Body) → AllSent d bodies → AllSent d (bodies ++ [])
  and_none d bodies all = All-append (IsSentInRange line c d) bodies [] all (All-nil (IsSentInRange line c d))

  -- each other centre gets the request for a section that is wished back
  pub withdrawn : (t s : ℕ) (k : Centre) → IsEngine t → s ≤ 511 → (d : ℕ) → AllSent d ((withdraw line c t s k).frames d)
  withdrawn t s k engine low d = by_link (is_linked line c d) refl
    where
      by_link : (b : Bool) → is_linked line c d ≡ b → AllSent d (if b then RouteWithdraw t s ∷ [] else [])
      by_link true linked = one_sent d (RouteWithdraw t s) linked (engine, low)
      by_link false apart = All-nil (IsSentInRange line c d)

  -- lent sections go to their homes
  pub went_home : IsLine line → (t track : ℕ) (r : SectionRun) (k : Centre) → IsEngine t → is_centre line c ≡ true
      → r.count ≤ 63 → (d : ℕ) → AllSent d ((returned line c t track r k).frames d)
  went_home ok t track r k engine centre few d = by_empty ((d == c) || is_empty part) refl
    where
      part : SectionRun
      part = shared r (home_run line d track)

      linked : (d == c) ≡ false → is_empty part ≡ false → is_linked line c d ≡ true
      linked apart some =
          let filled = eqb-false part.count 0 some in
          let s : ℕ = part.first in
          let both = in_both r (home_run line d track) s (within_from part s (omega arith) (omega (arith, filled))) in
          let home =
          (and_parts (is_home line d s) (is_on line track s)
          (sym ((is_ordered line ok).homes_run d track s) ∙ both.1)).0 in
          sym (ap (λ z. z || is_linked line c d) apart) ∙ each_home line ok c centre s d home

      by_empty : (b : Bool) → ((d == c) || is_empty part) ≡ b → AllSent d (if b then [] else RouteReturn t part ∷ [])
      by_empty true is = All-nil (IsSentInRange line c d)
      by_empty false is = let parts = or_parts (d == c) (is_empty part) is in
          one_sent d (RouteReturn t part) (linked parts.0 parts.1) (engine, part_range line ok 63 d track r few parts.1)

-- ## The state that is kept

module _ (line : Line) (c stamp : ℕ) where
  abbrev pub Kept : Centre → Type 0
  Kept k = HasStateParts line c stamp k.announced k.book k.heard k.mission k.wait k.expects

  abbrev pub Missions : Option Mission → Type 0
  Missions o = (m : Mission) → o ≡ Some m → HasMissionRanges line c m

  abbrev pub Expected : ℕ → Option Expectation → Type 0
  Expected d o = (e : Expectation) → o ≡ Some e → IsHandoverNumber e.number × (is_linked line c d ≡ true)

  pub with_book : (k : Centre) (book : ℕ → Entry) → Kept k → ((s : ℕ) → IsOutFine (book s))
      → Kept (record k { book = book })
  with_book k book old out =
      record {
        clock = old.clock;
        announced = old.announced;
        out = out;
        heard = old.heard;
        mission = old.mission;
        wait = old.wait;
        expects = old.expects;
      }

  pub with_heard : (k : Centre) (t : ℕ) (new : Option ℕ) → Kept k → ((time : ℕ) → new ≡ Some time → time < unknown_time)
      → Kept (record k { heard = put k.heard t new })
  with_heard k t new old known = record {
    clock = old.clock;
    announced = old.announced;
    out = old.out;
    heard = put_holds (λ u o. (time : ℕ) → o ≡ Some time → time < unknown_time) k.heard t new old.heard known;
    mission = old.mission;
    wait = old.wait;
    expects = old.expects;
  }

  pub with_mission_of : (k : Centre) (t : ℕ) (new : Option Mission) → Kept k → Missions new
      → Kept (record k { mission = put k.mission t new })
  with_mission_of k t new old fine = record {
    clock = old.clock;
    announced = old.announced;
    out = old.out;
    heard = old.heard;
    mission = put_holds (λ u o. Missions o) k.mission t new old.mission fine;
    wait = old.wait;
    expects = old.expects;
  }

  pub with_change : (k : Centre) (t : ℕ) (change : Mission → Mission) → Kept k
      → ((m : Mission) → k.mission t ≡ Some m → HasMissionRanges line c (change m))
      → Kept (record k { mission = put k.mission t (option_map change (k.mission t)) })
  with_change k t change old fine = with_mission_of k t (option_map change (k.mission t)) old
      (by_mission (k.mission t) fine)
    where
      by_mission : (o : Option Mission) → ((m : Mission) → o ≡ Some m → HasMissionRanges line c (change m))
          → Missions (option_map change o)
      by_mission (Some m) is n at = of_some (HasMissionRanges line c) (change m) (is m refl) n at
      by_mission None is n at = cc

  pub with_wait : (k : Centre) (t : ℕ) (new : Option Place) → Kept k
      → ((place : Place) → new ≡ Some place → HasStartRanges line place) → Kept (record k { wait = put k.wait t new })
  with_wait k t new old fine = record {
    clock = old.clock;
    announced = old.announced;
    out = old.out;
    heard = old.heard;
    mission = old.mission;
    wait = put_holds (λ u o. (place : Place) → o ≡ Some place → HasStartRanges line place) k.wait t new old.wait fine;
    expects = old.expects;
  }

  pub with_expects : (k : Centre) (expects : ℕ → ℕ → Option Expectation) → Kept k
      → ((d t : ℕ) → Expected d (expects d t)) → Kept (record k { expects = expects })
  with_expects k expects old fine =
      record {
        clock = old.clock;
        announced = old.announced;
        out = old.out;
        heard = old.heard;
        mission = old.mission;
        wait = old.wait;
        expects = fine;
      }

  pub with_expectation : (k : Centre) (d t : ℕ) (new : Option Expectation) → Kept k → Expected d new
      → Kept (record k { expects = put_pair k.expects d t new })
  with_expectation k d t new old fine = with_expects k (put_pair k.expects d t new) old
      (put_holds (λ e f. (u : ℕ) → Expected e (f u)) k.expects d (put (k.expects d) t new) old.expects
      (put_holds (λ u o. Expected d o) (k.expects d) t new (old.expects d) fine))

  abbrev pub Leaves : Reply → Type 0
  Leaves q = Kept q.state × ((d : ℕ) → AllSent line c d (q.frames d))

  -- each centre that announced the train gets a TakingOver of this one
  pub taken_over : (t : ℕ) (k : Centre) → IsEngine t → Kept k → Leaves (take_over line t k)
  taken_over t k engine old =
      (with_expects k _ old (λ d. by_new d (is_new d)), λ d. each d (is_new d) (k.expects d t) (old.expects d t))
    where
      is_new : ℕ → Bool
      is_new d = is_centre line d && has (λ e. not e.is_taking) (k.expects d t)

      still : (d : ℕ) (o : Option Expectation) → Expected d o → Expected d (option_map taking o)
      still d (Some x) fine e is = of_some (λ (y : Expectation). IsHandoverNumber y.number
          × (is_linked line c d ≡ true)) (taking x) (fine x refl) e is
      still d None fine e is = cc

      by_new : (d : ℕ) (b : Bool) (u : ℕ)
          → Expected d ((if b then put (k.expects d) t (option_map taking (k.expects d t)) else k.expects d) u)
      by_new d true = put_holds (λ u o. Expected d o) (k.expects d) t (option_map taking (k.expects d t))
          (old.expects d) (still d (k.expects d t) (old.expects d t))
      by_new d false = old.expects d

      each : (d : ℕ) (new : Bool) (o : Option Expectation) → Expected d o
          → AllSent line c d (option_map_or (λ e. if new then TakingOver e.number t ∷ [] else []) o [])
      each d true (Some e) fine = let is = fine e refl in one_sent line c d (TakingOver e.number t) is.1 (is.0, engine)
      each d false (Some e) fine = All-nil (IsSentInRange line c d)
      each d new None fine = All-nil (IsSentInRange line c d)
