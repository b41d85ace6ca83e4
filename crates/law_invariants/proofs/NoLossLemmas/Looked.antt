-- The next frame of a link of a sound flow is looked for.
use Rattle.std.proofs.Common.{◌&&◌, ◌+◌, ◌<◌, ◌==◌, ◌∙◌, ◌≡◌, ◌≤◌, ap, arith, Bool, false, if◌then◌else◌, is_none}
use Rattle.std.proofs.Common.{is_some, length, ltb-true, nat_lt, None, not, Option, option_map, refl, slice_get, Some}
use Rattle.std.proofs.Common.{subst, sym, true, ℕ}
use Rattle.std.proofs.lemmas.Bool.{and_from, and_parts, eqb-true, lt-ltb}
use Rattle.std.proofs.lemmas.List.Folds.{find_at}
use Rattle.std.proofs.lemmas.Option.{slice_get_within}
use Rattle.std.specs.List.{find, position_or_len}
use Rattle.law_base.proofs.CountingLemmas.Network.{each_head}
use Rattle.law_base.proofs.CountingLemmas.Places.{held_carried_le_placed, held_le_placed}
use Rattle.law_base.proofs.CountingLemmas.Resource.{carried_more}
use Rattle.law_base.proofs.CountingLemmas.Sums.{one_if_some, one_if_true}
use Rattle.law_base.specs.Counting.Network.{TakesHead, took, way}
use Rattle.law_base.specs.Counting.Resource.{carried, placed}
use Rattle.law_base.specs.Counting.Sums.{one_if}
use Rattle.law_invariants.proofs.FlowLemmas.Lists.{some_cap}
use Rattle.law_invariants.proofs.FlowLemmas.Neighbours.{one_registrar}
use Rattle.law_invariants.proofs.FlowLemmas.Taken.{is_carried, is_taken, token_out}
use Rattle.law_invariants.specs.Flow.Counts.{right_inside, rights}
use Rattle.law_invariants.specs.Flow.Flow.{centre_count, Flow}
use Rattle.law_invariants.specs.Flow.Sound.{IsBodySound, IsFlowSound}
use Rattle.law_invariants.specs.NoCopy.Stray.{is_looked_for}
use Rattle.law_invariants.specs.NoLoss.Keeps.{HasRightOnce}
use Rattle.law_invariants.specs.NoUnasked.Asked.{answers, IsAsked, IsBodyAsked, OfRight, OfRoute, Question, questions}
use Rattle.law_invariants.specs.NoUnasked.Asked.{stands}
use Rattle.rbc_spec.proofs.Lists.{itself}
use Rattle.rbc_spec.proofs.Runs.{all_within, each_within}
use Rattle.rbc_spec.specs.Centre.{is_out_for, is_registrar_of}
use Rattle.rbc_spec.specs.Frame.{Announce, AskRight, Body, Cancel, carried_place, GiveRight, RefuseRight, ReturnRight}
use Rattle.rbc_spec.specs.Frame.{RouteAsk, RouteInfo, RouteReturn, RouteWithdraw, TakingOver, Yield, YieldedPlace}
use Rattle.rbc_spec.specs.Line.{is_centre, is_home, IsLine, Line, Train}
use Rattle.rbc_spec.specs.Links.{is_of_line, is_train, may_take}
use Rattle.rbc_spec.specs.Maps.{has}
use Rattle.rbc_spec.specs.SectionRuns.{all_of, SectionRun, within}

-- # The frames of a sound flow are looked for.

-- a train with a registrar is of the line
pub registered : (line : Line) (t h : ℕ) → is_registrar_of line h t ≡ true → is_train line t ≡ true
registered line t h is = by_find (find (λ p. p.nid_engine == t) line.trains)
    (find_at (λ p. p.nid_engine == t) line.trains) is
  where
    n : ℕ
    n = position_or_len (λ p. p.nid_engine == t) line.trains

    there : (b : Bool) → b ≡ true → is_some (if b then Some n else None) ≡ true
    there true h = refl
    there false h = cc

    by_find : (o : Option Train) → o ≡ slice_get line.trains (position_or_len (λ p. p.nid_engine == t) line.trains)
        → has (λ r. r == h) (option_map (λ p. p.registrar) o) ≡ true → is_train line t ≡ true
    by_find None at some = cc
    by_find (Some p) at some =
        there (nat_lt (position_or_len (λ p. p.nid_engine == t) line.trains) (length line.trains))
        (lt-ltb _ _ (slice_get_within line.trains (position_or_len (λ p. p.nid_engine == t) line.trains) p (sym at)))

-- if a right arrives at the head of a link, it is of a train of the line, and neither right nor mission is there
pub record IsFreeFor (line : Line) (w : Flow) (c t : ℕ) : Type 0 where
  pub known : is_train line t ≡ true
  pub no_right : not ((w.at c).has_right t) ≡ true
  pub no_mission : is_none ((w.at c).mission t) ≡ true

pub right_comes : (line : Line) (w : Flow) (a c t : ℕ) (f : Body) → IsFlowSound line w → is_centre line a ≡ true
    → is_centre line c ≡ true → TakesHead w a c f → right_inside t f ≡ 1 → IsFreeFor line w c t
right_comes line w a c t f sound from to takes one = record {
  known = let at = some_cap (rights line t) (centre_count line) w (omega (arith, there, (sound.rights t).law)) in
      registered line t at.0 (one_if_some (is_registrar_of line at.0 t) at.2);
  no_right = nothing ((w.at c).has_right t) (is_some ((w.at c).mission t)) none;
  no_mission = no_some ((w.at c).mission t) none;
}
  where
    there : one_if ((w.at c).has_right t) + one_if (is_some ((w.at c).mission t)) + 1
        ≤ placed (rights line t) (centre_count line) w
    there = omega (
      arith,
      held_carried_le_placed (rights line t) (centre_count line) w c a c (ltb-true c (centre_count line) to)
          (ltb-true a (centre_count line) from) (ltb-true c (centre_count line) to),
      ap (carried (rights line t) a c) takes.head,
      carried_more (rights line t) a c f (way (took w a c) a c),
      one,
    )

    none : one_if ((w.at c).has_right t) + one_if (is_some ((w.at c).mission t)) ≡ 0
    none = omega (arith, there, (sound.rights t).law, one_registrar line t (centre_count line) w)

    nothing : (b m : Bool) → one_if b + one_if m ≡ 0 → not b ≡ true
    nothing true m is = absurd (omega (arith, is))
    nothing false m is = refl

    no_some : {X : Type 0} (o : Option X) → one_if ((w.at c).has_right t) + one_if (is_some o) ≡ 0 → is_none o ≡ true
    no_some None is = refl
    no_some (Some x) is = absurd (omega (arith, is))

-- a section that returns to its home is out for the train
pub out_there : (line : Line) (w : Flow) (a c t s : ℕ) (r : SectionRun) → IsFlowSound line w → is_centre line a ≡ true
    → is_centre line c ≡ true → TakesHead w a c (RouteReturn t r)
    → within r s ≡ true → is_home line c s ≡ true → is_out_for t ((w.at c).book s) ≡ true
out_there line w a c t s r sound from to takes in_run home =
    token_out line w sound a c t s (RouteReturn t r) (ltb-true a (centre_count line) from)
    (ltb-true c (centre_count line) to) takes home
    (one_if_true ((t == t) && within r s) (and_from (t == t) (within r s) (itself t) in_run))

-- # A frame at the head of a link of a sound flow is looked for.

not_both : (b m : Bool) → one_if b + one_if m ≤ 1 → m ≡ true → b ≡ false
not_both true true le is = absurd (omega (arith, le))
not_both true false le is = cc
not_both false m le is = refl

-- no centre has a right beside its mission
pub right_once : (line : Line) (w : Flow) (c : ℕ) → IsFlowSound line w → is_centre line c ≡ true → HasRightOnce (w.at c)
right_once line w c sound centre = record {
  alone = λ t m is. not_both ((w.at c).has_right t) (is_some ((w.at c).mission t))
      (omega (
        arith,
        held_le_placed (rights line t) (centre_count line) w c (ltb-true c (centre_count line) centre),
        (sound.rights t).law,
        one_registrar line t (centre_count line) w,
      ))
      (ap is_some is);
}

module _ (line : Line) (ok : IsLine line) (w : Flow) (sound : IsFlowSound line w) (asked : IsAsked line w) (a c : ℕ)
    (from : is_centre line a ≡ true) (to : is_centre line c ≡ true) where
  small : a < centre_count line
  small = ltb-true a (centre_count line) from

  below : c < centre_count line
  below = ltb-true c (centre_count line) to

  -- the question of the answer is pending
  stands_here : (x : Question) (f : Body) → TakesHead w a c f → answers x f ≡ true → stands x (w.at c) ≡ true
  stands_here x f takes is =
      at_asker (some_cap (questions x c) (centre_count line) w (omega (arith, there, (asked.questions x c).law)))
    where
      there : 1 ≤ placed (questions x c) (centre_count line) w
      there = omega (
        arith,
        held_carried_le_placed (questions x c) (centre_count line) w c a c below small below,
        ap (carried (questions x c) a c) takes.head,
        carried_more (questions x c) a c f (way (took w a c) a c),
        one_if_true (answers x f && (c == c)) (and_from (answers x f) (c == c) is (itself c)),
      )

      at_asker : (h : ℕ) × (h < centre_count line) × (0 < one_if ((h == c) && stands x (w.at h)))
          → stands x (w.at c) ≡ true
      at_asker found = let both = and_parts (found.0 == c) (stands x (w.at found.0))
          (one_if_some ((found.0 == c) && stands x (w.at found.0)) found.2) in
          subst (λ h. stands x (w.at h) ≡ true) (eqb-true found.0 c both.0) both.1

  gives : (t : ℕ) → TakesHead w a c (GiveRight t) → is_looked_for line c a (w.at c) (GiveRight t) ≡ true
  gives t takes = let free = right_comes line w a c t (GiveRight t) sound from to takes (ap one_if (itself t)) in
      and_from (is_train line t) ((w.at c).has_asked t && not ((w.at c).has_right t)) free.known
      (and_from ((w.at c).has_asked t) (not ((w.at c).has_right t))
      (stands_here (OfRight t) (GiveRight t) takes (itself t)) free.no_right)

  returns : (t : ℕ) → TakesHead w a c (ReturnRight t) → is_looked_for line c a (w.at c) (ReturnRight t) ≡ true
  returns t takes = let free = right_comes line w a c t (ReturnRight t) sound from to takes (ap one_if (itself t)) in
      and_from (is_train line t) (is_registrar_of line c t
      && (not ((w.at c).has_right t) && is_none ((w.at c).mission t))) free.known
      (and_from (is_registrar_of line c t) (not ((w.at c).has_right t) && is_none ((w.at c).mission t))
      (each_head (IsBodyAsked line) w a c (ReturnRight t) takes asked.bodies)
      (and_from (not ((w.at c).has_right t)) (is_none ((w.at c).mission t)) free.no_right free.no_mission))

  tells : (t : ℕ) (r : SectionRun) → TakesHead w a c (RouteInfo t r)
      → is_looked_for line c a (w.at c) (RouteInfo t r) ≡ true
  tells t r takes = let is = each_head (IsBodyAsked line) w a c (RouteInfo t r) takes asked.bodies in
      let named = stands_here (OfRoute t r.first) (RouteInfo t r) takes
      (and_from (t == t) (r.first == r.first) (itself t) (itself r.first)) in
      and_from (is_train line t)
      ((has (λ first. first == r.first) ((w.at c).route_ask t) && (is_of_line line r && is_home line a r.first))
      && all_of (is_home line a) r) is.0
      (and_from (has (λ first. first == r.first) ((w.at c).route_ask t)
      && (is_of_line line r && is_home line a r.first)) (all_of (is_home line a) r)
      (and_from (has (λ first. first == r.first) ((w.at c).route_ask t)) (is_of_line line r && is_home line a r.first)
      named (and_from (is_of_line line r) (is_home line a r.first) is.1 is.2)) is.3)

  comes_home : (t : ℕ) (r : SectionRun) → TakesHead w a c (RouteReturn t r)
      → is_looked_for line c a (w.at c) (RouteReturn t r) ≡ true
  comes_home t r takes = let is = each_head (IsBodyAsked line) w a c (RouteReturn t r) takes asked.bodies in
      and_from (is_train line t) (all_of (λ s. is_home line c s && is_out_for t ((w.at c).book s)) r) is.0
      (all_within (λ s. is_home line c s && is_out_for t ((w.at c).book s)) r
      (λ s in_run. let own = each_within (is_home line c) r is.2 s in_run in
      and_from (is_home line c s) (is_out_for t ((w.at c).book s)) own
      (out_there line w a c t s r sound from to takes in_run own)))

  hands : (number t heard : ℕ) (has_data is_ended : Bool) (carried : YieldedPlace) (hand : SectionRun)
      → TakesHead w a c (Yield number t heard has_data is_ended carried hand)
      → is_looked_for line c a (w.at c) (Yield number t heard has_data is_ended carried hand) ≡ true
  hands number t heard has_data is_ended carried hand takes =
      let body : Body = Yield number t heard has_data is_ended carried hand in
      let whole = each_head (IsBodySound line) w a c body takes sound.bodies in
      let taken : has (λ at. may_take line c (w.at c) a number t at hand) (carried_place carried) ≡ true =
      ap (has (λ at. may_take line c (w.at c) a number t at hand))
      (is_carried line w sound a c number t heard has_data is_ended carried hand from to small below takes)
      ∙ is_taken line w sound a c number t heard has_data is_ended carried hand from to small below takes in
      and_from (is_train line t) (has (λ at. may_take line c (w.at c) a number t at hand) (carried_place carried))
      whole.known taken

  pub looked_for : (f : Body) → TakesHead w a c f → is_looked_for line c a (w.at c) f ≡ true
  looked_for (AskRight t) takes = refl
  looked_for (GiveRight t) takes = gives t takes
  looked_for (RefuseRight t) takes = refl
  looked_for (ReturnRight t) takes = returns t takes
  looked_for (RouteAsk t first most) takes = refl
  looked_for (RouteInfo t r) takes = tells t r takes
  looked_for (RouteWithdraw t s) takes = refl
  looked_for (RouteReturn t r) takes = comes_home t r takes
  looked_for (Announce number t track) takes = refl
  looked_for (Cancel number t) takes = refl
  looked_for (TakingOver number t) takes = refl
  looked_for (Yield number t heard has_data is_ended carried hand) takes =
      hands number t heard has_data is_ended carried hand takes
