-- A mission at the border, announced to another centre and yielded to it, by the acts of the rules.
use Rattle.std.proofs.Common.{[], if◌then◌else◌, ◌&&◌, ◌++◌, ◌==◌, ◌∙◌, ◌∷◌, ◌≡◌, ◌≤◌, ap, arith, Bool, cond, false}
use Rattle.std.proofs.Common.{inl, inr, is_none, is_some, List, None, not, Option, option_map, refl, Some, subst, sym}
use Rattle.std.proofs.Common.{true, ℕ}
use Rattle.std.proofs.lemmas.Bool.{cases_Bool, false≢true}
use Rattle.std.proofs.lemmas.Bool.Decides.{nat_tests}
use Rattle.std.proofs.lemmas.List.{append-nil}
use Rattle.std.proofs.lemmas.Option.{none-some, same_Some}
use Rattle.std.specs.Option.{option_map_or}
use Rattle.rbc_book.specs.Book.{Pages}
use Rattle.rbc_border.specs.Border.{answers, BorderState, GoesOn, HasBorder, wants, with_border}
use Rattle.rbc_border.specs.declared.way.Way.{Way}
use Rattle.rbc_border.specs.Lending.{HasBook, with_book}
use Rattle.rbc_hand.specs.Hands.{Holding, run}
use Rattle.rbc_line.specs.SectionRuns.{run_of}
use Rattle.rbc_mission.specs.declared.facts.MissionFacts.{MissionFacts}
use Rattle.rbc_mission.specs.declared.handing_over.Yielded.{Yielded}
use Rattle.rbc_mission.specs.declared.held.HeldRight.{HeldRight}
use Rattle.rbc_mission.specs.Handovers.{sends_off}
use Rattle.rbc_mission.specs.Passing.{IsBooked}
use Rattle.rbc_mission.specs.Supervisions.{HasSupervision, IsSupervision, mission_of, supervision_state}
use Rattle.rbc_mission.specs.Supervisions.{SupervisionState, with_supervision}
use Rattle.rbc_place.specs.Places.{place_of}
use Rattle.rbc_spec.proofs.Lists.{put_same}
use Rattle.rbc_spec.proofs.Runs.{within_none}
use Rattle.rbc_spec.specs.Acts.{◌>>◌, end_order, part_at, rest, returned, yield}
use Rattle.rbc_spec.specs.Centre.{Centre, Handing, is_taken_for, Mission, Out}
use Rattle.rbc_spec.specs.Frame.{Body, Yield, yielded_place}
use Rattle.rbc_spec.specs.Line.{Line}
use Rattle.rbc_spec.specs.Maps.{put}
use Rattle.rbc_spec.specs.SectionRuns.{is_empty, no_run, part_before, SectionRun, shared, within}

-- # A mission at the border, by the acts of the rules.

-- ## A centre that has it

module _ (k : Centre) (number engine : ℕ) (facts : Option MissionFacts) (hand : Holding) (b : BorderState)
    (g : Option Handing) (c : SupervisionState)
    (view : supervision_state number engine facts hand b g ≡ c) (train : b.engine ≡ engine)
    (has : HasSupervision k c) where
  pub train_is : b.engine ≡ c.engine
  train_is = train ∙ ap (λ (x : SupervisionState). x.engine) view

  pub there : k.mission b.engine ≡ option_map (mission_of (run hand) b.pool g) facts
  there = ap k.mission train_is ∙ has.has_mission ∙ ap (λ (x : SupervisionState). x.mission) (sym view)

  pub has_border : HasBorder k b
  has_border = record {
    has_pool = λ m is. of_pool facts m (sym there ∙ is);
    has_ask = ap k.route_ask train_is ∙ has.has_question ∙ ap (λ (x : SupervisionState). x.asked) (sym view);
  }
    where
      of_pool : (o : Option MissionFacts) (m : Mission) → option_map (mission_of (run hand) b.pool g) o ≡ Some m
          → m.pool ≡ b.pool
      of_pool None m e = absurd (none-some m e)
      of_pool (Some f) m e = ap (λ (x : Mission). x.pool) (sym (same_Some _ m e))

  -- the centre with the border as it is after the act
  pub border_after : (b' : BorderState) → b'.engine ≡ b.engine
      → with_border b' k ≡ with_supervision (supervision_state number engine facts hand b' g) k
  border_after b' same = λ i. record k {
    mission = put k.mission ((same ∙ train) i) (mission i);
    route_ask = put k.route_ask ((same ∙ train) i) b'.asked;
  }
    where
      by : (o : Option MissionFacts)
          → option_map (λ (m : Mission). record m { pool = b'.pool }) (option_map (mission_of (run hand) b.pool g) o)
          ≡ option_map (mission_of (run hand) b'.pool g) o
      by None = refl
      by (Some f) = refl

      mission : option_map (λ (m : Mission). record m { pool = b'.pool }) (k.mission b'.engine)
          ≡ option_map (mission_of (run hand) b'.pool g) facts
      mission = ap (λ t. option_map (λ (m : Mission). record m { pool = b'.pool }) (k.mission t)) same
          ∙ ap (option_map (λ (m : Mission). record m { pool = b'.pool })) there ∙ by facts

-- ## The state after a call

-- the train is the same; without a mission the pool stays, and it is not too long
pub record KeepsBorder (facts : Option MissionFacts) (b b' : BorderState) : Type 0 where
  pub train : b'.engine ≡ b.engine
  pub none : facts ≡ None → b'.pool ≡ b.pool
  pub few : b.pool.count ≤ 31 → b'.pool.count ≤ 31

keeps_pool : (facts : Option MissionFacts) (b b' : BorderState) → b'.engine ≡ b.engine → b'.pool ≡ b.pool
    → KeepsBorder facts b b'
keeps_pool facts b b' train pool =
    record { train = train; none = λ e. pool; few = λ few. subst (λ (r : SectionRun). r.count ≤ 31) (sym pool) few }

pub kept : (number engine : ℕ) (facts : Option MissionFacts) (hand : Holding) (right : HeldRight) (b b' : BorderState)
    (g : Option Handing) → IsSupervision number engine facts hand right b g → KeepsBorder facts b b'
    → IsSupervision number engine facts hand right b' g
kept number engine facts hand right b b' g is keeps = record {
  right = is.right;
  some = is.some;
  most = is.most;
  numbers = is.numbers;
  train = keeps.train ∙ is.train;
  none = λ e. keeps.none e ∙ is.none e;
  few = keeps.few is.few;
  handed = is.handed;
}

-- after a RouteInfo
pub told : (line : Line) (from : ℕ) (r : SectionRun) (way : Option Way) (facts : Option MissionFacts)
    (b b' : BorderState) → r.count ≤ 31 → (facts ≡ None → way ≡ None)
    → (answers line from r b ≡ false → b' ≡ b)
    → (answers line from r b ≡ true → wants line r way b ≡ true
    → b' ≡ record b { lender = from; pool = r; asked = None })
    → (answers line from r b ≡ true → wants line r way b ≡ false → b' ≡ record b { asked = None })
    → KeepsBorder facts b b'
told line from r way facts b b' most no_way unasked wanted unwanted =
    elim (cases_Bool (answers line from r b)) [
      | inl hit ↦ elim (cases_Bool (wants line r way b)) [
        | inl wants_it ↦ let is = wanted hit wants_it in record {
          train = ap (λ (x : BorderState). x.engine) is;
          none = λ e. absurd (false≢true (sym (ap (λ w. wants line r w b) (no_way e)) ∙ wants_it));
          few = λ few. subst (λ (x : BorderState). x.pool.count ≤ 31) (sym is) most;
        }
        | inr not_it ↦ let is = unwanted hit not_it in
            keeps_pool facts b b' (ap (λ (x : BorderState). x.engine) is) (ap (λ (x : BorderState). x.pool) is)
      ]
      | inr miss ↦
          let is = unasked miss in
          keeps_pool facts b b' (ap (λ (x : BorderState). x.engine) is) (ap (λ (x : BorderState). x.pool) is)
    ]

-- no mission, no way
pub no_way : (way : Option Way) (o : Option Mission) → GoesOn way o → o ≡ None → way ≡ None
no_way None o goes none = refl
no_way (Some w) None goes none = absurd goes
no_way (Some w) (Some m) goes none = absurd (none-some m (sym none))

-- a section of the pool is withdrawn
pub withdraws : (facts : Option MissionFacts) (b b' : BorderState) (s : ℕ)
    → b' ≡ cond (within b.pool s) (record b { pool = part_before s b.pool }) b → (facts ≡ None → b.pool ≡ no_run)
    → KeepsBorder facts b b'
withdraws facts b b' s is none = elim (cases_Bool (within b.pool s)) [
  | inl here ↦
      let so : b' ≡ record b { pool = part_before s b.pool } =
      is ∙ ap (λ x. cond x (record b { pool = part_before s b.pool }) b) here in record {
        train = ap (λ (x : BorderState). x.engine) so;
        none = λ e. absurd (false≢true (sym (ap (λ r. within r s) (none e) ∙ within_none no_run s refl) ∙ here));
        few = λ few. subst (λ (x : BorderState). x.pool.count ≤ 31) (sym so) (omega (arith, few));
      }
  | inr gone ↦ let so : b' ≡ b = is ∙ ap (λ x. cond x (record b { pool = part_before s b.pool }) b) gone in
      keeps_pool facts b b' (ap (λ (x : BorderState). x.engine) so) (ap (λ (x : BorderState). x.pool) so)
]

-- # A mission that is announced to another centre, and yielded to it.

-- the first section that two runs share is of the first of them
pub shared_within : (r q p : SectionRun) → p ≡ shared r q → 1 ≤ p.count → within r p.first ≡ true
unfolding within
shared_within r q p is some =
    let first : p.first ≡ (shared r q).first = ap (λ (x : SectionRun). x.first) is in
    let count : p.count ≡ (shared r q).count = ap (λ (x : SectionRun). x.count) is in
    grind (nat_tests, arith, first, count, some)

-- a value taken out of a handover was there
pub stood : (b : Bool) (h : Option Handing) (x : Handing) → Some x ≡ cond b h None → is_some h ≡ true
stood true None x e = absurd (none-some x (sym e))
stood true (Some h) x e = refl
stood false h x e = absurd (none-some x (sym e))

-- the value is missing if it is not there
pub none_where : {X : Type 0} (o : Option X) (b : Bool) → is_some o ≡ not b → b ≡ is_none o
none_where None true e = refl
none_where None false e = absurd (false≢true e)
none_where (Some x) true e = absurd (false≢true (sym e))
none_where (Some x) false e = refl

-- the mission is yielded, and there is none after that
pub goes_off : (line : Line) (c t number : ℕ) (y : Yielded) (g : Option Handing) (h : Handing) (k : Centre)
    (hand : Holding) (asked : Option ℕ) (book book' : Pages)
    → h.number ≡ y.handover.number → h.to ≡ y.handover.to
    → y.is_gone ≡ is_empty (part_at line c y.mission.place.track (run_of y.hand))
    → HasBook line c k book → IsBooked (is_taken_for t) (Out t) (run_of y.hand) book book' → k.route_ask t ≡ asked
    → yield line c t (mission_of (run_of y.hand) (run_of y.pool) g y.mission) h k
    ≡ sends_off line c t y
    (with_supervision (record { number = number; engine = t; mission = None; hand = hand; asked = asked })
    (with_book book' k))
unfolding ◌>>◌
goes_off line c t number y g h k hand asked book book' numbered to gone has passed question =
    ap (λ (x : Handing). yield line c t (mission_of (run_of y.hand) (run_of y.pool) g y.mission) x k)
    (λ i. record { number = numbered i; to = to i })
    ∙ (λ i. let last = cond (sym gone i) (end_order line c t) rest (state i) in record {
      state = last.state;
      frames = λ d. (append-nil (home d) i ++ off d) ++ last.frames d;
      sayings = last.sayings;
      words = last.words;
    })
  where
    home : ℕ → List Body
    home = (returned line c t y.mission.place.track (run_of y.pool) k).frames

    off : ℕ → List Body
    off d =
        if d == y.handover.to then Yield y.handover.number t (option_map_or (λ n. n) (k.heard t) 0) y.mission.has_data
        y.mission.is_ended (yielded_place (place_of y.mission.place)) (run_of y.hand) ∷ [] else []

    state : record k {
      book = λ s. cond (within (run_of y.hand) s && is_taken_for t (k.book s)) (Out t) (k.book s);
      mission = put k.mission t None;
    }
        ≡ with_supervision (record { number = number; engine = t; mission = None; hand = hand; asked = asked })
        (with_book book' k)
    state i = record k {
      book =
          λ s. (ap (λ e. cond (within (run_of y.hand) s && is_taken_for t e) (Out t) e) (has.has_book s)
          ∙ sym (passed.entries s)) i;
      wish = λ s. (has.has_wish s ∙ sym (passed.wish s)) i;
      mission = put k.mission t None;
      route_ask = λ u. sym (put_same t asked k.route_ask question u) i;
    }
