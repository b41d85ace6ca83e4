-- Each answer on the way is of the centre that was asked.
use Rattle.std.proofs.Common.{[], ◌&&◌, ◌<◌, ◌==◌, ◌∙◌, ◌∷◌, ◌≡◌, ◌≢◌, ◌≤◌, All, ap, arith, Bool, false, List}
use Rattle.std.proofs.Common.{ne_eqb, None, Ok, Option, refl, Some, subst, sym, true, ℕ}
use Rattle.std.proofs.lemmas.Bool.{and_from, and_parts, eqb-true}
use Rattle.std.proofs.lemmas.List.Elements.{All-cons, All-nil}
use Rattle.law_base.proofs.CountingLemmas.Network.{counted_took, each_acted, each_start, each_took}
use Rattle.law_base.proofs.CountingLemmas.Network.{each_head}
use Rattle.law_base.proofs.CountingLemmas.Resource.{carried_more}
use Rattle.law_base.proofs.CountingLemmas.Sums.{one_if_some, one_if_true, term_le_sum}
use Rattle.law_base.specs.Counting.Network.{EachOnTheWay, took}
use Rattle.law_base.specs.Counting.Resource.{carried, IsFair, sent_by as all_sent}
use Rattle.law_base.specs.Counting.Sums.{one_if}
use Rattle.law_invariants.proofs.FlowLemmas.OnePlace.{none_way}
use Rattle.law_invariants.proofs.NoStrayLemmas.Steps.{known_head}
use Rattle.law_invariants.proofs.NoStrayLemmas.Worlds.{IsReachedSo}
use Rattle.law_invariants.proofs.NoUnaskedLemmas.Asking.{comes_with, none_comes}
use Rattle.law_invariants.proofs.NoUnaskedLemmas.Steps.{step_asking, taken_asking}
use Rattle.law_invariants.proofs.NoUnaskedLemmas.Worlds.{world_step_keeps}
use Rattle.law_invariants.specs.Flow.Flow.{centre_count, flow_of}
use Rattle.law_invariants.specs.Handover.Steps.{left_by, sent_by}
use Rattle.law_invariants.specs.NoStray.Questions.{IsBodyKnown}
use Rattle.law_invariants.specs.NoUnasked.Asked.{answers, asks, IsBodyAsked, OfRight, OfRoute, Question, questions}
use Rattle.law_invariants.specs.NoUnasked.Asked.{stands}
use Rattle.law_progress.specs.Prompt.Answering.{is_asked_of}
use Rattle.rbc_spec.proofs.Lists.{itself, one_home}
use Rattle.rbc_spec.specs.Centre.{Centre, is_registrar_of}
use Rattle.rbc_spec.specs.Frame.{AskRight, Body, RouteAsk}
use Rattle.rbc_spec.specs.Line.{is_home, IsLine, Line, registrar}
use Rattle.rbc_spec.specs.Maps.{has}
use Rattle.rbc_spec.specs.Step.{Deliver}
use Rattle.rbc_spec.specs.World.{Answer, Event, new_world, World, world_step}

-- an answer from a to another centre b is of the centre that was asked
pub record IsFromAsked (line : Line) (a b : ℕ) (body : Body) : Type 0 where
  pub law : (x : Question) → answers x body ≡ true → b < centre_count line → a ≢ b → is_asked_of line a x ≡ true

one_registrar : (a b : ℕ) (o : Option ℕ) → has (λ r. r == a) o ≡ true → has (λ r. r == b) o ≡ true → a ≡ b
one_registrar a b None first then = cc
one_registrar a b (Some r) first then = sym (eqb-true r a first) ∙ eqb-true r b then

pub one_asked : (line : Line) (a b : ℕ) (x : Question) → is_asked_of line a x ≡ true → is_asked_of line b x ≡ true
    → a ≡ b
one_asked line a b (OfRight t) first then = one_registrar a b (registrar line t) first then
one_asked line a b (OfRoute t s) first then = one_home line a b s first then

-- a question is on its way to the centre that is asked
pub asked_there : (line : Line) (a c : ℕ) (x : Question) (body : Body) → asks x body ≡ true
    → IsBodyKnown line a c body → IsBodyAsked line a c body → is_asked_of line c x ≡ true
asked_there line a c (OfRight t) (AskRight u) is known home =
    subst (λ v. is_registrar_of line c v ≡ true) (eqb-true u t is) known.sent
asked_there line a c (OfRoute t first) (RouteAsk u n most) is known home =
    subst (λ v. is_home line c v ≡ true) (eqb-true n first (and_parts (u == t) (n == first) is).1) home
asked_there line a c (OfRight t) body is known home = cc
asked_there line a c (OfRoute t first) body is known home = cc

never : (b : Bool) → one_if (b && false) ≡ 0
never true = refl
never false = refl

-- ## The answers of a step

module _ (line : Line) (c : ℕ) (came : Question → ℕ → ℕ) (k y : Centre) (frames : ℕ → List Body)
    (fair : (x : Question) (d : ℕ) → IsFair (questions x d) (centre_count line) c k (came x d) y frames)
    (here : (x : Question) (d : ℕ) → c ≢ d → 0 < came x d → is_asked_of line c x ≡ true) where
  few : (d : ℕ) → d < centre_count line → c ≢ d → (x : Question)
      → carried (questions x d) c d (frames d) ≤ came x d
  unfolding all_sent
  few d small apart x = omega (
    arith,
    (fair x d).law,
    term_le_sum (centre_count line) (λ e. carried (questions x d) c e (frames e)) d small,
    ap (λ z. one_if (z && stands x y)) (ne_eqb c d apart),
  )

  each_of : (d : ℕ) (fs : List Body)
      → (d < centre_count line → c ≢ d → (x : Question) → carried (questions x d) c d fs ≤ came x d)
      → All (IsFromAsked line c d) fs
  each_of d [] less = All-nil (IsFromAsked line c d)
  each_of d (f ∷ fs) less = All-cons (IsFromAsked line c d) f fs
      (record {
        law = λ x is small apart. here x d apart (omega (
          arith,
          less small apart x,
          carried_more (questions x d) c d f fs,
          one_if_true (answers x f && (d == d)) (and_from (answers x f) (d == d) is (itself d)),
        ));
      })
      (each_of d fs (λ small apart x. omega (arith, less small apart x, carried_more (questions x d) c d f fs)))

  pub each_sent : (d : ℕ) → All (IsFromAsked line c d) (frames d)
  each_sent d = each_of d (frames d) (few d)

-- ## The answers on the way

pub from_asked_begins : (line : Line) → EachOnTheWay (IsFromAsked line) (flow_of (new_world line))
from_asked_begins line = each_start (IsFromAsked line) (flow_of (new_world line)) (none_way line)

module _ (line : Line) (ok : IsLine line) (w : World) (reached : IsReachedSo line w)
    (old : EachOnTheWay (IsFromAsked line) (flow_of w)) where
  -- the question that arrived
  asked_here : (a c : ℕ) (body : Body) → IsBodyKnown line a c body → IsBodyAsked line a c body
      → (x : Question) (d : ℕ) → c ≢ d → 0 < comes_with a c body x d → is_asked_of line c x ≡ true
  asked_here a c body known home x d apart some = asked_there line a c x body (and_parts (asks x body) (a == d)
      (one_if_some (asks x body && (a == d)) (omega (arith, some, no_answer)))).0 known home
    where
      no_answer : one_if (answers x body && (c == d)) ≡ 0
      no_answer = ap (λ z. one_if (answers x body && z)) (ne_eqb c d apart) ∙ never (answers x body)

  pub from_asked_step : (event : Event) (answer : Answer) (new : World) → world_step line w event ≡ Ok (answer, new)
      → EachOnTheWay (IsFromAsked line) (flow_of new)
  from_asked_step = world_step_keeps line w reached.sound.flow reached.sound.numbered
      (EachOnTheWay (IsFromAsked line)) old
      (λ c to event alone. each_acted (IsFromAsked line) (flow_of w) c (left_by line c (w.at c) event)
      (sent_by line c (w.at c) event) reached.sound.flow.counted
      (each_sent line c none_comes (w.at c) (left_by line c (w.at c) event) (sent_by line c (w.at c) event)
      (step_asking line ok c event (w.at c) alone).fair (λ x d apart some. absurd (omega (arith, some)))) old)
      (λ a c from to f head next. each_acted (IsFromAsked line) (took (flow_of w) a c) c
      (left_by line c (w.at c) (Deliver a f)) (sent_by line c (w.at c) (Deliver a f))
      (counted_took (flow_of w) a c f.body head reached.sound.flow.counted)
      (each_sent line c (comes_with a c f.body) (w.at c) (left_by line c (w.at c) (Deliver a f))
      (sent_by line c (w.at c) (Deliver a f))
      (taken_asking line ok c a f (w.at c) next (each_head (IsBodyAsked line) (flow_of w) a c f.body head
      reached.asked.bodies)).fair
      (asked_here a c f.body (known_head line (flow_of w) reached.answered.bodies a c f.body head)
      (each_head (IsBodyAsked line) (flow_of w) a c f.body head reached.asked.bodies)))
      (each_took (IsFromAsked line) (flow_of w) a c f.body head old))
