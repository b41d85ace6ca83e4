-- The T_TRAINs of the messages to a train in a log.
use Rattle.std.proofs.Common.{[], ◌++◌, ◌+◌, ◌==◌, ◌∙◌, ◌∷◌, ◌≡◌, ap, arith, cond, false, inl, inr, length}
use Rattle.std.proofs.Common.{length-append, List, map, Ok, refl, subst, suc, sym, true, ℕ}
use Rattle.std.proofs.lemmas.Bool.Decides.{eqb_tells}
use Rattle.std.proofs.lemmas.List.{map-append}
use Rattle.std.proofs.lemmas.List.Elements.{filter-append}
use Rattle.std.specs.List.{filter}
use Rattle.law_base.proofs.WalkLemmas.Causes.{May}
use Rattle.law_base.proofs.WalkLemmas.Moves.{Answer, Closed, Move, nothing_waits, says}
use Rattle.law_base.proofs.WalkLemmas.Steps.{of_effect}
use Rattle.law_logs.proofs.Sorted.{not_refused}
use Rattle.law_logs.specs.Logs.{LogEntry, Replays}
use Rattle.law_logs.specs.Messages.{AreNumbered, to_train, told_to}
use Rattle.rbc_spec.proofs.Lists.{put_other, put_there}
use Rattle.rbc_spec.specs.Acts.{◌>>◌, Act, Reply, say}
use Rattle.rbc_spec.specs.Centre.{beginning, Centre}
use Rattle.rbc_spec.specs.Frame.{Body}
use Rattle.rbc_spec.specs.Line.{Line}
use Rattle.rbc_spec.specs.Maps.{put}
use Rattle.rbc_spec.specs.Message.{TrackBody, TrackMessage}
use Rattle.rbc_spec.specs.Outcome.{Outcome, Saying}
use Rattle.rbc_spec.specs.Step.{effect, Event, refusal, stamp_of, step, taken, ticked}

-- ## Lists of messages

to_train-append : (t : ℕ) (xs ys : List Saying) → to_train t (xs ++ ys) ≡ to_train t xs ++ to_train t ys
to_train-append t xs ys =
    ap (map (λ (p : Saying). p.message)) (filter-append (λ (p : Saying). p.nid_engine == t) xs ys)
    ∙ map-append (λ (p : Saying). p.message) (filter (λ (p : Saying). p.nid_engine == t) xs)
    (filter (λ (p : Saying). p.nid_engine == t) ys)

numbered-append : (n : ℕ) (xs ys : List TrackMessage) → AreNumbered n xs → AreNumbered (n + length xs) ys
    → AreNumbered n (xs ++ ys)
numbered-append n [] ys first later =
    let none : n + 0 ≡ n = omega arith in subst (λ m. AreNumbered m ys) none later
numbered-append n (x ∷ xs) ys first later =
    let on : n + suc (length xs) ≡ n + 1 + length xs = omega arith in
    (first.0, numbered-append (n + 1) xs ys first.1 (subst (λ m. AreNumbered m ys) on later))

-- ## A step

-- an act counts its messages to train t on from the number of the state
record Counts (t : ℕ) (k : Centre) (q : Reply) : Type 0 where
  count : q.state.said t ≡ k.said t + length (to_train t q.sayings)
  numbers : AreNumbered (k.said t + 1) (to_train t q.sayings)

module _ (t : ℕ) where
  -- an act without a message
  silent : (k : Centre) (q : Reply) → q.state.said ≡ k.said → q.sayings ≡ [] → Counts t k q
  silent k q same none =
      let long : length (to_train t q.sayings) ≡ 0 = ap (λ (ps : List Saying). length (to_train t ps)) none in
      let kept : q.state.said t ≡ k.said t = ap (λ (f : ℕ → ℕ). f t) same in
      record {
        count = omega (arith, long, kept);
        numbers = subst (λ ps. AreNumbered (k.said t + 1) (to_train t ps)) (sym none) tt;
      }

  joins : (a b : Act) (k : Centre) → Counts t k (a k) → Counts t (a k).state (b (a k).state) → Counts t k ((a >> b) k)
  unfolding ◌>>◌
  joins a b k one two =
      let xs : List Saying = (a k).sayings in
      let ys : List Saying = (b (a k).state).sayings in
      let both : to_train t (xs ++ ys) ≡ to_train t xs ++ to_train t ys = to_train-append t xs ys in
      let long : length (to_train t (xs ++ ys)) ≡ length (to_train t xs) + length (to_train t ys) =
      ap length both ∙ length-append (to_train t xs) (to_train t ys) in
      let first = one.count in
      let second = two.count in
      let from : (a k).state.said t + 1 ≡ k.said t + 1 + length (to_train t xs) = omega (arith, first) in
      record {
        count = omega (arith, first, second, long);
        numbers = subst (AreNumbered (k.said t + 1)) (sym both)
            (numbered-append (k.said t + 1) (to_train t xs) (to_train t ys) one.numbers
            (subst (λ n. AreNumbered n (to_train t ys)) from two.numbers));
      }

  -- a message to the train has the next number, and one to another train has no effect on its numbers
  said : (u group : ℕ) (body : TrackBody) (k : Centre) → Counts t k (say u group body k)
  said u group body k =
      let p : Saying = record {
        nid_engine = u;
        message = record { t_train = k.said u + 1; nid_lrbg = group; body = body };
      } in
      elim (eqb_tells u t) [
        | inl is ↦
            let list : to_train t (p ∷ []) ≡ p.message ∷ [] =
            ap (λ b. map (λ (q : Saying). q.message) (cond b (p ∷ []) [])) is.0 in
            let long : length (to_train t (p ∷ [])) ≡ 1 = ap length list in
            let its : k.said u ≡ k.said t = ap k.said is.1 in
            let next : put k.said u (k.said u + 1) t ≡ k.said u + 1 =
            ap (put k.said u (k.said u + 1)) (sym is.1) ∙ put_there k.said u (k.said u + 1) in
            record {
              count = omega (arith, long, its, next);
              numbers = subst (AreNumbered (k.said t + 1)) (sym list) (ap (λ n. n + 1) its, tt);
            }
        | inr is ↦
            let list : to_train t (p ∷ []) ≡ [] =
            ap (λ b. map (λ (q : Saying). q.message) (cond b (p ∷ []) [])) is.0 in
            let long : length (to_train t (p ∷ [])) ≡ 0 = ap length list in
            let kept : put k.said u (k.said u + 1) t ≡ k.said t =
            put_other k.said u t (k.said u + 1) (λ same. is.1 (sym same)) in
            record {
              count = omega (arith, long, kept);
              numbers = subst (AreNumbered (k.said t + 1)) (sym list) tt;
            }
      ]

  module _ (line : Line) (c : ℕ) where
    moves : (may : May) (was k : Centre) (q : Reply) → Move line c may was k q → Counts t k q
    moves may was _ _ (says u group body k) = said u group body k
    moves may was k q move = silent k q refl refl

    answers : (may : May) (was : Centre) (d : ℕ) (body : Body) (q : Reply) → Answer line c may was d body q
        → Counts t was q
    answers may was d _ _ (nothing_waits u asked none) = silent was _ refl refl
    answers may was d body q answer = silent was q refl refl

    of_event : (event : Event) (k : Centre) → Counts t k (effect line c k event).reply
    of_event event k = of_effect line c (Counts t) (λ may was. record { moves = moves may was; joins = joins }) answers
        (λ d number j. silent j _ refl refl) event k

    -- ## A log

    -- a step counts its messages to the train on from the number of its centre
    record CountsOn (k : Centre) (outcome : Outcome) (new : Centre) : Type 0 where
      count : new.said t ≡ k.said t + length (to_train t outcome.sayings)
      numbers : AreNumbered (k.said t + 1) (to_train t outcome.sayings)

    counted_on : (event : Event) (k : Centre) → CountsOn k (taken line c event k).0 (taken line c event k).1
    counted_on event k = let it = of_event event (ticked (stamp_of k event) k) in
        record { count = it.count; numbers = it.numbers }

    of_step : (event : Event) (k new : Centre) (outcome : Outcome) → step line c event k ≡ Ok (outcome, new)
        → CountsOn k outcome new
    unfolding step
    of_step event k new outcome is =
        subst (λ (x : Outcome × Centre). CountsOn k x.0 x.1)
        (not_refused (refusal line c k event) (taken line c event k) (outcome, new) is) (counted_on event k)

    on : (k : Centre) (es : List LogEntry) (last : Centre) → Replays line c k es last
        → AreNumbered (k.said t + 1) (told_to t es)
    on k [] last r = tt
    on k (e ∷ es) last r =
        let it = of_step e.event k r.0 e.outcome r.2 in
        let count = it.count in
        let from : r.0.said t + 1 ≡ k.said t + 1 + length (to_train t e.outcome.sayings) = omega (arith, count) in
        numbered-append (k.said t + 1) (to_train t e.outcome.sayings) (told_to t es) it.numbers
        (subst (λ n. AreNumbered n (told_to t es)) from (on r.0 es last r.3))

pub numbered : (line : Line) (c t : ℕ) (es : List LogEntry) (last : Centre) → Replays line c (beginning line c) es last
    → AreNumbered 1 (told_to t es)
unfolding beginning
numbered line c t es last r = on t line c (beginning line c) es last r
