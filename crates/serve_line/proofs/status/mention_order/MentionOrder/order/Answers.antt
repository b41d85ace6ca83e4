use Rattle.std.proofs.Common.{◌≡◌, Err, IfOk, IsPermutation, List, map, Ok, Option, Result, rules, subst, Vec, ℕ}
use Rattle.std.proofs.lemmas.List.Sorted.{IsNonDecreasingBy-from_sort_by_key}
use Rattle.std.specs.declared.alloc.Global.{Global}
use Rattle.std.specs.List.Sorted.{IsNonDecreasingBy}
use Rattle.serve_line.proofs.status.mention_order.MentionOrder.order.Goals as goal
use Rattle.serve_line.specs.declared.status.mention_order.Mention.{Mention}
use Rattle.serve_line.specs.Mentions.{AreInOrder, heard_from, place_of}

in_order :
    {E : Type 0} (first : List (Option Mention)) (heard : List (Mention × ℕ)) (r : Result (Vec ℕ Global) E)
    → IsPermutation (heard_from 0 first) heard → IsNonDecreasingBy (λ (m : Mention × ℕ). place_of m.0) heard
    → IfOk r (λ trains. trains.items ≡ map (λ (m : Mention × ℕ). m.1) heard)
    → IfOk r (λ trains. AreInOrder first trains.items)
in_order first heard (Ok trains) all sorted are = record { heard = heard; all = all; sorted = sorted; are = are }
in_order first heard (Err why) all sorted are = tt

pub returns : goal.returns
returns c =
    in_order c.args.self.now.first.items c.sort_by_key.new.self.items c.trains_of.result
    (subst (λ (xs : List (Mention × ℕ)). IsPermutation xs c.sort_by_key.new.self.items) c.in_ok-heard.ensures
    c.sort_by_key.ensures.permutation)
    (IsNonDecreasingBy-from_sort_by_key (λ (m : Mention × ℕ). place_of m.0) _ c.in_ok-sort_by_key.ensures.sorted
    (λ a r q k. search rules))
    (subst (λ (xs : List (Mention × ℕ)). IfOk c.trains_of.result
    (λ trains. trains.items ≡ map (λ (m : Mention × ℕ). m.1) xs)) c.deref.ensures.value c.trains_of.ensures)
