use Rattle.std.proofs.Common.{◌≡◌, IsPermutation, List, rules, subst, ℕ}
use Rattle.std.proofs.lemmas.List.Sorted.{answers_always}
use Rattle.text_journal.proofs.order.in_order.Goals as goal
use Rattle.text_journal.proofs.Sorted.{ordered}
use Rattle.text_journal.specs.declared.entry.Entry.{Entry}
use Rattle.text_journal.specs.Order.{taken_at}

pub returns-clause-once : goal.returns-clause-once
returns-clause-once c =
    subst (λ (es : List Entry). IsPermutation es c.sort_by_key.new.self.items) c.in_ok-all.ensures
    c.in_ok-sort_by_key.ensures.permutation

pub returns-clause-in_order : goal.returns-clause-in_order
returns-clause-in_order c =
    let key : Entry → ℕ × ℕ = λ e. (e.stamp, taken_at e) in
    ordered c.sort_by_key.new.self.items
    (c.in_ok-sort_by_key.ensures.sorted key (answers_always _ (λ a r. r ≡ key a.0.now) _ (λ f a r f' k. search rules)))
