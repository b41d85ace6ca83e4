use Rattle.std.proofs.Common.{◌≡◌, rules, ℕ}
use Rattle.std.proofs.lemmas.List.Sorted.{answers_always}
use Rattle.text_journal.proofs.order.in_time_order.Goals as goal
use Rattle.text_journal.proofs.Sorted.{timed}
use Rattle.text_journal.specs.declared.entry.Entry.{Entry}
use Rattle.text_journal.specs.Order.{taken_at, time_of}

pub returns-clause-in_order : goal.returns-clause-in_order
returns-clause-in_order c =
    let key : Entry → ℕ × ℕ × ℕ = λ e. (time_of e, e.stamp, taken_at e) in
    timed c.sort_by_key.new.self.items
    (c.in_ok-sort_by_key.ensures.sorted key (answers_always _ (λ a r. r ≡ key a.0.now) _ (λ f a r f' k. search rules)))
