use Rattle.std.proofs.Common.{◌<◌, ◌∙◌, ◌≡◌, ap, arith, IsPermutation, length, List, map, rules, subst, sym, ℕ}
use Rattle.std.proofs.lemmas.List.{length-map}
use Rattle.std.proofs.lemmas.List.Sorted.{answers_always, IsPermutation-map}
use Rattle.rbc_log.proofs.Copied.{on_err}
use Rattle.rbc_log.proofs.Merged.{ordered}
use Rattle.rbc_log.proofs.merging.in_order.Goals as goal
use Rattle.rbc_log.specs.declared.entry.Entry.{Entry}
use Rattle.rbc_log.specs.Entries.{Written, written_of}
use Rattle.rbc_log.specs.Merge.{all_entries}

pub returns-clause-once : goal.returns-clause-once
returns-clause-once c =
    subst (λ (ws : List Written). IsPermutation ws (map written_of c.sort_by_key.new.self.items))
    c.in_ok-all.ensures.entries
    (IsPermutation-map written_of c.in_ok-all.all.items c.sort_by_key.new.self.items
    c.in_ok-sort_by_key.ensures.permutation)

pub returns-clause-in_order : goal.returns-clause-in_order
returns-clause-in_order c =
    let key : Entry → ℕ × ℕ = λ e. (e.outcome.stamp, e.centre) in
    ordered c.sort_by_key.new.self.items
    (c.in_ok-sort_by_key.ensures.sorted key (answers_always _ (λ a r. r ≡ key a.0.now) _ (λ f a r f' k. search rules)))

pub returns-in_err-sort_by_key-clause-memory : goal.returns-in_err-sort_by_key-clause-memory
returns-in_err-sort_by_key-clause-memory c =
    let all = c.in_ok-all.all.items in
    let whole = all_entries (map (λ l. l.now) c.args.logs.now) in
    let same : length all ≡ length whole =
    sym (length-map all written_of) ∙ ap length c.in_ok-all.ensures.entries ∙ length-map whole written_of in
    let many : 20 < length all = search rules in
    on_err c.from_residual-in_err-sort_by_key.result (omega (arith, same, many))
