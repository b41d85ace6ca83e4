use Rattle.std.proofs.Common.{◌-◌, ◌<◌, ◌∙◌, ◌≡◌, ◌≤◌, ap, arith, get_or, length, rules, tests}
use Rattle.std.proofs.lemmas.List.{get_or-map}
use Rattle.std.specs.Prelude.{slice_index}
use Rattle.text_journal.proofs.rising.first_fallen.Goals as goal
use Rattle.text_journal.proofs.Sorted.{rises_more}
use Rattle.text_journal.specs.declared.entry.Entry.{Entry}
use Rattle.text_journal.specs.Order.{stamps_of}

pub loop-at-preserved : goal.loop-at-preserved
loop-at-preserved c =
    let es = c.args.entries.now in
    let at = c.loop-at.at in
    let now = c.index-entries-at.result in
    let before = c.index-entries-at-in-loop-at.result in
    let some : 1 ≤ at = search rules in
    let low : at < length es = search rules in
    let is_now : get_or es at now ≡ now = search rules in
    let is_before : get_or es (at - 1) before ≡ before = search rules in
    let stamp_now : slice_index (stamps_of es) at ≡ now.stamp =
    get_or-map (λ (e : Entry). e.stamp) es at now 0 low ∙ ap (λ (e : Entry). e.stamp) is_now in
    let stamp_before : slice_index (stamps_of es) (at - 1) ≡ before.stamp =
    get_or-map (λ (e : Entry). e.stamp) es (at - 1) before 0 (omega (arith, low))
    ∙ ap (λ (e : Entry). e.stamp) is_before in
    let less : before.stamp < now.stamp = search (rules, tests) in
    rises_more (stamps_of es) at some (omega (arith, stamp_now, stamp_before, less)) c.loop-at.invariant
