use Rattle.std.proofs.Common.{[], ◌+◌, ◌<◌, ◌∙◌, ◌≡◌, ap, Bor, get_or, length, List, map, subst, sym, ℕ}
use Rattle.std.proofs.lemmas.List.{get_or-map, length-map}
use Rattle.text_script.proofs.script.entries_of.Goals as goal
use Rattle.text_script.proofs.Scripts.{Reads, reads_entry, reads_fault, reads_skipped}
use Rattle.text_script.specs.Script.{is_kept, row_asks}

-- the text of a line
row_at : (rows : List (Bor (List ℕ))) (i : ℕ) → i < length rows →
    get_or (map (λ row. row.now) rows) i [] ≡ (get_or rows i (record { ref_ptr = (0, 0); now = [] })).now
row_at rows i h = get_or-map (λ (row : Bor (List ℕ)). row.now) rows i _ [] h

within : (rows : List (Bor (List ℕ))) (i : ℕ) → i < length rows → i < length (map (λ row. row.now) rows)
within rows i h = simp length-map h

pub loop-i-preserved-then-not-is_kept : goal.loop-i-preserved-then-not-is_kept
loop-i-preserved-then-not-is_kept c =
    reads_skipped c.args.line.now _ c.loop-i.i _ (within c.args.rows.now c.loop-i.i c.loop-i-test.true)
    (ap is_kept (row_at c.args.rows.now c.loop-i.i c.loop-i-test.true) ∙ sym c.is_kept.ensures ∙ c.if-not-is_kept.true)
    c.loop-i.invariant

pub returns-in-Err-Form-clause-fault : goal.returns-in-Err-Form-clause-fault
returns-in-Err-Form-clause-fault c =
    reads_fault c.args.line.now _ c.loop-i.i _ (within c.args.rows.now c.loop-i.i c.loop-i-test.true)
    (ap is_kept (row_at c.args.rows.now c.loop-i.i c.loop-i-test.true) ∙ sym c.is_kept.ensures ∙ c.if-not-is_kept.false)
    (ap (row_asks c.args.line.now) (row_at c.args.rows.now c.loop-i.i c.loop-i-test.true)
    ∙ c.in-Err-Form.ensures c.in-Err-Form.field-0-is)
    c.loop-i.invariant

pub loop-i-preserved : goal.loop-i-preserved
loop-i-preserved c =
    subst (Reads c.args.line.now (map (λ row. row.now) c.args.rows.now) (c.loop-i.i + 1))
    (sym c.in_ok-push-in-Ok.ensures.items)
    (reads_entry c.args.line.now _ c.loop-i.i _ c.in-Ok.entry (within c.args.rows.now c.loop-i.i c.loop-i-test.true)
    (ap is_kept (row_at c.args.rows.now c.loop-i.i c.loop-i-test.true) ∙ sym c.is_kept.ensures ∙ c.if-not-is_kept.false)
    (ap (row_asks c.args.line.now) (row_at c.args.rows.now c.loop-i.i c.loop-i-test.true) ∙ c.in-Ok.ensures)
    c.loop-i.invariant)
