use Rattle.std.proofs.Common.{◌∙◌, ◌≡◌, arith, false, refl, sym, true}
use Rattle.rbc_node.proofs.Gathered.{all_more, all_of, not_all}
use Rattle.rbc_node.proofs.gathering.are_there.Goals as goal
use Rattle.rbc_node.specs.Receipts.{Has}

pub loop-receipt-preserved : goal.loop-receipt-preserved
loop-receipt-preserved c =
    all_more (Has c.args.entries.now) c.args.receipts.now c.loop-receipt.receipt-index c.receipt-item.result
    c.loop-receipt-test.true c.receipt-item.is c.loop-receipt.invariant (c.is_in.ensures.0 c.if-not-is_in.false)

pub returns-then-not-is_in : goal.returns-then-not-is_in
returns-then-not-is_in c = (
  λ h. absurd cc,
  λ h. absurd (not_all (Has c.args.entries.now) c.args.receipts.now c.loop-receipt.receipt-index c.receipt-item.result
      c.loop-receipt-test.true c.receipt-item.is
      (λ has. let wrong : true ≡ false = sym (c.is_in.ensures.1 has) ∙ c.if-not-is_in.true in absurd cc) h),
)

pub returns : goal.returns
returns c = (
  λ _. all_of (Has c.args.entries.now) c.args.receipts.now c.loop-receipt.receipt-index
      (omega (arith, c.loop-receipt-test.false)) c.loop-receipt.invariant,
  λ _. refl,
)
