use Rattle.std.proofs.Common.{◌∙◌, sym}
use Rattle.rbc_node.proofs.Counting.{counted-share}
use Rattle.rbc_node.proofs.counts.count_shares.Goals as goal

pub loop-share-preserved : goal.loop-share-preserved
loop-share-preserved c =
    counted-share c.args.centre c.loop-share.counts.items c.count_share.new.counts.items c.args.shares.now
    c.loop-share.share-index c.share-item.result c.loop-share-test.true (sym c.share-item.is)
    c.count_share.ensures ∙ c.loop-share.invariant
