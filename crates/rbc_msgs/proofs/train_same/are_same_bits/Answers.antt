use Rattle.std.proofs.Common.{arith, refl}
use Rattle.rbc_msgs.proofs.SameBits.{one-differs, one-more, shorter}
use Rattle.rbc_msgs.proofs.train_same.are_same_bits.Goals as goal

pub returns-then-word : goal.returns-then-word
returns-then-word c =
    let no =
    one-differs _ _ _ _ c.word.new.reader c.word-in-loop-a.new.reader _ _ c.word.result c.word-in-loop-a.result
    c.loop-a.invariant refl refl c.word.ensures.taken c.word-in-loop-a.ensures.taken c.word.ensures.fits
    c.word-in-loop-a.ensures.fits c.if-word.true in
    ((λ t. cc t), λ e. absurd (no e))

pub loop-a-smaller : goal.loop-a-smaller
loop-a-smaller c =
    shorter _ _ _ _ refl c.word.ensures.taken (omega (arith, c.loop-a-test.true, c.remaining-in-loop-a.ensures))

pub loop-a-preserved : goal.loop-a-preserved
loop-a-preserved c =
    one-more _ _ _ _ c.word.new.reader c.word-in-loop-a.new.reader _ _ c.word.result c.word-in-loop-a.result
    c.loop-a.invariant refl refl c.word.ensures.taken c.word-in-loop-a.ensures.taken c.word.ensures.fits
    c.word-in-loop-a.ensures.fits c.if-word.false
