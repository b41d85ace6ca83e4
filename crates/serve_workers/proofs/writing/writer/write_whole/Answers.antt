use Rattle.std.proofs.Common.{◌-◌, ap, arith, drop, length, length-drop, length-take, sym, take}
use Rattle.std.proofs.lemmas.List.{take_rest}
use Rattle.std.proofs.Math.Seq.{take-add}
use Rattle.serve_workers.proofs.writing.writer.write_whole.Goals as goal
use Rattle.serve_workers.proofs.WritingLemmas.Written.{Appends-same, Appends-trans}

pub loop-sent-preserved : goal.loop-sent-preserved
loop-sent-preserved g c =
    let before = c.loop-sent.invariant in
    let bound = c.in_ok-count.ensures.bound in
    let wrote = c.in_ok-count.ensures.ok in (
      let e = length-take (length c.args.bytes.now - c.loop-sent.sent)
          (drop c.loop-sent.sent c.args.bytes.now) in let d = length-drop c.loop-sent.sent c.args.bytes.now in
          omega arith,
      Appends-same _ _ _ _ (sym (take-add c.loop-sent.sent c.in_ok-count.count c.args.bytes.now))
          (Appends-trans _ _ _ _ _ before.1
          (Appends-same _ _ _ _ (ap (take c.in_ok-count.count) (take_rest c.args.bytes.now c.loop-sent.sent)) wrote)),
    )
