use Rattle.std.proofs.Common.{arith, length-drop}
use Rattle.rbc_msgs.proofs.stream_reading.read_whole.Goals as goal
use Rattle.rbc_msgs.proofs.Streams.{adds-next, length-end}

pub loop-needed-preserved : goal.loop-needed-preserved
loop-needed-preserved c =
    let m = c.in_ok-read_one.ensures.read in
    record {
      within =
          omega (
            arith,
            c.if-rest-needed.false,
            length-end c.loop-needed.used c.args.bytes.now,
            length-drop c.loop-needed.used c.args.bytes.now,
          );
      read =
          adds-next c.args.out.now.items c.loop-needed.out.items c.read_one.new.out.items c.args.bytes.now
          c.loop-needed.used c.in_ok-needed.needed m.0 c.loop-needed.invariant.read m.1 m.2;
    }
