use Rattle.std.proofs.Common.{◌++◌, arith}
use Rattle.std.proofs.lemmas.Result.{err_from_is_err_and}
use Rattle.rbc_msgs.proofs.stream_reading.read_on.Goals as goal
use Rattle.rbc_msgs.proofs.Streams.{adds-on, halts-at-end, halts-on, kept-end, none-there}

pub returns-in_err-used-2-clause-fault : goal.returns-in_err-used-2-clause-fault
returns-in_err-used-2-clause-fault c =
    let p = err_from_is_err_and c.from_residual-in_err-used-2.result c.from_residual-in_err-used-2.ensures.1 in
    let none = none-there c.complete.new.rest.items _ _ c.is_empty.ensures c.if-not-is_empty.false (omega arith) in
    rw (p.1, p.2)
    (halts-on c.args.out.now.items c.complete.new.out.items c.read_whole.new.out.items c.args.rest.now.items
    c.args.piece.now c.complete.new.rest.items c.in_ok-used.used c.in_err-used-2.field-0.0
    none c.in_ok-used.ensures.read c.in_err-used-2.ensures.fault)

pub returns-in_err-keep-clause-fault : goal.returns-in_err-keep-clause-fault
returns-in_err-keep-clause-fault c =
    let p = err_from_is_err_and c.from_residual-in_err-keep.result c.from_residual-in_err-keep.ensures.1 in
    let none = none-there c.complete.new.rest.items _ _ c.is_empty.ensures c.if-not-is_empty.false (omega arith) in
    rw (p.1, p.2) (halts-at-end c.args.out.now.items c.read_whole.new.out.items _ _ c.in_err-keep.field-0.0
    (adds-on c.args.out.now.items c.complete.new.out.items c.read_whole.new.out.items c.args.rest.now.items
    c.args.piece.now c.complete.new.rest.items _ c.in_ok-used.used none c.in_ok-used.ensures.read
    c.in_ok-used-2.ensures.read)
    c.in_err-keep.ensures.memory)

pub returns-clause-read : goal.returns-clause-read
returns-clause-read c =
    let none = none-there c.complete.new.rest.items _ _ c.is_empty.ensures c.if-not-is_empty.false (omega arith) in
    let all =
    adds-on c.args.out.now.items c.complete.new.out.items c.read_whole.new.out.items c.args.rest.now.items
    c.args.piece.now c.complete.new.rest.items _ c.in_ok-used.used none c.in_ok-used.ensures.read
    c.in_ok-used-2.ensures.read in
    kept-end c.args.out.now.items c.read_whole.new.out.items
    (c.args.rest.now.items ++ c.args.piece.now) _ c.complete.new.rest.items c.keep.new.rest.items c.in_ok-used-2.used
    none c.in_ok-keep.ensures.kept all
