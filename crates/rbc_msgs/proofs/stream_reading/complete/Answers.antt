use Rattle.std.proofs.Common.{◌∙◌, ap, arith, inr, sym}
use Rattle.std.proofs.lemmas.Result.{err_from_is_err_and}
use Rattle.rbc_msgs.proofs.stream_reading.complete.Goals as goal
use Rattle.rbc_msgs.proofs.Streams.{adds-whole, halts-early, halts-memory, halts-whole, length-end, rest-on, taken-end}
use Rattle.rbc_msgs.specs.Streams.{needed_at}
use Rattle.rbc_msgs.specs.TrainReading.{read_train}
use Rattle.rbc_msgs.specs.TrainSpelling.{SpellsTrain}

pub returns-in_err-first-clause-fault : goal.returns-in_err-first-clause-fault
returns-in_err-first-clause-fault c =
    let p = err_from_is_err_and c.from_residual.result c.from_residual.ensures.1 in
    rw (p.1, p.2) (halts-memory _ _ _ c.in_err-first.ensures.memory)

pub returns-in_err-needed-clause-fault : goal.returns-in_err-needed-clause-fault
returns-in_err-needed-clause-fault c =
    let p = err_from_is_err_and c.from_residual-in_err-needed.result c.from_residual-in_err-needed.ensures.1 in
    rw (p.1, p.2)
    (halts-early c.args.out.now.items c.args.rest.now.items c.args.piece.now c.extend_to.new.rest.items
    c.in_ok-first.first c.in_err-needed.field-0.0 c.in_ok-first.ensures.taken
    (ap needed_at (sym c.deref.ensures.value) ∙ sym c.in_err-needed.ensures.exact))

pub returns-in_err-used-clause-fault : goal.returns-in_err-used-clause-fault
returns-in_err-used-clause-fault c =
    let p = err_from_is_err_and c.from_residual-in_err-used.result c.from_residual-in_err-used.ensures.1 in
    rw (p.1, p.2) (halts-memory _ _ _ c.in_err-used.ensures.memory)

pub returns-in_err-read_one-clause-fault : goal.returns-in_err-read_one-clause-fault
returns-in_err-read_one-clause-fault c =
    let p = err_from_is_err_and c.from_residual-in_err-read_one.result c.from_residual-in_err-read_one.ensures.1 in
    let piece = c.args.piece.now in
    let r1 = c.extend_to.new.rest.items in
    let r2 = c.extend_to-2.new.rest.items in
    rw (p.1, p.2)
    (halts-whole c.args.out.now.items c.read_one.new.out.items c.args.rest.now.items piece r1 r2 c.in_ok-first.first
    c.in_ok-used.field-0 c.in_ok-needed.needed c.in_err-read_one.field-0.0 c.in_ok-first.ensures.taken
    (taken-end c.in_ok-first.first c.in_ok-used.field-0 piece r1 r2 c.in_ok-used.ensures.taken)
    c.in_ok-first.ensures.enough (ap needed_at (sym c.deref.ensures.value) ∙ sym c.in_ok-needed.ensures.exact)
    (omega (arith, c.len.ensures, c.if-len-needed.true)) c.in_err-read_one.ensures.err
    (λ ne. ap read_train (sym c.deref-then-len-needed.ensures.value) ∙ c.in_err-read_one.ensures.fault ne))

pub returns-in_ok-read_one-clause-read : goal.returns-in_ok-read_one-clause-read
returns-in_ok-read_one-clause-read c =
    let m = c.in_ok-read_one.ensures.read in
    let piece = c.args.piece.now in
    let r1 = c.extend_to.new.rest.items in
    let r2 = c.extend_to-2.new.rest.items in
    let spelled : SpellsTrain r2 m.0 = rw (← c.deref-then-len-needed.ensures.value) m.2 in
    adds-whole c.args.out.now.items c.read_one.new.out.items c.args.rest.now.items piece r1 r2 c.clear.new.self.items
    c.in_ok-first.first c.in_ok-used.field-0 m.0 c.in_ok-first.ensures.taken
    (taken-end c.in_ok-first.first c.in_ok-used.field-0 piece r1 r2 c.in_ok-used.ensures.taken)
    m.1 spelled c.clear.ensures.items

pub returns-else-len-needed-clause-ends : goal.returns-else-len-needed-clause-ends
returns-else-len-needed-clause-ends c =
    let piece = c.args.piece.now in
    let r1 = c.extend_to.new.rest.items in
    let r2 = c.extend_to-2.new.rest.items in
    let same = length-end c.in_ok-first.first piece in
    let enough = c.in_ok-used.ensures.enough in
    inr (rest-on c.args.rest.now.items piece r1 r2 c.in_ok-first.first c.in_ok-used.field-0 c.in_ok-needed.needed
    c.requires c.in_ok-first.ensures.taken
    (taken-end c.in_ok-first.first c.in_ok-used.field-0 piece r1 r2 c.in_ok-used.ensures.taken)
    c.in_ok-first.ensures.within c.in_ok-first.ensures.enough c.in_ok-first.ensures.no_more
    (ap needed_at (sym c.deref.ensures.value) ∙ sym c.in_ok-needed.ensures.exact)
    (λ h. enough h ∙ same) c.in_ok-used.ensures.no_more (λ h. c.if-len-needed.false (omega (arith, c.len.ensures, h))))
