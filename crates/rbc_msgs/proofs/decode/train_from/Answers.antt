use Rattle.std.proofs.Common.{◌∙◌, arith, sym}
use Rattle.std.proofs.lemmas.Result.{err_from_is_err_and}
use Rattle.rbc_msgs.proofs.decode.train_from.Goals as goal
use Rattle.rbc_msgs.proofs.Further.{its-packets, their-numbers}
use Rattle.rbc_msgs.proofs.Kept.{keeps-after, keeps-data}
use Rattle.rbc_msgs.proofs.TrainLaws.{spells}
use Rattle.rbc_msgs.specs.TrainReading.{read_train}

pub new-requires-clause-packets : goal.new-requires-clause-packets
new-requires-clause-packets c = its-packets c.in_ok-body.body c.in_ok-body.ensures.fits

pub new-requires-clause-further : goal.new-requires-clause-further
new-requires-clause-further c = their-numbers c.in_ok-further.further c.in_ok-further.ensures.fits

pub returns-clause-found : goal.returns-clause-found
returns-clause-found c =
    let start = c.in_ok-reader.ensures.taken in
    rw c.new.ensures
    (spells c.args.bytes.now _ c.in_ok-number.number c.in_ok-number.l_message start.0 c.in_ok-reader.reader
    c.take_time.new.reader c.take.new.reader c.read_body.new.reader c.read_further.new.reader
    (sym (c.in_ok-body.ensures.number ∙ c.in_ok-number-2.ensures.value))
    c.in_ok-reader.ensures.length c.in_ok-number.ensures.taken start.1
    c.in_ok-t_train.ensures.taken c.in_ok-nid_engine.ensures.taken c.in_ok-body.ensures.taken
    c.in_ok-further.ensures.taken c.in_ok-end.ensures.filling
    (omega (arith, c.in_ok-reader.ensures.length, c.in_ok-number.ensures.length))
    (record {
      t_train = c.in_ok-t_train.ensures.known;
      nid_engine = c.in_ok-nid_engine.ensures.fits;
      body = c.in_ok-body.ensures.fits;
      further = c.in_ok-further.ensures.fits;
    }))

pub returns-in_err-body-clause-memory : goal.returns-in_err-body-clause-memory
unfolding read_train
returns-in_err-body-clause-memory c =
    let p = err_from_is_err_and c.from_residual-in_err-body.result c.from_residual-in_err-body.ensures.1 in
    rw (p.1, p.2)
    (λ e. rw (
      sym c.in_ok-number.ensures.exact,
      sym c.in_ok-number-2.ensures.exact,
      sym c.least_length.ensures,
      sym c.in_ok-reader.ensures.exact,
      c.in_ok-t_train.ensures.exact,
      c.in_ok-nid_engine.ensures.exact,
    )
    (keeps-data _ _ _ (c.in_err-body.ensures.memory e)))

pub returns-in_err-further-clause-memory : goal.returns-in_err-further-clause-memory
unfolding read_train
returns-in_err-further-clause-memory c =
    let p = err_from_is_err_and c.from_residual-in_err-further.result c.from_residual-in_err-further.ensures.1 in
    rw (p.1, p.2)
    (λ e. rw (
      sym c.in_ok-number.ensures.exact,
      sym c.in_ok-number-2.ensures.exact,
      sym c.least_length.ensures,
      sym c.in_ok-reader.ensures.exact,
      c.in_ok-t_train.ensures.exact,
      c.in_ok-nid_engine.ensures.exact,
      c.in_ok-body.ensures.exact,
    )
    (keeps-after _ _ _ _ (c.in_err-further.ensures.memory e)))
