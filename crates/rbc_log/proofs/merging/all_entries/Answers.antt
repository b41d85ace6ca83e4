use Rattle.std.proofs.Common.{◌++◌, ◌<◌, ◌∙◌, ap, length, List, map, subst}
use Rattle.rbc_log.proofs.Copied.{copied_more, each_more, on_err, some_entry}
use Rattle.rbc_log.proofs.merging.all_entries.Goals as goal
use Rattle.rbc_log.specs.declared.entry.Entry.{Entry}
use Rattle.rbc_log.specs.Entries.{written_of}
use Rattle.rbc_log.specs.Log.{IsReplaying}

pub loop-log-preserved : goal.loop-log-preserved
loop-log-preserved c =
    let logs = c.args.logs.now in
    let i = c.loop-log.log-index in
    let log = c.log-item.result in (
      copied_more logs (λ r. r.now) i log c.loop-log-test.true c.log-item.is c.loop-log.all.items
          c.add_entries.new.all.items c.loop-log.invariant.0
          (c.in_ok-add_entries.ensures.entries ∙ ap (λ es. map written_of c.loop-log.all.items ++ map written_of es)
          c.entries.ensures.value),
      each_more logs (λ r. r.now) i log c.loop-log-test.true c.log-item.is IsReplaying c.loop-log.invariant.1
          c.entries.ensures.replays,
    )

pub returns-in_err-add_entries-clause-memory : goal.returns-in_err-add_entries-clause-memory
returns-in_err-add_entries-clause-memory c =
    let logs = c.args.logs.now in
    on_err c.from_residual.result
    (some_entry logs (λ r. r.now) c.loop-log.log-index c.log-item.result c.loop-log-test.true c.log-item.is
    (subst (λ (es : List Entry). 0 < length es) c.entries.ensures.value c.in_err-add_entries.ensures.memory))
