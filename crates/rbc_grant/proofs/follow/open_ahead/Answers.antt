use Rattle.std.proofs.Common.{◌+◌, arith}
use Rattle.rbc_book.specs.Book.{entry_at}
use Rattle.rbc_grant.proofs.follow.open_ahead.Goals as goal
use Rattle.rbc_line.specs.SectionRuns.{run_of}
use Rattle.rbc_spec.proofs.Runs.{longest_each}
use Rattle.rbc_spec.specs.Centre.{is_open}
use Rattle.rbc_spec.specs.SectionRuns.{next_after}

pub returns : goal.returns
returns c k lt =
    longest_each (λ s. is_open (entry_at c.args.book.now s)) c.next_after-first.result c.args.most
    (next_after (run_of c.args.hand) + k)
    (omega (arith, c.next_after-first.ensures)) (omega (arith, c.next_after-first.ensures, c.open_run.ensures, lt))
