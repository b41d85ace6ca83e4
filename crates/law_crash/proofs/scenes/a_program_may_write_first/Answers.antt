use Rattle.std.proofs.Common.{arith}
use Rattle.law_crash.proofs.Played.{goes_on_follows, later_begins, writes_begins}
use Rattle.law_crash.proofs.scenes.a_program_may_write_first.Goals as goal

pub returns-clause-crash : goal.returns-clause-crash
returns-clause-crash c = (writes_begins, (λ d. omega arith), (goes_on_follows, (λ d. omega arith), tt))

pub returns-clause-frames : goal.returns-clause-frames
returns-clause-frames c = (later_begins, (λ d. omega arith), tt)
