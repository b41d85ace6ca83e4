use Rattle.std.proofs.Common.{rules}
use Rattle.serve_line.proofs.journaling.keeping.JournalWriter.write_next.Goals as goal

pub returns-clause-ok : goal.returns-clause-ok
returns-clause-ok g c = record {
  log = c.in-Ok.ensures.0;
  its = c.in-Ok.ensures.1;
  entries = c.in-Ok.entries.items;
  notes = c.in-Ok.ensures.2;
  counted = search rules;
  bytes = search rules;
}
