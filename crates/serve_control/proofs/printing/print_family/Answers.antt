use Rattle.std.proofs.Common.{List, subst}
use Rattle.rbc_log.specs.declared.entry.Entry.{Entry}
use Rattle.rbc_log.specs.Log.{LogValue}
use Rattle.rbc_log.specs.Merge.{IsMerged, MakesOneRun}
use Rattle.serve_control.proofs.printing.print_family.Goals as goal
use Rattle.serve_control.specs.Prints.{IsPrintOfEntries}

pub returns : goal.returns
returns g c =
    let all = c.in_ok-entries.entries.items in
    let wrote = c.in_ok-print_entries.ensures in (
      wrote.0,
      record {
        entries = all;
        merged =
            subst (λ (logs : List LogValue). IsMerged logs all) c.logs.ensures.value c.in_ok-entries.ensures.merged;
        run =
            subst (λ (logs : List LogValue). MakesOneRun logs all) c.logs.ensures.value c.in_ok-entries.ensures.run;
        print =
            subst (λ (es : List Entry). IsPrintOfEntries c.args.line.now es wrote.0) c.deref.ensures.value wrote.1;
      },
      wrote.2,
    )
