-- a step was refused after the print of all entries before its event
use Rattle.cli_commands.proofs.Refusals.{leaves_refused}
use Rattle.cli_commands.proofs.run.run_script.Goals as goal

pub returns-in-Err-Refused : goal.returns-in-Err-Refused
returns-in-Err-Refused g c =
    leaves_refused _ (g.F.Files.may_give c.args.files.now) c.args.file.now c.args.script.now c.in_ok-line.line
    c.in_ok-entries.entries.items
    (g.O.Write.contents c.args.out.now) (g.O.Write.contents c.print_buffered.new.out) c.deref.result.now
    c.in-Err-Refused.field-0 c.in-Err-Refused.fault
    c.deref.ensures.value c.in-Err-Refused.field-0-is
    c.in_ok-line.ensures.line c.in_ok-entries.ensures.entries c.in-Err-Refused.ensures
