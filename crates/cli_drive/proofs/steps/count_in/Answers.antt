use Rattle.std.proofs.Common.{rules, tests}
use Rattle.std.specs.declared.num.ParseIntError.{ParseIntError}
use Rattle.cli_drive.proofs.Reading.{number_of-Err, number_of-Ok}
use Rattle.cli_drive.proofs.steps.count_in.Goals as goal

pub returns-in-Ok : goal.returns-in-Ok
returns-in-Ok c =
    number_of-Ok ParseIntError c.args.word.now c.in-Ok.number c.in-Ok.ensures.value.0 (λ plus. search (rules, tests))

pub returns-in-Err : goal.returns-in-Err
returns-in-Err c e =
    number_of-Err ParseIntError c.args.word.now c.in-Err.field-0 c.in-Err.ensures.value.0
    (λ plus. search (rules, tests))
