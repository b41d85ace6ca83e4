use Rattle.std.proofs.Common.{ap, map}
use Rattle.rbc_world.specs.rbc_centre.Views.{outcome_of}
use Rattle.rbc_world.specs.rbc_train.Sayings.{saying_of}
use Rattle.text_script.proofs.print.outcome.print_outcome.Goals as goal
use Rattle.text_script.proofs.PrintLemmas.After.{whole_outcome}

pub returns : goal.returns
returns g c =
    whole_outcome _ _ _ _ _ _ c.args.line.now c.args.centre.now (outcome_of c.args.outcome.now)
    (map saying_of c.as_slice.result.now) (ap (map saying_of) c.as_slice.ensures.value)
    c.in_ok-print_sayings.ensures c.in_ok-print_all_frames.ensures c.in_ok-print_words.ensures c.print_remark.ensures
