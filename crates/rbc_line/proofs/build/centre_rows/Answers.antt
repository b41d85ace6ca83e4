use Rattle.std.proofs.Common.{◌||◌, not}
use Rattle.rbc_line.proofs.build.centre_rows.Goals as goal
use Rattle.rbc_line.proofs.BuildSteps.{first_fails, item_fails}
use Rattle.rbc_line.specs.DraftViews.{centre_view}
use Rattle.rbc_line.specs.Faults.{is_name, is_outside}

pub nid_rbc_of-nid_rbc-requires : goal.nid_rbc_of-nid_rbc-requires
nid_rbc_of-nid_rbc-requires c =
    first_fails _ _
    (item_fails centre_view (λ p. is_outside 0 16382 p.nid_rbc || not (is_name p.name)) c.args.draft.now.centres.items
    c.as_slice-centres.result.now c.loop-centre.centre-index _ c.as_slice-centres.ensures.value c.requires.centre_values
    c.loop-centre-test.true)
