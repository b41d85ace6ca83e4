use Rattle.rbc_allocation.proofs.Marks.{around_is}
use Rattle.rbc_allocation.proofs.sections.wished_around.Goals as goal

pub returns : goal.returns
returns c =
    around_is c.args.nid_engine c.args.sections.first c.args.cleared c.args.keep c.args.sections.count
    c.marks_on-front.result c.no_marks_on-kept.result c.marks_on-marks.result c.args.book.now c.of.result
    c.of.ensures c.marks_on-front.ensures.value c.no_marks_on-kept.ensures.value c.marks_on-marks.ensures.value
