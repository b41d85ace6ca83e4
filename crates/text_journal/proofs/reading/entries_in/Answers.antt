use Rattle.std.proofs.Common.{arith, None, Some}
use Rattle.std.proofs.lemmas.Str.Pattern.{split_parts}
use Rattle.text_journal.proofs.Entries.{stuck}
use Rattle.text_journal.proofs.Letters.{lacks_from}
use Rattle.text_journal.proofs.reading.entries_in.Goals as goal

pub returns-clause-found : goal.returns-clause-found
returns-clause-found c =
    let reads = c.loop-row.invariant.1 in
    record {
      rest = c.loop-row.rest.now;
      each = reads.each;
      unended = lacks_from 10 _ (split_parts 10 c.loop-row.rest.now None c.in_default.ensures.cases (omega arith));
      whole = reads.whole;
    }

pub returns-in-Err-Form-clause-refused : goal.returns-in-Err-Form-clause-refused
returns-in-Err-Form-clause-refused c = λ _.
    let cut = split_parts 10 c.loop-row.rest.now (Some (c.in-Some.row, c.in-Some.others)) c.in-Some.ensures.cases
    (omega arith) in
    stuck c.args.line.now c.requires.line c.args.centre c.args.text.now c.loop-row.entries.items c.loop-row.rest.now
    c.in-Some.row.now c.in-Some.others.now c.loop-row.invariant.1
    cut.0 (lacks_from 10 _ cut.1) (c.in-Err-Form.ensures c.in-Err-Form.field-0-is)
