use Rattle.std.proofs.Common.{[], ◌++◌, ◌∙◌, ◌∷◌, ap, arith, List, map, None, refl, Some, subst, sym, ℕ}
use Rattle.std.proofs.lemmas.Bool.{true≢false}
use Rattle.std.proofs.lemmas.Str.Pattern.{split_parts}
use Rattle.text_journal.proofs.Entries.{foreign_row, foreign_start, found_torn, is_true, one_beginning, only_torn}
use Rattle.text_journal.proofs.Entries.{refused_torn, true_is}
use Rattle.text_journal.proofs.Letters.{lacks_from}
use Rattle.text_journal.proofs.reading.read_journal.Goals as goal
use Rattle.text_journal.specs.Reading.{Begins, early, noted_of}

pub returns-then-branch-clause-found : goal.returns-then-branch-clause-found
returns-then-branch-clause-found c =
    let cut =
    split_parts 10 c.args.text.now (Some (c.in-Some.row, c.in-Some.rest)) c.in-Some.ensures.cases (omega arith) in
    let first =
    c.in_ok-is_first_line-in-Some.ensures.0 (true_is c.in_ok-is_first_line-in-Some.field-0 c.if-branch.true) in
    found_torn first.0 c.args.line.now c.args.centre c.args.file.now c.args.text.now c.in-Some.rest.now
    c.entries_in.result
    (cut.0 ∙ ap (λ (t : List ℕ). t ++ 10 ∷ c.in-Some.rest.now) first.1) c.entries_in.ensures.found

pub returns-then-branch-clause-only : goal.returns-then-branch-clause-only
returns-then-branch-clause-only c =
    let cut =
    split_parts 10 c.args.text.now (Some (c.in-Some.row, c.in-Some.rest)) c.in-Some.ensures.cases (omega arith) in
    let first =
    c.in_ok-is_first_line-in-Some.ensures.0 (true_is c.in_ok-is_first_line-in-Some.field-0 c.if-branch.true) in
    only_torn first.0 c.args.line.now c.known_line.ensures c.args.centre c.args.file.now c.args.text.now
    c.in-Some.rest.now
    c.entries_in.result c.requires
    (cut.0 ∙ ap (λ (t : List ℕ). t ++ 10 ∷ c.in-Some.rest.now) first.1) c.entries_in.ensures.found

pub returns-then-branch-clause-refused : goal.returns-then-branch-clause-refused
returns-then-branch-clause-refused c =
    let cut =
    split_parts 10 c.args.text.now (Some (c.in-Some.row, c.in-Some.rest)) c.in-Some.ensures.cases (omega arith) in
    let first =
    c.in_ok-is_first_line-in-Some.ensures.0 (true_is c.in_ok-is_first_line-in-Some.field-0 c.if-branch.true) in
    refused_torn first.0 c.args.line.now c.known_line.ensures c.args.centre c.args.file.now c.args.text.now
    c.in-Some.rest.now c.entries_in.result c.requires
    (cut.0 ∙ ap (λ (t : List ℕ). t ++ 10 ∷ c.in-Some.rest.now) first.1) c.entries_in.ensures.refused

pub returns-else-branch-clause-refused : goal.returns-else-branch-clause-refused
returns-else-branch-clause-refused c =
    let cut =
    split_parts 10 c.args.text.now (Some (c.in-Some.row, c.in-Some.rest)) c.in-Some.ensures.cases (omega arith) in
    λ _ v es k. foreign_row c.args.line.now c.known_line.ensures c.args.centre c.args.file.now c.args.text.now
    c.in-Some.row.now c.in-Some.rest.now c.requires cut.0 (lacks_from 10 c.in-Some.row.now cut.1)
    (λ w same.
    true≢false
    (sym (is_true c.in_ok-is_first_line-in-Some.field-0 (c.in_ok-is_first_line-in-Some.ensures.1 (w, same)))
    ∙ c.if-branch.false))
    v es k

pub returns-then-branch-2-clause-found : goal.returns-then-branch-2-clause-found
returns-then-branch-2-clause-found c =
    let front =
    c.in_ok-begins_first_line-in-None.ensures.0
    (true_is c.in_ok-begins_first_line-in-None.field-0 c.if-branch-2.true) in
    let begins : Begins front.0 c.args.line.now c.args.centre c.args.file.now c.args.text.now [] =
    early front.1 front.2 refl in (
      front.0,
      subst (Begins front.0 c.args.line.now c.args.centre c.args.file.now c.args.text.now) (sym c.new.ensures.items)
          begins,
    )

pub returns-then-branch-2-clause-only : goal.returns-then-branch-2-clause-only
returns-then-branch-2-clause-only c = λ v es k.
    let front =
    c.in_ok-begins_first_line-in-None.ensures.0
    (true_is c.in_ok-begins_first_line-in-None.field-0 c.if-branch-2.true) in
    let begins : Begins front.0 c.args.line.now c.args.centre c.args.file.now c.args.text.now [] =
    early front.1 front.2 refl in
    ap (map noted_of) c.new.ensures.items
    ∙ one_beginning front.0 v c.args.line.now c.known_line.ensures c.args.centre c.args.file.now c.args.text.now [] es
    c.requires begins k

pub returns-else-branch-2-clause-refused : goal.returns-else-branch-2-clause-refused
returns-else-branch-2-clause-refused c = λ _ v es k.
    foreign_start c.args.line.now c.args.centre c.args.file.now c.args.text.now
    (lacks_from 10 c.args.text.now (split_parts 10 c.args.text.now None c.in-None.ensures.cases (omega arith)))
    (λ w n same.
    true≢false
    (sym (is_true c.in_ok-begins_first_line-in-None.field-0
    (c.in_ok-begins_first_line-in-None.ensures.1 (w, n, same))) ∙ c.if-branch-2.false))
    v es k
