use Rattle.std.proofs.Common.{◌∙◌, arith, codes, inl, inr, refl, sym}
use Rattle.std.proofs.lemmas.Bool.{true≢false}
use Rattle.cli_commands.proofs.script_faults.fault_of_blanks.Goals as goal
use Rattle.cli_commands.proofs.RowFaultLemmas.{begins_not, begins_text, holds_char, holds_text, lacks_char}
use Rattle.cli_commands.proofs.RowFaultLemmas.{lacks_text, one_return, one_tab}

pub returns-then-contains : goal.returns-then-contains
returns-then-contains c = inl (holds_char 13 _ one_return c.if-contains.ensures.cases, refl)

pub returns-then-contains-2 : goal.returns-then-contains-2
returns-then-contains-2 c =
    inr (
      lacks_char 13 _ (omega arith) c.if-contains.ensures.cases,
      inl (holds_char 9 _ one_tab c.if-contains-2.ensures.cases, refl),
    )

pub returns-then-starts_with : goal.returns-then-starts_with
returns-then-starts_with c =
    inr (
      lacks_char 13 _ (omega arith) c.if-contains.ensures.cases,
      inr (
        lacks_char 9 _ (omega arith) c.if-contains-2.ensures.cases,
        inl (begins_text (codes "> ") _ c.if-starts_with.ensures.cases, refl),
      ),
    )

pub returns-then-contains-3 : goal.returns-then-contains-3
returns-then-contains-3 c =
    inr (
      lacks_char 13 _ (omega arith) c.if-contains.ensures.cases,
      inr (
        lacks_char 9 _ (omega arith) c.if-contains-2.ensures.cases,
        inr (
          begins_not (codes "> ") _ c.if-starts_with.ensures.cases,
          inl (holds_text (codes " #") _ c.if-contains-3.ensures.cases, refl),
        ),
      ),
    )

pub returns-then-has_blank : goal.returns-then-has_blank
returns-then-has_blank c =
    inr (
      lacks_char 13 _ (omega arith) c.if-contains.ensures.cases,
      inr (
        lacks_char 9 _ (omega arith) c.if-contains-2.ensures.cases,
        inr (
          begins_not (codes "> ") _ c.if-starts_with.ensures.cases,
          inr (
            lacks_text (codes " #") _ c.if-contains-3.ensures.cases,
            inl (c.has_blank.ensures.0 c.if-has_blank.true, refl),
          ),
        ),
      ),
    )

pub returns-else-has_blank : goal.returns-else-has_blank
returns-else-has_blank c =
    inr (
      lacks_char 13 _ (omega arith) c.if-contains.ensures.cases,
      inr (
        lacks_char 9 _ (omega arith) c.if-contains-2.ensures.cases,
        inr (
          begins_not (codes "> ") _ c.if-starts_with.ensures.cases,
          inr (
            lacks_text (codes " #") _ c.if-contains-3.ensures.cases,
            inr (λ has. true≢false (sym (c.has_blank.ensures.1 has) ∙ c.if-has_blank.false), refl),
          ),
        ),
      ),
    )
