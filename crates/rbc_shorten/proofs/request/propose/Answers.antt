use Rattle.std.proofs.Common.{◌∙◌, ◌≡◌, ap, cond, false, None, Some, sym, true}
use Rattle.rbc_shorten.proofs.request.propose.Goals as goal
use Rattle.rbc_shorten.proofs.Requests.{by_rules, found}
use Rattle.rbc_shorten.specs.Requests.{may_shorten, shortening, shortening_at}

pub returns-then-not-may_be_asked-clause-rules : goal.returns-then-not-may_be_asked-clause-rules
returns-then-not-may_be_asked-clause-rules c t m k are =
    let no : may_shorten c.args.line.now c.args.facts c.args.s ≡ false =
    found c.args.line.now c.args.facts c.args.s _ _ false c.if-not-may_be_asked.true c.may_be_asked.ensures.value
    c.section_start-start.ensures.value in
    by_rules c.args.line.now t c.args.s m k c.args.facts are None
    (sym (ap (λ b. cond b (Some (shortening c.args.line.now c.args.facts c.args.s)) None) no))

pub returns-clause-rules : goal.returns-clause-rules
returns-clause-rules c t m k are =
    let may : may_shorten c.args.line.now c.args.facts c.args.s ≡ true =
    found c.args.line.now c.args.facts c.args.s _ _ true c.if-not-may_be_asked.false c.may_be_asked.ensures.value
    c.section_start-start.ensures.value in
    by_rules c.args.line.now t c.args.s m k c.args.facts are (Some c.shortening.result)
    (ap (λ r. Some r) (c.shortening.ensures
    ∙ ap (λ n. shortening_at n c.args.facts c.args.s) c.section_start-start.ensures.value)
    ∙ sym (ap (λ b. cond b (Some (shortening c.args.line.now c.args.facts c.args.s)) None) may))
