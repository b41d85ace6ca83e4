use Rattle.std.proofs.Common.{◌∙◌, ◌≡◌, arith, false, refl, rules, sym, true}
use Rattle.rbc_log.proofs.lines.has_same_sections.Goals as goal
use Rattle.rbc_log.proofs.SameLines.{same_list, same_more, same_placed, same_section}

pub returns : goal.returns
returns c = (
  λ _. same_list c.args.a.now.sections c.args.b.now.sections (omega arith)
      (λ k within. c.loop-s.invariant k (omega (arith, within))),
  λ _. refl,
)

pub loop-s-preserved : goal.loop-s-preserved
loop-s-preserved c =
    same_more c.args.a.now.sections c.args.b.now.sections c.loop-s.s c.loop-s.invariant
    (same_section c.args.a.now c.args.b.now c.loop-s.s (search rules))

pub returns-then-not-is_same_section : goal.returns-then-not-is_same_section
returns-then-not-is_same_section c = (
  λ h. absurd cc,
  λ e.
      let same : c.is_same_section.result ≡ true =
      c.is_same_section.ensures.1 (same_placed c.args.a.now c.args.b.now c.loop-s.s e) in
      let wrong : true ≡ false = sym same ∙ c.if-not-is_same_section.true in absurd cc,
)
