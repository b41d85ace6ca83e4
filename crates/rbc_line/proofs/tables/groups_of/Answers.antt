use Rattle.std.proofs.Common.{◌*◌, ◌+◌, ◌==◌, ◌∙◌, ◌≡◌, ap, arith, get_or, position, rules}
use Rattle.std.proofs.lemmas.List.{take_all}
use Rattle.rbc_line.proofs.tables.groups_of.Goals as goal
use Rattle.rbc_line.proofs.TableSteps.{key_more}

pub loop-s-preserved : goal.loop-s-preserved
loop-s-preserved c =
    let key : c.nid_lrbg_of.result
    ≡ c.args.nid_c * 16384 + (get_or c.args.sections.now c.loop-s.s
    (record { track = 0; start = 0; metres = 0; home = 0; balise = 0 })).balise = search rules in
    key_more (λ p. c.args.nid_c * 16384 + p.balise) c.args.sections.now c.loop-s.s _ c.loop-s.groups c.insert.new.self
    (λ i j x y a b e. c.requires.apart i j x y a b (omega (arith, e))) c.loop-s-test.true c.loop-s.invariant
    (rw key at c.in_ok-insert.ensures.updates)

pub returns : goal.returns
returns c =
    λ q. c.loop-s.invariant q
    ∙ ap (position (λ p. (c.args.nid_c * 16384 + p.balise) == q))
    (take_all c.loop-s.s c.args.sections.now c.loop-s-test.false)
