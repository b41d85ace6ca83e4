use Rattle.std.proofs.Common.{◌*◌, ◌+◌, ◌∙◌, ◌≡◌, ap, arith, refl, Some, sym}
use Rattle.std.proofs.lemmas.Option.{slice_get_read}
use Rattle.std.specs.List.{slice_get}
use Rattle.rbc_line.proofs.layout.Line.section_of_group.Goals as goal
use Rattle.rbc_line.proofs.Rows.{section_of_group-at}
use Rattle.rbc_spec.specs.Line.{section_of_group}

pub returns-in-Some-clause-value : goal.returns-in-Some-clause-value
returns-in-Some-clause-value c =
    let row = c.in-Some.ensures.lookup in
    let at : slice_get c.self.inside.rows.sections.items c.of-guess.result ≡ Some c.in-Some.section.now =
    ap (λ rows. slice_get rows c.of-guess.result) (sym c.deref.ensures.value)
    ∙ slice_get_read c.deref.result.now _ c.of-guess.result _ refl row.3.0 row.1 in
    let group : c.self.inside.rows.nid_c * 16384 + c.in-Some.section.now.balise ≡ c.args.nid_lrbg = omega arith in
    section_of_group-at _ c.self.inside.rows.sections.items c.of-guess.result c.args.nid_lrbg c.in-Some.section.now
    c.self.invariant.rules refl at group
    ∙ ap (λ line. section_of_group line c.args.nid_lrbg) c.self.view_is
