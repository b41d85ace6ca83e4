use Rattle.std.proofs.Common.{◌&&◌, ◌==◌, ◌∙◌, ◌≡◌, ap, Bor, None, not, Option, option_map, rules, Some, sym, tests}
use Rattle.std.proofs.lemmas.Iterator.{YieldsList-from_slice, YieldsList-from_zip}
use Rattle.std.proofs.lemmas.Iterator.Adapters.{YieldsList-from_skip}
use Rattle.std.proofs.lemmas.Iterator.Search.{find_from_yields_List}
use Rattle.rbc_line.proofs.tables.next_centre.Goals as goal
use Rattle.rbc_line.proofs.TableSteps.{next_centre_of_rows}
use Rattle.rbc_line.specs.declared.parts.Section.{Section}

home_beyond : (o : Option (Bor Section × Bor Section)) (r : Option (Section × Section))
    → option_map (λ seam. (seam.0.now, seam.1.now)) o ≡ r
    → option_map (λ seam. seam.1.now.home) o ≡ option_map (λ seam. seam.1.home) r
home_beyond None r e = ap (option_map (λ seam. seam.1.home)) e
home_beyond (Some seam) r e = ap (option_map (λ seam. seam.1.home)) e

pub returns-in-Some : goal.returns-in-Some
returns-in-Some c =
    let rows = c.args.rows.now.sections.items in
    ap (option_map (λ seam. seam.1.now.home)) (sym c.in-Some.is)
    ∙ home_beyond c.find-seam.result _
    (find_from_yields_List {s = c.zip.result}
    (λ seam. (((seam.0.track == seam.1.track) && (seam.0.track == c.args.track)) && (seam.0.home == c.args.c))
    && not (seam.1.home == c.args.c)) c.find-seam.new.self _ c.find-seam.result c.find-seam.ensures.ran
    (YieldsList-from_zip (YieldsList-from_slice rows cc) (YieldsList-from_skip 1 (YieldsList-from_slice rows cc) cc))
    (λ x b q k. search (rules, tests)))
    ∙ next_centre_of_rows c.args.rows.now c.args.c c.args.track

pub returns-in-None : goal.returns-in-None
returns-in-None c =
    let rows = c.args.rows.now.sections.items in
    ap (option_map (λ seam. seam.1.now.home)) (sym c.in-None.is)
    ∙ home_beyond c.find-seam.result _
    (find_from_yields_List {s = c.zip.result}
    (λ seam. (((seam.0.track == seam.1.track) && (seam.0.track == c.args.track)) && (seam.0.home == c.args.c))
    && not (seam.1.home == c.args.c)) c.find-seam.new.self _ c.find-seam.result c.find-seam.ensures.ran
    (YieldsList-from_zip (YieldsList-from_slice rows cc) (YieldsList-from_skip 1 (YieldsList-from_slice rows cc) cc))
    (λ x b q k. search (rules, tests)))
    ∙ next_centre_of_rows c.args.rows.now c.args.c c.args.track
