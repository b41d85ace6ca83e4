use Rattle.std.proofs.Common.{◌∙◌, ap, map}
use Rattle.std.specs.Ordering.{int_eq}
use Rattle.std.specs.Str.{bytes_eq}
use Rattle.rbc_line.proofs.faults.has_twice_fault.Goals as goal
use Rattle.rbc_line.proofs.Twice.{balises_of_sections, engines_of_trains, names_of_centres, nid_rbcs_of_centres}
use Rattle.rbc_line.proofs.Twice.{twice_by}
use Rattle.rbc_line.specs.DraftViews.{file_view}
use Rattle.rbc_line.specs.Faults.{has_twice}

pub returns : goal.returns
returns c =
    let draft = c.args.draft.now in
    twice_by (file_view draft) _ _ _ _ _
    (c.has_name_twice-by_centre_name.ensures
    ∙ ap (λ v. has_twice bytes_eq (map (λ name. name.now) v))
    (c.deref-5.ensures.value ∙ c.in_ok-names.ensures ∙ ap (map (λ p. p.name)) c.deref.ensures.value)
    ∙ ap (has_twice bytes_eq) (names_of_centres draft.centres.items))
    (c.has_name_twice-by_track_name.ensures
    ∙ ap (λ v. has_twice bytes_eq (map (λ name. name.now) v)) c.deref-6.ensures.value)
    (c.in_ok-by_nid_rbc.ensures
    ∙ ap (has_twice int_eq) (c.deref-7.ensures.value ∙ c.in_ok-nid_rbcs.ensures
    ∙ ap (map (λ p. p.nid_rbc)) c.deref-2.ensures.value ∙ nid_rbcs_of_centres draft.centres.items))
    (c.in_ok-by_balise.ensures
    ∙ ap (has_twice int_eq) (c.deref-8.ensures.value ∙ c.in_ok-balises.ensures
    ∙ ap (map (λ p. p.balise)) c.deref-3.ensures.value ∙ balises_of_sections draft.tracks.sections.items))
    (c.in_ok-by_engine.ensures
    ∙ ap (has_twice int_eq) (c.deref-9.ensures.value ∙ c.in_ok-engines.ensures
    ∙ ap (map (λ p. p.engine)) c.deref-4.ensures.value ∙ engines_of_trains draft.trains.items))
