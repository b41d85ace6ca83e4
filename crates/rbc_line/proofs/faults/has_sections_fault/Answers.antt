use Rattle.std.proofs.Common.{◌<◌, ◌==◌, ◌∙◌, ◌≡◌, arith, false, inl, length, map, refl, sym}
use Rattle.std.proofs.lemmas.List.{length-map}
use Rattle.std.specs.List.{list_any}
use Rattle.rbc_line.proofs.faults.has_sections_fault.Goals as goal
use Rattle.rbc_line.proofs.Twice.{HasSectionsFault-by_len}
use Rattle.rbc_line.specs.DraftViews.{file_view, section_view}
use Rattle.rbc_line.specs.Faults.{HasSectionsFault}

pub returns-then-not-has_section : goal.returns-then-not-has_section
unfolding HasSectionsFault
returns-then-not-has_section c =
    let names = c.args.draft.now.tracks.names.items in
    let within : c.loop-k.k < length (map (λ name. name.now) names) =
    omega (arith, length-map names (λ name. name.now)) in
    let none : list_any (λ s. s.track == c.loop-k.k) (map section_view c.args.draft.now.tracks.sections.items) ≡ false =
    rw c.deref.ensures.value at (sym c.has_section.ensures ∙ c.if-not-has_section.true) in
    (λ _. inl (c.loop-k.k, within, none), λ _. refl)

pub returns : goal.returns
returns c =
    let sections = c.args.draft.now.tracks.sections.items in
    let names = c.args.draft.now.tracks.names.items in
    HasSectionsFault-by_len (file_view c.args.draft.now) c.len.result (omega (arith, length-map sections section_view))
    (λ k within. c.loop-k.invariant k (omega (arith, length-map names (λ name. name.now), within)))
