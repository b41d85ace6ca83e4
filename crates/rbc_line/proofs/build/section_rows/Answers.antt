use Rattle.std.proofs.Common.{[], ◌==◌, ◌∙◌, ◌≡◌, ap, arith, filter, get_or, length-set, map, not, pos, rules, sum_by}
use Rattle.std.proofs.Common.{sym}
use Rattle.std.proofs.lemmas.List.{length-map}
use Rattle.std.specs.List.{list_any}
use Rattle.std.specs.Str.{bytes_eq}
use Rattle.rbc_line.proofs.build.section_rows.Goals as goal
use Rattle.rbc_line.proofs.BuildSteps.{ends_after, item_fails, made_more, small_more, starts_more, track_below}
use Rattle.rbc_line.proofs.BuildSteps.{true_of_not}
use Rattle.rbc_line.specs.declared.draft.DraftSection.{DraftSection}
use Rattle.rbc_line.specs.DraftViews.{centre_view, section_view}
use Rattle.rbc_line.specs.Faults.{is_outside}
use Rattle.rbc_line.specs.LineFile.{line_section}
use Rattle.rbc_line.specs.Views.{section_of}

abbrev past : DraftSection
past = record { track = 0; metres = pos 0; home = record { ref_ptr = (0, 0); now = [] }; balise = pos 0 }

pub section_row-row-requires-clause-metres : goal.section_row-row-requires-clause-metres
section_row-row-requires-clause-metres c =
    item_fails section_view (λ s. is_outside 100 2000 s.metres) c.args.draft.now.tracks.sections.items
    c.as_slice-sections.result.now c.loop-section.section-index _ c.as_slice-sections.ensures.value
    c.requires.tested.lengths c.loop-section-test.true

pub section_row-row-requires-clause-balise : goal.section_row-row-requires-clause-balise
section_row-row-requires-clause-balise c =
    item_fails section_view (λ s. is_outside 0 16382 s.balise) c.args.draft.now.tracks.sections.items
    c.as_slice-sections.result.now c.loop-section.section-index _ c.as_slice-sections.ensures.value
    c.requires.tested.balises c.loop-section-test.true

pub section_row-row-requires-clause-home : goal.section_row-row-requires-clause-home
section_row-row-requires-clause-home c =
    rw c.as_slice-centres.ensures.value (true_of_not _
    (item_fails section_view
    (λ s. not (list_any (λ p. bytes_eq p.name s.home) (map centre_view c.args.draft.now.centres.items)))
    c.args.draft.now.tracks.sections.items c.as_slice-sections.result.now c.loop-section.section-index _
    c.as_slice-sections.ensures.value c.requires.tested.homes c.loop-section-test.true))

pub offset_bounds-ends-section : goal.offset_bounds-ends-section
offset_bounds-ends-section c =
    let track =
    track_below c.args.draft.now.tracks.names.items c.args.draft.now.tracks.sections.items
    c.as_slice-sections.result.now c.loop-section.section-index past c.as_slice-sections.ensures.value c.requires.order
    c.requires.tested.tracks.1 c.loop-section-test.true in
    omega (arith, track)

pub bounds-ends-section : goal.bounds-ends-section
bounds-ends-section c =
    track_below c.args.draft.now.tracks.names.items c.args.draft.now.tracks.sections.items
    c.as_slice-sections.result.now c.loop-section.section-index past c.as_slice-sections.ensures.value c.requires.order
    c.requires.tested.tracks.1 c.loop-section-test.true

pub section_row-row-requires-clause-track : goal.section_row-row-requires-clause-track
section_row-row-requires-clause-track c =
    track_below c.args.draft.now.tracks.names.items c.args.draft.now.tracks.sections.items
    c.as_slice-sections.result.now c.loop-section.section-index past c.as_slice-sections.ensures.value c.requires.order
    c.requires.tested.tracks.1 c.loop-section-test.true

pub bounds-ends-section-in-loop-section : goal.bounds-ends-section-in-loop-section
bounds-ends-section-in-loop-section c =
    track_below c.args.draft.now.tracks.names.items c.args.draft.now.tracks.sections.items
    c.as_slice-sections.result.now c.loop-section.section-index past c.as_slice-sections.ensures.value c.requires.order
    c.requires.tested.tracks.1 c.loop-section-test.true

pub bounds-ends-section-in-loop-section-2 : goal.bounds-ends-section-in-loop-section-2
bounds-ends-section-in-loop-section-2 c =
    track_below c.args.draft.now.tracks.names.items c.args.draft.now.tracks.sections.items
    c.as_slice-sections.result.now c.loop-section.section-index past c.as_slice-sections.ensures.value c.requires.order
    c.requires.tested.tracks.1 c.loop-section-test.true

pub overflow_add-ends : goal.overflow_add-ends
overflow_add-ends c =
    let sections = c.args.draft.now.tracks.sections.items in
    let rows = c.as_slice-sections.result.now in
    let track =
    track_below c.args.draft.now.tracks.names.items sections rows c.loop-section.section-index past
    c.as_slice-sections.ensures.value c.requires.order c.requires.tested.tracks.1 c.loop-section-test.true in
    let small = c.loop-section.invariant.small (get_or rows c.loop-section.section-index past).track track in
    let metres : c.from.result ≡ c.section_row-row.result.metres = search rules in
    omega (
      arith,
      small,
      metres,
      c.section_row-row.ensures.metres,
      c.requires.tested.sections,
      length-map sections section_view,
      c.as_slice-sections.ensures.len,
    )

pub loop-section-preserved : goal.loop-section-preserved
loop-section-preserved c =
    let sections = c.args.draft.now.tracks.sections.items in
    let items = c.as_slice-sections.result.now in
    let i = c.loop-section.section-index in
    let row = c.section_row-row.result in
    let track =
    track_below c.args.draft.now.tracks.names.items sections items i past c.as_slice-sections.ensures.value
    c.requires.order c.requires.tested.tracks.1 c.loop-section-test.true in
    let own : (get_or items i past).track ≡ row.track = sym (ap (λ v. v.track) c.section_row-row.ensures.value) in
    let metres : c.from.result ≡ row.metres = search rules in
    let pushed = c.in_ok-push.ensures.items in
    record {
      rows =
          made_more section_of (line_section (map centre_view c.as_slice-centres.result.now)) section_view
          c.loop-section.rows.items c.push.new.self.items row items i past c.loop-section-test.true pushed
          c.section_row-row.ensures.value c.loop-section.invariant.rows;
      starts = starts_more c.loop-section.rows.items c.push.new.self.items row pushed c.loop-section.invariant.starts
          (c.section_row-row.ensures.start ∙ c.loop-section.invariant.ends (get_or items i past).track track
          ∙ ap (λ k. sum_by (λ q. q.metres) (filter (λ q. q.track == k) c.loop-section.rows.items)) own);
      count = length-set c.loop-section.ends (get_or items i past).track _ ∙ c.loop-section.invariant.count;
      ends =
          ends_after c.loop-section.rows.items c.push.new.self.items row c.loop-section.ends
          (get_or items i past).track c.from.result own metres pushed c.loop-section.invariant.count track
          c.loop-section.invariant.ends;
      small =
          small_more c.loop-section.ends (get_or items i past).track c.from.result i c.loop-section.invariant.count
          track (omega (arith, metres, c.section_row-row.ensures.metres)) c.loop-section.invariant.small;
    }
