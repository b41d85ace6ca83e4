use Rattle.std.proofs.Common.{[], ◌++◌, ◌∙◌, ◌∷◌, ap, map}
use Rattle.std.proofs.lemmas.List.{map-append}
use Rattle.rbc_line.proofs.read.read_tracks.Goals as goal
use Rattle.rbc_line.proofs.ReadSteps.{tracks_end, tracks_more, tracks_stop}
use Rattle.rbc_line.specs.DraftViews.{section_view, track_view}

pub returns-in-None : goal.returns-in-None
returns-in-None c =
    tracks_stop _ c.args.items.now c.loop-k.k c.index-items-k.result _ _ c.loop-k-test.true c.index-items-k.is
    (rw c.in-None.is at c.in_ok-track.ensures) c.loop-k.invariant

pub loop-k-preserved : goal.loop-k-preserved
loop-k-preserved c =
    let more = c.in_ok-extend_from_slice-in-Some.ensures.items
    ∙ ap (λ own. c.loop-k.sections.items ++ own) c.deref.ensures.value in
    tracks_more _ c.args.items.now c.loop-k.k c.index-items-k.result _ _ _ _
    (track_view c.in-Some.track) c.loop-k-test.true c.index-items-k.is (rw c.in-Some.is at c.in_ok-track.ensures)
    (ap (map (λ name. name.now)) c.in_ok-push-in-Some.ensures.items
    ∙ map-append (λ name. name.now) c.loop-k.names.items (c.in-Some.track.name ∷ []))
    (ap (map section_view) more ∙ map-append section_view c.loop-k.sections.items c.in-Some.track.sections.items)
    c.loop-k.invariant

pub returns : goal.returns
returns c = tracks_end _ c.args.items.now c.loop-k.k _ _ c.loop-k-test.false c.loop-k.invariant
