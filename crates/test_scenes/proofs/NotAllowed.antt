-- The moves and worlds of NotAllowed, computed. No piece takes these moves, and no state represents these worlds.
use Rattle.std.proofs.Common.{[], ◌∙◌, ◌∷◌, ◌≡◌, ◌≤◌, ap, arith, inl, inr, List, refl, slice_get, Some, sym, true≢false}
use Rattle.std.proofs.lemmas.Option.{none-some}
use Rattle.std.specs.List.{list_all}
use Rattle.rbc_spec.specs.Acts.{◌>>◌}
use Rattle.rbc_spec.specs.Centre.{beginning}
use Rattle.rbc_spec.specs.Line.{end, start as line_start}
use Rattle.rbc_spec.specs.LineCentre.{line_beginning, LineState}
use Rattle.rbc_spec.specs.Outcome.{Outcome, Reason, Told, Word}
use Rattle.rbc_spec.specs.Place.{extent}
use Rattle.rbc_spec.specs.Quiet.{is_of_centre, Keep}
use Rattle.rbc_spec.specs.ReadOff.{StandsFor}
use Rattle.rbc_spec.specs.Run.{Piece}
use Rattle.rbc_spec.specs.SectionRuns.{longest, within}
use Rattle.rbc_spec.specs.Step.{step}
use Rattle.rbc_spec.specs.World.{Event, new_world, Set, world_run, world_step}
use Rattle.test_scenes.specs.Moves.{play}
use Rattle.test_scenes.specs.NotAllowed.{kept_after_silence, kept_after_silence_shows, kept_at_home, kept_at_home_shows}
use Rattle.test_scenes.specs.NotAllowed.{kept_elsewhere, kept_elsewhere_shows, missions_in, one_yield, shown_at}
use Rattle.test_scenes.specs.NotAllowed.{silent_alone, silent_alone_shows, told_in_order, told_in_order_shows}
use Rattle.test_scenes.specs.NotAllowed.{told_out_of_order, told_out_of_order_shows, two_yields}
use Rattle.test_scenes.specs.Pieces.{line_shows}
use Rattle.test_scenes.specs.Scene.{line}
use Rattle.test_scenes.specs.Turns.{quiet_turns}

-- ## Moves

pub at_home : shown_at kept_at_home ≡ kept_at_home_shows
unfolding within longest line_start end extent line_beginning quiet_turns play line_shows
at_home = refl

pub elsewhere : shown_at kept_elsewhere ≡ kept_elsewhere_shows
unfolding within longest line_start end extent line_beginning quiet_turns play line_shows
elsewhere = refl

pub silent : shown_at silent_alone ≡ silent_alone_shows
unfolding within longest line_start end extent line_beginning quiet_turns play line_shows
silent = refl

pub after_silence : shown_at kept_after_silence ≡ kept_after_silence_shows
unfolding within longest line_start end extent line_beginning quiet_turns play line_shows
after_silence = refl

pub in_order : shown_at told_in_order ≡ told_in_order_shows
unfolding within longest line_start end extent line_beginning quiet_turns play line_shows
in_order = refl

pub out_of_order : shown_at told_out_of_order ≡ told_out_of_order_shows
unfolding within longest line_start end extent line_beginning quiet_turns play line_shows
out_of_order = refl

pub none_elsewhere : (v new : LineState) (outcome : Outcome) (piece : Piece line v (Set 0 0) outcome new)
    → piece.quiets ≡ Keep 1 4 ∷ [] → ⊥
none_elsewhere v new outcome piece is = true≢false (sym piece.own_centre ∙ ap (list_all (is_of_centre line 0)) is)

pub none_after_silence : (v new : LineState) (event : Event) (outcome : Outcome) (why : Reason)
    (piece : Piece line v event outcome new)
    → outcome.silence ≡ Some why → piece.quiets ≡ []
none_after_silence v new event outcome why piece is = elim (piece.none_if_silent) [
  | inl none ↦ absurd (none-some why (sym none ∙ is))
  | inr none ↦ none
]

pub none_out_of_order : (v new : LineState) (event : Event) (outcome : Outcome) → Piece line v event outcome new
    → outcome.words ≡ Told 5 ∷ Told 4 ∷ [] → ⊥
none_out_of_order v new event outcome piece is =
    let wrong = piece.in_order 0 1 5 4 (omega arith) (ap (λ (words : List Word). slice_get words 0) is)
    (ap (λ (words : List Word). slice_get words 1) is) in
    omega (arith, wrong)

-- ## Two Yields

pub one_mission : missions_in one_yield ≡ 1
unfolding within longest line_start end extent beginning ◌>>◌ step new_world world_step world_run one_yield
one_mission = refl

pub two_missions : missions_in two_yields ≡ 2
unfolding within longest line_start end extent beginning ◌>>◌ step new_world world_step world_run one_yield
two_missions = refl

pub no_state : (v : LineState) → StandsFor line two_yields v → ⊥
no_state v stands = let few : missions_in two_yields ≤ 1 = stands.one_seat 1 in omega (arith, few, two_missions)
