-- The one line centre meets the scenes of a one-centre line without choice, computed.
use Rattle.std.proofs.Common.{◌==◌, ◌≡◌, refl, true, ℕ}
use Rattle.std.proofs.lemmas.Bool.{eqb-true}
use Rattle.std.proofs.lemmas.List.Sums.{AllPass-from_list_all}
use Rattle.std.specs.List.{list_all}
use Rattle.rbc_spec.specs.Acts.{◌>>◌}
use Rattle.rbc_spec.specs.Centre.{beginning}
use Rattle.rbc_spec.specs.Line.{end, Line, start as line_start}
use Rattle.rbc_spec.specs.LineCentre.{line_beginning}
use Rattle.rbc_spec.specs.Place.{extent}
use Rattle.rbc_spec.specs.ReadOff.{read_off}
use Rattle.rbc_spec.specs.SectionRuns.{longest, within}
use Rattle.rbc_spec.specs.Step.{step}
use Rattle.rbc_spec.specs.Theorems.{IsOneCentreLine}
use Rattle.rbc_spec.specs.World.{new_world, world_step}
use Rattle.test_scenes.proofs.Forced.{met_by_forced_run}
use Rattle.test_scenes.specs.ConditionMoves.{section_out_of_reach_moves}
use Rattle.test_scenes.specs.Conditions.{section_out_of_reach}
use Rattle.test_scenes.specs.Forced.{leave_no_choice}
use Rattle.test_scenes.specs.Moves.{play}
use Rattle.test_scenes.specs.Pieces.{centres_show, IsMetByForcedRun, line_shows}
use Rattle.test_scenes.specs.Requests.{hand_of_32_sections}
use Rattle.test_scenes.specs.Scene.{line_of_one}
use Rattle.test_scenes.specs.SceneMoves.{hand_of_32_sections_moves, shortening_in_one_centre_moves}
use Rattle.test_scenes.specs.SceneMoves.{start_drops_the_proposal_moves}
use Rattle.test_scenes.specs.Shortening.{shortening_in_one_centre, start_drops_the_proposal}
use Rattle.test_scenes.specs.Turns.{quiet_turns}

-- this centre is every home and every registrar
one_centre : (line : Line) (c : ℕ) → list_all (λ p. p.home == c) line.sections ≡ true
    → list_all (λ p. p.registrar == c) line.trains ≡ true → IsOneCentreLine line c
one_centre line c homes registrars = record {
  homes = λ k d small. eqb-true _ c (AllPass-from_list_all (λ p. p.home == c) line.sections homes k d small);
  registrars =
      λ k d small. eqb-true _ c (AllPass-from_list_all (λ p. p.registrar == c) line.trains registrars k d small);
}

pub start_drops_the_proposal_is_met_by_forced_run : IsMetByForcedRun (line_of_one 8 1000) 0 start_drops_the_proposal
unfolding within longest line_start end extent beginning ◌>>◌ step new_world world_step line_beginning read_off
    quiet_turns play centres_show line_shows leave_no_choice
start_drops_the_proposal_is_met_by_forced_run =
    met_by_forced_run (line_of_one 8 1000) 0 start_drops_the_proposal start_drops_the_proposal_moves
    (one_centre (line_of_one 8 1000) 0 refl refl) refl refl refl refl

pub shortening_in_one_centre_is_met_by_forced_run : IsMetByForcedRun (line_of_one 8 1000) 0 shortening_in_one_centre
unfolding within longest line_start end extent beginning ◌>>◌ step new_world world_step line_beginning read_off
    quiet_turns play centres_show line_shows leave_no_choice
shortening_in_one_centre_is_met_by_forced_run =
    met_by_forced_run (line_of_one 8 1000) 0 shortening_in_one_centre shortening_in_one_centre_moves
    (one_centre (line_of_one 8 1000) 0 refl refl) refl refl refl refl

pub hand_of_32_sections_is_met_by_forced_run : IsMetByForcedRun (line_of_one 40 100) 0 hand_of_32_sections
unfolding within longest line_start end extent beginning ◌>>◌ step new_world world_step line_beginning read_off
    quiet_turns play centres_show line_shows leave_no_choice
hand_of_32_sections_is_met_by_forced_run =
    met_by_forced_run (line_of_one 40 100) 0 hand_of_32_sections hand_of_32_sections_moves
    (one_centre (line_of_one 40 100) 0 refl refl) refl refl refl refl

pub section_out_of_reach_is_met_by_forced_run : IsMetByForcedRun (line_of_one 20 2000) 0 section_out_of_reach
unfolding within longest line_start end extent beginning ◌>>◌ step new_world world_step line_beginning read_off
    quiet_turns play centres_show line_shows leave_no_choice
section_out_of_reach_is_met_by_forced_run =
    met_by_forced_run (line_of_one 20 2000) 0 section_out_of_reach section_out_of_reach_moves
    (one_centre (line_of_one 20 2000) 0 refl refl) refl refl refl refl
