-- Scenes in which each thing stays in one place: `HasOnePlace` of a world is computed after each event.
use Rattle.std.specs.List.{count_by, list_all, range_with_len}
use Rattle.std.specs.Prelude.{[], ◌&&◌, ◌+◌, ◌==◌, ◌∷◌, Bool, Err, false, is_some, length, List, map, nat_le, Ok}
use Rattle.std.specs.Prelude.{Result, true, ℕ}
use Rattle.rbc_spec.specs.Line.{Line}
use Rattle.rbc_spec.specs.Promises.{carries_right, holders, user}
use Rattle.rbc_spec.specs.ReadOff.{all_held, centres_of, frames_on_way}
use Rattle.rbc_spec.specs.Sections.{section_count}
use Rattle.rbc_spec.specs.Step.{Refusal}
use Rattle.rbc_spec.specs.World.{Answer, new_world, World, world_step}
use Rattle.test_scenes.specs.Scene.{at_home, Happens, Scene}

-- the same trains in the same order
abbrev pub are_same : List ℕ → List ℕ → Bool
are_same [] [] = true
are_same (t ∷ ts) (u ∷ us) = (t == u) && are_same ts us
are_same ts us = false

-- the section is held by the train that its home names
abbrev pub is_placed : Line → World → ℕ → Bool
is_placed l w s = are_same (holders l w s) (user ((at_home l w s).book s))

-- the train's right is in one place, and it has one mission at most
abbrev pub is_right_placed : Line → World → ℕ → Bool
is_right_placed l w t =
    ((count_by (λ c. (w.at c).has_right t) (centres_of l) + count_by (λ c. is_some ((w.at c).mission t)) (centres_of l)
    + count_by (λ f. carries_right t f.body) (frames_on_way l w)) == 1)
    && nat_le (length (all_held l w t)) 1

abbrev pub has_one_place : Line → World → Bool
has_one_place l w =
    list_all (is_placed l w) (range_with_len 0 (section_count l))
    && list_all (is_right_placed l w) (map (λ p. p.nid_engine) l.trains)

-- after a step that is answered
abbrev pub after : Result (Answer × World) Refusal → (World → Bool) → Bool
after (Ok (answer, w)) others = others w
after (Err why) others = false

-- in this world and after each event of the scenes
unfoldable pub keeps_from : Line → List Scene → World → Bool
keeps_from l [] w = has_one_place l w
keeps_from l (Happens event ∷ scenes) w = has_one_place l w && after (world_step l w event) (keeps_from l scenes)
keeps_from l (_ ∷ scenes) w = keeps_from l scenes w

-- on a new line
unfoldable pub keeps_one_place : Line → List Scene → Bool
keeps_one_place l scenes = keeps_from l scenes (new_world l)
