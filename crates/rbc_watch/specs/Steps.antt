-- Parts of the view after a message of a train, named for the functions that compute them.
use Rattle.std.specs.Prelude.{Bool, if◌then◌else◌, None, Option, option_and_then, option_map, ℕ}
use Rattle.law_outside.specs.Outside as spec
use Rattle.rbc_spec.specs.Line.{Line}
use Rattle.rbc_spec.specs.Maps.{put}
use Rattle.rbc_spec.specs.Message.{TrainMessage}
use Rattle.rbc_spec.specs.Place.{extent, Position}

-- the stretch of a start of mission, as `says` has it
abbrev pub started_at : Line → ℕ → Bool → Position → Option spec.Stretch
started_at line stamp is_valid position =
    if is_valid then option_and_then (spec.begun line stamp) (extent line position) else None

-- the view after a message of a train that starts no mission, as `says` has it
abbrev pub less : Line → ℕ → TrainMessage → spec.View → spec.View
less line c m v = record v {
  stretch = put v.stretch m.nid_engine
      (option_map (spec.after_message line c m.t_train m.body) (v.stretch m.nid_engine));
}
