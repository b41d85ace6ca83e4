-- Lists of frames, each with the centre that it goes to.
use Rattle.std.specs.declared.alloc.Global.{Global}
use Rattle.std.specs.List.{filter}
use Rattle.std.specs.Prelude.{[], ◌==◌, List, map, None, Option, Some, Vec, ℕ}
use Rattle.rbc_centre.specs.declared.sent_frame.SentFrame.{SentFrame}
use Rattle.rbc_spec.specs.Frame.{Frame}

-- the frames of a list to each centre
abbrev pub frames_in : List SentFrame → ℕ → List Frame
frames_in list d = map (λ f. f.frame) (filter (λ f. d == f.to) list)

abbrev pub list_of : Option (Vec SentFrame Global) → List SentFrame
list_of (Some list) = list.items
list_of None = []
