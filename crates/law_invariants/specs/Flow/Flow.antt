-- The centres of a line as a network: their states, and the frames on the way. An act of one centre changes both.
use Rattle.std.specs.Prelude.{ℕ, List, length, map}
use Rattle.law_base.specs.Counting.Network.{Net}
use Rattle.rbc_spec.specs.Maps.{put}
use Rattle.rbc_spec.specs.Line.{Line}
use Rattle.rbc_spec.specs.Frame.{Body}
use Rattle.rbc_spec.specs.Centre.{Centre}
use Rattle.rbc_spec.specs.World.{World}

abbrev pub Flow : Type 0
Flow = Net Centre Body

-- how many centres the line has
abbrev pub centre_count : Line → ℕ
centre_count line = length line.centres

-- the flow of a world: the frames sent are the bodies of its frames, in order
abbrev pub flow_of : World → Flow
flow_of w = record { at = w.at; sent = λ a b. map (λ f. f.body) ((w.at a).sent b); taken = λ a b. (w.at b).taken a }

-- the world with this state of centre c, and these named trains
abbrev pub in_world : World → ℕ → Centre → List ℕ → World
in_world w c new trains = record { at = put w.at c new; trains = trains }

-- a centre that has taken the frame of this number from a
abbrev pub took_frame : ℕ → ℕ → Centre → Centre
took_frame a number k = record k { taken = put k.taken a number }
