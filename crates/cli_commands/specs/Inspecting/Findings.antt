-- The fault of a line file for each kind of finding.
use Rattle.cli_commands.specs.declared.inspecting.finding.Counted.{Counted}
use Rattle.cli_commands.specs.declared.inspecting.finding.Counted.TheVariants as counted
use Rattle.cli_commands.specs.declared.inspecting.finding.Flaw.{Flaw}
use Rattle.cli_commands.specs.declared.inspecting.finding.Flaw.TheVariants as flaw
use Rattle.rbc_line.specs.declared.fault.LineFault.{LineFault}
use Rattle.rbc_line.specs.declared.fault.LineFault.TheVariants.{Centres, Home, Length, Number, Order, Sections, Shape}
use Rattle.rbc_line.specs.declared.fault.LineFault.TheVariants.{Tracks, Trains, Twice}
use Rattle.std.specs.Prelude.{codes, List, ℕ}

-- the fault of too few or too many items of this kind
abbrev pub count_fault : Counted → LineFault
count_fault counted.Centres = Centres
count_fault counted.Tracks = Tracks
count_fault counted.Sections = Sections
count_fault counted.Trains = Trains

-- the fewest and the most items of this kind in a line
abbrev pub limits : Counted → ℕ × ℕ
limits counted.Centres = (2, 8)
limits counted.Tracks = (1, 4)
limits counted.Sections = (1, 512)
limits counted.Trains = (1, 64)

-- the name of items of this kind
abbrev pub name_of : Counted → List ℕ
name_of counted.Centres = codes "centres"
name_of counted.Tracks = codes "tracks"
name_of counted.Sections = codes "sections"
name_of counted.Trains = codes "trains"

-- the fault of a flaw
abbrev pub flaw_fault : Flaw → LineFault
flaw_fault (flaw.Missing key) = Shape
flaw_fault (flaw.Unknown key) = Shape
flaw_fault (flaw.OtherType key wanted found) = Shape
flaw_fault (flaw.NoTable found) = Shape
flaw_fault (flaw.Count which count) = count_fault which
flaw_fault flaw.Empty = Sections
flaw_fault (flaw.Length metres) = Length
flaw_fault (flaw.Number key value highest) = Number
flaw_fault (flaw.Name name) = Number
flaw_fault (flaw.NameTwice name first) = Twice
flaw_fault (flaw.NumberTwice key value first) = Twice
flaw_fault (flaw.Home key name) = Home
flaw_fault (flaw.Order home) = Order
flaw_fault (flaw.Unplaced fault) = fault
