-- The texts of findings.
use Rattle.std.specs.Fmt.{◌++?◌, debug_str, decimal, signed_decimal}
use Rattle.std.specs.Prelude.{[], ◌++◌, codes, List, Option, Some, ℕ}
use Rattle.cli_commands.specs.declared.inspecting.finding.Finding.{Finding}
use Rattle.cli_commands.specs.declared.inspecting.finding.Flaw.{Flaw}
use Rattle.cli_commands.specs.declared.inspecting.finding.Flaw.TheVariants as flaw
use Rattle.cli_commands.specs.declared.inspecting.finding.Place.{Place}
use Rattle.cli_commands.specs.declared.inspecting.finding.Place.TheVariants as at
use Rattle.cli_commands.specs.Inspecting.Findings.{limits, name_of}

-- the name, the track or the engine of a place, if the file has it
abbrev pub detail_text : Place → Option (List ℕ)
detail_text (at.Centre number (Some name)) = Some (codes " ") ++? debug_str name.now
detail_text (at.Track number (Some name)) = Some (codes " ") ++? debug_str name.now
detail_text (at.Section number (Some track)) = Some (codes " of track ") ++? debug_str track.now
detail_text (at.Train number (Some engine)) = Some (codes " (engine " ++ (signed_decimal engine ++ codes ")"))
detail_text other = Some []

-- an item with its number, from 0
abbrev pub numbered : List ℕ → ℕ → Option (List ℕ)
numbered what number = Some (what ++ (codes " " ++ decimal number))

-- the text of a place
abbrev pub place_text : Place → Option (List ℕ)
place_text at.File = Some (codes "file")
place_text (at.Centre number name) = numbered (codes "centre") number ++? detail_text (at.Centre number name)
place_text (at.Track number name) = numbered (codes "track") number ++? detail_text (at.Track number name)
place_text (at.Section number track) = numbered (codes "section") number ++? detail_text (at.Section number track)
place_text (at.Train number engine) = numbered (codes "train") number ++? detail_text (at.Train number engine)

-- the text of a value that conflicts with the rest of the file, and of a flaw that was not found
abbrev pub conflict_text : Flaw → Option (List ℕ)
conflict_text (flaw.NameTwice name first) =
    Some (codes "name ") ++? debug_str name.now ++? Some (codes " is that of ") ++? place_text first
    ++? Some (codes " too")
conflict_text (flaw.NumberTwice key value first) =
    Some key.now ++? Some (codes " ") ++? Some (signed_decimal value) ++? Some (codes " is that of ")
    ++? place_text first ++? Some (codes " too")
conflict_text (flaw.Home key name) =
    Some (key.now ++ codes " ") ++? debug_str name.now ++? Some (codes " names no centre")
conflict_text (flaw.Order home) =
    Some (codes "home ") ++? debug_str home.now ++? Some (codes " comes again behind another home")
conflict_text other = Some (codes "has the fault at a place that was not found")

-- the text of a value out of its bounds, and of those above
abbrev pub value_text : Flaw → Option (List ℕ)
value_text (flaw.Count counted count) =
    Some (codes "has " ++ (decimal count ++ (codes " " ++ (name_of counted ++ (codes ", not "
    ++ (decimal (limits counted).0 ++ (codes " to " ++ decimal (limits counted).1)))))))
value_text (flaw.Length metres) = Some (codes "length " ++ (signed_decimal metres ++ codes " is not 100 to 2000"))
value_text (flaw.Number key value highest) =
    Some (key.now ++ (codes " " ++ (signed_decimal value ++ (codes " is not 0 to " ++ decimal highest))))
value_text (flaw.Name name) =
    Some (codes "name ") ++? debug_str name.now ++? Some (codes " is not 1 to 16 ASCII letters or digits")
value_text other = conflict_text other

-- the text of a flaw
abbrev pub flaw_text : Flaw → Option (List ℕ)
flaw_text (flaw.Missing key) = Some (codes "key " ++ (key.now ++ codes " is missing"))
flaw_text (flaw.Unknown key) = Some (codes "key ") ++? debug_str key.now ++? Some (codes " has no meaning here")
flaw_text (flaw.OtherType key wanted found) =
    Some key.now ++? Some (codes " is of type ") ++? Some found.now ++? Some (codes ", not ") ++? Some wanted.now
flaw_text (flaw.NoTable found) = Some (codes "is of type " ++ (found.now ++ codes ", not table"))
flaw_text flaw.Empty = Some (codes "has no section")
flaw_text other = value_text other

-- the text of a finding
abbrev pub finding_text : Finding → Option (List ℕ)
finding_text finding = place_text finding.place ++? Some (codes ": ") ++? flaw_text finding.flaw
