-- The boxes of missions on the way, and of starts that wait.
use Rattle.cli_picture.specs.declared.boxes.Look.{Look}
use Rattle.cli_picture.specs.declared.boxes.Look.TheVariants.{OldWay, Wait, Way}
use Rattle.std.specs.Fmt.{decimal}
use Rattle.std.specs.Prelude.{◌%◌, ◌++◌, codes, List, ℕ}

-- the class and the description of a box
abbrev pub look_of : Look → List ℕ × List ℕ
look_of Way = (codes "way", codes "on the way from one centre to the next")
look_of OldWay = (codes "way old", codes "on the way from one centre to the next, at the place in its mission")
look_of Wait = (codes "wait", codes "a start of mission that waits")

-- the beginning of a path of this class in a train's colour
abbrev pub begin_path : ℕ → List ℕ → List ℕ
begin_path train class =
    codes "<path class=\"" ++ (class ++ (codes " c" ++ (decimal (train % 8) ++ codes "\" d=\"")))

-- an outline from its upper right corner
abbrev pub outline : ℕ → ℕ → ℕ → ℕ → List ℕ
outline right left y bottom =
    codes "M" ++ (decimal right ++ (codes " " ++ (decimal y ++ (codes "V" ++ (decimal bottom ++ (codes "H" ++
    (decimal left ++ (codes "V" ++ (decimal y ++ codes "z\">")))))))))

-- the title and the end of a path
abbrev pub end_path : List ℕ → List ℕ
end_path words = codes "<title>" ++ (words ++ codes "</title></path>\n")

-- a box in a train's colour, with a title
abbrev pub box_text : ℕ → List ℕ → List ℕ → ℕ → ℕ → ℕ → ℕ → List ℕ
box_text train class words right left y bottom =
    (begin_path train class ++ outline right left y bottom) ++ end_path words
