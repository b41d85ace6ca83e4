-- The lines of trains in the print of a run.
use Rattle.std.specs.Fmt.{format_spec, styled_decimal, styled_text}
use Rattle.std.specs.Prelude.{[], ◌*◌, ◌++◌, ◌-◌, ◌/◌, ◌^◌, ◌∷◌, ◌≡◌, codes, List, None, Option, option_map, slice_get}
use Rattle.std.specs.Prelude.{Some, true, unwrap_or, ℕ}
use Rattle.std.specs.Io.KnownBytes.{Appends, Keeps}
use Rattle.rbc_spec.specs.Line.{Line}
use Rattle.train_unit.specs.Trains as rules
use Rattle.cli_drive.specs.Obedience.{train_at}
use Rattle.cli_drive.specs.declared.trains.train.Train.{Train}

-- a number at the right of a column
abbrev pub at_right : ℕ → ℕ → List ℕ
at_right width n = styled_decimal (format_spec 32 3 0 width (2 ^ 64 - 1)) n

-- a text at the left of a column
abbrev pub at_left : ℕ → List ℕ → List ℕ
at_left width text = styled_text (format_spec 32 1 0 width (2 ^ 64 - 1)) text

-- the name of the centre that is followed; `?` for one that the line does not have, and `-` for none
abbrev pub centre_followed : Line → Option ℕ → List ℕ
centre_followed line None = codes "-"
centre_followed line (Some centre) =
    unwrap_or (option_map (λ row. row.name) (slice_get line.centres centre)) (codes "?")

-- the name of the centre that a train follows
abbrev pub followed_name : Line → Train → List ℕ
followed_name line train = centre_followed line train.driver.follows

-- The line of a train at a second. It has its NID_ENGINE, its track, the metres to its front end and to the end of its
-- authority, and the centre that it follows.
abbrev pub train_row : Line → ℕ → Train → ℕ → List ℕ
train_row line second train limit =
    at_right 8 second ++ (at_right 10 train.unit.nid_engine ++ (codes "  "
    ++ (at_left 16 (unwrap_or (slice_get line.tracks train.ends.track) (codes "?"))
    ++ (at_right 11 (train.ends.front / 10) ++ (at_right 13 limit ++ (codes "  " ++ (followed_name line train
    ++ 10 ∷ [])))))))

-- the text is the line of a train, with metres to which the train may run
pub record IsTrainRow (line : Line) (second : ℕ) (train : Train) (row : List ℕ) : Type 0 where
  pub limit : ℕ
  pub may_reach : rules.may_reach (10 * limit) (train_at train) ≡ true
  pub text : row ≡ train_row line second train limit

-- the line of the train is written, if there is one
abbrev pub IsShown : Line → ℕ → Option Train → Option (List ℕ) → Option (List ℕ) → Type 0
IsShown line second None old new = Keeps old new
IsShown line second (Some train) old new =
    (row : List ℕ) × IsTrainRow line second train row × Appends old new row

-- the text has the line of each train, in order
abbrev pub AreTrainRows : Line → ℕ → List Train → List ℕ → Type 0
AreTrainRows line second [] text = text ≡ []
AreTrainRows line second (train ∷ trains) text =
    (row : List ℕ) × (rest : List ℕ) × IsTrainRow line second train row × AreTrainRows line second trains rest
    × (text ≡ row ++ rest)
