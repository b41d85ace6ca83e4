-- The meanings of numbers and of words in prints and messages (SUBSET-026 7.5.1, 8.6, 8.7).
use Rattle.std.specs.Borrow.{Bor}
use Rattle.std.specs.Prelude.{[], ◌==◌, ◌∷◌, codes, if◌then◌else◌, List, None, Option, Some, ℕ}
use Rattle.std.specs.Str.{bytes_eq}
use Rattle.rbc_vars.specs.declared.direction.Direction.{Direction}
use Rattle.rbc_vars.specs.declared.direction.Direction.TheVariants as direction
use Rattle.rbc_vars.specs.declared.scale.QScale.{QScale}
use Rattle.rbc_vars.specs.declared.scale.QScale.TheVariants.{Decametre, Decimetre, Metre}
use Rattle.rbc_vars.specs.declared.status.QStatus.{QStatus}
use Rattle.rbc_vars.specs.declared.status.QStatus.TheVariants as status

-- the entries of a table of numbers, with their texts as bytes
abbrev pub listed : List (ℕ × Bor (List ℕ)) → List (ℕ × List ℕ)
listed [] = []
listed (row ∷ rows) = (row.0, row.1.now) ∷ listed rows

-- the meaning of a number by a table, if the table has it
abbrev pub meaning_of : List (ℕ × List ℕ) → ℕ → Option (List ℕ)
meaning_of [] number = None
meaning_of (row ∷ rows) number = if row.0 == number then Some row.1 else meaning_of rows number

-- the entries of a table of words, with their texts as bytes
abbrev pub named : List (Bor (List ℕ) × Bor (List ℕ)) → List (List ℕ × List ℕ)
named [] = []
named (row ∷ rows) = (row.0.now, row.1.now) ∷ named rows

-- the meaning of a word by a table, if the table has it
abbrev pub meaning_of_name : List (List ℕ × List ℕ) → List ℕ → Option (List ℕ)
meaning_of_name [] name = None
meaning_of_name (row ∷ rows) name = if bytes_eq row.0 name then Some row.1 else meaning_of_name rows name

-- the faults of messages, by their numbers
abbrev pub faults : List (ℕ × List ℕ)
faults =
    (1, codes "bytes are missing") ∷ (2, codes "L_MESSAGE is not the length of the message")
    ∷ (3, codes "a filling bit is not zero") ∷ (4, codes "no message of this NID_MESSAGE is read")
    ∷ (5, codes "a packet is cut off or has a wrong length")
    ∷ (6, codes "a packet that has to be there is not") ∷ (7, codes "a field has a value that is refused")
    ∷ (8, codes "memory ran out") ∷ []

-- the reasons of silence, by their numbers
abbrev pub reasons : List (ℕ × List ℕ)
reasons =
    (1, codes "its T_TRAIN is not above the last one") ∷ (2, codes "no session stands with the train")
    ∷ (3, codes "the train is not of the line") ∷ (4, codes "its report has no place to be taken at")
    ∷ (5, codes "the train is not supervised here") ∷ (6, codes "the train's data are not known")
    ∷ (7, codes "a request to shorten stands") ∷ (8, codes "it answers no request that stands")
    ∷ (9, codes "the mission is ended") ∷ (10, codes "the session is up already, or not up yet") ∷ []

-- NID_MESSAGE
abbrev pub messages : List (ℕ × List ℕ)
messages =
    (3, codes "Movement Authority") ∷ (8, codes "Acknowledgement of Train Data")
    ∷ (9, codes "Request to Shorten MA") ∷ (24, codes "General Message") ∷ (32, codes "RBC/RIU System Version")
    ∷ (39, codes "Acknowledgement of termination of a communication session") ∷ (40, codes "Train Rejected")
    ∷ (41, codes "Train Accepted") ∷ (129, codes "Validated Train Data") ∷ (132, codes "MA Request")
    ∷ (136, codes "Train Position Report") ∷ (137, codes "Request to shorten MA is granted")
    ∷ (138, codes "Request to shorten MA is rejected") ∷ (150, codes "End of Mission")
    ∷ (155, codes "Initiation of a communication session")
    ∷ (156, codes "Termination of a communication session") ∷ (157, codes "SoM Position Report")
    ∷ (159, codes "Session Established") ∷ []

-- M_MODE
abbrev pub modes : List (ℕ × List ℕ)
modes =
    (0, codes "Full Supervision") ∷ (1, codes "On Sight") ∷ (2, codes "Staff Responsible")
    ∷ (3, codes "Shunting") ∷ (4, codes "Unfitted") ∷ (5, codes "Sleeping") ∷ (6, codes "Stand By")
    ∷ (7, codes "Trip") ∷ (8, codes "Post Trip") ∷ (9, codes "System Failure") ∷ (10, codes "Isolation")
    ∷ (11, codes "Non Leading") ∷ (12, codes "Limited Supervision") ∷ (13, codes "National System")
    ∷ (14, codes "Reversing") ∷ (15, codes "Passive Shunting") ∷ []

-- the replies to the interlocking
abbrev pub replies : List (List ℕ × List ℕ)
replies =
    (codes "Done", codes "done") ∷ (codes "Asked", codes "in use, and its return is asked for")
    ∷ (codes "NotHome", codes "not a section of this centre") ∷ (codes "Told", codes "shut now, as was wished")
    ∷ []

-- the bodies of frames between centres
abbrev pub bodies : List (List ℕ × List ℕ)
bodies =
    (codes "AskRight", codes "the train's right is asked for")
    ∷ (codes "GiveRight", codes "the train's right is given")
    ∷ (codes "RefuseRight", codes "the train's right is refused")
    ∷ (codes "ReturnRight", codes "the train's right goes back")
    ∷ (codes "RouteAsk", codes "sections beyond the train's authority are asked for")
    ∷ (codes "RouteInfo", codes "sections are lent, or none")
    ∷ (codes "RouteWithdraw", codes "a lent section is wanted back")
    ∷ (codes "RouteReturn", codes "lent sections come back")
    ∷ (codes "Announce", codes "a handover is announced") ∷ (codes "Cancel", codes "a handover is called off")
    ∷ (codes "TakingOver", codes "the train will be taken over")
    ∷ (codes "Yield", codes "the mission is handed over") ∷ []

-- why a delivered frame is not taken
abbrev pub remarks : List (List ℕ × List ℕ)
remarks =
    (codes "old", codes "the frame was taken before, and changes nothing")
    ∷ (codes "early", codes "a frame before it was not taken yet, and it changes nothing") ∷ []

-- Q_SCALE
abbrev pub scales : QScale → List ℕ
scales Decimetre = codes "unit 10 cm"
scales Metre = codes "unit 1 m"
scales Decametre = codes "unit 10 m"

-- Q_DIRLRBG, Q_DLRBG, Q_DIRTRAIN
abbrev pub directions : Direction → List ℕ
directions direction.Reverse = codes "reverse"
directions direction.Nominal = codes "nominal"
directions direction.Unknown = codes "unknown"
directions direction.Spare = codes "spare"

-- Q_STATUS
abbrev pub statuses : QStatus → List ℕ
statuses status.Invalid = codes "position invalid"
statuses status.Valid = codes "position valid"
statuses status.Unknown = codes "position unknown"
