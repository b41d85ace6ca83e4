-- The words of enumerated values (SUBSET-026 7.5.1), and the names of messages (8.6, 8.7) and packets (7.4).
use Rattle.std.specs.Prelude.{[], ◌==◌, ◌∷◌, codes, if◌then◌else◌, List, ℕ}
use Rattle.text_fields.specs.declared.messages.Side.{Side}
use Rattle.text_fields.specs.declared.messages.Side.TheVariants.{Centre, Train}

-- the words of a value in a table, or other ones
abbrev pub words_or : List (ℕ × List ℕ) → ℕ → List ℕ → List ℕ
words_or [] value other = other
words_or (row ∷ rows) value other = if row.0 == value then row.1 else words_or rows value other

-- Q_SCALE
abbrev pub scales : List (ℕ × List ℕ)
scales =
    (0, codes "unit 10 cm") ∷ (1, codes "unit 1 m") ∷ (2, codes "unit 10 m") ∷ []

-- Q_DIRLRBG, Q_DLRBG, Q_DIRTRAIN
abbrev pub directions : List (ℕ × List ℕ)
directions =
    (0, codes "reverse") ∷ (1, codes "nominal") ∷ (2, codes "unknown") ∷ (3, codes "spare") ∷ []

-- Q_LENGTH
abbrev pub lengths : List (ℕ × List ℕ)
lengths =
    (0, codes "no information") ∷ (1, codes "confirmed by a device") ∷ (2, codes "confirmed by the driver")
    ∷ (3, codes "integrity lost") ∷ []

-- Q_STATUS
abbrev pub statuses : List (ℕ × List ℕ)
statuses =
    (0, codes "position invalid") ∷ (1, codes "position valid") ∷ (2, codes "position unknown") ∷ []

-- M_LEVEL
abbrev pub levels : List (ℕ × List ℕ)
levels =
    (0, codes "Level 0") ∷ (1, codes "Level NTC") ∷ (2, codes "Level 1") ∷ (3, codes "Level 2")
    ∷ (4, codes "Level 3") ∷ (5, codes "spare") ∷ (6, codes "spare") ∷ (7, codes "spare") ∷ []

-- M_MODE
abbrev pub modes : List (ℕ × List ℕ)
modes =
    (0, codes "Full Supervision") ∷ (1, codes "On Sight") ∷ (2, codes "Staff Responsible") ∷ (3, codes "Shunting")
    ∷ (4, codes "Unfitted") ∷ (5, codes "Sleeping") ∷ (6, codes "Stand By") ∷ (7, codes "Trip")
    ∷ (8, codes "Post Trip") ∷ (9, codes "System Failure") ∷ (10, codes "Isolation") ∷ (11, codes "Non Leading")
    ∷ (12, codes "Limited Supervision") ∷ (13, codes "National System") ∷ (14, codes "Reversing")
    ∷ (15, codes "Passive Shunting") ∷ []

-- NID_MESSAGE (8.6, 8.7)
abbrev pub messages : List (ℕ × List ℕ)
messages =
    (2, codes "SR Authorisation") ∷ (3, codes "Movement Authority") ∷ (6, codes "Recognition of exit from TRIP mode")
    ∷ (8, codes "Acknowledgement of Train Data") ∷ (9, codes "Request to Shorten MA")
    ∷ (15, codes "Conditional Emergency Stop") ∷ (16, codes "Unconditional Emergency Stop")
    ∷ (18, codes "Revocation of Emergency Stop") ∷ (24, codes "General Message") ∷ (27, codes "SH Refused")
    ∷ (28, codes "SH Authorised") ∷ (32, codes "RBC/RIU System Version")
    ∷ (33, codes "MA with Shifted Location Reference") ∷ (34, codes "Track Ahead Free Request")
    ∷ (37, codes "Infill MA") ∷ (38, codes "Initiation of a communication session")
    ∷ (39, codes "Acknowledgement of termination of a communication session") ∷ (40, codes "Train Rejected")
    ∷ (41, codes "Train Accepted") ∷ (43, codes "SoM position report confirmed by RBC")
    ∷ (45, codes "Assignment of coordinate system") ∷ (129, codes "Validated Train Data")
    ∷ (130, codes "Request for Shunting") ∷ (132, codes "MA Request") ∷ (136, codes "Train Position Report")
    ∷ (137, codes "Request to shorten MA is granted") ∷ (138, codes "Request to shorten MA is rejected")
    ∷ (146, codes "Acknowledgement") ∷ (147, codes "Acknowledgement of Emergency Stop")
    ∷ (149, codes "Track Ahead Free Granted") ∷ (150, codes "End of Mission") ∷ (153, codes "Radio infill request")
    ∷ (154, codes "No compatible version supported") ∷ (155, codes "Initiation of a communication session")
    ∷ (156, codes "Termination of a communication session") ∷ (157, codes "SoM Position Report")
    ∷ (158, codes "Text message acknowledged by driver") ∷ (159, codes "Session Established") ∷ []

-- NID_PACKET of a train (7.4.3)
abbrev pub train_packets : List (ℕ × List ℕ)
train_packets =
    (0, codes "position report") ∷ (1, codes "position report based on two balise groups")
    ∷ (3, codes "onboard telephone numbers") ∷ (4, codes "error reporting") ∷ (5, codes "train running number")
    ∷ (9, codes "Level 2/3 transition information") ∷ (11, codes "validated train data")
    ∷ (44, codes "data used by applications outside the ERTMS/ETCS system") ∷ []

-- NID_PACKET of a centre (7.4.2)
abbrev pub centre_packets : List (ℕ × List ℕ)
centre_packets =
    (3, codes "national values") ∷ (5, codes "linking") ∷ (15, codes "Level 2/3 Movement Authority")
    ∷ (21, codes "gradient profile") ∷ (27, codes "international static speed profile")
    ∷ (41, codes "level transition order") ∷ (42, codes "session management")
    ∷ (44, codes "data used by applications outside the ERTMS/ETCS system") ∷ (51, codes "axle load speed profile")
    ∷ (57, codes "movement authority request parameters") ∷ (58, codes "position report parameters")
    ∷ (65, codes "temporary speed restriction") ∷ (66, codes "temporary speed restriction revocation")
    ∷ (68, codes "track condition") ∷ (70, codes "route suitability data") ∷ (71, codes "adhesion factor")
    ∷ (72, codes "packet for sending plain text messages") ∷ (76, codes "packet for sending fixed text messages")
    ∷ (79, codes "geographical position information") ∷ (80, codes "mode profile")
    ∷ (131, codes "RBC transition order") ∷ []

-- the kind of a frame (profile)
abbrev pub frames : List (ℕ × List ℕ)
frames =
    (1, codes "AskRight, the train's right is asked for") ∷ (2, codes "GiveRight, the train's right is given")
    ∷ (3, codes "RefuseRight, the train's right is refused") ∷ (4, codes "ReturnRight, the train's right goes back")
    ∷ (5, codes "RouteAsk, sections beyond the train's authority are asked for")
    ∷ (6, codes "RouteInfo, sections are lent, or none") ∷ (7, codes "RouteWithdraw, a lent section is wanted back")
    ∷ (8, codes "RouteReturn, lent sections come back") ∷ (9, codes "Announce, a handover is announced")
    ∷ (10, codes "Cancel, a handover is called off") ∷ (11, codes "TakingOver, the train will be taken over")
    ∷ (12, codes "Yield, the mission is handed over") ∷ []

-- the packets of a sender
abbrev pub packets : Side → List (ℕ × List ℕ)
packets Train = train_packets
packets Centre = centre_packets
