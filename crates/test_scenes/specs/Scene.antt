-- The line of the examples, the trains' messages on it, and the views of a scene.
use Rattle.std.specs.List.{filter, find, flat_map, list_any, range_with_len, zip}
use Rattle.std.specs.Option.{option_map_or}
use Rattle.std.specs.Prelude.{[], ◌++◌, ◌+◌, ◌==◌, ◌||◌, ◌∷◌, Bool, Err, false, if◌then◌else◌, is_some, length, List}
use Rattle.std.specs.Prelude.{map, Ok, Option, Result, Some, suc, true, zero, ℕ}
use Rattle.rbc_spec.specs.Centre.{Centre, Entry, is_used_for, Open, Out, Shut, Taken}
use Rattle.rbc_spec.specs.Frame.{Body, Frame, Yield}
use Rattle.rbc_spec.specs.Line.{Centre as CentreOfLine, Line, Section, section}
use Rattle.rbc_spec.specs.Message.{InitiationOfSession, SessionEstablished, TrackBody, TrainBody}
use Rattle.rbc_spec.specs.Outcome.{Done, Reason, Saying, Taken as LinkAnswer, Word}
use Rattle.rbc_spec.specs.Place.{Position}
use Rattle.rbc_spec.specs.SectionRuns.{no_run, SectionRun, within}
use Rattle.rbc_spec.specs.Sections.{section_count}
use Rattle.rbc_spec.specs.Step.{Refusal}
use Rattle.rbc_spec.specs.World.{Answer, Answered, Bytes, Event, Fault, frame_sent, new_world, NoCentre, NotSent, Set}
use Rattle.rbc_spec.specs.World.{way, World, world_step}

-- ## The line

-- centres A, B, C and so on (0, 1, 2), with NID_RBC from 1
abbrev pub centres_named : ℕ → List CentreOfLine
centres_named count = map (λ c. record { name = (65 + c) ∷ []; nid_rbc = c + 1 }) (range_with_len 0 count)

-- sections of a track, by their lengths and homes in order, from this number on
abbrev pub sections_on : (track first : ℕ) → List (ℕ × ℕ) → List Section
sections_on track first parts =
    map (λ e. record { track = track; metres = e.1.0; home = e.1.1; balise = 100 + e.0 })
    (zip (range_with_len first (length parts)) parts)

-- a line with trains 1 and 2, by its centres, the names of its tracks, its sections, and the trains' registrars
abbrev pub line_of : ℕ → List (List ℕ) → List Section → (registrar_1 registrar_2 : ℕ) → Line
line_of centres tracks sections registrar_1 registrar_2 = record {
  nid_c = 5;
  centres = centres_named centres;
  tracks = tracks;
  sections = sections;
  trains = record { nid_engine = 1; registrar = registrar_1 } ∷ record { nid_engine = 2; registrar = registrar_2 } ∷ [];
}

-- the name of a line's only track
abbrev pub main : List ℕ
main = 109 ∷ 97 ∷ 105 ∷ 110 ∷ []

-- a list of n equal values
abbrev pub times : {X : Type 0} → ℕ → X → List X
times zero x = []
times (suc n) x = x ∷ times n x

-- eight sections of 1 000 m, four at A and then four at B, with train 1 registered at A and train 2 at B
abbrev pub line : Line
line = line_of 2 (main ∷ []) (sections_on 0 0 (times 4 (1000, 0) ++ times 4 (1000, 1))) 0 1

-- a line of A and B whose sections and trains are all A's
abbrev pub line_of_one : (count metres : ℕ) → Line
line_of_one count metres = line_of 2 (main ∷ []) (sections_on 0 0 (times count (metres, 0))) 0 0

-- a line of sixteen sections of 2 000 m and one section of this length, all at A
abbrev pub line_of_32_km : (metres : ℕ) → Line
line_of_32_km metres = line_of 2 (main ∷ []) (sections_on 0 0 (times 16 (2000, 0) ++ (metres, 0) ∷ [])) 0 0

-- a line of a sections at A, and b sections at B in advance of them
abbrev pub line_of_a_and_b : (a b metres : ℕ) → Line
line_of_a_and_b a b metres = line_of 2 (main ∷ []) (sections_on 0 0 (times a (metres, 0) ++ times b (metres, 1))) 0 1

-- two tracks of two sections, one of A and one of B
abbrev pub line_of_two_tracks : Line
line_of_two_tracks =
    line_of 2 (main ∷ (98 ∷ []) ∷ []) (sections_on 0 0 (times 2 (1000, 0)) ++ sections_on 1 2 (times 2 (1000, 1))) 0 0

-- two sections at A, a short one at B and two at C, with trains 1 and 2 registered at one centre
abbrev pub line_of_three : ℕ → Line
line_of_three registrar =
    line_of 3 (main ∷ []) (sections_on 0 0
    ((1000, 0) ∷ (1000, 0) ∷ (200, 1) ∷ (1000, 2) ∷ (1000, 2) ∷ [])) registrar registrar

-- ## Trains

-- a position in metres, with doubts of 10 m and 20 m, from the group of balise 100 + k of section k
abbrev pub at : (balise d_lrbg : ℕ) (length : Option ℕ) → Position
at balise d_lrbg length = record {
  scale = 10;
  nid_lrbg = 81920 + balise;
  d_lrbg = d_lrbg;
  is_nominal = true;
  l_doubtover = 10;
  l_doubtunder = 20;
  l_trainint = length;
  v_train = 0;
  is_level_2 = true;
}

-- the same, under way
abbrev pub moving : Position → Position
moving p = record p { v_train = 1 }

-- in section 1, with the front at 1 620 m and the rear at 1 390 m
abbrev pub in_section_1 : Position
in_section_1 = at 101 600 (Some 200)

-- NID_LRBG of the group at the start of section 1
abbrev pub group_1 : ℕ
group_1 = 82021

-- The contents of a scene, in order: events, and looks between them. A look is at the line, at a frame that was sent,
-- at a centre's clock, or at the trains that were named.
pub data Scene : Type 0 where
  Happens : (event : Event) → Scene
  Look : Scene
  LookAtFrame : (from to number : ℕ) → Scene
  LookAtClock : (c : ℕ) → Scene
  LookAtTrains : Scene

-- sections are set at centre c, in order
abbrev pub sets : (c first count : ℕ) → List Scene
sets c first count = map (λ s. Happens (Set c s)) (range_with_len first count)

-- a message of train t with this T_TRAIN arrives at centre c
abbrev pub train : (t c t_train : ℕ) → TrainBody → Scene
train t c t_train body = Happens (Bytes c (Ok (record { t_train = t_train; nid_engine = t; body = body })))

-- a session of train t with centre c is opened and established
abbrev pub session : (t c t_train : ℕ) → List Scene
session t c t_train = train t c t_train InitiationOfSession ∷ train t c (t_train + 1) SessionEstablished ∷ []

-- ## The views

-- The mark of a section. `Kept`: it is in use for a train, and in no hand. `Astray`: it is in a hand, and not in use at
-- its home.
pub data Mark : Type 0 where
  IsShut : Mark
  IsOpen : Mark
  Kept : (t : ℕ) → Mark
  Given : (t : ℕ) → Mark
  Astray : Mark

-- the marks of the sections in order, the sections that are wished back, and the supervisors of trains 1 and 2
pub record View : Type 0 where
  pub marks : List Mark
  pub wished : List ℕ
  pub supervisors : List (List ℕ)

-- `Link`: the link's answer to a frame. `Says`: a message to a train. `Sends`: a frame to a centre. `Tells`: a reply to
-- the interlocking. `Silence`: the reason why a message is silent. The next four: no step was taken. The last four:
-- looks.
pub data Item : Type 0 where
  Link : (answer : LinkAnswer) → Item
  Says : (t t_train nid_lrbg : ℕ) (body : TrackBody) → Item
  Sends : (to number : ℕ) (body : Body) → Item
  Tells : (word : Word) → Item
  Silence : (why : Reason) → Item
  Nowhere : Item
  NeverSent : Item
  BadBytes : (number : ℕ) → Item
  Refused : (why : Refusal) → Item
  Shows : (view : View) → Item
  ShowsFrame : (frame : Option Frame) → Item
  ShowsClock : (clock : ℕ) → Item
  ShowsTrains : (trains : List ℕ) → Item

abbrev pub all_centres : Line → List ℕ
all_centres l = range_with_len 0 (length l.centres)

-- the value of an option as a list
abbrev pub listed : {X Y : Type 0} → (X → Y) → Option X → List Y
listed f x = option_map_or (λ y. f y ∷ []) x []

abbrev pub said : Saying → Item
said s = Says s.nid_engine s.message.t_train s.message.nid_lrbg s.message.body

abbrev pub sent_to : ℕ → List Frame → List Item
sent_to d frames = map (λ f. Sends d f.number f.body) frames

abbrev pub items : Line → Answer → List Item
items l (Answered o) =
    listed Link o.link ++ map said o.sayings ++ flat_map (λ d. sent_to d (o.frames d)) (all_centres l)
    ++ map Tells o.words ++ listed Silence o.silence
items l NoCentre = Nowhere ∷ []
items l NotSent = NeverSent ∷ []
items l (Fault number) = BadBytes number ∷ []

-- the hand of train t in a frame
abbrev pub yielded : ℕ → Body → SectionRun
yielded t (Yield number u heard has_data is_ended place hand) = if u == t then hand else no_run
yielded t body = no_run

-- the section is in the hand of a Yield for the train, on the way from one centre to another
abbrev pub is_in_yield : World → ℕ → ℕ → ℕ → ℕ → Bool
is_in_yield w s t a b = list_any (λ f. within (yielded t f.body) s) (way w a b)

-- the section is in the train's hand, at a centre or in a Yield on the way
abbrev pub is_in_hand : Line → World → ℕ → ℕ → Bool
is_in_hand l w s t =
    list_any (λ c. option_map_or (λ m. within m.hand s) ((w.at c).mission t) false) (all_centres l)
    || list_any (λ a. list_any (is_in_yield w s t a) (all_centres l)) (all_centres l)

abbrev pub mark_of : Entry → Mark
mark_of Shut = IsShut
mark_of Open = IsOpen
mark_of (Taken t) = Kept t
mark_of (Out t) = Kept t

-- the mark of a section with this entry at its home
abbrev pub mark : Line → World → ℕ → Entry → Mark
mark l w s entry =
    option_map_or (λ t. if is_used_for t entry then Given t else Astray) (find (is_in_hand l w s) (1 ∷ 2 ∷ []))
    (mark_of entry)

-- the centre that has the section
abbrev pub at_home : Line → World → ℕ → Centre
at_home l w s = w.at (option_map_or (λ p. p.home) (section l s) 0)

abbrev pub supervisors_of : Line → World → ℕ → List ℕ
supervisors_of l w t = filter (λ c. is_some ((w.at c).mission t)) (all_centres l)

abbrev pub view : Line → World → View
view l w = record {
  marks = map (λ s. mark l w s ((at_home l w s).book s)) (range_with_len 0 (section_count l));
  wished = filter (λ s. (at_home l w s).wish s) (range_with_len 0 (section_count l));
  supervisors = supervisors_of l w 1 ∷ supervisors_of l w 2 ∷ [];
}

-- ## Scenes

-- the items of an answer, and then the views of the world after it; a refused step is the last item
abbrev pub played : Line → Result (Answer × World) Refusal → (World → List (List Item)) → List (List Item)
played l (Ok (answer, w)) others = items l answer ∷ others w
played l (Err why) others = (Refused why ∷ []) ∷ []

-- the views of scenes in order, from a world on
unfoldable pub seen_from : Line → List Scene → World → List (List Item)
seen_from l [] w = []
seen_from l (Look ∷ scenes) w = (Shows (view l w) ∷ []) ∷ seen_from l scenes w
seen_from l (LookAtFrame from to number ∷ scenes) w =
    (ShowsFrame (frame_sent w from to number) ∷ []) ∷ seen_from l scenes w
seen_from l (LookAtClock c ∷ scenes) w = (ShowsClock (w.at c).clock ∷ []) ∷ seen_from l scenes w
seen_from l (LookAtTrains ∷ scenes) w = (ShowsTrains w.trains ∷ []) ∷ seen_from l scenes w
seen_from l (Happens event ∷ scenes) w = played l (world_step l w event) (seen_from l scenes)

-- the views of scenes on a new line
unfoldable pub seen : Line → List Scene → List (List Item)
seen l scenes = seen_from l scenes (new_world l)

-- ## Short forms

-- no message, frame or reply
abbrev pub nothing : List Item
nothing = []

-- the reply `Done` to the interlocking
abbrev pub done : ℕ → List Item
done s = Tells (Done s) ∷ []

-- the same for consecutive sections
abbrev pub all_done : (first count : ℕ) → List (List Item)
all_done first count = map done (range_with_len first count)

-- the view of the line
abbrev pub shows : List Mark → List ℕ → List (List ℕ) → List Item
shows marks wished supervisors = Shows (record { marks = marks; wished = wished; supervisors = supervisors }) ∷ []
