-- The quiet steps: steps that the one line centre may take by itself after an event. Only the admission of a start
-- gives a section to a train, and no quiet step frees a given section.
use Rattle.std.specs.List.{find, range_with_len}
use Rattle.std.specs.Option.{option_map_or}
use Rattle.std.specs.Prelude.{[], ◌&&◌, ◌*◌, ◌++◌, ◌+◌, ◌-◌, ◌<◌, ◌==◌, ◌∷◌, ◌≡◌, ◌≤◌, Bool, false, List, max, None}
use Rattle.std.specs.Prelude.{Some, true, ℕ}
use Rattle.rbc_spec.specs.Centre.{Up}
use Rattle.rbc_spec.specs.Line.{is_home, Line, next_centre, start}
use Rattle.rbc_spec.specs.LineCentre.{At, change_mission, free, is_given_to, is_waiting, is_waiting_at, IsHand, Kept}
use Rattle.rbc_spec.specs.LineCentre.{LineMission, LineState, nothing, Open, Parted, Said, set_mission, told}
use Rattle.rbc_spec.specs.Maps.{put, put_pair}
use Rattle.rbc_spec.specs.Message.{EndSession, ShorteningRequest, TrainAccepted, TrainRejected, Transition}
use Rattle.rbc_spec.specs.Message.{unknown_group}
use Rattle.rbc_spec.specs.OwnSteps.{begins, Says, SaysNothing, Tells}
use Rattle.rbc_spec.specs.Place.{farthest, group_start, Place}
use Rattle.rbc_spec.specs.SectionRuns.{SectionRun, within}
use Rattle.rbc_spec.specs.Sections.{nid_rbc, section_count}

-- Rules: LC-17
pub data Quiet : Type 0 where
  Keep : (t s : ℕ) → Quiet  -- keeps an open section for t
  Unkeep : (t s : ℕ) → Quiet  -- frees a section that is kept for t
  Admit : (t c : ℕ) → Quiet  -- turns a start of t that waits at c into a mission
  Dismiss : (t c : ℕ) → Quiet  -- rejects a start of t that waits at c
  LayDown : (t c : ℕ) → Quiet  -- c gives its supervision of t up
  TakeUp : (t c : ℕ) → Quiet  -- c takes the supervision of t up
  Propose : (t c s : ℕ) → Quiet  -- c asks t to shorten its authority before s
  Order : (t c : ℕ) → Quiet  -- c orders t to change to the next centre
  EndOrder : (t c : ℕ) → Quiet  -- c orders t to end its session

-- the step is of centre c: its section has home c, or its centre is c
-- Rules: LC-17
abbrev pub is_of_centre : Line → ℕ → Quiet → Bool
is_of_centre line c (Keep t s) = is_home line c s
is_of_centre line c (Unkeep t s) = is_home line c s
is_of_centre line c (Admit t d) = d == c
is_of_centre line c (Dismiss t d) = d == c
is_of_centre line c (LayDown t d) = d == c
is_of_centre line c (TakeUp t d) = d == c
is_of_centre line c (Propose t d s) = d == c
is_of_centre line c (Order t d) = d == c
is_of_centre line c (EndOrder t d) = d == c

-- `Admit`: a start waits at c, and the train has no mission
pub record Admits (line : Line) (v : LineState) (t c : ℕ) (said : Said) (new : LineState) : Type 0 where
  pub place : Place
  pub waits : v.wait t c ≡ Some place
  pub no_mission : v.mission t ≡ None
  pub says : Says t c unknown_group TrainAccepted [] v
      (record (begins line t c place v) { wait = put_pair v.wait t c None }) said new

-- `Dismiss`: a waiting start ends, and its sections are freed
pub record Dismisses (line : Line) (v : LineState) (t c : ℕ) (said : Said) (new : LineState) : Type 0 where
  pub place : Place
  pub waits : v.wait t c ≡ Some place
  pub says : Says t c unknown_group TrainRejected (told line (is_waiting_at line v t c) v) v
      (record (free (is_waiting_at line v t c) v) { wait = put_pair v.wait t c None }) said new

-- `LayDown`: centre c, which supervises the train and received its last message with this stamp, gives the supervision
-- up
pub record LaysDown (v : LineState) (t c : ℕ) (said : Said) (new : LineState) : Type 0 where
  pub mission : LineMission
  pub stamp : ℕ
  pub of_train : v.mission t ≡ Some mission
  pub supervises : mission.supervisor ≡ At c
  pub heard : v.heard t c ≡ Some stamp
  pub leaves : SaysNothing
      (set_mission t (Some (record mission { supervisor = Parted stamp; proposal = None })) v) said new

-- `TakeUp`: centre c becomes the supervisor of a mission without one. The later of both stamps is kept.
pub record TakesUp (v : LineState) (t c : ℕ) (said : Said) (new : LineState) : Type 0 where
  pub mission : LineMission
  pub stamp : ℕ
  pub of_train : v.mission t ≡ Some mission
  pub parted : mission.supervisor ≡ Parted stamp
  pub leaves : SaysNothing
      (record (set_mission t (Some (record mission { supervisor = At c })) v) {
        heard = put_pair v.heard t c
            (Some (option_map_or (max stamp) (v.heard t c) stamp));
      }) said new

-- `Propose`: message 9 for a section of the hand (3.8.6), if a request to shorten may be sent. The section need not be
-- wished back.
pub record Proposes (line : Line) (v : LineState) (t c s : ℕ) (said : Said) (new : LineState) : Type 0 where
  pub mission : LineMission
  pub hand : SectionRun
  pub of_train : v.mission t ≡ Some mission
  pub supervises : mission.supervisor ≡ At c
  pub is_up : v.phase t c ≡ Up
  pub goes_on : mission.is_ended ≡ false
  pub none_stands : mission.proposal ≡ None
  pub is_hand : IsHand v t hand
  pub in_hand : within hand s ≡ true
  pub not_first : hand.first < s
  pub not_past : mission.place.front ≤ 10 * start line s
  pub within_reach : start line s ≤ group_start line mission.place + farthest
  pub says : Says t c mission.place.group (ShorteningRequest (start line s - group_start line mission.place)) [] v
      (change_mission t (λ m. record m {
        proposal = Some
            (record { stamp = v.said t c + 1; last_kept = s - 1 });
      }) v) said new

-- `Order`: message 24 with packet 131 (3.15.1) names the next centre of the track and the distance to its first section
-- in the hand. The start of that section is not in rear of the group, and is within the range of D_RBCTR.
-- Rules: LC-15
pub record Orders (line : Line) (v : LineState) (t c : ℕ) (said : Said) (new : LineState) : Type 0 where
  pub mission : LineMission
  pub next : ℕ
  pub border : ℕ
  pub of_train : v.mission t ≡ Some mission
  pub supervises : mission.supervisor ≡ At c
  pub is_up : v.phase t c ≡ Up
  pub next_is : next_centre line c mission.place.track ≡ Some next
  pub at_border : find (λ s. is_given_to t (v.mark s) && is_home line next s) (range_with_len 0 (section_count line))
      ≡ Some border
  pub ahead : group_start line mission.place ≤ start line border
  pub within_reach : start line border ≤ group_start line mission.place + farthest
  pub says : Says t c mission.place.group
      (Transition (start line border - group_start line mission.place) line.nid_c (nid_rbc line next)) [] v v said new

-- `EndOrder`: message 24 with packet 42, if c does not supervise the train and no section of home c is given to it
pub record EndsSession (line : Line) (v : LineState) (t c : ℕ) (said : Said) (new : LineState) : Type 0 where
  pub not_here : (m : LineMission) → v.mission t ≡ Some m → m.supervisor ≡ At c → ⊥
  pub is_up : v.phase t c ≡ Up
  pub none_given : (s : ℕ) → (is_home line c s && is_given_to t (v.mark s)) ≡ false
  pub says : Says t c unknown_group (EndSession line.nid_c (nid_rbc line c)) [] v v said new

-- `Keep`: an open section is kept for the train
pub record Keeps (v : LineState) (t s : ℕ) (said : Said) (new : LineState) : Type 0 where
  pub is_open : v.mark s ≡ Open
  pub leaves : SaysNothing (record v { mark = put v.mark s (Kept t) }) said new

-- `Unkeep`: a kept section is freed, if no start of the train waits for it
pub record Unkeeps (line : Line) (v : LineState) (t s : ℕ) (said : Said) (new : LineState) : Type 0 where
  pub is_kept : v.mark s ≡ Kept t
  pub not_waiting : is_waiting line v t s ≡ false
  pub tells : Tells (told line (λ e. e == s) v) (free (λ e. e == s) v) said new

-- from state v the line centre may take this quiet step, with these messages and replies, and be in state `new` after
-- it
-- Rules: LC-13, LC-14
abbrev pub TakesQuiet : Line → LineState → Quiet → Said → LineState → Type 0
TakesQuiet line v (Keep t s) said new = Keeps v t s said new
TakesQuiet line v (Unkeep t s) said new = Unkeeps line v t s said new
TakesQuiet line v (Admit t c) said new = Admits line v t c said new
TakesQuiet line v (Dismiss t c) said new = Dismisses line v t c said new
TakesQuiet line v (LayDown t c) said new = LaysDown v t c said new
TakesQuiet line v (TakeUp t c) said new = TakesUp v t c said new
TakesQuiet line v (Propose t c s) said new = Proposes line v t c s said new
TakesQuiet line v (Order t c) said new = Orders line v t c said new
TakesQuiet line v (EndOrder t c) said new = EndsSession line v t c said new

-- the messages and replies of one step, then those of another
abbrev pub both : Said → Said → Said
both a b = record { sayings = a.sayings ++ b.sayings; words = a.words ++ b.words }

-- the quiet steps in order
abbrev pub TakesAll : Line → LineState → List Quiet → Said → LineState → Type 0
TakesAll line v [] said new = (said ≡ nothing) × (new ≡ v)
TakesAll line v (q ∷ qs) said new =
    (first : Said) × (others : Said) × (mid : LineState) × TakesQuiet line v q first mid
    × TakesAll line mid qs others new × (said ≡ both first others)
