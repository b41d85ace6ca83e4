-- The frames of a step: bodies that are sent on the links.
use Rattle.std.specs.Prelude.{[], ◌++◌, ◌+◌, ◌==◌, ◌∷◌, ◌≡◌, ◌≤◌, ◌⊎◌, All, if◌then◌else◌, length, List, true, ℕ}
use Rattle.rbc_centre.specs.declared.frame_room.FrameRoom.{FrameRoom}
use Rattle.rbc_centre.specs.declared.sent_frame.SentFrame.{SentFrame}
use Rattle.rbc_centre.specs.Listed.{frames_in}
use Rattle.rbc_centre.specs.Rooms.{HasFrameRoom}
use Rattle.rbc_link.specs.declared.link.Link.{Link}
use Rattle.rbc_link.specs.Links.{has_link, room_to, sent_to}
use Rattle.rbc_link.specs.Posted.{HasPosted}
use Rattle.rbc_linkmsg.specs.Bodies.{body_of}
use Rattle.rbc_linkmsg.specs.declared.body.Body.{Body}
use Rattle.rbc_spec.specs.Frame as spec
use Rattle.rbc_spec.specs.Frame.{Frame, HasBodyRange, last_stamp}
use Rattle.rbc_spec.specs.Line.{is_linked, Line}
use Rattle.rbc_spec.specs.Step.{numbered}

-- these bodies to one centre
abbrev pub only : ℕ → List spec.Body → ℕ → List spec.Body
only to bodies d = if d == to then bodies else []

-- this body to each other centre of the line
abbrev pub to_others : Line → ℕ → spec.Body → ℕ → List spec.Body
to_others line c body d = if is_linked line c d then body ∷ [] else []

-- the centre has a link, and the body has a spelling
pub record IsFit (links : List (Link Body)) (d : ℕ) (b : spec.Body) : Type 0 where
  pub linked : has_link links d ≡ true
  pub range : HasBodyRange b

-- these bodies may be sent to a centre: each is fit, and the link has room and numbers for all
pub record MayPost (links : List (Link Body)) (d : ℕ) (bodies : List spec.Body) : Type 0 where
  pub each : All (IsFit links d) bodies
  pub room : has_link links d ≡ true → length bodies ≤ room_to links d
  pub numbers : has_link links d ≡ true → length (sent_to links d) + length bodies ≤ 65536

-- these bodies were sent on the links, and their frames are appended to the list
pub record HasSent (stamp : ℕ) (bodies : ℕ → List spec.Body) (old new : List (Link Body))
    (before after : List SentFrame) : Type 0 where
  pub posted : HasPosted body_of stamp bodies old new
  pub frames : (d : ℕ) → frames_in after d ≡ frames_in before d ++ numbered stamp (length (sent_to old d)) (bodies d)

-- centre c of the line may send these bodies in a step with this stamp: on its links, and there is room for the frames
pub record MaySend (line : Line) (c stamp : ℕ) (bodies : ℕ → List spec.Body) (links : List (Link Body))
    (spare : FrameRoom) : Type 0 where
  pub timely : (1 ≤ stamp) × (stamp ≤ last_stamp)
  pub linked : (d : ℕ) → has_link links d ≡ is_linked line c d
  pub may : (d : ℕ) → MayPost links d (bodies d)
  pub room : (d : ℕ) → (bodies d ≡ []) ⊎ HasFrameRoom spare

-- these bodies were sent on the links, and these are their frames
pub record IsSent (stamp : ℕ) (bodies : ℕ → List spec.Body) (old new : List (Link Body))
    (frames : ℕ → List Frame) : Type 0 where
  pub links : HasPosted body_of stamp bodies old new
  pub each : (d : ℕ) → frames d ≡ numbered stamp (length (sent_to old d)) (bodies d)
