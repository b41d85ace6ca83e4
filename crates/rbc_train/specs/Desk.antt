-- A centre seen from one of its trains: the parts of its state that a message of the train finds, and those that it
-- leaves.
use Rattle.std.specs.Prelude.{[], ◌+◌, ◌<◌, ◌≡◌, ◌≤◌, Bool, Err, false, is_none, length, List, map, None, Ok, Option}
use Rattle.std.specs.Prelude.{Result, Some, true, ℕ}
use Rattle.law_base.specs.Local.Local.{IsOrdered}
use Rattle.rbc_allocation.specs.Sections.{IsHeldAt}
use Rattle.rbc_book.specs.Book.{entry_at, is_own, Pages, wish_at}
use Rattle.rbc_handover.specs.Expectations.{expected_from}
use Rattle.rbc_mission.specs.Supervisions.{HasRouteForm}
use Rattle.rbc_pending_start.specs.Waits.{IsCovered}
use Rattle.rbc_right.specs.Rights.{is_here, Rights}
use Rattle.rbc_session.specs.SessionStates.{session_phase}
use Rattle.rbc_spec.specs.Acts.{Act, Reply}
use Rattle.rbc_spec.specs.Centre.{Centre, Mission}
use Rattle.rbc_spec.specs.Frame.{Body}
use Rattle.rbc_spec.specs.Line.{is_home, Line, train_number}
use Rattle.rbc_spec.specs.Maps.{put}
use Rattle.rbc_spec.specs.Message.{is_stale, TrainBody}
use Rattle.rbc_spec.specs.Outcome.{Saying, Told}
use Rattle.rbc_spec.specs.SectionRuns.{is_empty, next_after, within}
use Rattle.rbc_spec.specs.Sections.{is_on}
use Rattle.rbc_spec.specs.Step.{Effect, effect, Train}
use Rattle.rbc_train.specs.declared.heard.Heard.{Heard}
use Rattle.rbc_train.specs.declared.mail.Mail.{Mail}
use Rattle.rbc_train.specs.declared.reason.Reason.{Reason}
use Rattle.rbc_train.specs.declared.train.TrainState.{TrainState}
use Rattle.rbc_train.specs.Desks.{HasBook, IsBookOf}
use Rattle.rbc_train.specs.Letters.{mail_of, mail_to}
use Rattle.rbc_train.specs.Reasons.{reason_of}
use Rattle.rbc_train.specs.Sayings.{told_train}

-- the pool of the mission, if there is one, follows its hand, and no section of it is of home c
pub record HasPoolAt (line : Line) (c : ℕ) (mission : Option Mission) : Type 0 where
  pub follows : (m : Mission) → mission ≡ Some m → is_empty m.pool ≡ false → m.pool.first ≡ next_after m.hand
  pub away : (m : Mission) → mission ≡ Some m → (s : ℕ) → within m.pool s ≡ true → is_home line c s ≡ false

-- The pool of the train's mission follows its hand and is of other homes. The claims of a waiting start are the
-- sections that its place covers. For each centre of the line it is known whether the train is expected from there.
pub record IsKeptAt (line : Line) (c : ℕ) (p : TrainState) : Type 0 where
  pub one_train : p.waiting.engine ≡ p.supervision.engine
  pub form : (m : Mission) → p.supervision.mission ≡ Some m → HasRouteForm m
  pub pool : HasPoolAt line c p.supervision.mission
  pub covers : IsCovered line p.waiting
  pub expected : length p.expectations ≡ length line.centres

-- each section of the hand of the train's mission is on its track
abbrev pub IsOnTrack : Line → TrainState → Type 0
IsOnTrack line p =
    (m : Mission) → p.supervision.mission ≡ Some m → (s : ℕ) → within m.hand s ≡ true
    → is_on line m.place.track s ≡ true

-- each section of the train's hand is held as centre c has to hold it: its own by a claim, others by name
abbrev pub IsHeld : Line → ℕ → TrainState → Type 0
IsHeld line c p = IsHeldAt p.supervision.engine (is_home line c) p.supervision.hand

-- ## A train at the desk of its centre

-- the book is that of centre c, and the train's hand is held there
pub record IsAtBook (line : Line) (c : ℕ) (p : TrainState) (pages : Pages) : Type 0 where
  pub book : IsBookOf line c pages
  pub held : IsHeld line c p

-- the highest count of messages to a train, which leaves no T_TRAIN for another
abbrev pub last_said : ℕ
last_said = 4294967294

-- centre c has this of the train, this book and these rights
pub record HasParts (line : Line) (c : ℕ) (k : Centre) (p : TrainState) (book : Pages) (rights : Rights) : Type 0 where
  pub ordered : IsOrdered line
  pub kept : IsKeptAt line c p
  pub homes : IsBookOf line c book
  pub has_book : HasBook k book
  pub has_wish : (s : ℕ) → k.wish s ≡ wish_at book s
  pub has_phase : k.phase p.supervision.engine ≡ session_phase p.session_state
  pub has_heard : k.heard p.supervision.engine ≡ p.heard
  pub has_said : k.said p.supervision.engine ≡ p.said
  pub has_mission : k.mission p.supervision.engine ≡ p.supervision.mission
  pub has_route_ask : k.route_ask p.supervision.engine ≡ p.supervision.asked
  pub has_wait : k.wait p.supervision.engine ≡ p.waiting.wait
  pub has_ask : k.has_asked p.supervision.engine ≡ p.waiting.has_asked
  pub has_right : k.has_right p.supervision.engine ≡ is_here rights p.supervision.number
  pub has_expects : (d : ℕ) → k.expects d p.supervision.engine ≡ expected_from p.expectations d

-- the centre has these parts, and may take a message of the train, which is of the line, with a T_TRAIN above the last
pub record HearsTrain (line : Line) (c : ℕ) (k : Centre) (stamp : ℕ) (p : TrainState) (book : Pages)
    (rights : Rights) : Type 0 where
  pub parts : HasParts line c k p book rights
  pub known : is_none (train_number line p.supervision.engine) ≡ false
  pub timely : is_stale stamp p.heard ≡ false

-- the centre with this of the train, this book and these rights
abbrev pub with_parts : TrainState → Pages → Rights → Centre → Centre
with_parts p book rights k = record k {
  book = entry_at book;
  wish = wish_at book;
  phase = put k.phase p.supervision.engine (session_phase p.session_state);
  heard = put k.heard p.supervision.engine p.heard;
  said = put k.said p.supervision.engine p.said;
  mission = put k.mission p.supervision.engine p.supervision.mission;
  route_ask = put k.route_ask p.supervision.engine p.supervision.asked;
  wait = put k.wait p.supervision.engine p.waiting.wait;
  has_asked = put k.has_asked p.supervision.engine p.waiting.has_asked;
  has_right = put k.has_right p.supervision.engine (is_here rights p.supervision.number);
  expects = λ d. put (k.expects d) p.supervision.engine (expected_from p.expectations d);
}

-- the centre with this count of messages to the train
abbrev pub counted_to : ℕ → ℕ → Centre → Centre
counted_to t said k = record k { said = put k.said t said }

-- the centre with this right of the train, or without it
abbrev pub with_right : ℕ → Bool → Centre → Centre
with_right t is_here k = record k { has_right = put k.has_right t is_here }

-- ## The effect of an act and of a message

-- a reply with this state, these messages and these reports, without frames
abbrev pub replied : Centre → List Saying → List ℕ → Reply
replied k sayings told = record { state = k; frames = λ d. []; sayings = sayings; words = map (λ s. Told s) told }

-- a reply that sends this to each centre
abbrev pub posted : (ℕ → List Body) → Reply → Reply
posted frames reply = record reply { frames = frames }

-- no message to the train; this mail and these reports
abbrev pub unsaid : Mail → List ℕ → Heard
unsaid mail told = record { saying = None; order = None; mail = mail; told = told }

-- no message, mail or report
abbrev pub nothing : Heard
nothing = unsaid (mail_of None) []

-- the effect is still empty, and one further message may be sent to the train
pub record IsReady (p : TrainState) (h : Heard) : Type 0 where
  pub out : h ≡ nothing
  pub count : p.said < last_said

-- the train is at the book of centre c, it has its place in these rights, and nothing is written yet
pub record IsAtDesk (line : Line) (c : ℕ) (p : TrainState) (pages : Pages) (rights : Rights)
    (h : Heard) : Type 0 where
  pub number : p.supervision.number < length rights
  pub book : IsBookOf line c pages
  pub held : IsHeld line c p
  pub out : h ≡ nothing

-- the reply for the effect of a frame about train t, or of an answered message, at centre c, with state k after it
abbrev pub reply_left : Line → ℕ → ℕ → Centre → Heard → Reply
reply_left line c t k h =
    posted (mail_to line c t (λ d. k.expects d t) h.mail) (replied k (told_train h.saying h.order) h.told)

-- in every state of centre c with the old parts, the act leaves the new parts and has this effect
abbrev pub Does : Line → ℕ → Act → TrainState → Pages → Rights → TrainState → Pages → Rights → Heard → Type 0
Does line c act old book rights new book' rights' h =
    (k : Centre) → HasParts line c k old book rights
    → act k ≡ reply_left line c old.supervision.engine (with_parts new book' rights' k) h

-- the effect of a message of train t at centre c, with state k after it
abbrev pub effect_left : Line → ℕ → ℕ → Centre → Result Heard Reason → Effect
effect_left line c t k (Ok h) = record { reply = reply_left line c t k h; link = None; silence = None }
effect_left line c t k (Err why) = record { reply = replied k [] []; link = None; silence = Some (reason_of why) }

-- Take a state of centre c with the old parts, in which the train's stamp is recorded. There the message leaves the new
-- parts and has this effect.
abbrev pub DoesMessage : Line → ℕ → ℕ → TrainBody → TrainState → Pages → Rights → TrainState → Pages → Rights
    → Result Heard Reason → Type 0
DoesMessage line c stamp body old book rights new book' rights' h =
    (k : Centre) → HearsTrain line c k stamp old book rights
    → effect line c k (Train (record { t_train = stamp; nid_engine = old.supervision.engine; body = body }))
    ≡ effect_left line c old.supervision.engine (with_parts new book' rights' k) h

-- ## The parts that stay

-- it is the same train, with at most two further messages
pub record KeepsTrain (old new : TrainState) : Type 0 where
  pub number : new.supervision.number ≡ old.supervision.number
  pub engine : new.supervision.engine ≡ old.supervision.engine
  pub waiting : new.waiting.engine ≡ old.waiting.engine
  pub said : new.said ≤ old.said + 2

-- of the rights none but that of this train has changed
pub record KeepsRights (i : ℕ) (rights rights' : Rights) : Type 0 where
  pub others : (j : ℕ) → is_here rights' j ≡ put (is_here rights) i (is_here rights' i) j
  pub count : length rights' ≡ length rights

-- the book has the same homes, and of the rights none but that of this train has changed
pub record KeepsDesk (i : ℕ) (book book' : Pages) (from to : Rights) : Type 0 where
  pub homes : (s : ℕ) → is_own book' s ≡ is_own book s
  pub rights : KeepsRights i from to

-- It is the same train at centre c. Its hand is held. If the claims of its waiting start were the sections that the
-- place covers, they still are. For each centre of the line it is known whether the train is expected from there.
pub record KeepsState (line : Line) (c : ℕ) (old new : TrainState) : Type 0 where
  pub train : KeepsTrain old new
  pub held : IsHeld line c new
  pub covers : IsCovered line old.waiting → IsCovered line new.waiting
  pub expected : length new.expectations ≡ length old.expectations

-- the facts of `KeepsState` of the train, and those of `KeepsDesk` of the desk
pub record KeepsAtDesk (line : Line) (c : ℕ) (old new : TrainState) (book book' : Pages)
    (from to : Rights) : Type 0 where
  pub state : KeepsState line c old new
  pub desk : KeepsDesk old.supervision.number book book' from to

-- It is the same train at every centre of every line. If its hand was held, it still is; so are the claims of its
-- waiting start. For as many centres it is known whether the train is expected from there.
pub record KeepsItself (old new : TrainState) : Type 0 where
  pub train : KeepsTrain old new
  pub held : (line : Line) (c : ℕ) → IsHeld line c old → IsHeld line c new
  pub covers : (line : Line) → IsCovered line old.waiting → IsCovered line new.waiting
  pub expected : length new.expectations ≡ length old.expectations

-- the only change is at most one further message
pub record SaysOnce (old new : TrainState) : Type 0 where
  pub left : new ≡ record old { said = new.said }
  pub counted : (old.said ≤ new.said) × (new.said ≤ old.said + 1)
