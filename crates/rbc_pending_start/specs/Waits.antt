-- A start of mission that waits for the right to supervise, and the ask for that right.
use Rattle.std.specs.Option.{option_map_or}
use Rattle.std.specs.Prelude.{[], if◌then◌else◌, ◌+◌, ◌==◌, ◌∷◌, ◌≡◌, ◌≤◌, Bool, is_some, length, List, map, None}
use Rattle.std.specs.Prelude.{Option, option_map, Some, true, ℕ}
use Rattle.rbc_book.specs.Book.{entry_at, is_own, Pages, wish_at}
use Rattle.rbc_hand.specs.Hands.{Holding, IsAllOwn, run}
use Rattle.rbc_place.specs.declared.place.Place.{Place}
use Rattle.rbc_place.specs.Places.{place_of}
use Rattle.rbc_spec.specs.Acts.{Reply}
use Rattle.rbc_spec.specs.Centre.{Centre}
use Rattle.rbc_spec.specs.Frame.{AskRight, Body}
use Rattle.rbc_spec.specs.Line.{is_home, Line, registrar}
use Rattle.rbc_spec.specs.Maps.{put}
use Rattle.rbc_spec.specs.Outcome.{Told}
use Rattle.rbc_spec.specs.Place as spec
use Rattle.rbc_spec.specs.Place.{covered}
use Rattle.rbc_spec.specs.Rules.{reject}
use Rattle.rbc_spec.specs.SectionRuns.{no_run, SectionRun}

-- The state of a train's waiting start at a centre, by its NID_ENGINE. It has the place of the start, and the sections
-- that are claimed for it; without a waiting start these are empty. `has_asked`: the registrar was asked for the right
-- and has not answered.
pub record WaitState : Type 0 where
  pub engine : ℕ
  pub wait : Option spec.Place
  pub sections : SectionRun
  pub has_asked : Bool

-- no start of the train waits
abbrev pub nothing_waits : ℕ → Bool → WaitState
nothing_waits t has_asked = record { engine = t; wait = None; sections = no_run; has_asked = has_asked }

-- a start waits at this place, with the sections that it covers
abbrev pub waits_at : Line → spec.Place → WaitState → WaitState
waits_at line place w = record w { wait = Some place; sections = covered line place }

-- the sections claimed for a waiting start are those that its place covers
abbrev pub IsCovered : Line → WaitState → Type 0
IsCovered line w = (place : spec.Place) → w.wait ≡ Some place → w.sections ≡ covered line place

-- ## A centre that has it

-- centre c has this of the train, and this book
pub record HasWait (line : Line) (c : ℕ) (k : Centre) (w : WaitState) (book : Pages) : Type 0 where
  pub covers : IsCovered line w
  pub homes : (s : ℕ) → is_own book s ≡ is_home line c s
  pub has_book : (s : ℕ) → k.book s ≡ entry_at book s
  pub has_wish : (s : ℕ) → k.wish s ≡ wish_at book s
  pub has_wait : k.wait w.engine ≡ w.wait
  pub has_ask : k.has_asked w.engine ≡ w.has_asked

-- the centre with this of the train, and this book
abbrev pub with_wait : WaitState → Pages → Centre → Centre
with_wait w book k = record k {
  book = entry_at book;
  wish = wish_at book;
  wait = put k.wait w.engine w.wait;
  has_asked = put k.has_asked w.engine w.has_asked;
}

-- a reply with this state, and with reports of these sections to the interlocking
abbrev pub telling : Centre → List ℕ → Reply
telling k told = record { state = k; frames = λ d. []; sayings = []; words = map (λ s. Told s) told }

-- the frames that ask the registrar of the train for its right
abbrev pub asks : Line → ℕ → Bool → ℕ → List Body
asks line t is_asking d =
    if is_asking then option_map_or (λ r. if d == r then AskRight t ∷ [] else []) (registrar line t) [] else []

-- a reply that leaves this state, and asks for the right or not
abbrev pub asking : Line → ℕ → Bool → Centre → Reply
asking line t is_asking k = record { state = k; frames = asks line t is_asking; sayings = []; words = [] }

-- the reply to a refusal of the right: a waiting start is rejected, with reports of these sections
abbrev pub rejecting : ℕ → Option (List ℕ) → Centre → Reply
rejecting t None k = telling k []
rejecting t (Some told) k = record (reject t k) { words = map (λ s. Told s) told }

-- ## In memory

abbrev pub wait_state : ℕ → Option Place → Holding → Bool → WaitState
wait_state t place hand has_asked =
    record { engine = t; wait = option_map place_of place; sections = run hand; has_asked = has_asked }

-- Each section is held by a claim for the train. A waiting start has at least one; without one there are none.
pub record IsWaitingStart (t : ℕ) (place : Option Place) (hand : Holding) : Type 0 where
  pub own : IsAllOwn t hand
  pub none : place ≡ None → run hand ≡ no_run
  pub some : is_some place ≡ true → 1 ≤ length hand.holds
  pub most : length hand.holds ≤ 32
  pub numbers : hand.first + length hand.holds ≤ 65535
