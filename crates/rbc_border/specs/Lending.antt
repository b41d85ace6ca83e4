-- A home that lends sections to a train at another centre, and takes them back.
use Rattle.std.specs.Prelude.{◌≡◌, ℕ, Bool, ◌&&◌, not, List, [], map, Option, if◌then◌else◌}
use Rattle.std.specs.Option.{option_map_or}
use Rattle.std.specs.List.{filter, range_with_len}
use Rattle.rbc_spec.specs.SectionRuns.{SectionRun, within}
use Rattle.rbc_spec.specs.Line.{Line, is_home}
use Rattle.rbc_spec.specs.Frame.{Body}
use Rattle.rbc_spec.specs.Outcome.{Told}
use Rattle.rbc_spec.specs.Centre.{Centre, Shut, Open, Out, is_open, is_out_for}
use Rattle.rbc_spec.specs.Acts.{Act, Reply, rest, send}
use Rattle.rbc_book.specs.Book.{Pages, is_own, entry_at, wish_at}

-- ## In the book

-- the open sections of the run are in use for the train at another centre, and nothing else changed
pub record LendsRun (t : ℕ) (r : SectionRun) (old new : Pages) : Type 0 where
  pub homes : (s : ℕ) → is_own new s ≡ is_own old s
  pub entry : (s : ℕ) → entry_at new s ≡ (if within r s && is_open (entry_at old s) then Out t else entry_at old s)
  pub wish : (s : ℕ) → wish_at new s ≡ wish_at old s

-- the section is of the run, and in use for the train at another centre
abbrev pub is_lent : ℕ → SectionRun → Pages → ℕ → Bool
is_lent t r book s = within r s && is_out_for t (entry_at book s)

-- The sections of the run that were in use for the train at another centre are open, or shut if they were wished back.
-- Nothing else changed.
pub record BringsBack (t : ℕ) (r : SectionRun) (old new : Pages) : Type 0 where
  pub homes : (s : ℕ) → is_own new s ≡ is_own old s
  pub entry : (s : ℕ) → entry_at new s
      ≡ (if is_lent t r old s then (if wish_at old s then Shut else Open) else entry_at old s)
  pub wish : (s : ℕ) → wish_at new s ≡ (not (is_lent t r old s) && wish_at old s)

-- the sections of the run that are in use for the train at another centre and wished back, in rising order
abbrev pub told_back : ℕ → SectionRun → Pages → List ℕ
told_back t r book = filter (λ s. is_out_for t (entry_at book s) && wish_at book s) (range_with_len r.first r.count)

-- ## At a centre

-- centre c of the line has this book
pub record HasBook (line : Line) (c : ℕ) (k : Centre) (book : Pages) : Type 0 where
  pub homes : (s : ℕ) → is_own book s ≡ is_home line c s
  pub has_book : (s : ℕ) → k.book s ≡ entry_at book s
  pub has_wish : (s : ℕ) → k.wish s ≡ wish_at book s

-- the centre with this book
abbrev pub with_book : Pages → Centre → Centre
with_book book k = record k { book = entry_at book; wish = wish_at book }

-- a body goes to centre d, or none
abbrev pub sending : ℕ → Option Body → Act
sending d body = option_map_or (send d) body rest

-- a reply with this state, and with reports of these sections to the interlocking
abbrev pub telling : List ℕ → Centre → Reply
telling told k = record { state = k; frames = λ d. []; sayings = []; words = map (λ s. Told s) told }
