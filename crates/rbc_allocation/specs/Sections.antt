-- Sections that are taken into use for a train, and given back.
use Rattle.std.specs.List.{filter, range_with_len}
use Rattle.std.specs.Prelude.{if◌then◌else◌, ◌&&◌, ◌+◌, ◌-◌, ◌==◌, ◌≡◌, Bool, drop, List, not, slice_get, Some, take}
use Rattle.std.specs.Prelude.{true, ℕ}
use Rattle.rbc_book.specs.Book.{entry_at, is_own, Pages, wish_at}
use Rattle.rbc_hand.specs.Hands.{Holding}
use Rattle.rbc_hand.specs.Tokens.{Held, Name, Own}
use Rattle.rbc_spec.specs.Centre.{is_open, is_taken_for, Open, Shut, Taken}
use Rattle.rbc_spec.specs.SectionRuns.{next_after, SectionRun, within}

-- the open sections of the run are in use for the train, and nothing else changed
pub record TakesRun (t : ℕ) (r : SectionRun) (old new : Pages) : Type 0 where
  pub homes : (s : ℕ) → is_own new s ≡ is_own old s
  pub entry : (s : ℕ) → entry_at new s ≡ (if within r s && is_open (entry_at old s) then Taken t else entry_at old s)
  pub wish : (s : ℕ) → wish_at new s ≡ wish_at old s

-- the section is of the run, and in use for the train
abbrev pub is_held : ℕ → SectionRun → Pages → ℕ → Bool
is_held t r book s = within r s && is_taken_for t (entry_at book s)

-- The sections of the run that were in use for the train are open, or shut if they were wished back. Nothing else
-- changed.
pub record FreesRun (t : ℕ) (r : SectionRun) (old new : Pages) : Type 0 where
  pub homes : (s : ℕ) → is_own new s ≡ is_own old s
  pub entry : (s : ℕ) → entry_at new s
      ≡ (if is_held t r old s then (if wish_at old s then Shut else Open) else entry_at old s)
  pub wish : (s : ℕ) → wish_at new s ≡ (not (is_held t r old s) && wish_at old s)

-- the sections of the run that are in use for the train and wished back, in rising order
abbrev pub wished : ℕ → SectionRun → Pages → List ℕ
wished t r book = filter (λ s. is_taken_for t (entry_at book s) && wish_at book s) (range_with_len r.first r.count)

-- the first `count` sections of a run, and all the others
abbrev pub front_of : ℕ → SectionRun → SectionRun
front_of count r = record { first = r.first; count = count }

abbrev pub rest_of : ℕ → SectionRun → SectionRun
rest_of count r = record { first = r.first + count; count = r.count - count }

-- the `count` sections that follow a run
abbrev pub next_of : ℕ → SectionRun → SectionRun
next_of count r = record { first = next_after r; count = count }

-- each section of the run is open
abbrev pub IsAllOpen : SectionRun → Pages → Type 0
IsAllOpen r book = (s : ℕ) → within r s ≡ true → is_open (entry_at book s) ≡ true

-- each section of the run is of the book's home, and in use for the train
pub record IsAllTaken (t : ℕ) (r : SectionRun) (book : Pages) : Type 0 where
  pub taken : (s : ℕ) → within r s ≡ true → is_taken_for t (entry_at book s) ≡ true
  pub home : (s : ℕ) → within r s ≡ true → is_own book s ≡ true

-- ## In a hand

-- the hand without its first `count` sections, and with only these
abbrev pub hand_rest : ℕ → Holding → Holding
hand_rest count h = record { first = h.first + count; holds = drop count h.holds }

abbrev pub hand_front : ℕ → Holding → Holding
hand_front count h = record h { holds = take count h.holds }

-- The token of a section. A claim is for the train, and a name is of a section that is not of the home. So a section of
-- the home is held by its claim for the train.
abbrev pub is_held_as : ℕ → Bool → Held → Bool
is_held_as t is_home (Own u) = u == t
is_held_as t is_home (Name u home) = not is_home

-- each section of the hand is held so, if these are the sections of the home
abbrev pub IsHeldAt : ℕ → (ℕ → Bool) → Holding → Type 0
IsHeldAt t is_home hand =
    (i : ℕ) (held : Held) → slice_get hand.holds i ≡ Some held → is_held_as t (is_home (hand.first + i)) held ≡ true

-- by the home of a book
abbrev pub IsHeldBy : ℕ → Holding → Pages → Type 0
IsHeldBy t hand book = IsHeldAt t (is_own book) hand
