-- The facts on which a decision is based, and the state of a centre that they show.
use Rattle.std.specs.Prelude.{◌≡◌, ℕ, Option, option_map}
use Rattle.rbc_spec.specs.Line.{Line, is_home}
use Rattle.rbc_spec.specs.Centre.{Centre, Mission, Handing}
use Rattle.rbc_book.specs.Book.{Pages, is_own, entry_at}
use Rattle.rbc_line.specs.SectionRuns.{run_of}
use Rattle.rbc_line.specs.declared.section_run.SectionRun.{SectionRun}
use Rattle.rbc_mission.specs.Supervisions.{mission_of}
use Rattle.rbc_mission.specs.declared.facts.MissionFacts.{MissionFacts as Facts}

-- the book is that of centre c of the line
abbrev pub IsBookOf : Line → ℕ → Pages → Type 0
IsBookOf line c book = (s : ℕ) → is_own book s ≡ is_home line c s

-- centre k has this book
abbrev pub HasBook : Centre → Pages → Type 0
HasBook k book = (s : ℕ) → k.book s ≡ entry_at book s

-- the mission by its facts, its hand, its pool and its handover, if there is one
abbrev pub mission_by : Option Facts → SectionRun → SectionRun → Option Handing → Option Mission
mission_by facts hand pool handing = option_map (mission_of (run_of hand) (run_of pool) handing) facts
