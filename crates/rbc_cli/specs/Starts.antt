-- The start of centres with journals.
use Rattle.std.specs.Prelude.{◌==◌, Bool, true, ℕ}
use Rattle.cli_commands.specs.declared.requests.JournalStart.{JournalStart}
use Rattle.cli_commands.specs.declared.requests.JournalStart.TheVariants.{Keep, Resume}

-- The start that was asked for. Journals that are kept are continued if each exists, and begun otherwise.
abbrev pub started : JournalStart → Bool → JournalStart
started Keep true = Resume
started asked all_exist = asked

-- Centres may start so with a journal that has this many events: they resume, or it has none.
abbrev pub may_start : JournalStart → ℕ → Bool
may_start Resume count = true
may_start start count = count == 0
