-- The journal entries of a centre's log.
use Rattle.std.specs.Prelude.{◌≡◌, List, [], ◌∷◌}
use Rattle.rbc_log.specs.declared.entry.Entry as log
use Rattle.serve_control.specs.Events.{IsCommitted}
use Rattle.text_journal.specs.declared.entry.Entry as journal

-- the journal entry of a log entry: its stamp, and its event as the centre received it
pub record IsNoteOf (e : log.Entry) (n : journal.Entry) : Type 0 where
  pub stamp : n.stamp ≡ e.outcome.stamp
  pub event : IsCommitted e.centre e.event n.event

-- each note is that of the log entry at the same place
abbrev pub AreNotesOf : List log.Entry → List journal.Entry → Type 0
AreNotesOf [] [] = Unit {0}
AreNotesOf (e ∷ es) (n ∷ ns) = IsNoteOf e n × AreNotesOf es ns
AreNotesOf [] (n ∷ ns) = ⊥
AreNotesOf (e ∷ es) [] = ⊥
