-- The kinds of notes: how serious each is, and its name.
use Rattle.std.specs.Prelude.{codes, List, ℕ}
use Rattle.serve_notes.specs.declared.kinds.Kind.{Kind}
use Rattle.serve_notes.specs.declared.kinds.Kind.TheVariants as kind
use Rattle.serve_notes.specs.declared.kinds.Level.{Level}
use Rattle.serve_notes.specs.declared.kinds.Level.TheVariants.{Error, Info, Warning}

-- the form of systemd's journal
abbrev pub level_prefix : Level → List ℕ
level_prefix Error = codes "<3>"
level_prefix Warning = codes "<4>"
level_prefix Info = codes "<6>"

abbrev pub level_name : Level → List ℕ
level_name Error = codes "error"
level_name Warning = codes "warning"
level_name Info = codes "info"

-- An error: a start is refused, a centre answers nothing, or the print is not whole. A warning: a peer is refused, or
-- somebody has to act.
abbrev pub level_of : Kind → Level
level_of kind.JournalStuck = Error
level_of kind.Refused = Error
level_of kind.PrintShort = Error
level_of kind.Line = Warning
level_of kind.Refusal = Warning
level_of kind.Thread = Warning
level_of kind.Device = Warning
level_of kind.JournalCut = Warning
level_of kind.JournalSlow = Warning
level_of kind.Usage = Warning
level_of kind.Worker = Warning
level_of kind.SocketLeft = Warning
level_of kind.Lost = Warning
level_of other = Info

abbrev pub kind_name : Kind → List ℕ
kind_name kind.Begin = codes "connection_begins"
kind_name kind.End = codes "connection_ends"
kind_name kind.Session = codes "session_opens"
kind_name kind.MissionBegin = codes "mission_begins"
kind_name kind.MissionEnd = codes "mission_ends"
kind_name kind.Handover = codes "handover"
kind_name kind.Section = codes "section_returned"
kind_name kind.Line = codes "line_refused"
kind_name kind.Refusal = codes "connection_refused"
kind_name kind.Thread = codes "no_thread"
kind_name kind.Device = codes "no_connection"
kind_name kind.Port = codes "port"
kind_name kind.Resumed = codes "resumed"
kind_name kind.Stop = codes "stop"
kind_name kind.JournalWritten = codes "journal_written"
kind_name kind.JournalCut = codes "journal_cut"
kind_name kind.JournalSlow = codes "journal_slow"
kind_name kind.Usage = codes "usage"
kind_name kind.Worker = codes "no_worker"
kind_name kind.SocketLeft = codes "socket_left"
kind_name kind.Lost = codes "notes_lost"
kind_name kind.JournalStuck = codes "journal_stuck"
kind_name kind.Refused = codes "start_refused"
kind_name kind.PrintShort = codes "print_short"

-- the text after the number of omitted notes
abbrev pub kind_words : Kind → List ℕ
kind_words kind.Begin = codes "connections begin"
kind_words kind.End = codes "connections end"
kind_words kind.Session = codes "sessions are opened"
kind_words kind.MissionBegin = codes "missions begin"
kind_words kind.MissionEnd = codes "missions end"
kind_words kind.Handover = codes "trains are handed over or taken over"
kind_words kind.Section = codes "sections that were wished back are shut"
kind_words kind.Line = codes "lines are refused"
kind_words kind.Refusal = codes "connections are refused"
kind_words kind.Thread = codes "connections are ended, no thread could be made"
kind_words kind.Device = codes "times no connection can be taken"
kind_words other = codes "notes"
