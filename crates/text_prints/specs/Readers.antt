-- The plain data of a reader.
use Rattle.std.specs.Prelude.{Option}
use Rattle.rbc_spec.specs.Line.{Line}
use Rattle.rbc_watch.specs.declared.event.Exchange.{Exchange}
use Rattle.text_prints.specs.declared.reader.Reader.{Reader}

abbrev pub line_of : Reader → Line
line_of r = r.line.now

-- the last event, with the messages and replies after it
abbrev pub last_of : Reader → Option Exchange
last_of r = r.last
