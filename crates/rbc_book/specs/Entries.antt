-- The plain data of a book's entries.
use Rattle.rbc_spec.specs.Centre.{Entry, Shut, Open, Taken, Out}
use Rattle.rbc_book.specs.declared.page.Entry.{Entry as EntryCode}
use Rattle.rbc_book.specs.declared.page.Entry.TheVariants as code

-- an entry in memory as one of the rules
abbrev pub entry_of : EntryCode → Entry
entry_of code.Shut = Shut
entry_of code.Open = Open
entry_of (code.Taken t) = Taken t
entry_of (code.Out t) = Out t
