use Rattle.rbc_book.proofs.Appends.{IsBegun}
use Rattle.rbc_book.proofs.runs.Runs.new.Given as goal

abbrev pub invariant-loop-s : goal.invariant-loop-s
invariant-loop-s l = IsBegun l.line l.centre l.s l.homes l.page l.runs.items
