use Rattle.std.proofs.Common.{map}
use Rattle.text_script.proofs.script.entries_of.Given as goal
use Rattle.text_script.proofs.Scripts.{Reads}

abbrev pub invariant-loop-i : goal.invariant-loop-i
invariant-loop-i l = Reads l.line (map (λ row. row.now) l.rows) l.i l.entries.items
