-- The refusals of new connections.
use Rattle.std.specs.Prelude.{codes, List, ℕ}
use Rattle.serve_line.specs.declared.clients.connection_refusal.ConnectionRefusal.{ConnectionRefusal}
use Rattle.serve_line.specs.declared.clients.connection_refusal.ConnectionRefusal.TheVariants.{Journal, Memory, Slots}

abbrev pub words_of : ConnectionRefusal → List ℕ
words_of Memory = codes "memory ran out"
words_of Journal = codes "the journal can't be written"
words_of Slots = codes "there are too many"
