-- The trains that messages have named.
use Rattle.std.specs.List.{list_any}
use Rattle.std.specs.Prelude.{[], ◌++◌, ◌==◌, ◌∷◌, ◌≡◌, false, is_none, List, nat_eq, None, Option, Some, true, ℕ}
use Rattle.indexmap.specs.IndexSet.{insert_key}
use Rattle.rbc_centre.specs.declared.event.Event.{Event}
use Rattle.rbc_centre.specs.declared.event.Event.TheVariants.{Train}
use Rattle.rbc_spec.specs.Line.{Line, train_number}
use Rattle.rbc_spec.specs.World.{mention}

-- each train in this list is of the line
abbrev pub AreOfLine : Line → List ℕ → Type 0
AreOfLine line trains = (t : ℕ) → list_any (λ u. t == u) trains ≡ true → is_none (train_number line t) ≡ false

-- the named trains after an event of a centre: only a message adds to them
abbrev pub mentioned : Line → Event → List ℕ → List ℕ
mentioned line (Train m) trains = mention line m.nid_engine trains
mentioned line event trains = trains

-- the event is a message, and the first to name its train
abbrev pub NamesFirst : Line → Event → List ℕ → Type 0
NamesFirst line (Train m) trains = mention line m.nid_engine trains ≡ trains ++ m.nid_engine ∷ []
NamesFirst line event trains = ⊥

-- the named trains after this first mention, if there is one
abbrev pub with_first : Option ℕ → List ℕ → List ℕ
with_first (Some t) trains = insert_key nat_eq trains t
with_first None trains = trains
