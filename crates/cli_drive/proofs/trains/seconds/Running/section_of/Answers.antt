use Rattle.std.proofs.Common.{refl}
use Rattle.std.proofs.lemmas.Option.{slice_get_past, slice_get_read}
use Rattle.cli_drive.proofs.trains.seconds.Running.section_of.Goals as goal

pub returns-in-Some : goal.returns-in-Some
returns-in-Some g c =
    let same = rw c.in-Some.is at c.get.ensures.lookup.1 in
    let here = rw c.deref.ensures.value at same in
    let bound = rw c.in-Some.is at c.get.ensures.lookup.3 in
    let within = rw c.deref.ensures.value at bound.0 in
    let trains = c.args.self.now.trains.items in
    let found = slice_get_read trains _ c.args.i c.in-Some.train.now refl within here in
    rw found (rw c.deref-in-Some.ensures.value at c.section.ensures)

pub returns-in-None : goal.returns-in-None
returns-in-None g c =
    let past = rw c.in-None.is at c.get.ensures.lookup.3 in
    rw (slice_get_past c.args.self.now.trains.items c.args.i (rw c.deref.ensures.value at past))
