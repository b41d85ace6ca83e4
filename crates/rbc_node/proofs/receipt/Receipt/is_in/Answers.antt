use Rattle.std.proofs.Common.{◌<◌, ◌≡◌, ◌≤◌, length, refl, rules, slice_get, slice_index_or, Some}
use Rattle.std.proofs.lemmas.Option.{slice_get_past, slice_get_read}
use Rattle.rbc_log.specs.declared.entry.Entry.{Entry}
use Rattle.rbc_node.proofs.receipt.Receipt.is_in.Goals as goal
use Rattle.rbc_node.proofs.Receipts.{has_if_same, has_none, has_not}

pub returns-then-is_same : goal.returns-then-is_same
returns-then-is_same c =
    let entries = c.args.entries.now in
    let place = c.args.self.now.place in
    let e : Entry = c.in-Some.entry.now in
    let within : place < length entries = search rules in
    let there : e ≡ slice_index_or entries place e = search rules in
    let here : slice_get entries place ≡ Some e = slice_get_read entries (length entries) place e refl within there in
    has_if_same entries c.args.self.now e here c.is_same-then-is_same.result (c.is_same.ensures.0 c.if-is_same.true)
    c.is_same-then-is_same.ensures

pub returns-else-is_same : goal.returns-else-is_same
returns-else-is_same c =
    let entries = c.args.entries.now in
    let place = c.args.self.now.place in
    let e : Entry = c.in-Some.entry.now in
    let within : place < length entries = search rules in
    let there : e ≡ slice_index_or entries place e = search rules in
    let here : slice_get entries place ≡ Some e = slice_get_read entries (length entries) place e refl within there in
    has_not entries c.args.self.now e here c.is_same.result c.if-is_same.false c.is_same.ensures

pub returns-in-None : goal.returns-in-None
returns-in-None c =
    let past : length c.args.entries.now ≤ c.args.self.now.place = search rules in
    has_none c.args.entries.now c.args.self.now (slice_get_past c.args.entries.now c.args.self.now.place past)
