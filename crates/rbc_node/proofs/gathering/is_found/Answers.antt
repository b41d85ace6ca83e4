use Rattle.std.proofs.Common.{◌==◌, ◌≡◌, ◌≤◌, length, rules}
use Rattle.std.proofs.lemmas.Option.{slice_get_past}
use Rattle.rbc_node.proofs.Gathered.{none_found}
use Rattle.rbc_node.proofs.gathering.is_found.Goals as goal

pub returns-in-None : goal.returns-in-None
returns-in-None c =
    let tells : c.is_empty.result ≡ (length c.args.share.now.receipts == 0) = search rules in
    let past : length c.args.logs.now ≤ c.args.share.now.centre = search rules in
    none_found c.args.logs.now c.args.share.now c.is_empty.result
    (slice_get_past c.args.logs.now c.args.share.now.centre past) tells
