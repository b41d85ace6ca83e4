use Rattle.std.proofs.Common.{◌≡◌, ◌≢◌, arith, length}
use Rattle.rbc_line.proofs.read.with_keys.Goals as goal
use Rattle.rbc_line.proofs.ReadSteps.{with_keys-found, with_keys-other}

pub returns-then-len-keys : goal.returns-then-len-keys
returns-then-len-keys c =
    let count : length c.args.table.now.entries ≢ c.args.keys = omega arith in
    with_keys-other c.args.table.now.entries c.args.keys count

pub returns : goal.returns
returns c =
    let count : length c.args.table.now.entries ≡ c.args.keys = omega arith in
    with_keys-found c.args.table.now.entries c.args.keys count
