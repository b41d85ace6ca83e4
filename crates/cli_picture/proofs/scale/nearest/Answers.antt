use Rattle.std.proofs.Common.{arith, zero, ◌≤◌, ◌<◌, ◌*◌, ◌+◌, ◌/◌, ℕ}
use Rattle.std.proofs.Math.Nat.{div-lt_iff_lt-mul, mul-le-mul_left}
use Rattle.cli_picture.proofs.scale.nearest.Goals as goal

-- if a part is at most the whole, its share is at most the room
no_more : (room part whole : ℕ) → zero < whole → part ≤ whole → (room * part * 2 + whole) / (whole * 2) ≤ room
no_more room part whole some least =
    let most : room * part ≤ room * whole = mul-le-mul_left room least in
    let twice : zero < whole * 2 = omega arith in
    let less : (room * part * 2 + whole) / (whole * 2) < room + 1 =
    (div-lt_iff_lt-mul {k = whole * 2} {x = room * part * 2 + whole} {y = room + 1} twice).1 (omega arith) in
    omega arith

pub returns-clause-bound : goal.returns-clause-bound
returns-clause-bound c =
    let e = no_more c.from.result c.min-part.result c.args.whole (omega arith) (omega arith) in
    omega (arith, e, c.from.ensures)
