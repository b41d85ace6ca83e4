use Rattle.std.proofs.Common.{◌+◌, ◌∙◌, ◌≤◌, ap, arith, length, length-append}
use Rattle.rbc_bits.proofs.Fields.{length-field}
use Rattle.rbc_bits.proofs.row.BitRow.put.Goals as goal
use Rattle.rbc_bits.proofs.Rows.{far-row, far-written, length-row, near-row, near-written}
use Rattle.rbc_bits.specs.Bits.{field}

pub invariant_of-self : goal.invariant_of-self
invariant_of-self c =
    let r = c.self.inside in
    rw c.from-value.ensures
    (near-row r.front r.back r.first r.second c.self.invariant c.args.n c.args.value c.requires.width.0
    (omega (arith, c.if-n-room.true, c.self.invariant.first-few)) c.requires.fits)

pub invariant_of-self-else-n-room : goal.invariant_of-self-else-n-room
invariant_of-self-else-n-room c =
    let r = c.self.inside in
    let l = length-row r.front r.back r.first r.second c.self.invariant in
    let enough : r.first + r.second + c.args.n ≤ 256 = rw (← l, c.self.view_is) c.requires.room in
    rw c.from-value.ensures
    (far-row r.front r.back r.first r.second c.self.invariant c.args.n c.args.value c.requires.width.1
    (omega (arith, c.if-n-room.false, c.self.invariant.first-few)) enough c.requires.fits)

pub returns-then-n-room-clause-value : goal.returns-then-n-room-clause-value
returns-then-n-room-clause-value c =
    let r = c.self.inside in
    rw (← c.self.view_is, c.from-value.ensures)
    (near-written r.front r.back r.first r.second c.self.invariant c.args.n c.args.value c.requires.width.0
    (omega (arith, c.if-n-room.true, c.self.invariant.first-few)) c.requires.fits)

pub returns-then-n-room-clause-length : goal.returns-then-n-room-clause-length
returns-then-n-room-clause-length c =
    let old = c.args.self.now in
    ap length (returns-then-n-room-clause-value c) ∙ length-append old (field c.args.n c.args.value)
    ∙ ap (λ k. length old + k) (length-field c.args.n c.args.value)

pub returns-else-n-room-clause-value : goal.returns-else-n-room-clause-value
returns-else-n-room-clause-value c =
    let r = c.self.inside in
    let l = length-row r.front r.back r.first r.second c.self.invariant in
    let enough : r.first + r.second + c.args.n ≤ 256 = rw (← l, c.self.view_is) c.requires.room in
    rw (← c.self.view_is, c.from-value.ensures)
    (far-written r.front r.back r.first r.second c.self.invariant c.args.n c.args.value c.requires.width.1
    (omega (arith, c.if-n-room.false, c.self.invariant.first-few)) enough c.requires.fits)

pub returns-else-n-room-clause-length : goal.returns-else-n-room-clause-length
returns-else-n-room-clause-length c =
    let old = c.args.self.now in
    ap length (returns-else-n-room-clause-value c) ∙ length-append old (field c.args.n c.args.value)
    ∙ ap (λ k. length old + k) (length-field c.args.n c.args.value)
