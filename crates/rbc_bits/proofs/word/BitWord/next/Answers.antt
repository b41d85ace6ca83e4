use Rattle.std.proofs.Common.{◌∙◌, ◌≡◌, ap, arith, length, sym}
use Rattle.std.proofs.Math.Nat.{pow-le-pow_right}
use Rattle.rbc_bits.proofs.word.BitWord.next.Goals as goal
use Rattle.rbc_bits.proofs.Words.{high, length-following, length-front, taken}

pub returns-clause-fits : goal.returns-clause-fits
returns-clause-fits c = high c.self.inside.word c.args.n (omega (arith, c.self.ranges))
    (omega (arith, c.requires.width.1))

pub overflow_cast-value-2 : goal.overflow_cast-value-2
overflow_cast-value-2 c =
    let fits = high c.self.inside.word c.args.n (omega (arith, c.self.ranges)) (omega (arith, c.requires.width.1)) in
    omega (arith, fits, pow-le-pow_right {n = 2} (omega arith) {i = c.args.n} {j = 64} c.requires.width.1)

pub returns-clause-field : goal.returns-clause-field
returns-clause-field c =
    let left : c.self.inside.left ≡ length c.args.self.now =
    sym (length-front c.self.inside.word c.self.inside.left c.self.invariant) ∙ ap length c.self.view_is in
    sym c.self.view_is ∙ taken c.self.inside.word c.self.inside.left c.args.n
    (omega (arith, left, c.requires.there)) c.self.invariant

pub returns-clause-length : goal.returns-clause-length
returns-clause-length c = length-following _ _ c.args.n _ (returns-clause-field c)
