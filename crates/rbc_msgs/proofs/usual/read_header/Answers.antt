use Rattle.std.proofs.Common.{◌++◌, ◌∙◌, ◌≡◌, ap, arith, length}
use Rattle.rbc_bits.specs.Bits.{field}
use Rattle.rbc_msgs.proofs.Spelled.{start-found}
use Rattle.rbc_msgs.proofs.usual.read_header.Goals as goal
use Rattle.rbc_msgs.specs.Numbers.{train_number_value}

pub returns-clause-taken : goal.returns-clause-taken
returns-clause-taken c =
    let n = train_number_value c.args.number in
    let same : c.in-Ok.found ≡ n = omega (arith, c.if-found-value.false, c.value.ensures) in
    let front = c.in-Ok.ensures.taken in
    let start = c.in-Ok-whole.ensures.taken in
    start-found c.args.bytes.now n c.in-Ok.l_message start.0 c.in-Ok-whole.rest (
      front.0,
      front.1 ∙ ap (λ k. (field 8 k ++ field 10 c.in-Ok.l_message) ++ front.0) same,
    ) start.1 c.in-Ok-whole.ensures.length
    ∙ ap (λ t. field 8 n ++ (field 10 (length c.args.bytes.now) ++ t))
    (c.in-Ok-take_time.ensures.taken ∙ ap (λ t. field 32 c.in-Ok-take_time.t_train ++ t) c.in-Ok-take.ensures.taken)
