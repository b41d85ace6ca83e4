use Rattle.std.proofs.Common.{◌≡◌, arith}
use Rattle.std.proofs.lemmas.Result.{IfErr-at_err}
use Rattle.rbc_msgs.proofs.encode.encode_train.Goals as goal
use Rattle.rbc_msgs.specs.declared.fault.EncodeFault.TheVariants.{Memory, TooLong}

pub returns-clause-too_long : goal.returns-clause-too_long
returns-clause-too_long c = (
  (λ h. let never : TooLong ≡ Memory = IfErr-at_err (λ e. e ≡ Memory) h c.train_bytes.ensures.memory in absurd cc),
  (λ h. absurd (omega (arith, c.in_ok-l_message.ensures.ok, c.in_ok-l_message.ensures.limit))),
)
