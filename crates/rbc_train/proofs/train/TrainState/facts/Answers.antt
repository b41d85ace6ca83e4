use Rattle.std.proofs.Common.{◌∙◌, ap, refl, sym}
use Rattle.rbc_spec.specs.Centre.{is_up}
use Rattle.rbc_train.proofs.train.TrainState.facts.Goals as goal

pub returns : goal.returns
returns c = λ k phase. record {
  session = c.is_up.ensures ∙ ap is_up (c.phase.ensures ∙ sym phase);
  is_ended = refl;
  proposal = refl;
  hand = c.hand.ensures.value;
  front = refl;
  group = c.group_start.ensures.value;
}
