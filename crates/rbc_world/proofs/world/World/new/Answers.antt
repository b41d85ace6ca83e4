use Rattle.std.proofs.Common.{◌∙◌, ap, length, sym}
use Rattle.rbc_spec.specs.Line.{Line}
use Rattle.rbc_world.proofs.Centres.{new_world_stands}
use Rattle.rbc_world.proofs.Mentions.{none_named}
use Rattle.rbc_world.proofs.Reached.{begins}
use Rattle.rbc_world.proofs.world.World.new.Goals as goal

pub invariant_of-result : goal.invariant_of-result
invariant_of-result c = record {
  each_centre =
      c.in_ok-centres_of.ensures.count ∙ ap (λ (l : Line). length l.centres) (sym c.in_ok-copied.ensures.value);
  one_line = λ d k at. (c.in_ok-centres_of.ensures.each d k at).line_of ∙ sym c.in_ok-copied.ensures.value;
  in_order = λ d k at. (c.in_ok-centres_of.ensures.each d k at).number_of;
  are_of_line = none_named c.in_ok-copied.field-0 _ c.new.ensures.empty;
  reached =
      begins c.args.line.now _ _ c.in_ok-copied.ensures.value
      (new_world_stands _ c.args.line.now _ _ c.in_ok-copied.ensures.value c.in_ok-centres_of.ensures.each
      c.new.ensures.empty);
}

pub returns-clause-beginning : goal.returns-clause-beginning
returns-clause-beginning c =
    new_world_stands _ c.args.line.now _ _ c.in_ok-copied.ensures.value c.in_ok-centres_of.ensures.each
    c.new.ensures.empty
