use Rattle.std.proofs.Common.{◌∙◌, ap, sym}
use Rattle.cli_storm.proofs.Counts.{adds}
use Rattle.cli_storm.proofs.storm.Storm.step.Goals as goal
use Rattle.cli_storm.specs.Links.{all_links, counted_by}
use Rattle.rbc_spec.specs.World.{centre_of}
use Rattle.text_script.specs.rbc_world.Views.{answer_of, event_of}
use Rattle.text_script.specs.rbc_world.World.{line_of, state_of}

pub invariant_of-self : goal.invariant_of-self
invariant_of-self c = record {
  counted =
      c.args.self.now.counted ∙ ap (λ w. all_links (line_of c.args.self.now.world) w) (sym c.in_err-step_to.ensures.err)
      ∙ sym (ap (λ l. all_links l (state_of c.step_to.new.self)) c.step_to.ensures.line);
}

pub invariant_of-self-2 : goal.invariant_of-self-2
invariant_of-self-2 c =
    let grown = adds (line_of c.args.self.now.world) (state_of c.args.self.now.world) (event_of c.args.event.now)
    (answer_of c.step_to.new.answer) (state_of c.step_to.new.self) c.in_ok-step_to.ensures.exact in
    record {
      counted =
          c.count_answer.ensures
          ∙ ap (λ n. counted_by n (answer_of c.step_to.new.answer) c.args.self.now.links.items) c.centre_of.ensures
          ∙ ap (counted_by (centre_of (event_of c.args.event.now)) (answer_of c.step_to.new.answer))
          c.args.self.now.counted
          ∙ grown ∙ sym (ap (λ l. all_links l (state_of c.step_to.new.self)) c.step_to.ensures.line);
    }
