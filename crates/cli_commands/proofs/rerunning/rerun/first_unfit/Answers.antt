use Rattle.std.proofs.Common.{◌+◌, ◌∙◌, ap, drop, false, List, refl, subst, sym, take, true}
use Rattle.std.proofs.lemmas.Bool.{true≢false}
use Rattle.std.proofs.lemmas.Result.{err_from_is_err_and}
use Rattle.cli_commands.proofs.rerunning.rerun.first_unfit.Goals as goal
use Rattle.cli_commands.proofs.RerunningLemmas.Reruns.{all_taken, begins, cut_at, goes_on, one_more, refused}
use Rattle.cli_commands.specs.Rerunning.Rerun.{happened, IsRerun}
use Rattle.rbc_spec.specs.Line.{Line}
use Rattle.rbc_spec.specs.World.{world_step}
use Rattle.text_journal.specs.declared.entry.Entry.{Entry}
use Rattle.text_script.specs.rbc_world.Answers.{IsRefusal}
use Rattle.text_script.specs.rbc_world.Views.{answer_of}
use Rattle.text_script.specs.rbc_world.World.{state_of}

pub loop-entry-init : goal.loop-entry-init
loop-entry-init c = record {
  at = refl;
  line = c.in_ok-world.ensures.line;
  run = begins c.args.line.now _ c.in_ok-world.ensures.beginning;
}

pub returns-in_err-step_to : goal.returns-in_err-step_to
returns-in_err-step_to c =
    let p = err_from_is_err_and c.from_residual-in_err-step_to.result c.from_residual-in_err-step_to.ensures.1 in
    let e = c.entry-item.result in
    let es = c.args.entries.now in
    let k = c.loop-entry.entry-index in
    let no_step =
    subst (λ (l : Line). IsRefusal c.in_err-step_to.field-0.0 (world_step l (state_of c.loop-entry.world) (happened e)))
    c.loop-entry.invariant.line c.in_err-step_to.ensures.exact in
    rw (p.1, p.2) (refused c.args.line.now es (take k es) (drop (k + 1) es) e (state_of c.loop-entry.world)
    c.in_err-step_to.field-0.0
    (cut_at es k e c.loop-entry-test.true c.entry-item.is) c.loop-entry.invariant.run no_step)

pub loop-entry-preserved : goal.loop-entry-preserved
loop-entry-preserved c =
    let e = c.entry-item.result in
    let es = c.args.entries.now in
    let k = c.loop-entry.entry-index in
    let done = ap (λ (l : Line). world_step l (state_of c.loop-entry.world) (happened e))
    (sym c.loop-entry.invariant.line) ∙ c.in_ok-step_to.ensures.exact in
    record {
      at = ap (λ n. n + 1) c.loop-entry.invariant.at;
      line = c.in_ok-step_to.ensures.line ∙ c.loop-entry.invariant.line;
      run =
          subst (λ (front : List Entry). IsRerun c.args.line.now front (state_of c.step_to.new.self))
          (sym (one_more es k e c.loop-entry-test.true c.entry-item.is))
          (goes_on c.args.line.now (take k es) e (state_of c.loop-entry.world) (state_of c.step_to.new.self)
          (answer_of c.step_to.new.answer) c.loop-entry.invariant.run done
          (c.has_stamp.ensures.0 c.if-has_stamp.true));
    }

pub returns-else-has_stamp : goal.returns-else-has_stamp
returns-else-has_stamp c =
    let e = c.entry-item.result in
    let es = c.args.entries.now in
    let k = c.loop-entry.entry-index in
    let done = ap (λ (l : Line). world_step l (state_of c.loop-entry.world) (happened e))
    (sym c.loop-entry.invariant.line) ∙ c.in_ok-step_to.ensures.exact in
    record {
      front = take k es;
      rest = drop (k + 1) es;
      entry = e;
      reached = state_of c.loop-entry.world;
      answer = answer_of c.step_to.new.answer;
      next = state_of c.step_to.new.self;
      cut = cut_at es k e c.loop-entry-test.true c.entry-item.is;
      fits = c.loop-entry.invariant.run;
      step = done;
      other = λ same. true≢false (sym (c.has_stamp.ensures.1 same) ∙ c.if-has_stamp.false);
      centre = c.centre-centre.ensures;
    }

pub returns : goal.returns
returns c = (
  state_of c.loop-entry.world,
  subst (λ (front : List Entry). IsRerun c.args.line.now front (state_of c.loop-entry.world))
      (all_taken c.args.entries.now c.loop-entry.entry-index c.loop-entry-test.false) c.loop-entry.invariant.run,
)
