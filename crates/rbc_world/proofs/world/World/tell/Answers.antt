use Rattle.std.proofs.Common.{◌<◌, ◌∙◌, ◌≡◌, ap, inr, length, refl, rules, slice_get, Some, subst, sym}
use Rattle.std.proofs.lemmas.Option.{slice_get_read}
use Rattle.std.proofs.lemmas.Result.{err_from_is_err_and}
use Rattle.std.proofs.Math.ListN.{length-set}
use Rattle.rbc_centre.specs.States as one
use Rattle.rbc_centre.specs.Views.{event_of as one_event}
use Rattle.rbc_world.proofs.Centres.{each_kept}
use Rattle.rbc_world.proofs.Mentions.{named_if, still_mentioned}
use Rattle.rbc_world.proofs.Reached.{reached_by, reached_still}
use Rattle.rbc_world.proofs.Steps.{told_err, told_ok, world_kept}
use Rattle.rbc_world.proofs.Wanted.{step_wants}
use Rattle.rbc_world.proofs.world.World.tell.Goals as goal
use Rattle.rbc_world.specs.Named.{AreOfLine, mentioned, with_first}
use Rattle.rbc_world.specs.States.{stands_for}

pub returns-in_err-step_to-clause-exact : goal.returns-in_err-step_to-clause-exact
unfolding stands_for
returns-in_err-step_to-clause-exact c =
    let w = c.args.self.now in
    let p = err_from_is_err_and c.from_residual-in_err-step_to.result c.from_residual-in_err-step_to.ensures.1 in
    let within : c.args.c < length w.centres.items = search rules in
    let at : slice_get w.centres.items c.args.c ≡ Some c.index_mut.result.now =
    slice_get_read _ _ _ _ refl within c.index_mut.ensures.value in
    rw (p.1, p.2) (told_err w.line w.centres.items w.trains.keys (one_event c.args.event.now) c.args.c
    c.index_mut.result.now c.step_to.new.self at within (w.one_line _ _ at) (w.in_order _ _ at) w.each_centre
    (mentioned w.line c.args.event.now w.trains.keys) c.in_err-step_to.field-0.0 c.in_err-step_to.ensures.exact)

pub returns-in_err-step_to-clause-err : goal.returns-in_err-step_to-clause-err
returns-in_err-step_to-clause-err c =
    let w = c.args.self.now in
    let p = err_from_is_err_and c.from_residual-in_err-step_to.result c.from_residual-in_err-step_to.ensures.1 in
    let within : c.args.c < length w.centres.items = search rules in
    let at : slice_get w.centres.items c.args.c ≡ Some c.index_mut.result.now =
    slice_get_read _ _ _ _ refl within c.index_mut.ensures.value in
    rw (p.1) (ap (stands_for _ _) c.in_ok-make_room.ensures.keys
    ∙ world_kept w.line w.centres.items w.trains.keys c.args.c c.index_mut.result.now c.step_to.new.self at within
    c.in_err-step_to.ensures.err)

pub returns-in_err-step_to-clause-memory : goal.returns-in_err-step_to-clause-memory
returns-in_err-step_to-clause-memory c =
    let w = c.args.self.now in
    let p = err_from_is_err_and c.from_residual-in_err-step_to.result c.from_residual-in_err-step_to.ensures.1 in
    let within : c.args.c < length w.centres.items = search rules in
    let at : slice_get w.centres.items c.args.c ≡ Some c.index_mut.result.now =
    slice_get_read _ _ _ _ refl within c.index_mut.ensures.value in
    rw (p.1, p.2) (step_wants w.line w.centres.items w.trains.keys c.args.c c.index_mut.result.now at
    c.args.event.now c.in_err-step_to.field-0.0 c.in_err-step_to.ensures.memory)

pub returns-in_err-make_room-clause-memory : goal.returns-in_err-make_room-clause-memory
unfolding stands_for
returns-in_err-make_room-clause-memory c =
    let p = err_from_is_err_and c.from_residual.result c.from_residual.ensures.1 in
    rw (p.1, p.2) (inr (named_if c.args.self.now.line c.args.event.now c.args.self.now.trains.keys
    c.first_mention-first.result c.in_err-make_room.ensures.wanted c.first_mention-first.ensures.some))

pub invariant_of-self-2 : goal.invariant_of-self-2
invariant_of-self-2 c =
    let w = c.args.self.now in
    let cs = w.centres.items in
    let keys = c.add_mention.ensures ∙ ap (with_first c.first_mention-first.result) c.in_ok-make_room.ensures.keys
    ∙ c.first_mention-first.ensures.exact in
    let within : c.args.c < length cs = search rules in
    let at : slice_get cs c.args.c ≡ Some c.index_mut.result.now =
    slice_get_read _ _ _ _ refl within c.index_mut.ensures.value in
    record {
      each_centre = simp length-set w.each_centre;
      are_of_line =
          subst (AreOfLine w.line) (sym keys) (still_mentioned w.line c.args.event.now w.trains.keys w.are_of_line);
      one_line =
          each_kept (λ d k. one.line_of k ≡ w.line) cs c.args.c c.step_to.new.self within
          (c.in_ok-step_to.ensures.line ∙ w.one_line _ _ at) w.one_line;
      in_order =
          each_kept (λ d k. one.number_of k ≡ d) cs c.args.c c.step_to.new.self within
          (c.in_ok-step_to.ensures.number ∙ w.in_order _ _ at) w.in_order;
      reached =
          reached_by w.line cs w.trains.keys c.args.c c.index_mut.result.now c.step_to.new.self at within
          (w.one_line _ _ at) (w.in_order _ _ at) w.each_centre w.reached c.args.event.now _
          c.add_mention.new.trains.keys c.requires c.in_ok-step_to.ensures.exact keys;
    }

pub invariant_of-self-in-Break-branch-2 : goal.invariant_of-self-in-Break-branch-2
invariant_of-self-in-Break-branch-2 c =
    let w = c.args.self.now in
    let cs = w.centres.items in
    let within : c.args.c < length cs = search rules in
    let at : slice_get cs c.args.c ≡ Some c.index_mut.result.now =
    slice_get_read _ _ _ _ refl within c.index_mut.ensures.value in
    record {
      each_centre = simp length-set w.each_centre;
      are_of_line = subst (AreOfLine w.line) (sym c.in_ok-make_room.ensures.keys) w.are_of_line;
      one_line =
          each_kept (λ d k. one.line_of k ≡ w.line) cs c.args.c c.step_to.new.self within
          (c.in_err-step_to.ensures.line ∙ w.one_line _ _ at) w.one_line;
      in_order =
          each_kept (λ d k. one.number_of k ≡ d) cs c.args.c c.step_to.new.self within
          (c.in_err-step_to.ensures.number ∙ w.in_order _ _ at) w.in_order;
      reached =
          reached_still w.line cs w.trains.keys c.args.c c.index_mut.result.now c.step_to.new.self at within
          (w.one_line _ _ at) (w.in_order _ _ at) w.each_centre w.reached c.make_room.new.trains.keys
          c.in_ok-make_room.ensures.keys c.in_err-step_to.ensures.err;
    }

pub returns-clause-exact : goal.returns-clause-exact
unfolding stands_for
returns-clause-exact c =
    let w = c.args.self.now in
    let keys = c.add_mention.ensures ∙ ap (with_first c.first_mention-first.result) c.in_ok-make_room.ensures.keys
    ∙ c.first_mention-first.ensures.exact in
    let within : c.args.c < length w.centres.items = search rules in
    let at : slice_get w.centres.items c.args.c ≡ Some c.index_mut.result.now =
    slice_get_read _ _ _ _ refl within c.index_mut.ensures.value in
    told_ok w.line w.centres.items w.trains.keys (one_event c.args.event.now) c.args.c c.index_mut.result.now
    c.step_to.new.self at within (w.one_line _ _ at) (w.in_order _ _ at) w.each_centre _ _
    c.add_mention.new.trains.keys c.in_ok-step_to.ensures.exact keys
