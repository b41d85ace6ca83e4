use Rattle.std.proofs.Common.{◌∙◌, ◌≡◌, ap, false, Some, sym, true, ℕ}
use Rattle.rbc_linkmsg.specs.declared.body.Body.TheVariants.{GiveRight, RefuseRight}
use Rattle.rbc_right.specs.Rights.{is_here}
use Rattle.rbc_spec.proofs.Lists.{put_there}
use Rattle.rbc_spec.specs.Centre.{is_registrar_of}
use Rattle.rbc_spec.specs.Line.{registrar}
use Rattle.rbc_spec.specs.Maps.{put}
use Rattle.rbc_train.proofs.Desk.{same_parts}
use Rattle.rbc_train.proofs.RightFrames.{gives, not_so, refuses, so_not, was_gone, was_here}
use Rattle.rbc_train.proofs.Runs.{is_registered, not_registered}
use Rattle.rbc_train.proofs.train.TrainState.right_asked.Goals as goal
use Rattle.rbc_train.proofs.train.TrainState.right_asked.Goals.{in-Given, in-NotHere}
use Rattle.rbc_train.specs.declared.heard.Heard.{Heard}
use Rattle.rbc_train.specs.Desk.{reply_left, with_parts}

pub returns-then-ne-clause-exact : goal.returns-then-ne-clause-exact
returns-then-ne-clause-exact c = λ book k has.
    let line = c.args.line.now in
    let p = c.args.self.now in
    let t = p.supervision.engine in
    let away : is_registrar_of line c.args.centre t ≡ false =
    not_registered line c.args.centre t c.registrar.result
    (c.registrar.ensures ∙ ap (registrar line) c.nid_engine-engine.ensures) (so_not _ c.if-ne.ensures) in
    rw away (same_parts line c.args.centre k p book c.args.registrar.now has)
    ∙ ap (reply_left line c.args.centre t (with_parts p book c.args.registrar.now k)) (sym c.requires.out)

pub returns-clause-exact : goal.returns-clause-exact
returns-clause-exact c = λ book k has.
    let line = c.args.line.now in
    let p = c.args.self.now in
    let rights = c.args.registrar.now in
    let i = p.supervision.number in
    let t = p.supervision.engine in
    let here : is_registrar_of line c.args.centre t ≡ true =
    is_registered line c.args.centre t c.registrar.result
    (c.registrar.ensures ∙ ap (registrar line) c.nid_engine-engine.ensures) (not_so _ c.if-ne.ensures) in
    let gone : is_here c.ask.new.self i ≡ false = c.ask.ensures.here i
    ∙ ap (λ n. put (is_here rights) n false i) c.number.ensures ∙ put_there (is_here rights) i false in
    elim c.match-ask.branch [
      | in-Given w ↦
          gives line c.args.centre k p book rights has c.args.from c.ask.new.self here
          (sym (ap (is_here rights) c.number.ensures) ∙ was_here _ _ _ w.in-Given.ensures.answer) gone
          ∙ ap (λ (h : Heard). reply_left line c.args.centre t (with_parts p book c.ask.new.self k) h)
          (sym (λ l. let x = c.requires.out l in
          record x {
            mail =
                record x.mail {
                  letter =
                      Some (record {
                        to = c.args.from;
                        body = (w.body-is ∙ ap (λ (u : ℕ). GiveRight u) c.nid_engine-engine.ensures) l;
                      });
                };
          }))
      | in-NotHere w ↦
          refuses line c.args.centre k p book rights has c.args.from c.ask.new.self here
          (sym (ap (is_here rights) c.number.ensures) ∙ was_gone _ _ w.in-NotHere.ensures.answer) gone
          ∙ ap (λ (h : Heard). reply_left line c.args.centre t (with_parts p book c.ask.new.self k) h)
          (sym (λ l. let x = c.requires.out l in
          record x {
            mail =
                record x.mail {
                  letter =
                      Some (record {
                        to = c.args.from;
                        body = (w.body-is ∙ ap (λ (u : ℕ). RefuseRight u) c.nid_engine-engine.ensures) l;
                      });
                };
          }))
    ]
