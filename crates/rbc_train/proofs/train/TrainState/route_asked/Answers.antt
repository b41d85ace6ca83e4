use Rattle.std.proofs.Common.{◌∙◌, ap, option_map, Some, sym, ℕ}
use Rattle.rbc_border.specs.Lending.{sending}
use Rattle.rbc_line.specs.SectionRuns.{run_of}
use Rattle.rbc_linkmsg.specs.declared.body.Body.TheVariants as code
use Rattle.rbc_spec.specs.Frame.{RouteInfo}
use Rattle.rbc_train.proofs.RouteFrames.{has_pages, lends, told_as}
use Rattle.rbc_train.proofs.train.TrainState.route_asked.Goals as goal
use Rattle.rbc_train.specs.declared.heard.Heard.{Heard}
use Rattle.rbc_train.specs.Desk.{reply_left, with_parts}

pub returns-in-Some-clause-exact : goal.returns-in-Some-clause-exact
returns-in-Some-clause-exact c = λ rights k has.
    let line = c.args.line.now in
    let p = c.args.self.now in
    let t = p.supervision.engine in
    let left = with_parts p c.lend.new.book rights k in
    lends line c.args.centre k p c.args.book.now rights has c.args.from c.nid_engine-engine.result c.args.first
    c.args.most c.lend.result c.lend.new.book c.nid_engine-engine.ensures
    (c.lend.ensures.exact c.args.from k (has_pages line c.args.centre k p c.args.book.now rights has))
    ∙ ap (λ o. sending c.args.from (option_map (λ run. RouteInfo t (run_of run)) o) left) c.in-Some.is
    ∙ told_as line c.args.centre t c.args.from c.nid_engine-engine.result
    (λ (e : ℕ). code.RouteInfo e c.in-Some.run') left
    (record c.args.out.now {
      mail =
          record c.args.out.now.mail {
            letter =
                Some (record { to = c.args.from; body = code.RouteInfo c.nid_engine-engine.result c.in-Some.run' });
          };
    }) c.nid_engine-engine.ensures
    (ap
    (λ (x : Heard).
    record x {
      mail =
          record x.mail {
            letter =
                Some (record { to = c.args.from; body = code.RouteInfo c.nid_engine-engine.result c.in-Some.run' });
          };
    }) c.requires)

pub returns-in-None-clause-exact : goal.returns-in-None-clause-exact
returns-in-None-clause-exact c = λ rights k has.
    let line = c.args.line.now in
    let p = c.args.self.now in
    let t = p.supervision.engine in
    let left = with_parts p c.lend.new.book rights k in
    lends line c.args.centre k p c.args.book.now rights has c.args.from c.nid_engine-engine.result c.args.first
    c.args.most c.lend.result c.lend.new.book c.nid_engine-engine.ensures
    (c.lend.ensures.exact c.args.from k (has_pages line c.args.centre k p c.args.book.now rights has))
    ∙ ap (λ o. sending c.args.from (option_map (λ run. RouteInfo t (run_of run)) o) left) c.in-None.is
    ∙ ap (reply_left line c.args.centre t left) (sym c.requires)
