use Rattle.std.proofs.Common.{[], ◌∙◌, ◌≡◌, ap, false, not, Some, subst, sym}
use Rattle.std.specs.Prelude.{option_map}
use Rattle.rbc_pending_start.proofs.waiting_start.WaitingStart.give_up.Goals as goal
use Rattle.rbc_pending_start.proofs.Waits.{answered_has, no_place, refused_none, refused_some, some_waits}
use Rattle.rbc_pending_start.specs.Waits.{HasWait, rejecting, telling, wait_state, WaitState, with_wait}
use Rattle.rbc_place.specs.Places.{place_of}
use Rattle.rbc_spec.specs.Links.{right_refused}

pub returns-then-is_none-clause-exact : goal.returns-then-is_none-clause-exact
returns-then-is_none-clause-exact c line centre k has =
    refused_none line centre k c.args.self.now c.args.book.now has
    (ap (λ (w : WaitState). w.has_asked) (sym c.self.view_is) ∙ c.if-not-self.false)
    (ap (λ (w : WaitState). w.wait) (sym c.self.view_is)
    ∙ ap (option_map place_of) (no_place c.self.inside.place (c.is_none.ensures ∙ ap not c.if-is_none.true)))
    ∙ ap (λ (w : WaitState). telling (with_wait (record w { has_asked = false }) c.args.book.now k) [])
    (sym c.self.view_is)

pub returns-clause-exact : goal.returns-clause-exact
returns-clause-exact c line centre k has =
    let w = wait_state c.self.inside.nid_engine c.self.inside.place c.self.inside.claims c.self.inside.has_asked in
    let here : HasWait line centre k w c.args.book.now =
    subst (λ v. HasWait line centre k v c.args.book.now) (sym c.self.view_is) has in
    subst (λ (v : WaitState). right_refused line centre v.engine k
    ≡ rejecting v.engine (Some c.drop_start.result) (with_wait c.drop_start.new.self c.drop_start.new.book k))
    c.self.view_is
    (refused_some line centre k w c.args.book.now c.drop_start.new.self c.drop_start.new.book c.drop_start.result here
    c.if-not-self.false
    (some_waits c.self.inside.place (c.is_none.ensures ∙ ap not c.if-is_none.false))
    (c.drop_start.ensures.exact line centre _ (answered_has line centre k w c.args.book.now here))
    c.drop_start.ensures.waits)
