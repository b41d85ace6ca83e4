use Rattle.std.proofs.Common.{◌∙◌, ap, false, sym}
use Rattle.std.specs.Prelude.{option_map}
use Rattle.rbc_pending_start.proofs.waiting_start.WaitingStart.admit.Goals as goal
use Rattle.rbc_pending_start.proofs.Waits.{given}
use Rattle.rbc_pending_start.specs.Waits.{nothing_waits, WaitState, with_wait}
use Rattle.rbc_place.specs.Places.{place_of}
use Rattle.rbc_spec.specs.Rules.{begin}

pub returns-clause-exact : goal.returns-clause-exact
returns-clause-exact c line centre k book has asked none =
    given line centre k c.args.self.now book (place_of c.in-Some.place) has asked none
    (ap (λ (w : WaitState). w.wait) (sym c.self.view_is) ∙ ap (option_map place_of) c.in-Some.is)
    ∙ ap (λ (w : WaitState). begin line c.args.self.now.engine (place_of c.in-Some.place)
    (with_wait (nothing_waits w.engine false) book k)) (sym c.self.view_is)
