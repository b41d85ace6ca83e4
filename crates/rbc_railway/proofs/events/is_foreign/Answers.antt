use Rattle.rbc_railway.proofs.events.is_foreign.Goals as goal
use Rattle.rbc_railway.proofs.Trains.{named_at, none_named}
use Rattle.rbc_railway.specs.History.{obeys}
use Rattle.std.proofs.Common.{◌∙◌, ap, refl, sym}

pub returns-in-None-clause-foreign : goal.returns-in-None-clause-foreign
returns-in-None-clause-foreign c = none_named c.args.trains.now c.args.nid_engine c.in-None.ensures.none

pub returns-in-Some-clause-why : goal.returns-in-Some-clause-why
returns-in-Some-clause-why c =
    let found = c.in-Some.ensures.found in (
      refl,
      ap (obeys c.args.trains.now) (sym (found.2))
          ∙ named_at c.args.trains.now c.in-Some.field-0 (found.0) found.1,
    )
