use Rattle.std.proofs.Common.{[], ◌∙◌, subst, sym}
use Rattle.rbc_railway.proofs.Leading.{leads_first, none_there}
use Rattle.rbc_railway.proofs.railway.Railway.new.Goals as goal
use Rattle.rbc_railway.proofs.Safe.{is_safe}
use Rattle.rbc_railway.specs.History.{first_of}
use Rattle.rbc_spec.specs.Line.{IsLine}

pub invariant_of-result : goal.invariant_of-result
invariant_of-result c = record {
  one_line = c.in_ok-new.ensures.line ∙ sym c.in_ok-copied.ensures.value;
  of_centres = λ i a at. none_there _ i a c.new-3.ensures.items at;
  own_names = c.args.fleet.own_names;
  led = ∣ record {
    first = first_of c.args.fleet.trains.items;
    moments = [];
    leads =
        leads_first c.args.line.now _ _ c.args.fleet.trains.items _ _ c.in_ok-copied.ensures.value
        c.in_ok-new.ensures.beginning c.new-2.ensures.items c.new-3.ensures.items c.args.fleet.own_names
        c.args.fleet.are_new;
  } ∣₁;
}

pub returns-clause-beginning : goal.returns-clause-beginning
returns-clause-beginning c =
    leads_first c.args.line.now _ _ c.args.fleet.trains.items _ _ c.in_ok-copied.ensures.value
    c.in_ok-new.ensures.beginning c.new-2.ensures.items c.new-3.ensures.items c.args.fleet.own_names
    c.args.fleet.are_new

pub returns-clause-safe : goal.returns-clause-safe
returns-clause-safe c =
    is_safe _ c.known.ensures.theorem (subst IsLine (sym c.in_ok-copied.ensures.value) c.known.ensures.line)
