use Rattle.std.proofs.Common.{◌+◌, ◌∙◌, ◌≡◌, ◌≤◌, ap, arith, is_some, length, Some, subst, sym}
use Rattle.std.proofs.lemmas.Bool.{false≢true}
use Rattle.rbc_allocation.proofs.Held.{own_more}
use Rattle.rbc_allocation.specs.Sections.{IsAllTaken, TakesRun}
use Rattle.rbc_hand.specs.Hands.{run}
use Rattle.rbc_pending_start.proofs.waiting_start.WaitingStart.begin.Goals as goal
use Rattle.rbc_pending_start.proofs.Waits.{all_taken, few, none_waits, run_is}
use Rattle.rbc_pending_start.specs.Waits.{WaitState}
use Rattle.rbc_place.specs.Places.{place_of}
use Rattle.rbc_spec.specs.Place.{covered}
use Rattle.rbc_spec.specs.SectionRuns.{SectionRun}

was_empty : (c : goal.After-self-1) → length c.self.inside.claims.holds ≡ 0
was_empty c =
    ap (λ (r : SectionRun). r.count) (c.self.invariant.none (none_waits _ _ _ _ _ c.self.view_is c.requires.none))

taken : (c : goal.After-self-1) → run c.take_run.new.hand ≡ covered c.args.line.now (place_of c.args.place)
taken c =
    run_is c.take_run.new.hand _ _ (was_empty c) c.take_run.ensures.count c.take_run.ensures.first
    (subst (λ (r : SectionRun). 1 ≤ r.count) (sym c.covered-run.ensures.value) c.requires.some)
    ∙ c.covered-run.ensures.value

pub invariant_of-self : goal.invariant_of-self
invariant_of-self c =
    let held = taken c in
    record {
      own =
          own_more c.self.inside.nid_engine c.covered-run.result.count c.self.inside.claims c.take_run.new.hand
          c.self.invariant.own c.take_run.ensures.holds;
      none = λ e. absurd (false≢true (sym (ap is_some e)));
      some = λ _. subst (λ (r : SectionRun). 1 ≤ r.count) (sym held) c.requires.some;
      most =
          subst (λ (r : SectionRun). r.count ≤ 32) (sym held)
          (few c.args.line.now (place_of c.args.place) c.requires.fit);
      numbers =
          subst (λ (r : SectionRun). r.first + r.count ≤ 65535) (sym (held ∙ sym c.covered-run.ensures.value))
          (omega (arith, c.covered-run.ensures.bound, c.covered-run.ensures.line.limits.sections));
    }

pub returns-clause-waits : goal.returns-clause-waits
returns-clause-waits c =
    λ i. record {
      engine = (c.self.view_is i).engine;
      wait = Some (place_of c.args.place);
      sections = taken c i;
      has_asked = (c.self.view_is i).has_asked;
    }

pub returns-clause-claims : goal.returns-clause-claims
returns-clause-claims c =
    subst (λ r. IsAllTaken c.args.self.now.engine r c.take_run.new.book) (sym (taken c))
    (all_taken c.args.self.now.engine _ c.args.book.now c.take_run.new.book c.requires.open
    (subst (λ (w : WaitState). TakesRun w.engine
    (covered c.args.line.now (place_of c.args.place)) c.args.book.now c.take_run.new.book) c.self.view_is
    (subst (λ r. TakesRun c.self.inside.nid_engine r c.args.book.now c.take_run.new.book) c.covered-run.ensures.value
    c.take_run.ensures.book)))
