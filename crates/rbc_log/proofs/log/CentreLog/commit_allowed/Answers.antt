use Rattle.std.proofs.Common.{[], ◌++◌, ◌∙◌, ◌∷◌, ◌≡◌, ap, List, map, subst, sym}
use Rattle.law_logs.specs.Logs.{LogEntry}
use Rattle.rbc_centre.specs.States.{line_of, number_of, state_of}
use Rattle.rbc_centre.specs.Taken.{MayTake}
use Rattle.rbc_centre.specs.Views.{event_of, outcome_of}
use Rattle.rbc_log.proofs.Growing.{grown, map_push}
use Rattle.rbc_log.proofs.log.CentreLog.commit_allowed.Goals as goal
use Rattle.rbc_log.specs.Entries.{entry_of}
use Rattle.rbc_log.specs.Log.{LogValue}

pub step_allowed-requires : goal.step_allowed-requires
step_allowed-requires c = record {
  allowed = subst (λ (l : LogValue). MayTake l.core (event_of c.args.event)) (sym c.self.view_is) c.requires.allowed;
}

pub invariant_of-self-2 : goal.invariant_of-self-2
invariant_of-self-2 c =
    let old = c.self.inside.core in
    let front : List LogEntry = map entry_of c.self.inside.entries.items in
    let grows : map entry_of c.push_reserved.new.self.items
    ≡ front ++ record {
      centre = number_of old;
      event = event_of c.args.event;
      outcome = outcome_of c.step_allowed.new.out;
    } ∷ [] =
    ap (map entry_of) c.push_reserved.ensures.items ∙ map_push entry_of c.reserve.new.self.items _
    ∙ (λ i. map entry_of (c.in_ok-reserve.ensures.items i)
    ++ record {
      centre = (c.number.ensures ∙ c.in_ok-step_allowed.ensures.number) i;
      event = event_of c.args.event;
      outcome = c.copied.ensures i;
    } ∷ [])
    in (
      grown (line_of old) (line_of c.step_allowed.new.self) (number_of old) (number_of c.step_allowed.new.self)
          (state_of old) (state_of c.step_allowed.new.self) front (map entry_of c.push_reserved.new.self.items)
          (event_of c.args.event) (outcome_of c.step_allowed.new.out) c.self.invariant.0
          c.in_ok-step_allowed.ensures.exact grows c.in_ok-step_allowed.ensures.line
          c.in_ok-step_allowed.ensures.number,
      c.self.invariant.1 ∙ sym c.in_ok-step_allowed.ensures.line,
    )

pub returns-clause-replays : goal.returns-clause-replays
returns-clause-replays c =
    let old = c.self.inside.core in
    let front : List LogEntry = map entry_of c.self.inside.entries.items in
    let grows : map entry_of c.push_reserved.new.self.items
    ≡ front ++ record {
      centre = number_of old;
      event = event_of c.args.event;
      outcome = outcome_of c.step_allowed.new.out;
    } ∷ [] =
    ap (map entry_of) c.push_reserved.ensures.items ∙ map_push entry_of c.reserve.new.self.items _
    ∙ (λ i. map entry_of (c.in_ok-reserve.ensures.items i)
    ++ record {
      centre = (c.number.ensures ∙ c.in_ok-step_allowed.ensures.number) i;
      event = event_of c.args.event;
      outcome = c.copied.ensures i;
    } ∷ [])
    in
    grown (line_of old) (line_of c.step_allowed.new.self) (number_of old) (number_of c.step_allowed.new.self)
    (state_of old) (state_of c.step_allowed.new.self) front (map entry_of c.push_reserved.new.self.items)
    (event_of c.args.event) (outcome_of c.step_allowed.new.out) c.self.invariant.0
    c.in_ok-step_allowed.ensures.exact grows c.in_ok-step_allowed.ensures.line c.in_ok-step_allowed.ensures.number
