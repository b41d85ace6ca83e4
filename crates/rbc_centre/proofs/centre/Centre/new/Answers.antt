use Rattle.std.proofs.Common.{◌∙◌, ◌≡◌, ap, subst, sym, true}
use Rattle.law_invariants.proofs.FlowLemmas.OnePlace.{centre_begins}
use Rattle.law_invariants.proofs.RangesLemmas.Steps.{begins_in_range}
use Rattle.law_invariants.specs.Flow.Sound.{IsCentreSound}
use Rattle.law_invariants.specs.Ranges.Ranges.{HasStateRanges}
use Rattle.rbc_book.specs.Book.{is_own, Pages}
use Rattle.rbc_centre.proofs.Begins.{none_in_range, stands_at_beginning, trains_begin}
use Rattle.rbc_centre.proofs.centre.Centre.new.Goals as goal
use Rattle.rbc_centre.proofs.centre.Centre.new.Goals.{In_ok-trains}
use Rattle.rbc_centre.specs.declared.desk.Desk.{Desk}
use Rattle.rbc_centre.specs.State.{stands_for}
use Rattle.rbc_session.specs.Sessions.{phase_at}
use Rattle.rbc_spec.specs.Centre.{beginning}
use Rattle.rbc_spec.specs.Line.{is_centre}

-- the rights of its trains, with no handover announced
abbrev desk : In_ok-trains → Desk
desk c = record { registrar = c.in_ok-registrar.registrar; handovers = c.new-handovers.result }

begins : (c : In_ok-trains)
    → stands_for c.in_ok-line.line c.args.number 0 c.unknown_trains.new.book (desk c) c.in_ok-links.links
    c.in_ok-trains.trains.items
    ≡ beginning c.in_ok-line.line c.args.number
begins c =
    (λ i. stands_for c.in_ok-line.line c.args.number 0 (c.in_ok-trains.ensures.book i) (desk c) c.in_ok-links.links
    c.in_ok-trains.trains.items)
    ∙ stands_at_beginning c.in_ok-line.line c.in_ok-trains.trains.items c.in_ok-trains.ensures.each c.args.number
    c.in_ok-book.book (desk c) c.in_ok-links.links
    c.in_ok-book.ensures.entry c.in_ok-book.ensures.wish c.in_ok-registrar.ensures.engines c.new-handovers.ensures
    c.in_ok-links.ensures.taken c.in_ok-links.ensures.sent

pub returns-clause-beginning : goal.returns-clause-beginning
returns-clause-beginning c =
    begins (goal.at.returns-clause-beginning c).In_ok-trains
    ∙ ap (λ l. beginning l c.args.number) c.in_ok-line.ensures.value

pub invariant_of-result : goal.invariant_of-result
invariant_of-result c =
    let is = begins (goal.at.invariant_of-result c).In_ok-trains in
    record {
      rules = record {
        line_rules = ∣ c.in_ok-line.ensures.line ∣₁;
        of_line = subst (λ l. is_centre l c.args.number ≡ true) (sym c.in_ok-line.ensures.value) c.requires;
        own_sections = λ s. ap (λ (b : Pages). is_own b s) c.in_ok-trains.ensures.book ∙ c.in_ok-book.ensures.homes s;
        each_right = c.in_ok-registrar.ensures.count;
        all_links = record {
          count = c.in_ok-links.ensures.count;
          linked = c.in_ok-links.ensures.linked;
          frames = ∣ none_in_range c.in_ok-links.links c.in_ok-links.ensures.sent ∣₁;
        };
        all_trains =
            trains_begin c.in_ok-line.line c.in_ok-trains.trains.items c.in_ok-trains.ensures.each c.args.number _
            (λ u. ap (λ r. phase_at r u) c.in_ok-trains.ensures.sessions ∙ c.new-sessions.ensures.phases u)
            c.in_ok-trains.ensures.count;
        sound =
            subst (IsCentreSound c.in_ok-line.line c.args.number) (sym is)
            (centre_begins c.in_ok-line.line c.args.number);
        ranged =
            ∣ subst (HasStateRanges c.in_ok-line.line c.args.number) (sym is)
            (begins_in_range c.in_ok-line.line c.args.number) ∣₁;
      };
    }
