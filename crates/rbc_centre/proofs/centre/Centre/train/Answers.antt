use Rattle.std.proofs.Common.{◌∙◌, ap, None, Option, refl, sym}
use Rattle.std.proofs.lemmas.Option.{slice_get_read}
use Rattle.std.specs.Option.{option_map_or}
use Rattle.rbc_centre.proofs.centre.Centre.train.Goals as goal
use Rattle.rbc_centre.proofs.States.{number_within, part_of_foreign, part_of_train}
use Rattle.rbc_centre.specs.State.{stands_for}
use Rattle.rbc_centre.specs.Views.{handing_at}
use Rattle.rbc_session.specs.SessionStates.{session_phase}
use Rattle.rbc_spec.specs.Centre.{Closed, Mission}
use Rattle.rbc_spec.specs.SectionRuns.{no_run}
use Rattle.rbc_train.specs.Desks.{mission_by}

pub returns-in-Some-clause-phase : goal.returns-in-Some-clause-phase
unfolding stands_for
returns-in-Some-clause-phase c =
    let number = sym c.train_number.ensures.value ∙ c.in-Some.is in
    let within = number_within c.args.self.now.line c.args.self.now.trains.items c.args.nid_engine _ number
    c.args.self.now.rules.all_trains.count in
    c.page.ensures.phase ∙ part_of_train (λ p. session_phase p.session_state) Closed c.args.self.now.line
    c.args.self.now.trains.items c.args.nid_engine _ c.index.result.now number
    (slice_get_read _ _ _ _ refl within c.index.ensures)

pub returns-in-None-clause-phase : goal.returns-in-None-clause-phase
unfolding stands_for
returns-in-None-clause-phase c =
    part_of_foreign (λ p. session_phase p.session_state) Closed c.args.self.now.line c.args.self.now.trains.items
    c.args.nid_engine (sym c.train_number.ensures.value ∙ c.in-None.is)

pub returns-in-Some-clause-heard : goal.returns-in-Some-clause-heard
unfolding stands_for
returns-in-Some-clause-heard c =
    let number = sym c.train_number.ensures.value ∙ c.in-Some.is in
    let within = number_within c.args.self.now.line c.args.self.now.trains.items c.args.nid_engine _ number
    c.args.self.now.rules.all_trains.count in
    c.page.ensures.heard ∙ part_of_train (λ p. p.heard) None c.args.self.now.line c.args.self.now.trains.items
    c.args.nid_engine _ c.index.result.now number (slice_get_read _ _ _ _ refl within c.index.ensures)

pub returns-in-None-clause-heard : goal.returns-in-None-clause-heard
unfolding stands_for
returns-in-None-clause-heard c =
    part_of_foreign (λ p. p.heard) None c.args.self.now.line c.args.self.now.trains.items c.args.nid_engine
    (sym c.train_number.ensures.value ∙ c.in-None.is)

pub returns-in-Some-clause-said : goal.returns-in-Some-clause-said
unfolding stands_for
returns-in-Some-clause-said c =
    let number = sym c.train_number.ensures.value ∙ c.in-Some.is in
    let within = number_within c.args.self.now.line c.args.self.now.trains.items c.args.nid_engine _ number
    c.args.self.now.rules.all_trains.count in
    c.page.ensures.said ∙ part_of_train (λ p. p.said) 0 c.args.self.now.line c.args.self.now.trains.items
    c.args.nid_engine _ c.index.result.now number (slice_get_read _ _ _ _ refl within c.index.ensures)

pub returns-in-None-clause-said : goal.returns-in-None-clause-said
unfolding stands_for
returns-in-None-clause-said c =
    part_of_foreign (λ p. p.said) 0 c.args.self.now.line c.args.self.now.trains.items c.args.nid_engine
    (sym c.train_number.ensures.value ∙ c.in-None.is)

pub returns-in-Some-clause-mission : goal.returns-in-Some-clause-mission
unfolding stands_for
returns-in-Some-clause-mission c =
    let number = sym c.train_number.ensures.value ∙ c.in-Some.is in
    let within = number_within c.args.self.now.line c.args.self.now.trains.items c.args.nid_engine _ number
    c.args.self.now.rules.all_trains.count in
    let is = part_of_train (λ p. p.supervision.mission) None c.args.self.now.line c.args.self.now.trains.items
    c.args.nid_engine _ c.index.result.now number (slice_get_read _ _ _ _ refl within c.index.ensures) in
    ap (λ (m : Option Mission). mission_by c.page.result.mission c.page.result.hand c.page.result.pool (handing_at m))
    (sym is) ∙ c.page.ensures.mission ∙ is

pub returns-in-None-clause-mission : goal.returns-in-None-clause-mission
unfolding stands_for
returns-in-None-clause-mission c =
    part_of_foreign (λ p. p.supervision.mission) None c.args.self.now.line c.args.self.now.trains.items
    c.args.nid_engine (sym c.train_number.ensures.value ∙ c.in-None.is)

pub returns-in-Some-clause-hand : goal.returns-in-Some-clause-hand
unfolding stands_for
returns-in-Some-clause-hand c =
    let number = sym c.train_number.ensures.value ∙ c.in-Some.is in
    let within = number_within c.args.self.now.line c.args.self.now.trains.items c.args.nid_engine _ number
    c.args.self.now.rules.all_trains.count in
    let is = part_of_train (λ p. p.supervision.mission) None c.args.self.now.line c.args.self.now.trains.items
    c.args.nid_engine _ c.index.result.now number (slice_get_read _ _ _ _ refl within c.index.ensures) in
    c.page.ensures.hand ∙ ap (λ (m : Option Mission). option_map_or (λ m. m.hand) m no_run) is

pub returns-in-None-clause-hand : goal.returns-in-None-clause-hand
unfolding stands_for
returns-in-None-clause-hand c =
    ap (λ (m : Option Mission). option_map_or (λ m. m.hand) m no_run)
    (part_of_foreign (λ p. p.supervision.mission) None c.args.self.now.line c.args.self.now.trains.items
    c.args.nid_engine (sym c.train_number.ensures.value ∙ c.in-None.is))

pub returns-in-Some-clause-pool : goal.returns-in-Some-clause-pool
unfolding stands_for
returns-in-Some-clause-pool c =
    let number = sym c.train_number.ensures.value ∙ c.in-Some.is in
    let within = number_within c.args.self.now.line c.args.self.now.trains.items c.args.nid_engine _ number
    c.args.self.now.rules.all_trains.count in
    let is = part_of_train (λ p. p.supervision.mission) None c.args.self.now.line c.args.self.now.trains.items
    c.args.nid_engine _ c.index.result.now number (slice_get_read _ _ _ _ refl within c.index.ensures) in
    c.page.ensures.pool ∙ ap (λ (m : Option Mission). option_map_or (λ m. m.pool) m no_run) is

pub returns-in-None-clause-pool : goal.returns-in-None-clause-pool
unfolding stands_for
returns-in-None-clause-pool c =
    ap (λ (m : Option Mission). option_map_or (λ m. m.pool) m no_run)
    (part_of_foreign (λ p. p.supervision.mission) None c.args.self.now.line c.args.self.now.trains.items
    c.args.nid_engine (sym c.train_number.ensures.value ∙ c.in-None.is))

pub returns-in-Some-clause-waiting : goal.returns-in-Some-clause-waiting
unfolding stands_for
returns-in-Some-clause-waiting c =
    let number = sym c.train_number.ensures.value ∙ c.in-Some.is in
    let within = number_within c.args.self.now.line c.args.self.now.trains.items c.args.nid_engine _ number
    c.args.self.now.rules.all_trains.count in
    c.page.ensures.waiting ∙ part_of_train (λ p. p.waiting.wait) None c.args.self.now.line c.args.self.now.trains.items
    c.args.nid_engine _ c.index.result.now number (slice_get_read _ _ _ _ refl within c.index.ensures)

pub returns-in-None-clause-waiting : goal.returns-in-None-clause-waiting
unfolding stands_for
returns-in-None-clause-waiting c =
    part_of_foreign (λ p. p.waiting.wait) None c.args.self.now.line c.args.self.now.trains.items c.args.nid_engine
    (sym c.train_number.ensures.value ∙ c.in-None.is)
