use Rattle.std.proofs.Common.{◌∙◌, ◌≡◌, ap, option_map, refl, slice_get, Some, sym}
use Rattle.std.proofs.lemmas.Option.{slice_get_read}
use Rattle.rbc_centre.specs.rbc_train.Desks.{mission_by}
use Rattle.rbc_centre.specs.States as one
use Rattle.rbc_centre.specs.Views.{handing_at}
use Rattle.rbc_world.proofs.Shown.{held_by, seen_at}
use Rattle.rbc_world.proofs.world.World.mission_at.Goals as goal

pub returns : goal.returns
returns c =
    let w = c.args.self.now in
    let at : slice_get w.centres.items c.args.c ≡ Some c.index.result.now =
    slice_get_read _ _ _ _ refl c.requires c.index.ensures in
    let handing = handing_at ((one.state_of c.index.result.now).mission c.args.nid_engine) in
    ap (option_map (held_by c.args.c))
    (sym (ap (λ m. mission_by m c.train-page.result.hand c.train-page.result.pool handing) c.in_ok-facts.was)
    ∙ c.train-page.ensures.mission
    ∙ seen_at w.line w.centres.items w.trains.keys c.args.c (λ k. k.mission c.args.nid_engine) c.index.result.now at)

pub returns-in_err-facts : goal.returns-in_err-facts
returns-in_err-facts c =
    let w = c.args.self.now in
    let at : slice_get w.centres.items c.args.c ≡ Some c.index.result.now =
    slice_get_read _ _ _ _ refl c.requires c.index.ensures in
    let handing = handing_at ((one.state_of c.index.result.now).mission c.args.nid_engine) in
    ap (option_map _) c.from_residual.ensures
    ∙ ap (option_map (held_by c.args.c))
    (sym (ap (λ m. mission_by m c.train-page.result.hand c.train-page.result.pool handing) c.in_err-facts.was)
    ∙ c.train-page.ensures.mission
    ∙ seen_at w.line w.centres.items w.trains.keys c.args.c (λ k. k.mission c.args.nid_engine) c.index.result.now at)
