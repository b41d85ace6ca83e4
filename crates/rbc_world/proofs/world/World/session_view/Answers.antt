use Rattle.std.proofs.Common.{◌∙◌, ◌≡◌, refl, slice_get, Some}
use Rattle.std.proofs.lemmas.Option.{slice_get_read}
use Rattle.rbc_spec.specs.ReadOff.{read_off}
use Rattle.rbc_world.proofs.Shown.{seen_at}
use Rattle.rbc_world.proofs.world.World.session_view.Goals as goal

pub returns : goal.returns
unfolding read_off
returns c =
    let line = c.args.self.now.line in
    let cs = c.args.self.now.centres.items in
    let ts = c.args.self.now.trains.keys in
    let at : slice_get cs c.args.c ≡ Some c.index.result.now = slice_get_read _ _ _ _ refl c.requires c.index.ensures in
    record {
      phase =
          c.train-state.ensures.phase ∙ seen_at line cs ts c.args.c (λ k. k.phase c.args.nid_engine)
          c.index.result.now at;
      heard =
          c.train-state.ensures.heard ∙ seen_at line cs ts c.args.c (λ k. k.heard c.args.nid_engine)
          c.index.result.now at;
      said =
          c.train-state.ensures.said ∙ seen_at line cs ts c.args.c (λ k. k.said c.args.nid_engine)
          c.index.result.now at;
      wait =
          c.train-state.ensures.waiting ∙ seen_at line cs ts c.args.c (λ k. k.wait c.args.nid_engine)
          c.index.result.now at;
    }
