use Rattle.std.proofs.Common.{rules, subst, sym}
use Rattle.rbc_log.specs.Log.{LogValue}
use Rattle.rbc_node.specs.Node.{centre_of, IsLogOf}
use Rattle.serve_line.proofs.state.build.journal_of.Goals as goal

pub returns : goal.returns
returns g c = record {
  centre = search rules;
  log = c.log.result.now;
  its = subst (λ (l : LogValue). IsLogOf (centre_of c.args.node.now) l) (sym c.log.ensures) c.look-look.ensures;
  begins = search rules;
  begun = search rules;
}
