use Rattle.std.proofs.Common.{◌∙◌, sym}
use Rattle.toml.proofs.Views.{table_get}
use Rattle.cli_commands.proofs.InspectingLemmas.{value_found, value_missing, value_other}
use Rattle.cli_commands.proofs.inspecting.inspection.Inspection.value.Goals as goal
use Rattle.cli_commands.proofs.inspecting.inspection.Inspection.value.Goals.{in-None, in-Some-2}

pub returns-in-Some-clause-value : goal.returns-in-Some-clause-value
returns-in-Some-clause-value c =
    let found = table_get c.get.result c.args.key.now c.args.table.now.entries c.get.ensures.value in
    value_found c.args.wanted.now c.args.key.now c.type_str.result.now _ _ (rw c.in-Some.is at found)
    c.type_str.ensures (sym c.eq.ensures ∙ c.if-eq.true)

pub returns-clause-value : goal.returns-clause-value
returns-clause-value c =
    let found = table_get c.get.result c.args.key.now c.args.table.now.entries c.get.ensures.value in
    elim c.match-get.branch [
      | in-Some-2 w ↦
          value_other c.args.wanted.now c.args.key.now w.type_str.result.now _ _ (rw w.in-Some.is at found)
          w.type_str.ensures (sym w.eq.ensures ∙ w.if-eq.false)
      | in-None w ↦ value_missing c.args.wanted.now c.args.key.now _ (rw w.in-None.is at found)
    ]
