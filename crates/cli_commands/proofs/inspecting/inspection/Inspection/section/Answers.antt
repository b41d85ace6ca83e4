use Rattle.cli_commands.proofs.inspecting.inspection.Inspection.section.Goals as goal
use Rattle.cli_commands.proofs.InspectingLemmas.{grows_found, grows_then}

pub returns : goal.returns
returns c =
    let table = c.table.new.self in
    let length = c.length.new.self in
    let home = c.centre_name.new.self in
    let end = c.own_number.new.self in
    record {
      grows = grows_then c.args.self.now table end c.in_ok-table.ensures.grows
          (grows_then table length end (grows_found _ table length c.args.place _ _ _ c.in_ok-length.ensures)
          (grows_then length home end c.in_ok-home.ensures.grows c.in_ok-own_number.ensures.grows));
    }
