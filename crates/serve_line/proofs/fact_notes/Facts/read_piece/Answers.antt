use Rattle.std.proofs.Common.{◌∙◌, ap, drop, length, rules, subst, take}
use Rattle.std.specs.List.{flat_map}
use Rattle.serve_line.proofs.fact_notes.Facts.read_piece.Goals as goal
use Rattle.serve_line.specs.Facts.{Adds, facts_of}

pub returns : goal.returns
returns g c =
    let log = c.log.result.now in
    let piece =
    c.next_of-piece.ensures ∙ ap (λ es. take 256 (drop c.args.read es)) c.entries.ensures.value in (
      log,
      search rules,
      ap length piece,
      subst (λ es. Adds (flat_map facts_of es) c.args.self.now c.add_piece.new.self) piece
          c.add_piece.ensures,
    )
