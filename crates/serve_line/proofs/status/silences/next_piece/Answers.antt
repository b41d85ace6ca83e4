use Rattle.std.proofs.Common.{◌-◌, ◌∙◌, ◌≡◌, ◌≤◌, ap, arith, drop, length, List, sym, take}
use Rattle.std.proofs.lemmas.List.{length-drop, take_all}
use Rattle.rbc_log.specs.declared.entry.Entry as log
use Rattle.serve_line.proofs.status.silences.next_piece.Goals as goal

pub returns-in-None : goal.returns-in-None
returns-in-None c =
    let es = c.args.entries.now in
    let count : length (drop c.args.read es) ≡ length es - c.args.read = length-drop c.args.read es in
    let is : c.in-Some.left.now ≡ drop c.args.read es =
    c.in-Some.ensures.lookup.0.2 ∙ take_all (length es - c.args.read) (drop c.args.read es) (omega arith)
    in
    let short : length c.in-Some.left.now ≤ 4096 = grind (arith, c.in-None.ensures.lookup.0) in
    sym (take_all 4096 c.in-Some.left.now short) ∙ ap (λ (xs : List log.Entry). take 4096 xs) is
