use Rattle.std.proofs.Common.{◌-◌, ◌∙◌, ◌≡◌, ◌≤◌, ap, arith, drop, length, List, sym, take}
use Rattle.std.proofs.lemmas.List.{length-drop, take_all}
use Rattle.rbc_log.specs.declared.entry.Entry as log
use Rattle.serve_line.proofs.journaling.batch.next_of.Goals as goal

pub returns-in-None : goal.returns-in-None
returns-in-None c =
    let es = c.args.entries.now in
    let count : length (drop c.args.written es) ≡ length es - c.args.written = length-drop c.args.written es in
    let is : c.in-Some.left.now ≡ drop c.args.written es =
    c.in-Some.ensures.lookup.0.2 ∙ take_all (length es - c.args.written) (drop c.args.written es) (omega arith)
    in
    let short : length c.in-Some.left.now ≤ 256 = grind (arith, c.in-None.ensures.lookup.0) in
    sym (take_all 256 c.in-Some.left.now short) ∙ ap (λ (xs : List log.Entry). take 256 xs) is
