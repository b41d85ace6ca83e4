use Rattle.std.proofs.Common.{◌==◌, ◌∙◌, rules, sym, tests}
use Rattle.std.proofs.lemmas.Iterator.{YieldsList-from_slice}
use Rattle.std.proofs.lemmas.Iterator.Search.{find_from_yields_List}
use Rattle.rbc_board.proofs.queue.QueueSeen.find.Goals as goal
use Rattle.rbc_board.proofs.Steps.{found-above}
use Rattle.rbc_linkmsg.specs.declared.frame.Frame.{Frame}

pub returns-then-number-self : goal.returns-then-number-self
returns-then-number-self c =
    sym (found-above c.args.number c.args.self.now.last c.args.self.now.known.items c.requires c.if-number-self.true)

pub returns : goal.returns
returns c = c.copied.ensures
    ∙ find_from_yields_List (λ (f : Frame). f.number == c.args.number) _ _ c.find.result c.find.ensures.ran
    (YieldsList-from_slice c.args.self.now.known.items (cc)) (λ x b q k. search (rules, tests))
