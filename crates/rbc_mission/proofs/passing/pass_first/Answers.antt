use Rattle.std.proofs.Common.{◌∙◌}
use Rattle.std.proofs.lemmas.Bool.{cond-false}
use Rattle.rbc_allocation.specs.Sections.{hand_rest}
use Rattle.rbc_mission.proofs.Passes.{passes_front}
use Rattle.rbc_mission.proofs.passing.pass_first.Goals as goal

pub returns-in-Some-clause-hand : goal.returns-in-Some-clause-hand
returns-in-Some-clause-hand c =
    c.cut_front.ensures.hand ∙ cond-false _ c.args.hand.now (hand_rest 1 c.args.hand.now) c.requires.some

pub returns-in-Some-clause-book : goal.returns-in-Some-clause-book
returns-in-Some-clause-book c =
    passes_front c.args.nid_engine c.args.hand.now c.in-Some.token c.cut_front.result c.args.book.now
    c.pass_token.new.book
    c.cut_front.ensures.token c.in-Some.is c.requires.held c.pass_token.ensures
