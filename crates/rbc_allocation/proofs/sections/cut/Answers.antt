use Rattle.std.proofs.Common.{◌-◌, ◌∙◌, ◌≡◌, ap, arith, length, subst, sym}
use Rattle.rbc_allocation.proofs.Held.{held_front, run_front}
use Rattle.rbc_allocation.proofs.sections.cut.Goals as goal
use Rattle.rbc_allocation.proofs.sections.cut.Goals.{After-free_back}
use Rattle.rbc_allocation.specs.Sections.{hand_front, IsHeldBy}
use Rattle.rbc_book.specs.Book.{is_own}
use Rattle.rbc_spec.specs.SectionRuns.{SectionRun}

kept : (c : After-free_back) → c.free_back.new.hand ≡ hand_front c.args.keep c.args.hand.now
kept c =
    let count : c.run-run.result.count ≡ length c.args.hand.now.holds =
    ap (λ (r : SectionRun). r.count) c.run-run.ensures in
    let left : length c.args.hand.now.holds - (c.run-run.result.count - c.args.keep) ≡ c.args.keep =
    omega (arith, count, c.requires.some) in
    c.free_back.ensures.hand ∙ ap (λ n. hand_front n c.args.hand.now) left

pub returns-clause-hand : goal.returns-clause-hand
returns-clause-hand = kept

pub returns-clause-run : goal.returns-clause-run
returns-clause-run c = run_front c.args.keep c.args.hand.now c.free_back.new.hand c.requires.some (kept c)

pub returns-clause-held : goal.returns-clause-held
returns-clause-held c =
    subst (λ h. IsHeldBy c.args.nid_engine h c.free_back.new.book) (sym (kept c))
    (held_front c.args.nid_engine (is_own c.args.book.now)
    (is_own c.free_back.new.book) c.free_back.ensures.book.homes c.args.keep c.args.hand.now c.requires.held)
