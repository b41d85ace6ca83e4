use Rattle.std.proofs.Common.{◌+◌, ◌∙◌, ap, arith, refl, subst, sym}
use Rattle.rbc_allocation.proofs.Runs.{takes_next}
use Rattle.rbc_hand.specs.Hands.{extended, one, run, takes}
use Rattle.rbc_hand.specs.Tokens.{held_of}
use Rattle.rbc_mission.proofs.Passes.{held_by, more_come, next_is_out, none_come}
use Rattle.rbc_mission.proofs.passing.come_all.Goals as goal
use Rattle.rbc_mission.specs.Passing.{IsBooked}
use Rattle.rbc_spec.specs.Centre.{is_out_for, Taken}

pub loop-k-init : goal.loop-k-init
loop-k-init c = none_come c.args.nid_engine c.args.sections.first c.args.hand.now c.args.book.now c.requires.empty

pub token_from-token-requires-clause-own : goal.token_from-token-requires-clause-own
token_from-token-requires-clause-own c =
    next_is_out c.args.nid_engine c.args.sections.first c.loop-k.k c.args.sections.count c.loop-k.hand c.args.book.now
    c.loop-k.book (omega (arith, c.loop-k-test.true)) c.loop-k.invariant c.requires.own

pub add-requires : goal.add-requires
add-requires c =
    ap (takes (run c.loop-k.hand)) c.token_from-token.ensures.section
    ∙ takes_next c.loop-k.hand c.args.sections.first 0 c.loop-k.k c.args.sections.count
    (c.args.sections.first + c.loop-k.k) refl (omega (arith, c.loop-k.invariant.count))
    (λ some. omega (arith, c.loop-k.invariant.begins (omega (arith, some, c.loop-k.invariant.count))))
    (omega (arith, c.requires.most)) c.requires.numbers (omega (arith, c.loop-k-test.true))

pub loop-k-preserved : goal.loop-k-preserved
loop-k-preserved c =
    more_come c.args.nid_engine c.args.sections.first c.loop-k.k (c.args.sections.first + c.loop-k.k)
    (held_of c.token_from-token.result) c.loop-k.hand c.add.new.hand c.args.book.now c.loop-k.book c.add.new.book refl
    c.loop-k.invariant
    (c.add.ensures.hand ∙ ap (λ s. extended c.loop-k.hand s (held_of c.token_from-token.result))
    c.token_from-token.ensures.section) c.token_from-token.ensures.held
    (subst (λ b. IsBooked (is_out_for c.args.nid_engine) (Taken c.args.nid_engine)
    (one (c.args.sections.first + c.loop-k.k)) c.loop-k.book b)
    (sym c.add.ensures.book) c.token_from-token.ensures.book)

pub returns-clause-held : goal.returns-clause-held
returns-clause-held c =
    held_by c.args.nid_engine (record { first = c.args.sections.first; count = c.loop-k.k }) c.loop-k.hand
    c.args.book.now c.loop-k.book c.loop-k.invariant.book c.loop-k.invariant.held
