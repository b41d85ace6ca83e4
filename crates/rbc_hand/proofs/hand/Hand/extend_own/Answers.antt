use Rattle.std.proofs.Common.{◌++◌, ◌<◌, ◌==◌, ◌∙◌, ◌≡◌, ap, arith, cond, length, map, replicate, subst, sym, ℕ}
use Rattle.std.proofs.lemmas.List.{length-map}
use Rattle.rbc_book.specs.Claim.{claimed, claims_train}
use Rattle.rbc_hand.proofs.Grows.{extends_own, hand_of, holds_own}
use Rattle.rbc_hand.proofs.hand.Hand.extend_own.Goals as goal
use Rattle.rbc_hand.specs.Hands.{Holding, run}
use Rattle.rbc_hand.specs.Tokens.{held_of, Own}
use Rattle.rbc_spec.specs.SectionRuns.{next_after}

abbrev begins : Holding → ℕ → ℕ
begins h s = cond (length h.holds == 0) s h.first

pub push_claims-requires-clause-room : goal.push_claims-requires-clause-room
push_claims-requires-clause-room c =
    let held : length c.args.self.now.holds ≡ length c.self.inside.tokens.items =
    ap (λ (h : Holding). length h.holds) (sym c.self.view_is) ∙ length-map c.self.inside.tokens.items held_of in
    omega (arith, held, c.requires.room, c.self.invariant.room)

pub invariant_of-self : goal.invariant_of-self
invariant_of-self c =
    let held : length c.args.self.now.holds ≡ length (map held_of c.self.inside.tokens.items) =
    ap (λ (h : Holding). length h.holds) (sym c.self.view_is) in
    extends_own c.self.inside.first c.first_with-self-inside.result (claims_train c.args.claims) _ _
    (claimed c.args.claims) c.self.inside.tokens.items c.push_claims.new.tokens.items
    c.push_claims.ensures.items c.push_claims.ensures.capacity
    (c.first_with-self-inside.ensures ∙ ap (begins c.args.self.now) c.first.ensures
    ∙ ap (λ h. begins h (claimed c.args.claims).first) (sym c.self.view_is))
    (omega (arith, held, c.requires.room)) c.requires.numbers
    (subst (λ (h : Holding). 0 < length h.holds → next_after (run h) ≡ (claimed c.args.claims).first)
    (sym c.self.view_is) c.requires.next) c.self.invariant

pub returns : goal.returns
returns c = hand_of c.first_with-self-inside.result (begins c.args.self.now (claimed c.args.claims).first)
    c.push_claims.new.tokens.items _
    (c.first_with-self-inside.ensures ∙ ap (begins c.args.self.now) c.first.ensures)
    (holds_own (claimed c.args.claims).first (claimed c.args.claims).count (claims_train c.args.claims)
    c.self.inside.tokens.items c.push_claims.new.tokens.items c.push_claims.ensures.items
    ∙ ap (λ (h : Holding). h.holds ++ replicate (claimed c.args.claims).count (Own (claims_train c.args.claims)))
    c.self.view_is)
