use Rattle.std.proofs.Common.{◌==◌, ◌∙◌, ◌≡◌, ap, arith, cond, deque_len, length, subst, sym, true, ℕ}
use Rattle.std.proofs.lemmas.Bool.{false≢true}
use Rattle.std.proofs.lemmas.List.{length-map}
use Rattle.rbc_hand.proofs.Grows.{extends, Fits, takes_first, takes_fits, takes_next}
use Rattle.rbc_hand.proofs.hand.Hand.extend.Goals as goal
use Rattle.rbc_hand.specs.Hands.{Holding, run, takes}
use Rattle.rbc_hand.specs.Tokens.{held_of, section_of}

abbrev begins : Holding → ℕ → ℕ
begins h s = cond (length h.holds == 0) s h.first

pub push_back_reserved-requires : goal.push_back_reserved-requires
push_back_reserved-requires c =
    let fits : Fits c.args.self.now (section_of c.args.token) =
    takes_fits c.args.self.now (section_of c.args.token)
    (ap (takes (run c.args.self.now)) (sym c.section-section.ensures) ∙ sym c.takes.ensures
    ∙ c.if-not-takes.false) in
    let held : length c.args.self.now.holds ≡ length c.self.inside.tokens.items =
    ap (λ (h : Holding). length h.holds) (sym c.self.view_is) ∙ length-map c.self.inside.tokens.items held_of in
    let long : deque_len c.self.inside.tokens ≡ length c.self.inside.tokens.items = c.self.inside.tokens.ok.0 in
    omega (arith, fits.room, held, long, c.self.invariant.room)

pub invariant_of-self : goal.invariant_of-self
invariant_of-self c =
    let fits : Fits c.args.self.now (section_of c.args.token) =
    takes_fits c.args.self.now (section_of c.args.token)
    (ap (takes (run c.args.self.now)) (sym c.section-section.ensures) ∙ sym c.takes.ensures
    ∙ c.if-not-takes.false) in
    extends c.self.inside.first c.self.inside.tokens.items c.push_back_reserved.new.self.items _ _ c.args.token
    c.first_with-self-inside.result
    c.push_back_reserved.ensures.items c.push_back_reserved.ensures.capacity
    (c.first_with-self-inside.ensures ∙ ap (begins c.args.self.now) c.section-section.ensures
    ∙ ap (λ h. begins h (section_of c.args.token)) (sym c.self.view_is))
    (subst (λ h. Fits h (section_of c.args.token)) (sym c.self.view_is) fits) c.self.invariant

-- a token that may be added is not handed back
not_back : (c : goal.Then-not-takes) → takes (run c.args.self.now) (section_of c.args.token) ≡ true → ⊥
not_back c taken = false≢true (sym c.if-not-takes.true ∙ c.takes.ensures
    ∙ ap (takes (run c.args.self.now)) c.section-section.ensures ∙ taken)

pub returns-then-not-takes-clause-follows : goal.returns-then-not-takes-clause-follows
returns-then-not-takes-clause-follows c room number next =
    absurd (not_back c (takes_next (run c.args.self.now) (section_of c.args.token) room number next))

pub returns-then-not-takes-clause-begins : goal.returns-then-not-takes-clause-begins
returns-then-not-takes-clause-begins c none number =
    absurd (not_back c (takes_first (run c.args.self.now) (section_of c.args.token) none number))
