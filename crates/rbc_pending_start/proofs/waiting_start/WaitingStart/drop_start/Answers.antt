use Rattle.std.proofs.Common.{◌+◌, ◌∙◌, ◌≡◌, ◌≤◌, ap, arith, eq-eqb, length, subst, sym}
use Rattle.std.proofs.lemmas.Bool.{cond-true, false≢true}
use Rattle.rbc_allocation.proofs.Held.{own_held}
use Rattle.rbc_allocation.specs.Sections.{FreesRun, wished}
use Rattle.rbc_book.specs.Book.{is_own}
use Rattle.rbc_hand.specs.Hands.{Holding, IsAllOwn, nothing, run}
use Rattle.rbc_pending_start.proofs.Dropped.{drops}
use Rattle.rbc_pending_start.proofs.waiting_start.WaitingStart.drop_start.Goals as goal
use Rattle.rbc_pending_start.proofs.Waits.{none_waits}
use Rattle.rbc_pending_start.specs.Waits.{nothing_waits, telling, WaitState, with_wait}
use Rattle.rbc_spec.specs.SectionRuns.{is_empty, SectionRun}

pub clear-told-requires-clause-held : goal.clear-told-requires-clause-held
clear-told-requires-clause-held c =
    own_held c.self.inside.nid_engine (is_own c.args.book.now) c.self.inside.claims c.self.invariant.own

pub invariant_of-self : goal.invariant_of-self
invariant_of-self c =
    let all : c.claims-run.result.count ≡ length c.self.inside.claims.holds =
    ap (λ (r : SectionRun). r.count) c.claims-run.ensures
    ∙ ap (λ (w : WaitState). w.sections.count) (sym c.self.view_is) in
    let left : length c.clear-told.new.hand.holds ≡ 0 = let cut =
    ap (λ (r : SectionRun). r.count) c.clear-told.ensures.run in omega (arith, cut, all) in
    let gone : c.forget_end.new.self ≡ nothing =
    c.forget_end.ensures.hand
    ∙ cond-true (is_empty (run c.clear-told.new.hand)) nothing c.clear-told.new.hand
    (eq-eqb (length c.clear-told.new.hand.holds) 0 left) in
    record {
      own = subst (IsAllOwn c.self.inside.nid_engine) (sym gone) tt;
      none = λ e. ap run gone;
      some = λ e. absurd (false≢true e);
      most = subst (λ (h : Holding). length h.holds ≤ 32) (sym gone) (omega arith);
      numbers = subst (λ (h : Holding). h.first + length h.holds ≤ 65535) (sym gone) (omega arith);
    }

frees : (c : goal.After-self-1)
    → FreesRun c.args.self.now.engine c.args.self.now.sections c.args.book.now c.clear-told.new.book
frees c =
    subst (λ (w : WaitState). FreesRun w.engine w.sections c.args.book.now c.clear-told.new.book) c.self.view_is
    (subst (λ n. FreesRun c.self.inside.nid_engine
    (record { first = c.self.inside.claims.first; count = n }) c.args.book.now c.clear-told.new.book)
    (ap (λ (r : SectionRun). r.count) c.claims-run.ensures
    ∙ ap (λ (w : WaitState). w.sections.count) (sym c.self.view_is)) c.clear-told.ensures.book)

told_are : (c : goal.After-self-1)
    → c.clear-told.result ≡ wished c.args.self.now.engine c.args.self.now.sections c.args.book.now
told_are c =
    c.clear-told.ensures.told
    ∙ ap (λ n. wished c.self.inside.nid_engine
    (record { first = c.self.inside.claims.first; count = n }) c.args.book.now)
    (ap (λ (r : SectionRun). r.count) c.claims-run.ensures
    ∙ ap (λ (w : WaitState). w.sections.count) (sym c.self.view_is))
    ∙ ap (λ (w : WaitState). wished w.engine w.sections c.args.book.now) c.self.view_is

pub returns-clause-told : goal.returns-clause-told
returns-clause-told c = told_are c

pub returns-clause-book : goal.returns-clause-book
returns-clause-book c = frees c

pub returns-clause-exact : goal.returns-clause-exact
returns-clause-exact c line centre k has =
    drops line centre k c.args.self.now c.args.book.now c.clear-told.new.book c.clear-told.result has
    (λ none. ap (λ (w : WaitState). w.sections) (sym c.self.view_is)
    ∙ c.self.invariant.none (none_waits _ _ _ _ _ c.self.view_is none))
    (frees c)
    (told_are c)
    ∙ ap (λ (w : WaitState).
    telling (with_wait (nothing_waits w.engine w.has_asked) c.clear-told.new.book k) c.clear-told.result)
    (sym c.self.view_is)
