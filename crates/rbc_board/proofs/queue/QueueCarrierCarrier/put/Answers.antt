use Rattle.std.proofs.Common.{[], ◌++◌, ◌<◌, ◌∙◌, ◌∷◌, ◌≡◌, ap, arith, inl, inr, rules, subst, sym, true, ⊎_elim}
use Rattle.crossbeam_queue.specs.Passes.{IsPassOf, view}
use Rattle.rbc_board.proofs.queue.QueueCarrierCarrier.put.Goals as goal
use Rattle.rbc_board.proofs.Steps.{found-above, found-keeps, found-none, mem-push, puts}
use Rattle.rbc_board.specs.InStep.{found, Mem}

pub returns-then-is_err-clause-link : goal.returns-then-is_err-clause-link
returns-then-is_err-clause-link g c = record {
  pass = c.requires.pass;
  known = λ f m. c.requires.known f (subst (Mem f) c.reserve.ensures.items m);
  puts = c.requires.puts;
  below = λ f m. c.requires.below f (subst (Mem f) c.reserve.ensures.items m);
}

pub push_as-requires-clause-rule : goal.push_as-requires-clause-rule
push_as-requires-clause-rule g c =
    let may : c.args.seen.now.puts ≡ true = search rules in
    let same : c.args.frame.number ≡ c.args.number = search rules in
    let next : c.args.seen.now.last < c.args.number = omega arith in
    let tie = c.requires.puts may in
    let last = tie.1 in
    let above : (view c.args.seen.now.pass).last < c.args.frame.number = omega (arith, last, next, same) in
    (puts _ _ _ _ tie.0 above, λ _ _ _ _. tt)

pub returns-in-Ok-clause-link : goal.returns-in-Ok-clause-link
returns-in-Ok-clause-link g c =
    let same : c.args.frame.number ≡ c.args.number = search rules in
    let next : c.args.seen.now.last < c.args.number = omega arith in
    let h = ap view c.note.ensures.rest.0 ∙ c.in-Ok.ensures.rule in
    let k = c.in-Ok.ensures.queue in
    let old = c.args.seen.now.known.items in
    let items : c.note.new.self.known.items ≡ old ++ c.args.frame ∷ [] =
    c.note.ensures.known ∙ ap (λ xs. xs ++ c.args.frame ∷ []) c.reserve.ensures.items in
    let last : c.note.new.self.last ≡ c.args.frame.number = omega (arith, c.note.ensures.last, same, next) in record {
      pass =
          subst (IsPassOf c.args.self.now.queue) (sym c.note.ensures.rest.0)
          (k.0 ∙ c.requires.pass.0, k.2 ∙ c.requires.pass.1);
      known =
          λ f m. subst (λ v. Mem f v.known) (sym h)
          (⊎_elim (λ a. inr (c.requires.known f a)) (λ e. inl e) (mem-push f c.args.frame old (subst (Mem f) items m)));
      puts =
          λ p. (
            ap (λ v. v.puts) h ∙ (c.requires.puts (sym c.note.ensures.rest.1 ∙ p)).0,
            ap (λ v. v.last) h ∙ sym last,
          );
      below = λ f m. ⊎_elim
          (λ a. let low = c.requires.below f a in omega (arith, low, last, same, next))
          (λ e. let n = ap (λ y. y.number) e in omega (arith, n, last))
          (mem-push f c.args.frame old (subst (Mem f) items m));
    }

pub returns-in-Ok-clause-ok : goal.returns-in-Ok-clause-ok
returns-in-Ok-clause-ok g c =
    let same : c.args.frame.number ≡ c.args.number = search rules in
    let next : c.args.seen.now.last < c.args.number = omega arith in
    let old = c.args.seen.now.known.items in
    let items : c.note.new.self.known.items ≡ old ++ c.args.frame ∷ [] =
    c.note.ensures.known ∙ ap (λ xs. xs ++ c.args.frame ∷ []) c.reserve.ensures.items in
    ap (found c.args.number) items
    ∙ found-none c.args.number c.args.frame old
    (found-above c.args.number c.args.seen.now.last old c.requires.below next) same

pub returns-in-Ok-clause-anew : goal.returns-in-Ok-clause-anew
returns-in-Ok-clause-anew g c =
    let next : c.args.seen.now.last < c.args.number = omega arith in
    found-above c.args.number c.args.seen.now.last c.args.seen.now.known.items c.requires.below next

pub returns-in-Ok-clause-keeps : goal.returns-in-Ok-clause-keeps
returns-in-Ok-clause-keeps g c n f e =
    let old = c.args.seen.now.known.items in
    let items : c.note.new.self.known.items ≡ old ++ c.args.frame ∷ [] =
    c.note.ensures.known ∙ ap (λ xs. xs ++ c.args.frame ∷ []) c.reserve.ensures.items in
    ap (found n) items ∙ found-keeps n f c.args.frame old e

pub returns-in-Err-clause-link : goal.returns-in-Err-clause-link
returns-in-Err-clause-link g c =
    let h = c.in-Err.ensures.rule.1 in
    let k = c.in-Err.ensures.queue in record {
      pass = (k.0 ∙ c.requires.pass.0, k.2 ∙ c.requires.pass.1);
      known = λ f m. subst (λ v. Mem f v.known) (sym h) (c.requires.known f (subst (Mem f) c.reserve.ensures.items m));
      puts = λ p. (ap (λ v. v.puts) h ∙ (c.requires.puts p).0, ap (λ v. v.last) h ∙ (c.requires.puts p).1);
      below = λ f m. c.requires.below f (subst (Mem f) c.reserve.ensures.items m);
    }
