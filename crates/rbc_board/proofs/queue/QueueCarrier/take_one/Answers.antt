use Rattle.std.proofs.Common.{[], ◌++◌, ◌∙◌, ◌∷◌, ◌≡◌, ap, arith, inl, inr, subst, sym, true≢false, ⊎_elim}
use Rattle.crossbeam_queue.specs.Passes.{IsPassOf, view}
use Rattle.rbc_board.proofs.queue.QueueCarrier.take_one.Goals as goal
use Rattle.rbc_board.proofs.Steps.{mem-push, takes}
use Rattle.rbc_board.specs.InStep.{Mem}

pub returns-then-is_err-clause-link : goal.returns-then-is_err-clause-link
returns-then-is_err-clause-link g c = record {
  pass = c.requires.tied.pass;
  known = λ f m. c.requires.tied.known f (subst (Mem f) c.reserve.ensures.items m);
  puts = c.requires.tied.puts;
  below = λ f m. c.requires.tied.below f (subst (Mem f) c.reserve.ensures.items m);
}

pub pop_as-requires-clause-rule : goal.pop_as-requires-clause-rule
pop_as-requires-clause-rule g c = (takes _ _, λ _ _ _ _. tt)

pub returns-in-None-clause-link : goal.returns-in-None-clause-link
returns-in-None-clause-link g c =
    let h = c.in-None.ensures.rule.0 in
    let k = c.in-None.ensures.queue in record {
      pass = (k.0 ∙ c.requires.tied.pass.0, k.2 ∙ c.requires.tied.pass.1);
      known =
          λ f m. subst (λ v. Mem f v.known) (sym h) (c.requires.tied.known f (subst (Mem f) c.reserve.ensures.items m));
      puts = λ p. absurd (true≢false (sym p ∙ c.requires.reader));
      below = λ f m. c.requires.tied.below f (subst (Mem f) c.reserve.ensures.items m);
    }

pub returns-in-Some-clause-link : goal.returns-in-Some-clause-link
returns-in-Some-clause-link g c =
    let h = ap view c.note.ensures.rest.0 ∙ c.in-Some.ensures.rule in
    let k = c.in-Some.ensures.queue in
    let taken = c.in-Some.taken in
    let old = c.args.seen.now.known.items in
    let items : c.note.new.self.known.items ≡ old ++ taken ∷ [] =
    c.note.ensures.known ∙ ap (λ xs. xs ++ taken ∷ []) c.reserve.ensures.items in record {
      pass =
          subst (IsPassOf c.args.self.now.queue) (sym c.note.ensures.rest.0)
          (k.0 ∙ c.requires.tied.pass.0, k.2 ∙ c.requires.tied.pass.1);
      known =
          λ f m. subst (λ v. Mem f v.known) (sym h)
          (⊎_elim (λ a. inr (c.requires.tied.known f a)) (λ e. inl e) (mem-push f taken old (subst (Mem f) items m)));
      puts = λ p. absurd (true≢false (sym p ∙ c.note.ensures.rest.1 ∙ c.requires.reader));
      below = λ f m. ⊎_elim
          (λ a. let low = c.requires.tied.below f a in let last = c.note.ensures.last in omega arith)
          (λ e. let n = ap (λ y. y.number) e in let last = c.note.ensures.last in omega arith)
          (mem-push f taken old (subst (Mem f) items m));
    }
