use Rattle.std.proofs.Common.{◌&&◌, ◌+◌, ◌<◌, ◌∙◌, ◌≡◌, ◌≤◌, ap, arith, Bool, sym, ℕ, ⊎_elim}
use Rattle.std.proofs.lemmas.Bool.{cases_lt}
use Rattle.rbc_book.specs.Book.{wish_at}
use Rattle.rbc_spec.proofs.Lists.{find-range}
use Rattle.rbc_spec.specs.Line.{is_home}
use Rattle.rbc_train.proofs.Runs.{find-range_none}
use Rattle.rbc_train.proofs.taking_up.first_wished.Goals as goal

pub loop-k-preserved : goal.loop-k-preserved
loop-k-preserved c s low high =
    let test : ℕ → Bool = λ e. is_home c.args.line.now c.args.centre e && wish_at c.args.book.now e in
    ⊎_elim
    (λ (before : s < c.args.run.first + c.loop-k.k). c.loop-k.invariant s low before)
    (λ (last : c.args.run.first + c.loop-k.k ≤ s). let same : s ≡ c.args.run.first + c.loop-k.k =
    omega (arith, last, high) in ap test same ∙ sym c.is_wished.ensures ∙ c.if-is_wished.false)
    (cases_lt s (c.args.run.first + c.loop-k.k))

pub returns-then-is_wished : goal.returns-then-is_wished
returns-then-is_wished c =
    let test : ℕ → Bool = λ e. is_home c.args.line.now c.args.centre e && wish_at c.args.book.now e in
    let before = c.loop-k-test.true in
    sym (find-range test c.args.run.first c.args.run.count (c.args.run.first + c.loop-k.k) (omega arith)
    (omega (arith, before)) (sym c.is_wished.ensures ∙ c.if-is_wished.true) c.loop-k.invariant)

pub returns : goal.returns
returns c =
    let test : ℕ → Bool = λ e. is_home c.args.line.now c.args.centre e && wish_at c.args.book.now e in
    let past = c.loop-k-test.false in
    sym (find-range_none test c.args.run.first c.args.run.count
    (λ s low high. c.loop-k.invariant s low (omega (arith, high, past))))
