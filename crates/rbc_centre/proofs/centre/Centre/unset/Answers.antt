use Rattle.std.proofs.Common.{◌∙◌, ap, sym}
use Rattle.rbc_book.specs.Book.{entry_at, Pages}
use Rattle.rbc_book.specs.Entries.{entry_of}
use Rattle.rbc_centre.proofs.centre.Centre.unset.Goals as goal
use Rattle.rbc_centre.proofs.Turns.{on_err, state_same}
use Rattle.rbc_centre.proofs.Wishes.{shown_out}
use Rattle.rbc_centre.specs.State.{stands_for}
use Rattle.rbc_spec.specs.Step.{refusal, taken, Unset}

pub unset_here-requires-clause-here : goal.unset_here-requires-clause-here
unset_here-requires-clause-here c =
    λ t out. shown_out c.page-entry.result.entry c.in_default.not-Out t (c.page-entry.ensures.entry ∙ out)

pub returns-in_err-reserve_frames-clause-err : goal.returns-in_err-reserve_frames-clause-err
returns-in_err-reserve_frames-clause-err c =
    on_err c.from_residual.result
    (state_same c.args.self.now c.reserve_frames.new.self c.in_err-reserve_frames.ensures.same)

pub returns-in_err-reserve_frames-clause-memory : goal.returns-in_err-reserve_frames-clause-memory
unfolding stands_for
returns-in_err-reserve_frames-clause-memory c =
    on_err c.from_residual.result (c.in-Out.nid_engine, sym c.page-entry.ensures.entry ∙ ap entry_of c.in-Out.is)

pub withdraw-requires-clause-out : goal.withdraw-requires-clause-out
withdraw-requires-clause-out c =
    ap (λ (pages : Pages). entry_at pages c.args.s) c.in_ok-reserve_frames.ensures.same.book
    ∙ sym c.page-entry.ensures.entry ∙ ap entry_of c.in-Out.is

pub withdraw-requires-clause-allowed : goal.withdraw-requires-clause-allowed
withdraw-requires-clause-allowed c =
    let same = c.in_ok-reserve_frames.ensures.same in
    (λ i. refusal (same.line i) (same.number i) (state_same c.args.self.now c.reserve_frames.new.self same i)
    (Unset c.args.s)) ∙ c.requires.allowed

pub returns-clause-exact : goal.returns-clause-exact
returns-clause-exact c =
    let same = c.in_ok-reserve_frames.ensures.same in
    c.withdraw.ensures.exact
    ∙ (λ i. taken (same.line i) (same.number i) (Unset c.args.s)
    (state_same c.args.self.now c.reserve_frames.new.self same i))
