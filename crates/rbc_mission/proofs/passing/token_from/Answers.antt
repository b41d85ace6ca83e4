use Rattle.rbc_book.specs.Book.{entry_at, is_own}
use Rattle.rbc_mission.proofs.Passes.{booked_one, held_claim}
use Rattle.rbc_mission.proofs.passing.token_from.Goals as goal
use Rattle.rbc_spec.specs.Centre.{is_out_for, Taken}

pub returns-in-Some : goal.returns-in-Some
returns-in-Some c =
    let held =
    held_claim c.args.nid_engine c.args.s (is_out_for c.args.nid_engine (entry_at c.args.book.now c.args.s))
    (is_own c.args.book.now c.args.s) c.in-Some.claim c.reclaim.result c.reclaim.ensures.claim c.in-Some.is in
    record {
      section = held.0;
      held = held.1;
      book =
          booked_one (is_out_for c.args.nid_engine) (Taken c.args.nid_engine) c.args.s c.args.book.now
          c.reclaim.new.self c.reclaim.ensures.homes c.reclaim.ensures.entry c.reclaim.ensures.wish;
    }

pub returns-in-None-clause-book : goal.returns-in-None-clause-book
returns-in-None-clause-book c =
    booked_one (is_out_for c.args.nid_engine) (Taken c.args.nid_engine) c.args.s c.args.book.now c.reclaim.new.self
    c.reclaim.ensures.homes c.reclaim.ensures.entry c.reclaim.ensures.wish
