use Rattle.std.proofs.Common.{◌++◌, List, refl, take, ℕ}
use Rattle.std.specs.Io.KnownBytes.{Appends}
use Rattle.serve_workers.proofs.writing.writer.run_held_writer.Goals as goal
use Rattle.serve_workers.proofs.WritingLemmas.Written.{Appends-trans, OnErr-intro, row-more}
use Rattle.serve_workers.specs.Writing.Row.{IsBegunRow}

pub returns-in_err-write_whole-clause-err : goal.returns-in_err-write_whole-clause-err
returns-in_err-write_whole-clause-err g c =
    let before = c.loop.invariant in
    let part = c.in_err-write_whole.ensures.err in
    let last : List ℕ = c.in-Some-open.bytes.now in
    let begun : IsBegunRow (before.0 ++ take part.0 last) =
    record {
      whole = before.0;
      row = before.1;
      last = last;
      message = c.in-Ok.reply.message;
      spelled = c.in-Some-open.ensures.spelled;
      count = part.0;
      begun = refl;
    } in
    let all : (bytes : List ℕ) × IsBegunRow bytes
    × Appends (g.W.Write.contents c.args.out.now) (g.W.Write.contents c.write_whole.new.out) bytes =
    (before.0 ++ take part.0 last, begun, Appends-trans _ _ _ _ _ before.2 part.1) in
    OnErr-intro _ all

pub loop-preserved : goal.loop-preserved
loop-preserved g c =
    let before = c.loop.invariant in
    let wrote = c.in_ok-write_whole.ensures.ok in (
      before.0 ++ c.in-Some-open.bytes.now,
      row-more before.0 c.in-Some-open.bytes.now c.in-Ok.reply.message before.1
          c.in-Some-open.ensures.spelled,
      Appends-trans _ _ _ _ _ before.2 wrote,
    )
