use Rattle.std.proofs.Common.{List, subst, sym, ℕ}
use Rattle.std.proofs.Math.Logic.{∥∥₁_elim}
use Rattle.rbc_msgs.specs.TrackSpelling.{SpellsTrack}
use Rattle.serve_workers.proofs.writing.reply.Reply.bytes.Goals as goal
use Rattle.serve_workers.proofs.WritingLemmas.Written.{spells-prop}

pub returns : goal.returns
returns c =
    let r = c.args.self.now in
    subst (λ (bytes : List ℕ). SpellsTrack bytes r.message) (sym c.as_slice.ensures.value)
    (∥∥₁_elim r.spelled (spells-prop r.bytes.items r.message) (λ spelled. spelled))
