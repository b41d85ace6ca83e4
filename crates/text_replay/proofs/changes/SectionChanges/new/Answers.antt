use Rattle.std.proofs.Common.{[], ◌∷◌, ◌≡◌, ap, arith, Global, length, List, Some, subst, sym, Vec}
use Rattle.std.proofs.lemmas.List.{length-append}
use Rattle.text_replay.proofs.changes.SectionChanges.new.Goals as goal
use Rattle.text_replay.proofs.Kept.{empty_more}
use Rattle.text_replay.specs.declared.changes.Change.{Change}
use Rattle.text_replay.specs.Noted.{changes_at}

pub loop-preserved : goal.loop-preserved
loop-preserved c =
    let it = c.in_ok-push.ensures.items in
    let so = c.loop.invariant in
    record {
      count = omega (arith, ap length it, length-append c.loop.lists.items (c.new.result ∷ []), so.count);
      empty = λ s lt.
          subst (λ l. changes_at s l ≡ Some []) (sym {A = List (Vec Change Global)} it)
          (empty_more c.loop.lists.items c.new.result c.loop.counter so.count c.new.ensures.items so.empty s lt);
    }

pub returns : goal.returns
returns c = record {
  each = λ s lt. c.loop.invariant.empty s (omega (arith, c.section_count-end.ensures.value, c.loop-test.false));
}
