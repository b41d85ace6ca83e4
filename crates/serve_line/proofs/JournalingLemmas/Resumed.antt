-- Entries that are committed again, in order.
use Rattle.std.proofs.Common.{[], ◌++◌, ◌+◌, ◌<◌, ◌∙◌, ◌∷◌, ◌≡◌, ap, Err, get_or, length, List, Ok, OnOk, refl, Result}
use Rattle.std.proofs.Common.{slice_get, slice_set, Some, subst, sym, take, ℕ}
use Rattle.std.proofs.lemmas.List.{take_more}
use Rattle.rbc_node.specs.declared.node.Node.{Node}
use Rattle.rbc_node.specs.Node.{centre_of}
use Rattle.rbc_node.specs.Receipts.{ShareValue}
use Rattle.serve_control.specs.Events.{IsCommitted}
use Rattle.serve_line.specs.Journaling.Resuming.{AreResumed, CommitsAgain, IsResumed}
use Rattle.text_journal.specs.declared.entry.Entry.{Entry}
use Rattle.text_journal.specs.Order.{taken_at}
use Rattle.text_script.specs.rbc_centre.declared.event.Event.{Event}

module _ (nodes : List Node) where
  resumed_after :
      (es : List Entry) (e : Entry) (old mid new : List ShareValue)
      → AreResumed nodes es old mid → IsResumed nodes e mid new → AreResumed nodes (es ++ e ∷ []) old new
  resumed_after [] e old mid new same is = (new, subst (λ (s : List ShareValue). IsResumed nodes e s new) same is, refl)
  resumed_after (d ∷ es) e old mid new (next, is, are) last = (next, is, resumed_after es e next mid new are last)

  -- the next entry, after the first i
  pub resumed_next :
      (es : List Entry) (i : ℕ) (e : Entry) (old mid new : List ShareValue)
      → i < length es → e ≡ get_or es i e → AreResumed nodes (take i es) old mid → IsResumed nodes e mid new
      → AreResumed nodes (take (i + 1) es) old new
  resumed_next es i e old mid new low is are last =
      let front : take (i + 1) es ≡ take i es ++ e ∷ [] =
      take_more es i e low ∙ ap (λ (x : Entry). take i es ++ x ∷ []) (sym is)
      in
      subst (λ (xs : List Entry). AreResumed nodes xs old new) (sym front)
      (resumed_after (take i es) e old mid new are last)

  -- one entry, if the commit through the share in its place succeeds
  pub resumes :
      {F : Type 0} (e : Entry) (at : ℕ) (old : List ShareValue) (node : Node) (before after : ShareValue)
      (event : Event) (r : Result (Unit {0}) F)
      → at ≡ taken_at e → slice_get nodes at ≡ Some node → slice_get old at ≡ Some before
      → IsCommitted (taken_at e) event e.event
      → OnOk r (CommitsAgain (centre_of node) before after event e.stamp)
      → OnOk r (IsResumed nodes e old (slice_set old at after))
  resumes e at old node before after event (Ok done) same there share its committed =
      subst (λ k. slice_get nodes k ≡ Some node → slice_get old k ≡ Some before
      → IsResumed nodes e old (slice_set old k after)) (sym same)
      (λ n s. record {
        node = node;
        before = before;
        after = after;
        event = event;
        there = n;
        share = s;
        its = its;
        committed = committed;
        others = refl;
      })
      there share
  resumes e at old node before after event (Err why) same there share its committed = tt
