use Rattle.std.proofs.Common.{[], ◌∙◌, ◌≡◌, ◌≤◌, ap, drop, length, List, Option, refl, slice_get, Some, sym, take, ℕ}
use Rattle.std.proofs.lemmas.List.{drop_all}
use Rattle.std.proofs.lemmas.Option.{slice_get_read}
use Rattle.std.specs.Option.{option_map_or}
use Rattle.rbc_log.specs.declared.entry.Entry.{Entry}
use Rattle.rbc_log.specs.Log.{LogValue}
use Rattle.rbc_spec.specs.Line.{Line}
use Rattle.serve_line.proofs.status.mention_order.MentionOrder.read_on.Goals as goal
use Rattle.serve_line.specs.declared.status.mention_order.Mention.{Mention}
use Rattle.serve_line.specs.Mentions.{named_in, new_entries}
use Rattle.text_script.specs.rbc_centre.States.{number_of}

-- after the last entry of the piece
all_read :
    (line : Line) (first now : List (Option Mention)) (piece : List Entry) (i : ℕ)
    → length piece ≤ i → named_in line now (drop i piece) ≡ named_in line first piece
    → now ≡ named_in line first piece
all_read line first now piece i past is = sym (ap (named_in line now) (drop_all i piece past)) ∙ is

-- the piece after the entries that were read
next_of :
    (looked : List ℕ) (l : LogValue) (c read : ℕ) (entries piece : List Entry)
    → slice_get looked c ≡ Some read → c ≡ number_of l.core → entries ≡ l.entries
    → piece ≡ take 4096 (drop read entries) → piece ≡ new_entries looked l
next_of looked l c read entries piece has its are is =
    is ∙ ap (λ (es : List Entry). take 4096 (drop read es)) are
    ∙ ap (λ (o : Option ℕ). option_map_or (λ r. take 4096 (drop r l.entries)) o [])
    (sym has ∙ ap (slice_get looked) its)

pub returns : goal.returns
returns c = record {
  first = all_read c.args.line.now c.args.self.now.first.items c.loop-entry.self.first.items
      c.next_piece-piece.result.now c.loop-entry.entry-index c.loop-entry-test.false c.loop-entry.invariant
      ∙ ap (named_in c.args.line.now c.args.self.now.first.items)
      (next_of c.args.self.now.looked.items c.args.log.now c.number-centre.result c.in-Some.looked.now
      c.entries.result.now c.next_piece-piece.result.now
      (slice_get_read c.args.self.now.looked.items (length c.args.self.now.looked.items) c.number-centre.result
      c.in-Some.looked.now refl c.in-Some.ensures.item.3.0 c.in-Some.ensures.value)
      c.number-centre.ensures c.entries.ensures.value c.next_piece-piece.ensures);
}
