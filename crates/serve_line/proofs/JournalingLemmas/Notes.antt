-- Notes of consecutive entries.
use Rattle.std.proofs.Common.{[], ◌++◌, ◌+◌, ◌<◌, ◌∙◌, ◌∷◌, ◌≡◌, ap, get_or, length, List, subst, sym, take, ℕ}
use Rattle.std.proofs.lemmas.List.{take_more}
use Rattle.rbc_log.specs.declared.entry.Entry as log
use Rattle.serve_line.specs.Journaling.Noting.{AreNotesOf, IsNoteOf}
use Rattle.text_journal.specs.declared.entry.Entry as journal

notes_after :
    (es : List log.Entry) (ns : List journal.Entry) (e : log.Entry) (n : journal.Entry)
    → AreNotesOf es ns → IsNoteOf e n → AreNotesOf (es ++ e ∷ []) (ns ++ n ∷ [])
notes_after [] [] e n are is = (is, are)
notes_after (e ∷ es) (n ∷ ns) f m are is = (are.0, notes_after es ns f m are.1 is)
notes_after [] (n ∷ ns) f m are is = absurd are
notes_after (e ∷ es) [] f m are is = absurd are

-- the note of the next entry, after those of the first i
pub notes_next :
    (es : List log.Entry) (i : ℕ) (ns ms : List journal.Entry) (e : log.Entry) (n : journal.Entry)
    → i < length es → e ≡ get_or es i e → ms ≡ ns ++ n ∷ [] → AreNotesOf (take i es) ns → IsNoteOf e n
    → AreNotesOf (take (i + 1) es) ms
notes_next es i ns ms e n low is put are note =
    let front : take (i + 1) es ≡ take i es ++ e ∷ [] =
    take_more es i e low ∙ ap (λ (x : log.Entry). take i es ++ x ∷ []) (sym is)
    in
    subst (λ (xs : List journal.Entry). AreNotesOf (take (i + 1) es) xs) (sym put)
    (subst (λ (xs : List log.Entry). AreNotesOf xs (ns ++ n ∷ [])) (sym front)
    (notes_after (take i es) ns e n are note))
