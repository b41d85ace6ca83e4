-- Entries of which some are kept, and one entry more.
use Rattle.std.proofs.Common.{[], ◌++◌, ◌+◌, ◌≡◌, ◌∙◌, ◌∷◌, ap, arith, inl, inr, length, length-append, List}
use Rattle.std.proofs.Common.{refl, subst, suc, sym}
use Rattle.std.proofs.lemmas.List.{append_assoc}
use Rattle.cli_commands.specs.Rerunning.Causes.{AreSomeOf, IsCutOf, KeepsOrLeaves}
use Rattle.cli_commands.specs.declared.rerunning.causes.Caused.{Caused}
use Rattle.text_journal.specs.declared.entry.Entry.{Entry}

some_kept : (e : Entry) (all kept : List Entry) → AreSomeOf all kept → AreSomeOf (all ++ (e ∷ [])) (kept ++ (e ∷ []))
some_kept e [] kept is = ([], inl (ap (λ k. k ++ (e ∷ [])) is), refl)
some_kept e (x ∷ all) kept (rest, inl with_it, some) =
    (rest ++ (e ∷ []), inl (ap (λ k. k ++ (e ∷ [])) with_it), some_kept e all rest some)
some_kept e (x ∷ all) kept (rest, inr without, some) =
    (rest ++ (e ∷ []), inr (ap (λ k. k ++ (e ∷ [])) without), some_kept e all rest some)

some_left : (e : Entry) (all kept : List Entry) → AreSomeOf all kept → AreSomeOf (all ++ (e ∷ [])) kept
some_left e [] kept is = (kept, inr refl, is)
some_left e (x ∷ all) kept (rest, how, some) = (rest, how, some_left e all rest some)

some_next : (e : Entry) (all old new : List Entry) → AreSomeOf all old → KeepsOrLeaves old e new
    → AreSomeOf (all ++ (e ∷ [])) new
some_next e all old new some (inl kept) = subst (AreSomeOf (all ++ (e ∷ []))) (sym kept) (some_kept e all old some)
some_next e all old new some (inr left) = subst (AreSomeOf (all ++ (e ∷ []))) (sym left) (some_left e all old some)

-- one entry more is kept or left out, and counted
pub cut_next : (e : Entry) (rest all first : List Entry) (old new : Caused) → first ++ (e ∷ rest) ≡ all
    → IsCutOf first old → KeepsOrLeaves old.entries.items e new.entries.items
    → length new.entries.items + new.left_out ≡ suc (length old.entries.items + old.left_out)
    → (x : List Entry) × (x ++ rest ≡ all) × IsCutOf x new
cut_next e rest all first old new whole cut how counted = (
  first ++ (e ∷ []),
  append_assoc first (e ∷ []) rest ∙ whole,
  record {
    kept = some_next e first old.entries.items new.entries.items cut.kept how;
    counted = omega (arith, counted, cut.counted, length-append first (e ∷ []));
  },
)
