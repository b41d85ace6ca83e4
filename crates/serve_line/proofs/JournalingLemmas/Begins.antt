-- Journals that begin after the logs of their centres.
use Rattle.std.proofs.Common.{[], ◌++◌, ◌+◌, ◌<◌, ◌∙◌, ◌∷◌, ◌≡◌, ap, get_or, length, List, subst, sym, take, ℕ}
use Rattle.std.proofs.lemmas.List.{take_more}
use Rattle.std.proofs.lemmas.Slice.Zip.{all_zipped_more}
use Rattle.std.specs.List.{AllZip}
use Rattle.rbc_node.specs.declared.node.Node.{Node}
use Rattle.serve_line.specs.declared.journaling.journal.Journal.{Journal}
use Rattle.serve_line.specs.Journaling.Beginning.{BeginsAfter}

-- the journal of the next node, after those of the first i
pub begins_next :
    (nodes : List Node) (i : ℕ) (n : Node) (j : Journal) (before after : List Journal)
    → i < length nodes → n ≡ get_or nodes i n → after ≡ before ++ j ∷ [] → AllZip BeginsAfter (take i nodes) before
    → BeginsAfter n j → AllZip BeginsAfter (take (i + 1) nodes) after
begins_next nodes i n j before after low is put are begins =
    let front : take (i + 1) nodes ≡ take i nodes ++ n ∷ [] =
    take_more nodes i n low ∙ ap (λ (x : Node). take i nodes ++ x ∷ []) (sym is)
    in
    subst (λ (js : List Journal). AllZip BeginsAfter (take (i + 1) nodes) js) (sym put)
    (subst (λ (ns : List Node). AllZip BeginsAfter ns (before ++ j ∷ [])) (sym front)
    (all_zipped_more BeginsAfter (take i nodes) before n j are begins))
