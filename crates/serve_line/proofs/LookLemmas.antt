-- Looks at centres, one after another.
use Rattle.std.proofs.Common.{◌+◌, ◌<◌, ◌≡◌, ◌≤◌, drop, get_or, length, List, refl, subst, sym, ℕ}
use Rattle.std.proofs.Math.ListN.{drop_of_length-le}
use Rattle.std.proofs.Math.Seq.{drop-cons}
use native.Mathlib.Numerals.{unary_clauses}
use Rattle.rbc_log.specs.Log.{LogValue}
use Rattle.rbc_node.specs.declared.node.Node.{Node}
use Rattle.rbc_node.specs.Node.{centre_of, IsLogOf}
use Rattle.rbc_spec.specs.Line.{Line}
use Rattle.serve_line.specs.declared.status.snapshot.Snapshot.{Snapshot}
use Rattle.serve_line.specs.Snapshots.{HasCentre, HasLooked, HaveLooked}

-- a look at a centre: at the log that its node holds
pub looked : (line : Line) (node : Node) (held log : LogValue) (old new : Snapshot) → IsLogOf (centre_of node) held
    → log ≡ held → HasCentre line log.core old new → HasLooked line node old new
looked line node held log old new is same has = (log, subst (IsLogOf (centre_of node)) (sym same) is, has)

-- a look at the next centre, and then looks at the others
pub looked_at : (line : Line) (nodes : List Node) (i : ℕ) (node : Node) (old next last : Snapshot) → i < length nodes
    → node ≡ get_or nodes i node → HasLooked line node old next → HaveLooked line (drop (i + 1) nodes) next last
    → HaveLooked line (drop i nodes) old last
looked_at line nodes i node old next last low is seen looks =
    subst (λ left. HaveLooked line left old last) (sym (drop-cons nodes i node low))
    (next, subst (λ n. HasLooked line n old next) is seen, simp unary_clauses at looks)

-- no centre is left
pub looked_at_all : (line : Line) (nodes : List Node) (i : ℕ) (last : Snapshot) → length nodes ≤ i
    → HaveLooked line (drop i nodes) last last
looked_at_all line nodes i last all =
    subst (λ left. HaveLooked line left last last) (sym (drop_of_length-le nodes all)) refl
