-- The lines of trains that are printed one after the other.
use Rattle.std.proofs.Common.{[], ◌+◌, ◌++◌, ◌<◌, ◌∙◌, ◌∷◌, ◌≤◌, ap, append-nil, append_assoc, Bool, Err, get_or}
use Rattle.std.proofs.Common.{length, List, Ok, OnOk, Option, refl, Result, subst, sym, take, ℕ}
use Rattle.std.proofs.lemmas.List.{take_more}
use Rattle.rbc_spec.specs.Line.{Line}
use Rattle.std.specs.Io.KnownBytes.{Appends}
use Rattle.cli_drive.proofs.MessagePrints.{adds_both}
use Rattle.cli_drive.specs.Reports.{arrivals_row, IsEnding, verdict}
use Rattle.cli_drive.specs.Rows.{AreTrainRows, IsTrainRow}
use Rattle.cli_drive.specs.declared.trains.train.Train.{Train}

-- the line of one more train follows the others
pub one_more : (line : Line) (second : ℕ) (trains : List Train) (train : Train) (rows row : List ℕ)
    → AreTrainRows line second trains rows → IsTrainRow line second train row
    → AreTrainRows line second (trains ++ train ∷ []) (rows ++ row)
one_more line second [] train rows row none is =
    (row, [], is, refl, ap (λ xs. xs ++ row) none ∙ sym (append-nil row))
one_more line second (x ∷ trains) train rows row (first, rest, its, others, cut) is = (
  first,
  rest ++ row,
  its,
  one_more line second trains train rest row others is,
  ap (λ xs. xs ++ row) cut ∙ append_assoc first rest row,
)

-- the lines of the trains before place i, and that of the train at i
pub next_row : (line : Line) (second : ℕ) (trains : List Train) (i : ℕ) (train : Train) (rows row : List ℕ)
    → i < length trains → AreTrainRows line second (take i trains) rows
    → IsTrainRow line second (get_or trains i train) row
    → AreTrainRows line second (take (i + 1) trains) (rows ++ row)
next_row line second trains i train rows row low are is =
    subst (λ (xs : List Train). AreTrainRows line second xs (rows ++ row)) (sym (take_more trains i train low))
    (one_more line second (take i trains) (get_or trains i train) rows row are is)

-- the last lines, one part after the other
pub ending : {E : Type 0} (r : Result (Unit {0}) E) (a b c d e : Option (List ℕ)) (line : Line) (second : ℕ)
    (trains : List Train) (counts : List ℕ) (apart : Bool)
    → (rows : List ℕ) × AreTrainRows line second trains rows × Appends a b rows → Appends b c counts
    → (arrived : ℕ) × (arrived ≤ length trains) × Appends c d (arrivals_row arrived (length trains))
    → OnOk r (Appends d e (verdict apart ++ 10 ∷ []))
    → OnOk r ((text : List ℕ) × IsEnding line second trains counts apart text × Appends a e text)
ending (Err why) a b c d e line second trains counts apart shown counted arrivals last = tt
ending (Ok done) a b c d e line second trains counts apart (rows, are, h) k (arrived, few, l) m =
    let middle : List ℕ = arrivals_row arrived (length trains) in
    let last : List ℕ = verdict apart ++ 10 ∷ [] in (
      rows ++ (counts ++ (middle ++ last)),
      (rows, arrived, are, few, refl),
      adds_both a b e rows (counts ++ (middle ++ last)) h
          (adds_both b c e counts (middle ++ last) k (adds_both c d e middle last l m)),
    )
