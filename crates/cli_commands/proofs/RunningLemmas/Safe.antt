-- The print of a script is safe: its events are a run of the centres.
use Rattle.std.proofs.Common.{[], ◌++◌, ◌∙◌, ◌∷◌, ◌≡◌, ap, append-nil, append_assoc, Err, List, Ok, Option, refl}
use Rattle.std.proofs.Common.{Result, subst, sym, ℕ}
use Rattle.cli_commands.specs.Running.Printed.{Adds, LeavesPrint}
use Rattle.cli_commands.specs.Running.Safe.{answers_in, AreSafeParts, ArePartPrints, events_in, LeavesSafePrint, Part}
use Rattle.cli_commands.specs.Running.Safe.{Shown, Stepped}
use Rattle.cli_commands.specs.Runs.{LeavesRun, LeavesSafeRun}
use Rattle.law_promises.proofs.Pieces.{run_safe}
use Rattle.law_reached.proofs.Known.{the_run}
use Rattle.rbc_spec.specs.Line.{IsLine, Line}
use Rattle.rbc_spec.specs.ReadOff.{read_off}
use Rattle.rbc_spec.specs.World.{new_world, World, world_run, world_step}
use Rattle.text_script.specs.declared.play.PlayFault.{PlayFault}
use Rattle.text_script.specs.declared.play.PlayFault.TheVariants.{Refused, Untold}
use Rattle.text_script.specs.declared.script.Entry.{Entry}
use Rattle.text_script.specs.declared.script.Entry.TheVariants as entry
use Rattle.text_script.specs.declared.status.fault.Fault.{Fault}
use Rattle.text_script.specs.declared.status.fault.Fault.TheVariants as fault
use Rattle.text_script.specs.declared.status.print_fault.PrintFault.{PrintFault}
use Rattle.text_script.specs.Played.{IsPlayed}
use Rattle.text_script.specs.Print.Rows.{event_row}
use Rattle.text_script.specs.Print.Shown.{line_text}
use Rattle.text_script.specs.rbc_centre.declared.fault.StepFault.TheVariants as refused
use Rattle.text_script.specs.rbc_world.Views.{event_of}

module _ (line : Line) where
  -- the events of these parts are answered so, from world w to world v
  abbrev Runs : World → List Part → World → Type 0
  Runs w [] v = v ≡ w
  Runs w (Shown state trains ∷ parts) v = Runs w parts v
  Runs w (Stepped event answer ∷ parts) v =
      (x : World) × (world_step line w (event_of event) ≡ Ok (answer, x)) × Runs x parts v

  is_run : (w : World) (parts : List Part) (v : World) → Runs w parts v
      → world_run line w (events_in parts) ≡ Ok (answers_in parts, v)
  unfolding world_run
  is_run w [] v h = rw h refl
  is_run w (Shown state trains ∷ parts) v h = is_run w parts v h
  is_run w (Stepped event answer ∷ parts) v (x, step, h) = rw (step, is_run x parts v h) refl

  beginning : (w : World) (first rest : List Part) (v : World) → Runs w (first ++ rest) v
      → (u : World) × Runs w first u
  beginning w [] rest v h = (w, refl)
  beginning w (Shown state trains ∷ first) rest v h = beginning w first rest v h
  beginning w (Stepped event answer ∷ first) rest v (x, step, h) =
      let more = beginning x first rest v h in (more.0, (x, step, more.1))

  safe_parts : IsLine line → (parts : List Part) (v : World) → Runs (new_world line) parts v
      → AreSafeParts line parts
  safe_parts ok parts v h = λ first rest cut.
      let it = beginning (new_world line) first rest v
      (subst (λ (ps : List Part). Runs (new_world line) ps v) cut h) in
      let run = the_run line ok (events_in first) (answers_in first) it.0 (is_run (new_world line) first it.0 it.1) in
      run_safe line ok (events_in first) (answers_in first) run.last run.is_run

  -- the parts of a print after an earlier text
  record Parts (w : World) (v : World) (before after : List ℕ) : Type 0 where
    parts : List Part
    rows : List ℕ
    runs : Runs w parts v
    prints : ArePartPrints line parts rows
    whole : after ≡ before ++ rows

  parts_of : (w : World) (before : List ℕ) (entries : List Entry) (v : World) (after : List ℕ)
      → IsPlayed (Adds line) line w before entries v after → Parts w v before after
  parts_of w before [] v after (same, one) = record {
    parts = [];
    rows = [];
    runs = same;
    prints = refl;
    whole = one ∙ sym (append-nil before);
  }
  parts_of w before (entry.Show ∷ rest) v after (s, (rows, shown, adds), played) =
      let more = parts_of w s rest v after played in record {
        parts = Shown (read_off line w) w.trains ∷ more.parts;
        rows = rows ++ more.rows;
        runs = more.runs;
        prints = (rows, more.rows, shown, more.prints, refl);
        whole =
            more.whole ∙ ap (λ (text : List ℕ). text ++ more.rows) adds ∙ append_assoc before rows more.rows;
      }
  parts_of w before (entry.Event event ∷ rest) v after
      (answer, x, s, r, step, (first, comes, one), (second, answers, two), played) =
      let more = parts_of x r rest v after played in record {
        parts = Stepped event answer ∷ more.parts;
        rows = (first ++ second) ++ more.rows;
        runs = (x, step, more.runs);
        prints = (
          first ++ second,
          more.rows,
          (second, answers, ap (λ (text : List ℕ). text ++ second) comes),
          more.prints,
          refl,
        );
        whole =
            more.whole ∙ ap (λ (text : List ℕ). text ++ more.rows) (two
            ∙ ap (λ (text : List ℕ). text ++ second) one ∙ append_assoc before first second)
            ∙ append_assoc before (first ++ second) more.rows;
      }

  pub safe_print : {F : Type 0} → IsLine line → (entries : List Entry) (result : Result (Unit {0}) (PlayFault F))
      (before after : Option (List ℕ))
      → LeavesPrint line entries result before after → LeavesSafePrint line result before after
  safe_print ok entries (Ok done) before after (text, (last, rows, played, is), adds) =
      let it = parts_of (new_world line) [] entries last rows played in (
        text,
        (
          it.parts,
          it.rows,
          read_off line last,
          last.trains,
          it.prints,
          safe_parts ok it.parts last it.runs,
          is ∙ ap (λ (xs : List ℕ). xs ++ line_text line last) it.whole,
        ),
        adds,
      )
  safe_print ok entries (Err (Refused fault)) before after
      (text, (last, (front, rest, event, s, cut, played, (rows, comes, one), refused)), adds) =
      let it = parts_of (new_world line) [] front last s played in (
        text,
        (
          it.parts,
          it.rows,
          event,
          it.prints,
          safe_parts ok it.parts last it.runs,
          one ∙ ap (λ (xs : List ℕ). s ++ xs) comes
              ∙ ap (λ (xs : List ℕ). xs ++ event_row line event) it.whole,
        ),
        adds,
      )
  safe_print ok entries (Err (Untold why)) before after h = tt

-- the same of a run
pub safe_run : (gives : List ℕ → Option (List ℕ) → Type 0) (file script : List ℕ)
    (result : Result (Unit {0}) Fault) (before after : Option (List ℕ))
    → LeavesRun gives file script result before after → LeavesSafeRun gives file result before after
safe_run gives file script (Ok done) before after (line, entries, (given, asked), print) =
    (line, given, safe_print line {F = PrintFault} given.1 entries (Ok done) before after print)
safe_run gives file script (Err (fault.Step refused.Memory)) before after h = tt
safe_run gives file script (Err (fault.Step refused.LinkFull)) before after (line, entries, (given, asked), print) =
    (line, given, safe_print line {F = PrintFault} given.1 entries (Err (Refused refused.LinkFull)) before after print)
safe_run gives file script (Err (fault.Step refused.ClockEnd)) before after (line, entries, (given, asked), print) =
    (line, given, safe_print line {F = PrintFault} given.1 entries (Err (Refused refused.ClockEnd)) before after print)
safe_run gives file script (Err fault.Words) before after h = tt
safe_run gives file script (Err (fault.Usage why)) before after h = tt
safe_run gives file script (Err (fault.NotHexadecimal why)) before after h = tt
safe_run gives file script (Err (fault.NoTrain why)) before after h = tt
safe_run gives file script (Err (fault.NoEvents why)) before after h = tt
safe_run gives file script (Err (fault.CannotRead why)) before after h = tt
safe_run gives file script (Err (fault.NoJournal why)) before after h = tt
safe_run gives file script (Err (fault.Foreign why)) before after h = tt
safe_run gives file script (Err (fault.Damaged name row)) before after h = tt
safe_run gives file script (Err (fault.Unfit name row)) before after h = tt
safe_run gives file script (Err (fault.Line why)) before after h = tt
safe_run gives file script (Err (fault.Script row)) before after h = tt
safe_run gives file script (Err (fault.Message why)) before after h = tt
safe_run gives file script (Err fault.Differs) before after h = tt
safe_run gives file script (Err fault.Socket) before after h = tt
safe_run gives file script (Err fault.Write) before after h = tt
