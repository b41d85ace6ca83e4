-- The text that a printer has written for the reports of a script.
use Rattle.std.proofs.Common.{[], ◌++◌, ◌∙◌, ◌∷◌, ◌≡◌, ap, append-nil, append_assoc, codes, Err, List, None, Ok, Option}
use Rattle.std.proofs.Common.{refl, Some, subst, sym, ℕ}
use Rattle.std.specs.Io.KnownBytes.{Appends}
use Rattle.cli_commands.specs.Running.Printed.{Adds, IsTold, PrintsAll}
use Rattle.rbc_spec.specs.Line.{Line}
use Rattle.rbc_spec.specs.World.{new_world, World, world_step}
use Rattle.text_script.specs.declared.play.PlayFault.{PlayFault}
use Rattle.text_script.specs.declared.play.PlayFault.TheVariants.{Refused, Untold}
use Rattle.text_script.specs.declared.script.Entry.{Entry}
use Rattle.text_script.specs.declared.script.Entry.TheVariants as entry
use Rattle.text_script.specs.Played.{Answering, Coming, IsPlayed, Leaves, Telling}
use Rattle.text_script.specs.Print.Rows.{event_row}
use Rattle.text_script.specs.Print.Shown.{line_text}
use Rattle.text_script.specs.rbc_world.Answers.{IsRefusal}
use Rattle.text_script.specs.rbc_world.Views.{event_of}

adds_none : (known : Option (List ℕ)) → Appends known known []
adds_none None = tt
adds_none (Some xs) = sym (append-nil xs)

adds_both : (a b c : Option (List ℕ)) (xs ys : List ℕ) → Appends a b xs → Appends b c ys → Appends a c (xs ++ ys)
adds_both None b c xs ys h k = tt
adds_both (Some p) None c xs ys h k = absurd h
adds_both (Some p) (Some q) None xs ys h k = absurd k
adds_both (Some p) (Some q) (Some r) xs ys h k = k ∙ ap (λ zs. zs ++ ys) h ∙ append_assoc p xs ys

-- For a printer: its writer, its line, and the bytes of the writer.
module _ {T N : Type 0} (name : T → N) (line_at : T → Line) (held : T → Option (List ℕ)) (line : Line) where
  abbrev pub Tells : T → Telling → T → Type 0
  Tells t telling u = (name u ≡ name t) × (line_at u ≡ line_at t) × IsTold (line_at t) telling (held t) (held u)

  -- the print of played entries, after a text
  pub record Prints (w : World) (t : T) (entries : List Entry) (v : World) (u : T) (before : List ℕ) : Type 0 where
    pub rows : List ℕ
    pub played : IsPlayed (Adds line) line w before entries v (before ++ rows)
    pub adds : Appends (held t) (held u) rows
    pub of_line : line_at u ≡ line
    pub writer : name u ≡ name t

  pub prints : (w : World) (t : T) (entries : List Entry) (v : World) (u : T) (before : List ℕ) → line_at t ≡ line
      → IsPlayed Tells line w t entries v u → Prints w t entries v u before
  prints w t [] v u before at (same, one) = record {
    rows = [];
    played = (same, append-nil before);
    adds = subst (λ (x : T). Appends (held t) (held x) []) (sym one) (adds_none (held t));
    of_line = ap line_at one ∙ at;
    writer = ap name one;
  }
  prints w t (entry.Show ∷ rest) v u before at (s, told, after) =
      let first : List ℕ = codes "> show\n" ++ line_text line w in
      let wrote : Appends (held t) (held s) first = told.2 at in
      let more = prints w s rest v u (before ++ first) (told.1 ∙ at) after in
      record {
        rows = first ++ more.rows;
        played = (
          before ++ first,
          (first, refl, refl),
          subst
              (λ (text : List ℕ). IsPlayed (Adds line) line w (before ++ first) rest v text)
              (append_assoc before first more.rows) more.played,
        );
        adds = adds_both (held t) (held s) (held u) first more.rows wrote more.adds;
        of_line = more.of_line;
        writer = more.writer ∙ told.0;
      }
  prints w t (entry.Event event ∷ rest) v u before at (answer, x, s, r, done, comes, answers, after) =
      let first : List ℕ = event_row line event in
      let one : Appends (held t) (held s) first =
      subst (λ (l : Line). IsTold l (Coming event) (held t) (held s)) at comes.2 in
      let two = subst (λ (l : Line). IsTold l (Answering event answer) (held s) (held r)) (comes.1 ∙ at) answers.2 in
      let second : List ℕ = two.0 in
      let more = prints x r rest v u ((before ++ first) ++ second) (answers.1 ∙ comes.1 ∙ at) after in
      record {
        rows = first ++ (second ++ more.rows);
        played = (
          answer,
          x,
          before ++ first,
          (before ++ first) ++ second,
          done,
          (first, refl, refl),
          (second, two.1, refl),
          subst (λ (text : List ℕ). IsPlayed (Adds line) line x ((before ++ first) ++ second) rest v text)
              (append_assoc (before ++ first) second more.rows ∙ append_assoc before first (second ++ more.rows))
              more.played,
        );
        adds =
            adds_both (held t) (held s) (held u) first (second ++ more.rows) one
            (adds_both (held s) (held r) (held u) second more.rows two.2 more.adds);
        of_line = more.of_line;
        writer = more.writer ∙ answers.0 ∙ comes.0;
      }

  -- all entries were played, and the line is printed after them, to the same writer
  pub prints_all : (F : Type 0) (l : Line) (w : World) (t : T) (entries : List Entry) (v : World) (u : T) (n : N)
      (after : Option (List ℕ)) → line ≡ l → line_at t ≡ line → w ≡ new_world line
      → IsPlayed Tells l w t entries v u → n ≡ name u
      → (line_at u ≡ l → Appends (held u) after (line_text (line_at u) v))
      → PrintsAll {F = F} line entries (Ok tt) (name t) n (held t) after
  prints_all F l w t entries v u n after of at begins played same last =
      let it = prints w t entries v u [] at (subst (λ (k : Line). IsPlayed Tells k w t entries v u) (sym of) played) in
      let shown : Appends (held u) after (line_text line v) =
      subst (λ (k : Line). Appends (held u) after (line_text k v)) it.of_line (last (it.of_line ∙ of)) in (
        same ∙ it.writer,
        (
          it.rows ++ line_text line v,
          (v, it.rows, subst (λ (x : World). IsPlayed (Adds line) line x [] entries v it.rows) begins it.played, refl),
          adds_both (held t) (held u) after it.rows (line_text line v) it.adds shown,
        ),
      )

  -- the play stopped at an event, or for another reason
  pub prints_until : {F : Type 0} (l : Line) (w : World) (t : T) (entries : List Entry) (fault : PlayFault F)
      (v : World) (u : T) → line ≡ l → line_at t ≡ line → w ≡ new_world line
      → Leaves {F = F} Tells l w t entries (Err fault) v u
      → PrintsAll {F = F} line entries (Err fault) (name t) (name u) (held t) (held u)
  prints_until l w t entries (Untold why) v u of at begins stopped = tt
  prints_until l w t entries (Refused fault) v u of at begins (front, rest, event, s, cut, played, comes, refused) =
      let it = prints w t front v s [] at (subst (λ (k : Line). IsPlayed Tells k w t front v s) (sym of) played) in
      let last : List ℕ = event_row line event in
      let wrote : Appends (held s) (held u) last =
      subst (λ (k : Line). IsTold k (Coming event) (held s) (held u)) it.of_line comes.2 in
      let here = subst (λ (k : Line). IsRefusal fault (world_step k v (event_of event))) (sym of) refused in (
        comes.0 ∙ it.writer,
        (
          it.rows ++ last,
          (
            v,
            (
              front,
              rest,
              event,
              it.rows,
              cut,
              subst (λ (x : World). IsPlayed (Adds line) line x [] front v it.rows)
                  begins it.played,
              (last, refl, refl),
              here,
            ),
          ),
          adds_both (held t) (held s) (held u) it.rows last it.adds wrote,
        ),
      )
