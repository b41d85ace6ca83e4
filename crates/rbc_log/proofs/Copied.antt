-- Copies of the entries of logs, log by log.
use Rattle.std.proofs.Common.{[], ◌++◌, ◌+◌, ◌<◌, ◌∙◌, ◌∷◌, ◌≡◌, All, ap, arith, drop, Err, length, List, map, Ok}
use Rattle.std.proofs.Common.{Result, slice_index_or, subst, sym, take, ℕ}
use Rattle.std.proofs.lemmas.Grind.{flat_map-append}
use Rattle.std.proofs.lemmas.List.{append-nil, length-append, map-append, take-append-drop, take_more}
use Rattle.std.proofs.lemmas.List.Concat.{flat_map-cons}
use Rattle.std.proofs.lemmas.List.Elements.{All-append, All-cons, All-nil}
use Rattle.std.specs.List.{flat_map}
use Rattle.std.specs.Result.{OnErr}
use Rattle.rbc_log.specs.declared.entry.Entry.{Entry}
use Rattle.rbc_log.specs.Entries.{written_of}
use Rattle.rbc_log.specs.Log.{LogValue}
use Rattle.rbc_log.specs.Merge.{all_entries}

pub on_err : {T E P : Type 0} (r : Result T E) → P → OnErr r P
on_err (Ok x) h = tt
on_err (Err e) h = h

module _ {X : Type 0} (logs : List X) (log_of : X → LogValue) (i : ℕ) (log : X) (within : i < length logs)
    (at : log ≡ slice_index_or logs i log) where
  seam : map log_of (take (i + 1) logs) ≡ map log_of (take i logs) ++ log_of log ∷ []
  seam =
      ap (map log_of) (take_more logs i log within ∙ ap (λ x. take i logs ++ x ∷ []) (sym at))
      ∙ map-append log_of (take i logs) (log ∷ [])

  entries_more : all_entries (map log_of (take (i + 1) logs))
      ≡ all_entries (map log_of (take i logs)) ++ (log_of log).entries
  entries_more =
      let entries : LogValue → List Entry = λ l. l.entries in
      ap (flat_map entries) seam
      ∙ flat_map-append entries (map log_of (take i logs)) (log_of log ∷ [])
      ∙ ap (λ es. all_entries (map log_of (take i logs)) ++ es)
      (flat_map-cons entries (log_of log) [] ∙ append-nil (log_of log).entries)

  -- the entries of one log more are copied
  pub copied_more : (old new : List Entry)
      → map written_of old ≡ map written_of (all_entries (map log_of (take i logs)))
      → map written_of new ≡ map written_of old ++ map written_of (log_of log).entries
      → map written_of new ≡ map written_of (all_entries (map log_of (take (i + 1) logs)))
  copied_more old new was more =
      more
      ∙ ap (λ ws. ws ++ map written_of (log_of log).entries) was
      ∙ sym (map-append written_of (all_entries (map log_of (take i logs))) (log_of log).entries)
      ∙ ap (map written_of) (sym entries_more)

  -- a property of each log holds with one log more
  pub each_more : (P : LogValue → Type 0) → All P (map log_of (take i logs)) → P (log_of log)
      → All P (map log_of (take (i + 1) logs))
  each_more P all here =
      subst (All P) (sym seam) (All-append P (map log_of (take i logs)) (log_of log ∷ []) all
      (All-cons P (log_of log) [] here (All-nil P)))

  -- if one log has an entry, all of them together have one
  pub some_entry : 0 < length (log_of log).entries → 0 < length (all_entries (map log_of logs))
  some_entry some =
      let entries : LogValue → List Entry = λ l. l.entries in
      let low = map log_of (take (i + 1) logs) in
      let high = map log_of (drop (i + 1) logs) in
      let parts : map log_of logs ≡ low ++ high = ap (map log_of) (sym (take-append-drop (i + 1) logs))
      ∙ map-append log_of (take (i + 1) logs) (drop (i + 1) logs) in
      let whole = ap length (ap all_entries parts ∙ flat_map-append entries low high)
      ∙ length-append (all_entries low) (all_entries high) in
      let here = ap length entries_more ∙ length-append (all_entries (map log_of (take i logs))) (log_of log).entries in
      omega (arith, some, whole, here)
